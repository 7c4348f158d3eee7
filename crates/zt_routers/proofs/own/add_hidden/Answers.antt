use Rattle.std.proofs.Common.{◌++◌, ap, sym, ◌∙◌}
use Rattle.std.proofs.lemmas.List.{append-nil}
use Rattle.zt_routers.proofs.Origins.{hidden-no, hidden-yes}
use Rattle.zt_routers.proofs.own.add_hidden.Goals as goal

pub returns-in_ok-push : goal.returns-in_ok-push
returns-in_ok-push g c =
    c.in_ok-push.ensures.items
    ∙ ap (λ rs. c.args.regions.now.items ++ rs)
    (sym (hidden-yes g.K.Ord.cmp g.met.K.Ord.total c.args.g.now c.args.source c.args.expr.now c.args.origin c.args.keys.now.keys c.requires (sym c.is_hidden_at.ensures ∙ c.if-is_hidden_at.true)))

pub returns-else-is_hidden_at : goal.returns-else-is_hidden_at
returns-else-is_hidden_at g c =
    sym
    (ap (λ rs. c.args.regions.now.items ++ rs)
    (hidden-no g.K.Ord.cmp g.met.K.Ord.total c.args.g.now c.args.source c.args.expr.now c.args.origin c.args.keys.now.keys c.requires (sym c.is_hidden_at.ensures ∙ c.if-is_hidden_at.false))
    ∙ append-nil c.args.regions.now.items)
