use Rattle.std.proofs.Common.{◌≡◌, false, sym, subst, ap, ◌∙◌}
use Rattle.zt_model.specs.Refusals.{on_face}
use Rattle.zt_model.specs.Rows.{Rows}
use Rattle.zt_liveliness.specs.Lively.{Lively, has_token}
use Rattle.zt_liveliness.proofs.Gone.{token_gone}
use Rattle.zt_liveliness.proofs.liveliness.Liveliness.undeclare_token.Goals as goal

pub returns-in-Ok-clause-gone : goal.returns-in-Ok-clause-gone
returns-in-Ok-clause-gone g c =
    ap (has_token c.args.token.session c.args.token.id) c.in-Ok.ensures.done
    ∙ token_gone g.K.Ord.cmp g.K.Key.matching c.args.token.session c.args.token.id c.args.self.now.rows c.in-Ok.ensures.accepted
