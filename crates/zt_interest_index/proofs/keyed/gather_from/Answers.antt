use Rattle.std.proofs.Common.{[], ap, unwrap_or, ◌||◌, ◌∙◌}
use Rattle.std.proofs.lemmas.Result.{on_ok_weaker}
use Rattle.std.specs.List.{list_any}
use Rattle.zt_indexes.proofs.Hashed.{lookup-tied_by}
use Rattle.zt_interest_index.specs.Holdings.{asks_from, is_among}
use Rattle.zt_interest_index.proofs.Alike.{or_none}
use Rattle.zt_interest_index.proofs.keyed.gather_from.Goals as goal

pub returns-in-None : goal.returns-in-None
returns-in-None g c n =
    or_none _
    ∙ ap (λ rows. is_among n c.args.found.now.items || list_any (asks_from g.K.Key.matching c.args.expr.now n) rows)
    (ap (λ o. unwrap_or o []) (c.in-None.ensures.value ∙ lookup-tied_by g.K.Ord.cmp g.met.K.Ord.matches_eq c.args.key.now c.args.keyed.now.entries))

pub returns-in-Some : goal.returns-in-Some
returns-in-Some g c =
    on_ok_weaker c.gather.result
    (λ gathers n.
    gathers n
    ∙ ap (λ rows. is_among n c.args.found.now.items || list_any (asks_from g.K.Key.matching c.args.expr.now n) rows)
    (ap (λ o. unwrap_or o []) (c.in-Some.ensures.value ∙ lookup-tied_by g.K.Ord.cmp g.met.K.Ord.matches_eq c.args.key.now c.args.keyed.now.entries)))
    c.gather.ensures
