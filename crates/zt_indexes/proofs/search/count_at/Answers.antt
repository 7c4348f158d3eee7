use Rattle.std.proofs.Common.{[], ap, unwrap_or, ◌∙◌}
use Rattle.zt_indexes.specs.Counted.{count_in}
use Rattle.zt_indexes.proofs.Hashed.{lookup-tied_by}
use Rattle.zt_indexes.proofs.search.count_at.Goals as goal

pub returns-in-Some : goal.returns-in-Some
returns-in-Some g c =
    c.count.ensures
    ∙ ap (λ found. count_in c.args.region (unwrap_or found [])) (c.in-Some.ensures.value ∙ lookup-tied_by g.K.Ord.cmp g.met.K.Ord.matches_eq c.args.expr.now c.args.keys.now.entries)

pub returns-in-None : goal.returns-in-None
returns-in-None g c =
    ap (λ found. count_in c.args.region (unwrap_or found [])) (c.in-None.ensures.value ∙ lookup-tied_by g.K.Ord.cmp g.met.K.Ord.matches_eq c.args.expr.now c.args.keys.now.entries)
