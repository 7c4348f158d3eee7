use Rattle.std.proofs.Common.{[], ap, unwrap_or, ◌∙◌}
use Rattle.zt_indexes.proofs.Hashed.{lookup-tied_by}
use Rattle.zt_interest_index.proofs.keyed.rows_in.Goals as goal

pub returns-in-None : goal.returns-in-None
returns-in-None g c = ap (λ o. unwrap_or o []) (c.in-None.ensures.value ∙ lookup-tied_by g.K.Ord.cmp g.met.K.Ord.matches_eq c.args.key.now c.args.keyed.now.entries)

pub returns-in-Some : goal.returns-in-Some
returns-in-Some g c = c.as_slice.ensures ∙ ap (λ o. unwrap_or o []) (c.in-Some.ensures.value ∙ lookup-tied_by g.K.Ord.cmp g.met.K.Ord.matches_eq c.args.key.now c.args.keyed.now.entries)
