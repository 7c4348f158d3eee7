use Rattle.std.proofs.Common.{rules}
use Rattle.std.proofs.lemmas.Fn.{always_returns_same}
use Rattle.zt_ordered.specs.Placing.{place-searched}
use Rattle.zt_ordered.proofs.search.place_of.Goals as goal

pub returns-clause-place : goal.returns-clause-place
returns-clause-place g c =
    let facts = c.binary_search_by.ensures in
    let searched = facts.position (λ row. g.P.Ord.cmp row.0 c.args.key.now) (always_returns_same _ _ _ (λ a r h called. (search rules, search rules))) in
    place-searched _ g.met.P.Ord.total c.args.key.now c.args.rows.now _ c.requires facts.bound searched
