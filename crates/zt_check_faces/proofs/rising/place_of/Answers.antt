use Rattle.std.proofs.Common.{rules}
use Rattle.std.proofs.lemmas.Fn.{always_returns_same}
use Rattle.std.specs.Ordering.{nat_cmp}
use Rattle.zt_check_faces.proofs.Risen.{found_by_halves}
use Rattle.zt_check_faces.proofs.rising.place_of.Goals as goal

pub returns-clause-place : goal.returns-clause-place
returns-clause-place g c =
    let facts = c.binary_search_by.ensures in
    let searched = facts.position (λ row. nat_cmp row.0 c.args.id) (always_returns_same _ _ _ (λ a r h called. (search rules, search rules))) in
    found_by_halves c.args.id c.args.rows.now _ c.requires facts.bound searched
