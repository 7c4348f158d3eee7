-- The faces that were told an expression, and under which ids.
--     AreToldIds cmp e pairs faces     the pairs of face and id name each face that was told the expression, and its id
use Rattle.std.specs.Prelude.{◌≡◌, ℕ, List, filter, length}
use Rattle.std.specs.List.{AllByRecursion}
use Rattle.std.specs.declared.cmp.Ordering.{Ordering}
use Rattle.zt_token_index.specs.Told.{id_of}
use Rattle.zt_model.specs.Parts.{told_id}
use Rattle.zt_model.specs.Rows.{Face}
use Rattle.zt_model.specs.Visible.{keeps}

pub record AreToldIds {K : Type 0} (cmp : K → K → Ordering) (e : K) (pairs : List (ℕ × ℕ)) (faces : List (Face K)) : Type 0 where
  pub ids : AllByRecursion (λ f. id_of f.number pairs ≡ told_id cmp e f.told) faces
  pub count : length pairs ≡ length (filter (λ f. keeps cmp f e) faces)
