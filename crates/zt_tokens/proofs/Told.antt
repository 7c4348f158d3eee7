-- A face keeps an expression where it was told it under some id.
use Rattle.std.proofs.Common.{◌≡◌, ℕ, cond, not, is_none, is_some, List, [], ◌∷◌, Option, Some, None, ap, refl, ◌∙◌}
use Rattle.std.specs.BTreeMap.{is_at}
use Rattle.std.specs.FinMap.Entries.{find}
use Rattle.std.specs.List.{list_any}
use Rattle.std.specs.Ordering.{nat_cmp}
use Rattle.std.specs.declared.cmp.Ordering.{Ordering}
use Rattle.zt_keys.specs.Test.{by_test}
use Rattle.zt_token_index.specs.Told.{id_of}
use Rattle.zt_model.specs.Lists.{same}
use Rattle.zt_model.specs.Parts.{told_id}
use Rattle.zt_model.specs.Rows.{ById}

-- what stands under a face is found as its id
pub find-id : (face : ℕ) (pairs : List (ℕ × ℕ)) → find nat_cmp face pairs ≡ id_of face pairs
find-id face [] = refl
find-id face (pair ∷ pairs) = ap (cond (is_at (nat_cmp face) pair.0) (Some pair.1)) (find-id face pairs)

pub told_is_some : {K : Type 0} (cmp : K → K → Ordering) (e : K) (rows : ById K) → is_some (told_id cmp e rows) ≡ list_any (λ row. same cmp e row.1) rows
unfolding told_id
told_is_some cmp e [] = refl
told_is_some cmp e (row ∷ rows) = by_test (same cmp e row.1) (λ t. rw t refl) (λ t. rw t (told_is_some cmp e rows))

none-not-some : (told : Option ℕ) → is_none told ≡ not (is_some told)
none-not-some None = refl
none-not-some (Some id) = refl

pub told_is_none : {K : Type 0} (cmp : K → K → Ordering) (e : K) (rows : ById K) → is_none (told_id cmp e rows) ≡ not (list_any (λ row. same cmp e row.1) rows)
told_is_none cmp e rows = none-not-some (told_id cmp e rows) ∙ ap not (told_is_some cmp e rows)
