-- The faces that were told each expression, each with the id under which it was told.
--     AreRising pairs                     pairs of face and id stand in order of face, each face once
--     id_of face pairs                    the id of a face
--     with_face face id pairs             the pairs and that of the face, in its place, instead of one that the face had
--     without_face face pairs             the pairs but that of the face
--     told_at cmp e index                 the pairs of an expression, none where it isn't kept
--     ChangesAt cmp e change old new      the pairs of an expression change, and no others
--     HasFacesOrNoKey cmp e index         an expression has pairs, or it isn't kept
use Rattle.std.specs.Prelude.{◌≡◌, ◌≢◌, ℕ, ◌==◌, ◌⊎◌, true, not, if◌then◌else◌, filter, List, [], Option, None, unwrap_or}
use Rattle.std.specs.BTreeMap.{is_at}
use Rattle.std.specs.FinMap.Entries.{is_sorted, put}
use Rattle.std.specs.Map.{lookup}
use Rattle.std.specs.Ordering.{nat_cmp}
use Rattle.std.specs.declared.cmp.Ordering.{Ordering}

abbrev pub AreRising : List (ℕ × ℕ) → Type 0
AreRising pairs = is_sorted nat_cmp pairs ≡ true

abbrev pub id_of : ℕ → List (ℕ × ℕ) → Option ℕ
id_of face pairs = lookup (is_at (nat_cmp face)) pairs

abbrev pub with_face : ℕ → ℕ → List (ℕ × ℕ) → List (ℕ × ℕ)
with_face face id pairs = put nat_cmp face id pairs

abbrev pub without_face : ℕ → List (ℕ × ℕ) → List (ℕ × ℕ)
without_face face pairs = filter (λ pair. not (face == pair.0)) pairs

module _ {K : Type 0} (cmp : K → K → Ordering) where
  abbrev pub told_at : K → List (K × List (ℕ × ℕ)) → List (ℕ × ℕ)
  told_at e index = unwrap_or (lookup (is_at (cmp e)) index) []

  pub record ChangesAt (e : K) (change : List (ℕ × ℕ) → List (ℕ × ℕ)) (old new : List (K × List (ℕ × ℕ))) : Type 0 where
    pub at : (q : K) → told_at q new ≡ (if is_at (cmp e) q then change (told_at q old) else told_at q old)

  abbrev pub HasFacesOrNoKey : K → List (K × List (ℕ × ℕ)) → Type 0
  HasFacesOrNoKey e index = (told_at e index ≢ []) ⊎ (lookup (is_at (cmp e)) index ≡ None)
