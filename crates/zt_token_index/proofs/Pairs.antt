-- Pairs of face and id in order of face: what is found there, put there and taken from there.
use Rattle.std.proofs.Common.{◌≡◌, ℕ, cond, not, filter, List, [], ◌∷◌, Some, refl, ap, subst}
use Rattle.std.specs.BTreeMap.{is_at}
use Rattle.std.specs.Cmp.{nat_cmp_total, unsigned_tied}
use Rattle.std.specs.FinMap.Entries.{find, is_sorted-put, is_sorted-where_key}
use Rattle.std.specs.Ordering.{nat_cmp}
use Rattle.zt_ordered.specs.Rows.{same, without}
use Rattle.zt_ordered.specs.Test.{T-from, T-to}
use Rattle.zt_token_index.specs.Told.{AreRising, id_of, with_face, without_face}

pub find-id : (face : ℕ) (pairs : List (ℕ × ℕ)) → find nat_cmp face pairs ≡ id_of face pairs
find-id face [] = refl
find-id face (pair ∷ pairs) = ap (cond (is_at (nat_cmp face) pair.0) (Some pair.1)) (find-id face pairs)

-- ---- what is taken
pub without-is : (face : ℕ) (pairs : List (ℕ × ℕ)) → without nat_cmp face pairs ≡ without_face face pairs
without-is face pairs = λ i. filter (λ pair. not (unsigned_tied face pair.0 i)) pairs

-- ---- the order stays
pub rising-put : (face id : ℕ) (pairs : List (ℕ × ℕ)) → AreRising pairs → AreRising (with_face face id pairs)
rising-put face id pairs rising = T-to _ (is_sorted-put nat_cmp nat_cmp_total face id pairs (T-from _ rising))

pub rising-without : (face : ℕ) (pairs : List (ℕ × ℕ)) → AreRising pairs → AreRising (without_face face pairs)
rising-without face pairs rising =
    subst AreRising (without-is face pairs) (T-to _ (is_sorted-where_key nat_cmp (λ k. not (same nat_cmp face k)) pairs (T-from _ rising)))
