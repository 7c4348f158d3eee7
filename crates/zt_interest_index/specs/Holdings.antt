-- The interests that faces hold.
--     is_about matching about e        an interest in this expression, or in all keys, is about the key
--     is_by face row                   the row is an interest of the face
--     is_of face id row                the row is the interest that the face holds under the id
--     holder_cmp x y                   the order by the face, then by the id
--     AreAlike rows                    the rows are all in one expression, or all in all keys
--     AreRising rows                   the rows stand in order of face and id, each pair of these once
--     asks_from matching e face row    the row is an interest of the face about the key
--     is_among n numbers               the number is one of these
use Rattle.std.specs.Prelude.{◌≡◌, ℕ, Bool, true, ◌&&◌, ◌==◌, List, Option, Some, None}
use Rattle.std.specs.FinMap.Entries.{is_sorted}
use Rattle.std.specs.List.{AllByRecursion, list_any}
use Rattle.std.specs.Ordering.{nat_cmp, ordering_then}
use Rattle.std.specs.declared.cmp.Ordering.{Ordering}

abbrev pub is_among : ℕ → List ℕ → Bool
is_among n numbers = list_any (λ m. n == m) numbers

abbrev pub holder_cmp : ℕ × ℕ → ℕ × ℕ → Ordering
holder_cmp x y = ordering_then (nat_cmp x.0 y.0) (nat_cmp x.1 y.1)

module _ {K : Type 0} where
  abbrev pub is_by : ℕ → (ℕ × ℕ) × Option K → Bool
  is_by face row = face == row.0.0

  abbrev pub is_of : ℕ → ℕ → (ℕ × ℕ) × Option K → Bool
  is_of face id row = face == row.0.0 && id == row.0.1

  pub record AreAlike (rows : List ((ℕ × ℕ) × Option K)) : Type 0 where
    pub about : Option K
    pub each : AllByRecursion (λ row. row.1 ≡ about) rows

  abbrev pub AreRising : List ((ℕ × ℕ) × Option K) → Type 0
  AreRising rows = is_sorted holder_cmp rows ≡ true

  module _ (matching : K → K → Bool) where
    abbrev pub is_about : Option K → K → Bool
    is_about None e = true
    is_about (Some k) e = matching k e

    abbrev pub asks_from : K → ℕ → (ℕ × ℕ) × Option K → Bool
    asks_from e face row = face == row.0.0 && is_about row.1 e
