-- An index that is that of a list of interests, and the faces that it finds.
--     IsIndexOf cmp index held                     the interests in each key, and those in all, are those of the list
--     HasAllIn about held rows                     the rows have each interest in the expression that is held, and no
--                                                  other in it
--     AreHoldersAnd matching e held others faces   the faces that hold an interest in the key, and the others, in
--                                                  order, each once
use Rattle.std.specs.Prelude.{◌≡◌, ℕ, ◌==◌, Bool, true, false, ◌&&◌, ◌||◌, List, [], ◌∷◌, Option, refl}
use Rattle.std.specs.List.{list_any}
use Rattle.std.specs.List.Sorted.{IsStrictlySortedBy}
use Rattle.std.specs.Ordering.{is_eq, nat_cmp}
use Rattle.std.specs.declared.cmp.Ordering.{Ordering}
use Rattle.zt_interest_index.specs.Holdings.{asks_from}
use Rattle.zt_interest_index.specs.Index.{Interests, is_same, rows_at}

module _ {K : Type 0} where
  module _ (cmp : K → K → Ordering) where
    -- the interest is one in this key, or in all keys
    abbrev pub belongs : Option K → (ℕ × ℕ) × Option K → Bool
    belongs about row = is_same cmp about row.1

    pub record IsIndexOf (index : Interests K) (held : List ((ℕ × ℕ) × Option K)) : Type 0 where
      pub at : (about : Option K) (test : (ℕ × ℕ) × Option K → Bool) → list_any test (rows_at cmp about index) ≡ list_any (λ row. belongs about row && test row) held

  -- a test that interests in this expression alone pass finds one in either or in neither
  pub record HasAllIn (about : Option K) (held rows : List ((ℕ × ℕ) × Option K)) : Type 0 where
    pub at : (test : (ℕ × ℕ) × Option K → Bool) → ((row : (ℕ × ℕ) × Option K) → test row ≡ true → row.1 ≡ about) → list_any test rows ≡ list_any test held

  module _ (matching : K → K → Bool) (e : K) where
    pub record AreHoldersAnd (held : List ((ℕ × ℕ) × Option K)) (others faces : List ℕ) : Type 0 where
      pub in_order : IsStrictlySortedBy nat_cmp faces
      pub among : (n : ℕ) → list_any (λ m. is_eq (nat_cmp n m)) faces ≡ (list_any (λ m. n == m) others || list_any (asks_from matching e n) held)

module _ {A : Type 0} where
  pub any_alike : (p q : A → Bool) → ((x : A) → p x ≡ q x) → (xs : List A) → list_any p xs ≡ list_any q xs
  any_alike p q same [] = refl
  any_alike p q same (x ∷ xs) = λ i. same x i || any_alike p q same xs i

pub by_test : {G : Type 0} (b : Bool) → (b ≡ true → G) → (b ≡ false → G) → G
by_test true holds fails = holds refl
by_test false holds fails = fails refl
