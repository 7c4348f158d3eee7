-- Numbers that are put in order, each once.
use Rattle.std.proofs.Common.{◌≡◌, ℕ, Bool, true, false, ◌||◌, ◌==◌, nat_eq, List, [], ◌∷◌, refl, ap, ◌∙◌, arith}
use Rattle.std.proofs.lemmas.Bool.Decides.{nat_tests}
use Rattle.std.specs.List.{dedup, dedup_from, list_any}
use Rattle.zt_keys.specs.Test.{by_test}
use Rattle.zt_routers.specs.Reached.{has}

or_twice : (a b c : Bool) → b ≡ a → (a || c) ≡ (a || (b || c))
or_twice true b c h = refl
or_twice false true c h = cc
or_twice false false c h = refl

same-number : (m n : ℕ) → (m == n) ≡ true → m ≡ n
same-number m n h = grind (arith, nat_tests)

module _ {A : Type 0} (same : A → A → Bool) (test : A → Bool) (alike : (x y : A) → same x y ≡ true → test x ≡ test y) where
  any-dedup_from : (k : A) (xs : List A) → list_any test (dedup_from same k xs) ≡ (test k || list_any test xs)
  any-dedup_from k [] = refl
  any-dedup_from k (x ∷ xs) =
      by_test (same x k)
      (λ t. rw t (any-dedup_from k xs ∙ or_twice (test k) (test x) (list_any test xs) (alike x k t)))
      (λ t. rw t (ap (λ b. test k || b) (any-dedup_from x xs)))

  any-dedup : (xs : List A) → list_any test (dedup same xs) ≡ list_any test xs
  any-dedup [] = refl
  any-dedup (x ∷ xs) = any-dedup_from x xs

-- without repeats the numbers are the same
pub has-dedup : (n : ℕ) (numbers : List ℕ) → has n (dedup nat_eq numbers) ≡ has n numbers
has-dedup n numbers = any-dedup nat_eq (λ m. n == m) (λ x y t. ap (λ m. n == m) (same-number x y t)) numbers
