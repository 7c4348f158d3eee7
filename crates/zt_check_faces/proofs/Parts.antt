-- What is asked of a list is asked of a part that has all members of a number, where others pass.
use Rattle.std.proofs.Common.{◌≡◌, ℕ, Bool, true, false, ◌==◌, ◌&&◌, ◌||◌, List, [], ◌∷◌, refl, ap, sym, ◌∙◌}
use Rattle.std.specs.List.{list_all, list_any}
use Rattle.zt_keys.specs.Test.{by_test}
use Rattle.zt_check_faces.specs.Parts.{HasThoseOf, those_of}

module _ {X : Type 0} (number : X → ℕ) (n : ℕ) where
  -- a test that others pass depends on those of the number alone
  pub all-of_those : (p : X → Bool) (xs : List X) → ((x : X) → (n == number x) ≡ false → p x ≡ true) → list_all p xs ≡ list_all p (those_of number n xs)
  all-of_those p [] others = refl
  all-of_those p (x ∷ xs) others =
      by_test (n == number x)
      (λ t. rw t (ap (λ b. p x && b) (all-of_those p xs others)))
      (λ t. rw (t, others x t) (all-of_those p xs others))

  pub all-of_part : (p : X → Bool) (part xs : List X) → ((x : X) → (n == number x) ≡ false → p x ≡ true) → HasThoseOf number n part xs → list_all p part ≡ list_all p xs
  all-of_part p part xs others has = all-of_those p part others ∙ (ap (list_all p) has ∙ sym (all-of_those p xs others))

  -- and one that others fail
  pub any-of_those : (p : X → Bool) (xs : List X) → ((x : X) → (n == number x) ≡ false → p x ≡ false) → list_any p xs ≡ list_any p (those_of number n xs)
  any-of_those p [] others = refl
  any-of_those p (x ∷ xs) others =
      by_test (n == number x)
      (λ t. rw t (ap (λ b. p x || b) (any-of_those p xs others)))
      (λ t. rw (t, others x t) (any-of_those p xs others))

  pub any-of_part : (p : X → Bool) (part xs : List X) → ((x : X) → (n == number x) ≡ false → p x ≡ false) → HasThoseOf number n part xs → list_any p part ≡ list_any p xs
  any-of_part p part xs others has = any-of_those p part others ∙ (ap (list_any p) has ∙ sym (any-of_those p xs others))
