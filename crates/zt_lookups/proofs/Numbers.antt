-- The numbers of expressions, by where these stand in a set that tells them apart by `eq`.
--     inserted         one more gets a number where it has none
--     number-none      an expression that isn't there has none
--     number-some      one that is there has the number behind its place
--     copied           expressions that are apart get their own numbers again
use Rattle.std.proofs.Common.{◌≡◌, ℕ, ◌+◌, Bool, true, false, ◌||◌, cond, nat_lt, List, [], ◌∷◌, ◌++◌, length, position, Some, None, ap, ap₂, append_assoc, arith, refl, suc, sym, ◌∙◌}
use Rattle.std.proofs.lemmas.Bool.Decides.{nat_tests}
use Rattle.std.proofs.lemmas.List.{append-nil}
use Rattle.std.proofs.lemmas.List.Folds.{list_any-append}
use Rattle.std.proofs.lemmas.Option.{same_Some}
use Rattle.std.specs.Cmp.{IsEquivalence}
use Rattle.std.specs.List.{AllByRecursion, IsDistinct, list_any, position_or_len}
use Rattle.std.specs.Ordering.{is_eq}
use Rattle.std.specs.declared.cmp.Ordering.{Ordering}
use Rattle.indexmap.specs.IndexSet.{insert_key}
use Rattle.zt_keys.specs.Test.{by_test}
use Rattle.zt_model.specs.Entities.{number_in, numbered_with}
use Rattle.zt_model.specs.Lists.{is_among, same}

module _ {K : Type 0} {eq : K → K → Bool} (cmp : K → K → Ordering) (ties : (a b : K) → eq a b ≡ is_eq (cmp a b)) where
  any-tied : (e : K) (ks : List K) → list_any (eq e) ks ≡ is_among cmp e ks
  any-tied e [] = refl
  any-tied e (k ∷ ks) = ap₂ (λ a b. a || b) (ties e k) (any-tied e ks)

  pub inserted : (e : K) (ks : List K) → insert_key eq ks e ≡ numbered_with cmp (e ∷ []) ks
  unfolding numbered_with
  inserted e ks = rw (any-tied e ks) refl

  -- ---- where an expression stands

  first_lt : (n : ℕ) → nat_lt 0 (suc n) ≡ true
  first_lt n = grind (arith, nat_tests)

  next_lt : (m n : ℕ) → nat_lt (1 + m) (suc n) ≡ nat_lt m n
  next_lt m n = grind (arith, nat_tests)

  counted : (i : ℕ) (e : K) (ks : List K) → number_in cmp i e ks ≡ cond (nat_lt (position_or_len (eq e) ks) (length ks)) (position_or_len (eq e) ks + i) 0
  counted i e [] = refl
  counted i e (k ∷ ks) =
      by_test (eq e k)
      (λ t.
      let own : same cmp e k ≡ true = sym (ties e k) ∙ t in
      rw (t, own) (first i ∙ sym (ap (λ b. cond b (0 + i) 0) (first_lt (length ks)))))
      (λ f.
      let other : same cmp e k ≡ false = sym (ties e k) ∙ f in
      let at = position_or_len (eq e) ks in
      rw (f, other)
      (counted (i + 1) e ks
      ∙ ap (λ n. cond (nat_lt at (length ks)) n 0) (later at i)
      ∙ ap (λ b. cond b (1 + at + i) 0) (sym (next_lt at (length ks)))))
    where
      first : (n : ℕ) → n ≡ 0 + n
      first n = omega arith

      later : (m n : ℕ) → m + (n + 1) ≡ 1 + m + n
      later m n = omega arith

  placed : (e : K) (ks : List K) (b : Bool) → nat_lt (position_or_len (eq e) ks) (length ks) ≡ b → position (eq e) ks ≡ cond b (Some (position_or_len (eq e) ks)) None
  placed e ks b h = ap (λ b. cond b (Some (position_or_len (eq e) ks)) None) h

  apart-from : (n : ℕ) → Some n ≡ None → ⊥
  apart-from n h = cc

  pub number-none : (e : K) (ks : List K) → None ≡ position (eq e) ks → 0 ≡ number_in cmp 1 e ks
  number-none e ks is =
      let at = position_or_len (eq e) ks in
      by_test (nat_lt at (length ks))
      (λ t. absurd (apart-from at (sym (is ∙ placed e ks true t))))
      (λ f. sym (counted 1 e ks ∙ ap (λ b. cond b (at + 1) 0) f))

  pub number-some : (e : K) (ks : List K) (at : ℕ) → Some at ≡ position (eq e) ks → at + 1 ≡ number_in cmp 1 e ks
  number-some e ks at is =
      let first = position_or_len (eq e) ks in
      by_test (nat_lt first (length ks))
      (λ t. ap (λ n. n + 1) (same_Some at first (is ∙ placed e ks true t)) ∙ sym (counted 1 e ks ∙ ap (λ b. cond b (first + 1) 0) t))
      (λ f. absurd (apart-from at (is ∙ placed e ks false f)))

  -- ---- expressions that are apart

  module _ (laws : IsEquivalence eq) where
    apart : (k : K) (ks known : List K) → AllByRecursion (λ y. eq k y ≡ false) ks → AllByRecursion (λ y. is_among cmp y known ≡ false) ks
        → AllByRecursion (λ y. is_among cmp y (known ++ k ∷ []) ≡ false) ks
    apart k [] known others fresh = tt
    apart k (y ∷ ys) known others fresh =
        let other : same cmp y k ≡ false = sym (ties y k) ∙ laws.symm y k ∙ others.0 in
        (list_any-append (same cmp y) known (k ∷ []) ∙ rw (fresh.0, other) refl, apart k ys known others.1 fresh.1)

    numbered-onto : (ks known : List K) → IsDistinct eq ks → AllByRecursion (λ y. is_among cmp y known ≡ false) ks → numbered_with cmp ks known ≡ known ++ ks
    unfolding numbered_with IsDistinct
    numbered-onto [] known distinct fresh = sym (append-nil known)
    numbered-onto (k ∷ ks) known distinct fresh =
        rw fresh.0
        (numbered-onto ks (known ++ k ∷ []) distinct.1 (apart k ks known distinct.0 fresh.1) ∙ append_assoc known (k ∷ []) ks)

    none : (ks : List K) → AllByRecursion (λ y. is_among cmp y [] ≡ false) ks
    none [] = tt
    none (k ∷ ks) = (refl, none ks)

    pub copied : (ks : List K) → IsDistinct eq ks → numbered_with cmp ks [] ≡ ks
    copied ks distinct = numbered-onto ks [] distinct (none ks)
