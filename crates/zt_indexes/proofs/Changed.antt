-- What a change at one number leaves.
use Rattle.std.proofs.Common.{◌≡◌, ℕ, Bool, true, false, ◌==◌, cond, if◌then◌else◌, List, [], ◌∷◌, Option, Some, None, length, suc, unwrap_or, refl, sym, ap, ◌∙◌, arith}
use Rattle.std.proofs.lemmas.Bool.Decides.{nat_tests}
use Rattle.std.specs.BTreeMap.{is_at}
use Rattle.std.specs.Map.{lookup}
use Rattle.std.specs.declared.cmp.Ordering.{Ordering}
use Rattle.zt_keys.specs.Test.{by_test}
use Rattle.zt_indexes.specs.Grouped.{HasChanged, equal-from, is_grouped, is_in, keys_at, number-total, number_cmp}
use Rattle.zt_indexes.specs.Live.{IsWithout}
use Rattle.zt_indexes.proofs.Less.{lookup-tied}

no-more : (n : ℕ) → (suc n == 0) ≡ true → suc n ≡ 0
no-more n h = grind (arith, nat_tests)

pub empty-from : {X : Type 0} (xs : List X) → (length xs == 0) ≡ true → xs ≡ []
empty-from [] h = refl
empty-from (x ∷ xs) h = let none = no-more (length xs) h in absurd (omega arith)

never : (b : Bool) → (if b then false else false) ≡ false
never true = refl
never false = refl

module _ {K : Type 0} (cmp : K → K → Ordering) (number : Option ℕ) (key : K) where
  tied : (m : Option ℕ) → is_at (number_cmp number) m ≡ true → (es : List (Option ℕ × List K)) → keys_at m es ≡ keys_at number es
  tied m t es = ap (λ o. unwrap_or o []) (lookup-tied number_cmp number-total number m (equal-from _ t) es)

  -- other keys are written at the number
  pub changed-written : (there : Bool) (old new : List (Option ℕ × List K)) (w : List K)
      → ((q : K) → is_in cmp q w ≡ (if is_at (cmp key) q then there else is_in cmp q (keys_at number old)))
      → ((m : Option ℕ) → lookup (is_at (number_cmp m)) new ≡ cond (is_at (number_cmp number) m) (Some w) (lookup (is_at (number_cmp m)) old)) → HasChanged cmp number key there old new
  changed-written there old new w is updates = record {
    at = λ m q.
        let found : keys_at m new ≡ unwrap_or (cond (is_at (number_cmp number) m) (Some w) (lookup (is_at (number_cmp m)) old)) [] = ap (λ o. unwrap_or o []) (updates m) in
        by_test (is_at (number_cmp number) m)
        (λ t.
        let now : keys_at m new ≡ w = found ∙ rw t refl in
        ap (is_in cmp q) now ∙ is q ∙ rw t (ap (λ ks. if is_at (cmp key) q then there else is_in cmp q ks) (sym (tied m t old))))
        (λ t.
        let now : keys_at m new ≡ keys_at m old = found ∙ rw t refl in
        rw t (ap (is_in cmp q) now));
  }

  -- nothing is there to be taken
  pub changed-none : (es : List (Option ℕ × List K)) → keys_at number es ≡ [] → HasChanged cmp number key false es es
  changed-none es none = record {
    at = λ m q.
        by_test (is_at (number_cmp number) m)
        (λ t.
        let gone : is_grouped cmp m q es ≡ false = ap (is_in cmp q) (tied m t es ∙ none) in
        rw (t, gone) (sym (never (is_at (cmp key) q))))
        (λ t. rw t refl);
  }

  -- a number goes at which nothing stands
  pub changed-released : (old mid new : List (Option ℕ × List K)) → HasChanged cmp number key false old mid → keys_at number mid ≡ [] → IsWithout number_cmp number mid new → HasChanged cmp number key false old new
  changed-released old mid new changed none gone = record {
    at = λ m q.
        let found : keys_at m new ≡ unwrap_or (if is_at (number_cmp number) m then None else lookup (is_at (number_cmp m)) mid) [] = ap (λ o. unwrap_or o []) (gone.at m) in
        let same : keys_at m new ≡ keys_at m mid = by_test (is_at (number_cmp number) m) (λ t. found ∙ rw t (sym none ∙ sym (tied m t mid))) (λ t. found ∙ rw t refl) in
        ap (is_in cmp q) same ∙ changed.at m q;
  }
