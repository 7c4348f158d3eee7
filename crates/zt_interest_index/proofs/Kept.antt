-- Where keys with wildcards stand, as they come and go.
use Rattle.std.proofs.Common.{◌≡◌, ◌<◌, ℕ, zero, suc, Bool, true, false, ◌||◌, nat_eq, get_or, length, List, [], ◌∷◌, Option, Some, None, IfSome, is_some, refl, sym, ◌∙◌, subst, arith}
use Rattle.std.proofs.lemmas.Bool.{false≢true}
use Rattle.std.proofs.lemmas.Bool.Decides.{nat_tests}
use Rattle.std.specs.BTreeMap.{is_at}
use Rattle.std.specs.List.{list_any}
use Rattle.std.specs.Map.{lookup}
use Rattle.std.specs.declared.cmp.Ordering.{Ordering}
use Rattle.std.specs.declared.cmp.Ordering.TheVariants.{Equal}
use Rattle.zt_keys.specs.declared.anchor.Anchor.{Anchor}
use Rattle.zt_keys.specs.declared.anchor.Anchor.TheVariants.{Whole}
use Rattle.zt_keys.specs.Numbers.{is_number}
use Rattle.zt_indexes.specs.Grouped.{Grows, HasChanged, equal-from, is_grouped, number_cmp, others}
use Rattle.zt_interest_index.specs.Holders.{by_test}
use Rattle.zt_interest_index.specs.Wilds.{AreCovered, KeepsOthers, is_covered, stays}

or_left : (a b : Bool) → a ≡ true → (a || b) ≡ true
or_left true b h = refl
or_left false b h = cc

or_right : (a b : Bool) → b ≡ true → (a || b) ≡ true
or_right true b h = refl
or_right false b h = h

same-number : (m n : ℕ) → nat_eq m n ≡ true → m ≡ n
same-number m n h = grind (arith, nat_tests)

-- a test that a number passes is passed by one of those among which it is
one-passes : (p : ℕ → Bool) (n : ℕ) (ns : List ℕ) → is_number n ns ≡ true → p n ≡ true → list_any p ns ≡ true
one-passes p n [] h t = absurd (false≢true h)
one-passes p n (m ∷ ns) h t =
    by_test (nat_eq n m)
    (λ e. or_left (p m) (list_any p ns) (subst (λ k. p k ≡ true) (same-number n m e) t))
    (λ e. or_right (p m) (list_any p ns) (one-passes p n ns (rw e at h) t))

number-itself : (n : ℕ) → nat_eq n n ≡ true
number-itself n = grind (arith, nat_tests)

-- what stands in a list is among it
pub at-place : (ns : List ℕ) (k d : ℕ) → k < length ns → is_number (get_or ns k d) ns ≡ true
at-place [] k d h = absurd (omega arith)
at-place (n ∷ ns) zero d h = or_left (nat_eq n n) (list_any (nat_eq n) ns) (number-itself n)
at-place (n ∷ ns) (suc k) d h = or_right (nat_eq (get_or ns k d) n) (is_number (get_or ns k d) ns) (at-place ns k d (omega arith))

-- a test that fails each fails them all
pub none-pass : {A : Type 0} (test : A → Bool) → ((x : A) → test x ≡ false) → (xs : List A) → list_any test xs ≡ false
none-pass test fails [] = refl
none-pass test fails (x ∷ xs) = rw (fails x) (none-pass test fails xs)

-- a number that is one of these is one of those that pass the same tests
pub placed-among : (place : Option ℕ) (ns ms : List ℕ) → ((test : ℕ → Bool) → list_any test ns ≡ list_any test ms) → IfSome place (λ n. is_number n ns ≡ true) → IfSome place (λ n. is_number n ms ≡ true)
placed-among None ns ms same h = h
placed-among (Some n) ns ms same h = sym (same (nat_eq n)) ∙ h

module _ {K : Type 0} (cmp : K → K → Ordering) where
  pub keeps-all : (key : K) (wilds : List (Option ℕ × List K)) → KeepsOthers cmp key wilds wilds
  keeps-all key wilds = record { at = λ m q apart was. was }

  pub keeps-then : (key : K) (old mid new : List (Option ℕ × List K)) → KeepsOthers cmp key old mid → KeepsOthers cmp key mid new → KeepsOthers cmp key old new
  keeps-then key old mid new first second = record { at = λ m q apart was. second.at m q apart (first.at m q apart was) }

  pub keeps-removed : (number : Option ℕ) (key : K) (old new : List (Option ℕ × List K)) → HasChanged cmp number key false old new → KeepsOthers cmp key old new
  keeps-removed number key old new changed = record { at = λ m q apart was. changed.at m q ∙ others (is_at (number_cmp number) m) (is_at (cmp key) q) _ apart was }

  module _ (anchored : Anchor → K → Option ℕ) (numbered : K → List ℕ) where
    -- a key without wildcards
    pub covered-plain : (key : K) (wilds : List (Option ℕ × List K)) → is_some (anchored Whole key) ≡ true → is_covered cmp anchored numbered key wilds ≡ true
    covered-plain key wilds h = or_left _ _ h

    -- a key that stands at none or at one of its numbers
    pub covered-placed : (key : K) (wilds : List (Option ℕ × List K)) (place : Option ℕ) → IfSome place (λ n. is_number n (numbered key) ≡ true) → is_grouped cmp place key wilds ≡ true → is_covered cmp anchored numbered key wilds ≡ true
    covered-placed key wilds None h there = or_right (is_some (anchored Whole key)) _ (or_left _ _ there)
    covered-placed key wilds (Some n) h there =
        or_right (is_some (anchored Whole key)) _ (or_right (is_grouped cmp None key wilds) _ (one-passes (λ m. is_grouped cmp (Some m) key wilds) n (numbered key) h there))

    -- the keys that aren't among those left are covered
    pub record AreGathered {X : Type 0} (left entries : List (K × X)) (wilds : List (Option ℕ × List K)) : Type 0 where
      pub at : (q : K) → is_some (lookup (is_at (cmp q)) entries) ≡ true → (is_some (lookup (is_at (cmp q)) left) || is_covered cmp anchored numbered q wilds) ≡ true

    module _ {X : Type 0} where
      pub gathered-start : (entries : List (K × X)) (wilds : List (Option ℕ × List K)) → AreGathered entries entries wilds
      gathered-start entries wilds = record { at = λ q h. or_left _ _ h }

      pub gathered-more : ((a b : K) → cmp a b ≡ Equal → a ≡ b) → (e : K × X) (left entries : List (K × X)) (before after : List (Option ℕ × List K)) → AreGathered (e ∷ left) entries before
          → Grows cmp before after → is_covered cmp anchored numbered e.0 after ≡ true → AreGathered left entries after
      gathered-more one e left entries before after gathered grows own = record {
        at = λ q h.
            by_test (is_at (cmp q) e.0)
            (λ t. or_right (is_some (lookup (is_at (cmp q)) left)) _ (subst (λ k. is_covered cmp anchored numbered k after ≡ true) (sym (one q e.0 (equal-from _ t))) own))
            (λ t.
            let was : (is_some (lookup (is_at (cmp q)) left) || is_covered cmp anchored numbered q before) ≡ true = rw t at (gathered.at q h) in
            later q was);
      }
        where
          later : (q : K) → (is_some (lookup (is_at (cmp q)) left) || is_covered cmp anchored numbered q before) ≡ true → (is_some (lookup (is_at (cmp q)) left) || is_covered cmp anchored numbered q after) ≡ true
          later q h =
              by_test (is_some (lookup (is_at (cmp q)) left))
              (λ t. or_left _ _ t)
              (λ t. or_right (is_some (lookup (is_at (cmp q)) left)) _ (stays cmp anchored numbered q before after (λ m. grows.at m q) (rw t at h)))

      pub gathered-all : (entries : List (K × X)) (wilds : List (Option ℕ × List K)) → AreGathered [] entries wilds → AreCovered cmp anchored numbered wilds entries
      gathered-all entries wilds gathered = record { at = λ q h. gathered.at q h }
