-- Interests that are all in one expression.
use Rattle.std.proofs.Common.{◌≡◌, ℕ, Bool, true, false, ◌==◌, ◌&&◌, ◌||◌, List, [], ◌∷◌, ◌++◌, Option, Some, None, ap, filter, refl, sym, ◌∙◌}
use Rattle.std.proofs.lemmas.Option.{same_Some}
use Rattle.std.specs.List.{AllByRecursion, list_any, slice_get}
use Rattle.std.specs.Option.{option_eq}
use Rattle.std.specs.Ordering.{is_eq}
use Rattle.std.specs.declared.cmp.Ordering.{Ordering}
use Rattle.std.specs.declared.cmp.Ordering.TheVariants.{Equal}
use Rattle.zt_interest_index.specs.Holders.{by_test}
use Rattle.zt_interest_index.proofs.Changed.{equal-from}
use Rattle.zt_interest_index.specs.Holdings.{AreAlike, asks_from, is_about, is_by}

pub or_none : (a : Bool) → a ≡ (a || false)
or_none true = refl
or_none false = refl

module _ {K : Type 0} where
  -- expressions that are equal are the same
  pub same-about : {cmp : K → K → Ordering} {eq : K → K → Bool} → ((a b : K) → eq a b ≡ is_eq (cmp a b)) → ((a b : K) → cmp a b ≡ Equal → a ≡ b)
      → (a b : Option K) → option_eq eq a b ≡ true → a ≡ b
  same-about ties exact None None h = refl
  same-about ties exact None (Some b) h = cc
  same-about ties exact (Some a) None h = cc
  same-about ties exact (Some a) (Some b) h = ap Some (exact a b (equal-from _ (sym (ties a b) ∙ h)))

  -- ---- an interest more
  all-more : (about : Option K) (row : (ℕ × ℕ) × Option K) → row.1 ≡ about → (rows : List ((ℕ × ℕ) × Option K)) → AllByRecursion (λ r. r.1 ≡ about) rows → AllByRecursion (λ r. r.1 ≡ about) (rows ++ row ∷ [])
  all-more about row is [] each = (is, tt)
  all-more about row is (r ∷ rows) each = (each.0, all-more about row is rows each.1)

  pub alike-one : (row : (ℕ × ℕ) × Option K) → AreAlike (row ∷ [])
  alike-one row = record { about = row.1; each = (refl, tt) }

  pub alike-first : (rows : List ((ℕ × ℕ) × Option K)) → None ≡ slice_get rows 0 → (row : (ℕ × ℕ) × Option K) → AreAlike (rows ++ row ∷ [])
  alike-first [] none row = alike-one row
  alike-first (r ∷ rows) none row = cc

  -- the first is in the expression of all
  pub of-first : (rows : List ((ℕ × ℕ) × Option K)) (first : (ℕ × ℕ) × Option K) → Some first ≡ slice_get rows 0 → (alike : AreAlike rows) → first.1 ≡ alike.about
  of-first [] first is alike = cc
  of-first (row ∷ rows) first is alike = ap (λ r. r.1) (same_Some first row is) ∙ alike.each.0

  pub alike-more : (rows : List ((ℕ × ℕ) × Option K)) (first row : (ℕ × ℕ) × Option K) → Some first ≡ slice_get rows 0 → first.1 ≡ row.1 → AreAlike rows → AreAlike (rows ++ row ∷ [])
  alike-more rows first row is same alike = record {
    about = alike.about;
    each = all-more alike.about row (sym same ∙ of-first rows first is alike) rows alike.each;
  }

  -- ---- interests less
  all-kept : (about : Option K) (kept : (ℕ × ℕ) × Option K → Bool) (rows : List ((ℕ × ℕ) × Option K)) → AllByRecursion (λ r. r.1 ≡ about) rows → AllByRecursion (λ r. r.1 ≡ about) (filter kept rows)
  all-kept about kept [] each = tt
  all-kept about kept (row ∷ rows) each =
      by_test (kept row)
      (λ t. rw t (each.0, all-kept about kept rows each.1))
      (λ t. rw t (all-kept about kept rows each.1))

  pub alike-kept : (kept : (ℕ × ℕ) × Option K → Bool) (rows : List ((ℕ × ℕ) × Option K)) → AreAlike rows → AreAlike (filter kept rows)
  alike-kept kept rows alike = record { about = alike.about; each = all-kept alike.about kept rows alike.each }

  -- ---- they are all about a key, or none is
  module _ (matching : K → K → Bool) (e : K) (n : ℕ) where
    all-ask : (about : Option K) → is_about matching about e ≡ true → (rows : List ((ℕ × ℕ) × Option K)) → AllByRecursion (λ r. r.1 ≡ about) rows → list_any (is_by n) rows ≡ list_any (asks_from matching e n) rows
    all-ask about is [] each = refl
    all-ask about is (row ∷ rows) each =
        let here : is_about matching row.1 e ≡ true = ap (λ a. is_about matching a e) each.0 ∙ is in
        rw here (λ i. and_true (n == row.0.0) i || all-ask about is rows each.1 i)
      where
        and_true : (a : Bool) → a ≡ (a && true)
        and_true true = refl
        and_true false = refl

    none-asks : (about : Option K) → is_about matching about e ≡ false → (rows : List ((ℕ × ℕ) × Option K)) → AllByRecursion (λ r. r.1 ≡ about) rows → list_any (asks_from matching e n) rows ≡ false
    none-asks about is [] each = refl
    none-asks about is (row ∷ rows) each =
        let here : is_about matching row.1 e ≡ false = ap (λ a. is_about matching a e) each.0 ∙ is in
        rw here (and_false (n == row.0.0) (none-asks about is rows each.1))
      where
        and_false : (a : Bool) {b : Bool} → b ≡ false → ((a && false) || b) ≡ false
        and_false true none = none
        and_false false none = none

    pub asked-alike : (rows : List ((ℕ × ℕ) × Option K)) (first : (ℕ × ℕ) × Option K) → Some first ≡ slice_get rows 0 → AreAlike rows → is_about matching first.1 e ≡ true → list_any (is_by n) rows ≡ list_any (asks_from matching e n) rows
    asked-alike rows first is alike asked = all-ask alike.about (ap (λ a. is_about matching a e) (sym (of-first rows first is alike)) ∙ asked) rows alike.each

    pub unasked-alike : (rows : List ((ℕ × ℕ) × Option K)) (first : (ℕ × ℕ) × Option K) → Some first ≡ slice_get rows 0 → AreAlike rows → is_about matching first.1 e ≡ false → list_any (asks_from matching e n) rows ≡ false
    unasked-alike rows first is alike asked = none-asks alike.about (ap (λ a. is_about matching a e) (sym (of-first rows first is alike)) ∙ asked) rows alike.each
