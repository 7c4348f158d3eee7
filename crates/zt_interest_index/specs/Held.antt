-- An index that is that of a list of interests stays so as its interests come and go.
--     HasOneMore row held more            the list with a row more, wherever it stands
--     HasNoneOf face id held less         the list without what the face holds under the id
--     belongs-own, indexed-none, indexed-put, indexed-removed
use Rattle.std.specs.Prelude.{◌≡◌, ℕ, Bool, true, false, ◌&&◌, ◌||◌, not, List, [], ◌∷◌, ◌++◌, Option, Some, None, filter, refl}
use Rattle.std.specs.List.{list_any}
use Rattle.std.specs.Cmp.{IsTotalOrder, eq_by_cmp_equiv, tied_itself}
use Rattle.std.specs.Ordering.{is_eq}
use Rattle.std.proofs.Common.{ap, sym, ◌∙◌}
use Rattle.std.proofs.lemmas.List.Folds.{list_any-append}
use Rattle.zt_interest_index.specs.Holders.{IsIndexOf, any_alike, belongs, by_test}
use Rattle.zt_interest_index.specs.Holdings.{is_of}
use Rattle.zt_interest_index.specs.Index.{ChangesAt, Interests, is_same, rows_at}
use Rattle.std.specs.declared.cmp.Ordering.{Ordering}

module _ {A : Type 0} where
  pub record HasOneMore (row : A) (held more : List A) : Type 0 where
    pub at : (test : A → Bool) → list_any test more ≡ (test row || list_any test held)

  -- a test of those that are kept
  pub any_kept : (test kept : A → Bool) (xs : List A) → list_any test (filter kept xs) ≡ list_any (λ x. test x && kept x) xs
  any_kept test kept [] = refl
  any_kept test kept (x ∷ xs) =
      by_test (kept x)
      (λ t. rw t (by_test (test x) (λ u. rw u refl) (λ u. rw u (any_kept test kept xs))))
      (λ t. rw t (by_test (test x) (λ u. rw u (any_kept test kept xs)) (λ u. rw u (any_kept test kept xs))))

or_last : (a b : Bool) → (a || (b || false)) ≡ (b || a)
or_last true true = refl
or_last true false = refl
or_last false true = refl
or_last false false = refl

and_true : (a : Bool) → (a && true) ≡ a
and_true true = refl
and_true false = refl

not_false : (a : Bool) → not a ≡ false → a ≡ true
not_false true h = refl
not_false false h = cc

pub or_first_false : (a b : Bool) → (a || b) ≡ false → a ≡ false
or_first_false true b h = h
or_first_false false b h = refl

pub or_second_false : (a b : Bool) → (a || b) ≡ false → b ≡ false
or_second_false true b h = cc
or_second_false false b h = h

and_turned : (a b c : Bool) → (a && (b && c)) ≡ ((a && b) && c)
and_turned true b c = refl
and_turned false b c = refl

module _ {K : Type 0} (cmp : K → K → Ordering) (o : IsTotalOrder cmp) where
  same-itself : (a : Option K) → is_same cmp a a ≡ true
  same-itself None = refl
  same-itself (Some a) = ap is_eq (tied_itself o a)

  same-turned : (a b : Option K) → is_same cmp a b ≡ is_same cmp b a
  same-turned None None = refl
  same-turned None (Some b) = refl
  same-turned (Some a) None = refl
  same-turned (Some a) (Some b) = (eq_by_cmp_equiv o).symm a b

  same-congr : (a b c : Option K) → is_same cmp a b ≡ true → is_same cmp a c ≡ is_same cmp b c
  same-congr None None c t = refl
  same-congr None (Some b) c t = cc
  same-congr (Some a) None c t = cc
  same-congr (Some a) (Some b) None t = refl
  same-congr (Some a) (Some b) (Some c) t = (eq_by_cmp_equiv o).congr a b c t

module _ {K : Type 0} where
  pub record HasNoneOf (face id : ℕ) (held less : List ((ℕ × ℕ) × Option K)) : Type 0 where
    pub at : (test : (ℕ × ℕ) × Option K → Bool) → list_any test less ≡ list_any (λ row. test row && not (is_of face id row)) held

  pub indexed-none : (cmp : K → K → Ordering) → IsIndexOf cmp ([], []) []
  indexed-none cmp = record { at = none }
    where
      none : (about : Option K) (test : (ℕ × ℕ) × Option K → Bool) → list_any test (rows_at cmp about ([], [])) ≡ false
      none None test = refl
      none (Some e) test = refl

  module _ (cmp : K → K → Ordering) (o : IsTotalOrder cmp) where
    -- an interest is one in its own key
    pub belongs-own : (row : (ℕ × ℕ) × Option K) → belongs cmp row.1 row ≡ true
    belongs-own row = same-itself cmp o row.1

    module _ (old new : Interests K) (held : List ((ℕ × ℕ) × Option K)) (was : IsIndexOf cmp old held) where
      -- an interest more
      pub indexed-put : (face id : ℕ) (about : Option K) (more : List ((ℕ × ℕ) × Option K)) → ChangesAt cmp about (λ rows. rows ++ ((face, id), about) ∷ []) old new
          → HasOneMore ((face, id), about) held more → IsIndexOf cmp new more
      indexed-put face id about more changed one = record {
        at = λ q test.
            let row : (ℕ × ℕ) × Option K = ((face, id), about) in
            let all = one.at (λ r. belongs cmp q r && test r) in
            let turned = same-turned cmp o q about in
            by_test (is_same cmp about q)
            (λ t.
            let there : rows_at cmp q new ≡ rows_at cmp q old ++ row ∷ [] = rw t at (changed.at q) in
            let own : belongs cmp q row ≡ true = turned ∙ t in
            ap (list_any test) there ∙ list_any-append test (rows_at cmp q old) (row ∷ [])
            ∙ or_last (list_any test (rows_at cmp q old)) (test row)
            ∙ ap (λ b. test row || b) (was.at q test)
            ∙ sym (rw own at all))
            (λ t.
            let there : rows_at cmp q new ≡ rows_at cmp q old = rw t at (changed.at q) in
            let own : belongs cmp q row ≡ false = turned ∙ t in
            ap (list_any test) there ∙ was.at q test ∙ sym (rw own at all));
      }

      -- an interest less, which was one in this key
      pub indexed-removed : (face id : ℕ) (about : Option K) (less : List ((ℕ × ℕ) × Option K)) → ChangesAt cmp about (filter (λ row. not (is_of face id row))) old new
          → HasNoneOf face id held less → list_any (λ row. is_of face id row && not (belongs cmp about row)) held ≡ false → IsIndexOf cmp new less
      indexed-removed face id about less changed none only = record {
        at = λ q test.
            let all = none.at (λ r. belongs cmp q r && test r) in
            by_test (is_same cmp about q)
            (λ t.
            let there : rows_at cmp q new ≡ filter (λ row. not (is_of face id row)) (rows_at cmp q old) = rw t at (changed.at q) in
            ap (list_any test) there ∙ any_kept test (λ row. not (is_of face id row)) (rows_at cmp q old)
            ∙ was.at q (λ row. test row && not (is_of face id row))
            ∙ any_alike _ _ (λ row. and_turned (belongs cmp q row) (test row) (not (is_of face id row))) held
            ∙ sym all)
            (λ t.
            let there : rows_at cmp q new ≡ rows_at cmp q old = rw t at (changed.at q) in
            ap (list_any test) there ∙ was.at q test ∙ sym (all ∙ elsewhere q t test held only));
      }
        where
          -- a row in another key isn't the one that goes
          not-same : (q : Option K) → is_same cmp about q ≡ false → (row : (ℕ × ℕ) × Option K)
              → (is_of face id row && not (belongs cmp about row)) ≡ false → (test : Bool)
              → ((belongs cmp q row && test) && not (is_of face id row)) ≡ (belongs cmp q row && test)
          not-same q apart row only test =
              by_test (is_of face id row)
              (λ t.
              let inside : belongs cmp about row ≡ true = not_false _ (rw t at only) in
              let outside : belongs cmp q row ≡ false = same-turned cmp o q row.1 ∙ sym (same-congr cmp o about row.1 q inside) ∙ apart in
              rw outside refl)
              (λ t. rw t (and_true (belongs cmp q row && test)))

          elsewhere : (q : Option K) → is_same cmp about q ≡ false → (test : (ℕ × ℕ) × Option K → Bool) (rows : List ((ℕ × ℕ) × Option K))
              → list_any (λ row. is_of face id row && not (belongs cmp about row)) rows ≡ false
              → list_any (λ row. (belongs cmp q row && test row) && not (is_of face id row)) rows ≡ list_any (λ row. belongs cmp q row && test row) rows
          elsewhere q apart test [] only = refl
          elsewhere q apart test (row ∷ rows) only =
              let here = not-same q apart row (or_first_false _ _ only) (test row) in
              let rest = elsewhere q apart test rows (or_second_false (is_of face id row && not (belongs cmp about row)) _ only) in
              λ i. here i || rest i
