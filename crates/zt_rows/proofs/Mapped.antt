-- Rows in places, and others behind them.
use native.Mathlib.Numerals.{unary_clauses}
use Rattle.std.proofs.Common.{◌≡◌, ℕ, ◌<◌, ◌-◌, ◌==◌, length, take, set, get_or, append_assoc, append-nil, arith, true, false, Option, Some, None, List, [], ◌∷◌, ◌++◌, refl, ap, sym, subst, ◌∙◌}
use Rattle.std.proofs.lemmas.Bool.{eqb-true}
use Rattle.std.proofs.lemmas.Bool.Decides.{nat_tests}
use Rattle.std.proofs.lemmas.List.{take-set}
use Rattle.std.proofs.lemmas.Map.Keys.{sorted_head, sorted_tail}
use Rattle.std.specs.BTreeMap.{insert_entry}
use Rattle.std.specs.Cmp.{nat_cmp_total, unsigned_tied}
use Rattle.std.specs.FinMap.Entries.{below_all, put}
use Rattle.std.specs.List.{AllByRecursion}
use Rattle.std.specs.Map.{keys_of}
use Rattle.std.specs.Option.{option_map}
use Rattle.std.specs.Ordering.{is_eq, nat_cmp}
use Rattle.std.specs.declared.cmp.Ordering.TheVariants.{Less, Equal}
use Rattle.zt_keys.specs.Test.{by_test}
use Rattle.zt_model.specs.Lists.{at_id, without_id}
use Rattle.zt_model.specs.Rows.{ById}
use Rattle.zt_ordered.specs.Found.{below-lower, below-tied}
use Rattle.zt_ordered.specs.Test.{and_both, and_first, and_second, by_ordering}
use Rattle.zt_rows.specs.ById.{IsInOrder}
use Rattle.zt_rows.specs.Places.{AreRising, rows_in}
use Rattle.zt_rows.proofs.ById.{put_is}
use Rattle.zt_rows.proofs.Found.{absent_kept, below_absent, put_below}
use Rattle.zt_rows.proofs.Places.{below-in, last-empty, last-row, ordered-in}

nat-tied : (m n : ℕ) → nat_cmp m n ≡ Equal → m ≡ n
nat-tied m n tied = eqb-true m n (sym (unsigned_tied m n) ∙ ap is_eq tied)

pub some-left : (n : ℕ) → false ≡ (n == 0) → 0 < n
some-left n some = grind (arith, nat_tests)

-- a list is what stands before its last, and the last
last-split : {B : Type 0} (xs : List B) (last : B) → 0 < length xs → last ≡ get_or xs (length xs - 1) last → take (length xs - 1) xs ++ last ∷ [] ≡ xs
last-split [] last some is = absurd (omega (arith, some))
last-split (x ∷ []) last some is = ap (λ y. y ∷ []) is
last-split (x ∷ y ∷ ys) last some is = simp unary_clauses (ap (λ rest. x ∷ rest) (simp unary_clauses at (last-split (y ∷ ys) last (omega arith) (simp unary_clauses (simp unary_clauses at is)))))

module _ {A : Type 0} where
  -- ---- rows behind others

  pub at-front : (id : ℕ) (row : A) (front rows : ById A) → at_id id front ≡ Some row → at_id id (front ++ rows) ≡ Some row
  at-front id row [] rows is = cc
  at-front id row (first ∷ front) rows is = by_test (id == first.0)
      (λ t. rw t (rw t at is))
      (λ t. rw t (at-front id row front rows (rw t at is)))

  pub at-behind : (id : ℕ) (front rows : ById A) → at_id id front ≡ None → at_id id (front ++ rows) ≡ at_id id rows
  at-behind id [] rows none = refl
  at-behind id (first ∷ front) rows none = by_test (id == first.0)
      (λ t. let never : Some first.1 ≡ None = rw t at none in cc)
      (λ t. rw t (at-behind id front rows (rw t at none)))

  pub without-both : (id : ℕ) (front rows : ById A) → without_id id (front ++ rows) ≡ without_id id front ++ without_id id rows
  without-both id [] rows = refl
  without-both id (first ∷ front) rows = by_test (id == first.0)
      (λ t. rw t (without-both id front rows))
      (λ t. rw t (ap (λ rest. first ∷ rest) (without-both id front rows)))

  below-behind : (n : ℕ) (front rows : ById A) → AllByRecursion (λ k. nat_cmp n k ≡ Less) (keys_of (front ++ rows)) → AllByRecursion (λ k. nat_cmp n k ≡ Less) (keys_of rows)
  below-behind n [] rows below = below
  below-behind n (first ∷ front) rows below = below-behind n front rows below.1

  -- an id of one of the first rows is none of the others
  absent-behind : (id : ℕ) (row : A) (front rows : ById A) → IsInOrder (front ++ rows) → at_id id front ≡ Some row → at_id id rows ≡ None
  absent-behind id row [] rows ordered is = cc
  absent-behind id row (first ∷ front) rows ordered is = by_test (id == first.0)
      (λ t. below_absent id rows (subst (λ n. AllByRecursion (λ k. nat_cmp n k ≡ Less) (keys_of rows)) (sym (eqb-true id first.0 t)) (below-behind first.0 front rows (sorted_head nat_cmp first.0 (keys_of (front ++ rows)) ordered))))
      (λ t. absent-behind id row front rows (sorted_tail nat_cmp first.0 (keys_of (front ++ rows)) ordered) (rw t at is))

  -- what goes from the first rows leaves the others
  pub without-front : (id : ℕ) (row : A) (front rows : ById A) → IsInOrder (front ++ rows) → at_id id front ≡ Some row → without_id id (front ++ rows) ≡ without_id id front ++ rows
  without-front id row front rows ordered is =
      without-both id front rows ∙ ap (λ rest. without_id id front ++ rest) (absent_kept id rows (absent-behind id row front rows ordered is))

  pub behind-ordered : (front rows : ById A) → IsInOrder (front ++ rows) → IsInOrder rows
  behind-ordered [] rows ordered = ordered
  behind-ordered (first ∷ front) rows ordered = behind-ordered front rows (sorted_tail nat_cmp first.0 (keys_of (front ++ rows)) ordered)

  -- a row whose id is below all others goes before them
  put-first : (id : ℕ) (row : A) (rows : ById A) → IsInOrder ((id, row) ∷ rows) → insert_entry nat_cmp rows id row ≡ (id, row) ∷ rows
  put-first id row rows ordered = put_is id row rows ∙ put_below id row rows (sorted_head nat_cmp id (keys_of rows) ordered)

  -- ---- rows in places

  both-in : (front places : ById (Option A)) → rows_in (front ++ places) ≡ rows_in front ++ rows_in places
  both-in [] places = refl
  both-in ((id, None) ∷ front) places = both-in front places
  both-in ((id, Some row) ∷ front) places = ap (λ rows. (id, row) ∷ rows) (both-in front places)

  -- the row of the last place goes before the others
  pub moved-one : (place : ℕ × Option A) (row : A) (rows new : ById A) → place.1 ≡ Some row → IsInOrder (rows_in (place ∷ []) ++ rows) → new ≡ insert_entry nat_cmp rows place.0 row → new ≡ rows_in (place ∷ []) ++ rows
  moved-one (id, None) row rows new stands ordered is = cc
  moved-one (id, Some other) row rows new stands ordered is =
      let same : other ≡ row = cc in
      is ∙ put-first id row rows (subst (λ r. IsInOrder ((id, r) ∷ rows)) same ordered) ∙ ap (λ r. (id, r) ∷ rows) (sym same)

  front-rising : (front places : ById (Option A)) → AreRising (front ++ places) → AreRising front
  front-rising [] places rising = refl
  front-rising (place ∷ front) places rising = and_both _ _ (below-front place.0 front (and_first _ _ rising)) (front-rising front places (and_second _ _ rising))
    where
      below-front : (n : ℕ) (front : ById (Option A)) → below_all nat_cmp n (front ++ places) ≡ true → below_all nat_cmp n front ≡ true
      below-front n [] below = refl
      below-front n (place ∷ front) below = and_both _ _ (and_first _ _ below) (below-front n front (and_second _ _ below))

  -- places are those before the last, and the last
  front-and-last : (places : ById (Option A)) (last : ℕ × Option A) (n : ℕ) → n ≡ length places → 0 < n → last ≡ get_or places (n - 1) last → take (n - 1) places ++ last ∷ [] ≡ places
  front-and-last places last n long some at =
      subst (λ m. take (m - 1) places ++ last ∷ [] ≡ places) (sym long) (last-split places last (subst (λ m. 0 < m) long some) (subst (λ m. last ≡ get_or places (m - 1) last) long at))

  -- the row of the last place goes to the others
  pub popped : (places left : ById (Option A)) (last emptied : ℕ × Option A) (rows new all : ById A) (n : ℕ) → n ≡ length places → 0 < n → last ≡ get_or places (n - 1) last
      → (rows_in places ++ rows ≡ all) × AreRising places → left ≡ take (n - 1) (set places (n - 1) emptied) → new ≡ rows_in (last ∷ []) ++ rows → (rows_in left ++ new ≡ all) × AreRising left
  popped places left last emptied rows new all n long some at before pop moved =
      let front = take (n - 1) places in
      let split = front-and-last places last n long some at in
      let is : left ≡ front = pop ∙ take-set places (n - 1) emptied in (
        ap (λ ps. rows_in ps ++ new) is ∙ ap (λ rs. rows_in front ++ rs) moved
            ∙ sym (append_assoc (rows_in front) (rows_in (last ∷ [])) rows) ∙ ap (λ rs. rs ++ rows) (sym (both-in front (last ∷ [])) ∙ ap rows_in split) ∙ before.0,
        subst AreRising (sym is) (front-rising front (last ∷ []) (subst AreRising (sym split) before.1)),
      )

  -- it stands before them
  pub last-ordered : (places : ById (Option A)) (last : ℕ × Option A) (rows all : ById A) (n : ℕ) → n ≡ length places → 0 < n → last ≡ get_or places (n - 1) last
      → rows_in places ++ rows ≡ all → IsInOrder all → IsInOrder (rows_in (last ∷ []) ++ rows)
  last-ordered places last rows all n long some at before ordered =
      let front = take (n - 1) places in
      let split = front-and-last places last n long some at in
      behind-ordered (rows_in front) (rows_in (last ∷ []) ++ rows)
      (subst IsInOrder (sym before ∙ ap (λ rs. rs ++ rows) (ap rows_in (sym split) ∙ both-in front (last ∷ [])) ∙ append_assoc (rows_in front) (rows_in (last ∷ [])) rows) ordered)

  -- a row that is put in a place stands under its id
  pub put-in : (id : ℕ) (row : A) (places : ById (Option A)) → AreRising places → rows_in (put nat_cmp id (Some row) places) ≡ put nat_cmp id row (rows_in places)
  put-in id row [] rising = refl
  put-in id row ((n, None) ∷ places) rising = by_ordering (nat_cmp id n)
      (λ o. rw o (sym (put_below id row (rows_in places) (below-in id places (below-lower nat_cmp nat_cmp_total id n places o (and_first _ _ rising))))))
      (λ o. rw o (ap (λ k. (k, row) ∷ rows_in places) (sym (nat-tied id n o)) ∙ sym (put_below id row (rows_in places) (below-in id places (below-tied nat_cmp nat_cmp_total id n places o (and_first _ _ rising))))))
      (λ o. rw o (put-in id row places (and_second _ _ rising)))
  put-in id row ((n, Some other) ∷ places) rising = by_ordering (nat_cmp id n)
      (λ o. rw o refl)
      (λ o. rw o refl)
      (λ o. rw o (ap (λ rows. (n, other) ∷ rows) (put-in id row places (and_second _ _ rising))))

  -- ---- a walk from the last place on

  -- what is read in a place
  shown-in : (place : ℕ × Option A) (shown : ℕ × A) → option_map {U = ℕ × A} (λ row. (place.0, row)) place.1 ≡ Some shown → (place.0 ≡ shown.0) × (place.1 ≡ Some shown.1)
  shown-in (id, None) shown is = cc
  shown-in (id, Some row) shown is = let same : (id, row) ≡ shown = cc in (ap (λ (r : ℕ × A). r.0) same, ap (λ (r : ℕ × A). Some r.1) same)

  none-in : (place : ℕ × Option A) → option_map {U = ℕ × A} (λ row. (place.0, row)) place.1 ≡ None → place.1 ≡ None
  none-in (id, None) is = refl
  none-in (id, Some row) is = cc

  pub stepped-back : (places : ById (Option A)) (place : ℕ × Option A) (shown : ℕ × A) (rows all : ById A) → 0 < length places → place ≡ get_or places (length places - 1) place → option_map {U = ℕ × A} (λ row. (place.0, row)) place.1 ≡ Some shown
      → (rows_in places ++ rows ≡ all) × (rows ≡ []) → all ≡ (rows_in (take (length places - 1) places) ++ rows) ++ shown ∷ []
  stepped-back places place shown rows all some at read left =
      let front = take (length places - 1) places in
      let split : places ≡ front ++ place ∷ [] = sym (last-split places place some at) in
      let stands = shown-in place shown read in
      sym left.0 ∙ ap (λ rs. rows_in places ++ rs) left.1 ∙ append-nil (rows_in places) ∙ last-row places front place shown.1 split stands.1
      ∙ ap (λ n. rows_in front ++ (n, shown.1) ∷ []) stands.0
      ∙ ap (λ rs. rs ++ shown ∷ []) (sym (append-nil (rows_in front)) ∙ ap (λ rs. rows_in front ++ rs) (sym left.1))

  pub passed-back : (places : ById (Option A)) (place : ℕ × Option A) (rows all : ById A) → 0 < length places → place ≡ get_or places (length places - 1) place → option_map {U = ℕ × A} (λ row. (place.0, row)) place.1 ≡ None
      → (rows_in places ++ rows ≡ all) × (rows ≡ []) → (rows_in (take (length places - 1) places) ++ rows ≡ all) × (rows ≡ [])
  passed-back places place rows all some at read left =
      let front = take (length places - 1) places in
      let split : places ≡ front ++ place ∷ [] = sym (last-split places place some at) in
      (ap (λ rs. rs ++ rows) (sym (last-empty places front place split (none-in place read))) ∙ left.0, left.1)

  pub none-behind : (places : ById (Option A)) (rows all : ById A) → length places ≡ 0 → (rows_in places ++ rows ≡ all) × (rows ≡ []) → (all ≡ []) × (rows_in places ++ rows ≡ [])
  none-behind [] rows all none left = (sym left.0 ∙ left.1, left.1)
  none-behind (place ∷ places) rows all none left = absurd (omega (arith, none))

  pub shorter : (all left : ById A) (row : ℕ × A) → all ≡ left ++ row ∷ [] → length left < length all
  shorter all left row is = rw is (one-more left)
    where
      one-more : (left : ById A) → length left < length (left ++ row ∷ [])
      one-more [] = omega arith
      one-more (first ∷ left) = let rest = one-more left in omega (arith, rest)

  -- rows in places stand in order where none are behind them
  pub alone-ordered : (places : ById (Option A)) (rows : ById A) → AreRising places → length rows ≡ 0 → IsInOrder (rows_in places ++ rows)
  alone-ordered places [] rising none = subst IsInOrder (sym (append-nil (rows_in places))) (ordered-in places rising)
  alone-ordered places (row ∷ rows) rising none = absurd (omega (arith, none))
