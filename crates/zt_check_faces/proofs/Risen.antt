-- Lemmas on rows whose ids rise: where one stands, and what changes there.
use native.Mathlib.Numerals.{unary_clauses}
use Rattle.std.proofs.Common.{◌≡◌, ℕ, zero, suc, ◌-◌, ◌<◌, ◌≤◌, Bool, true, false, ◌==◌, not, List, [], ◌∷◌, ◌++◌, length, map, filter, take, drop, get_or, set, slice_get, Some, T, refl, sym, ap, subst, ◌∙◌, arith, add-one}
use Rattle.std.proofs.lemmas.Bool.Decides.{nat_tests}
use Rattle.std.proofs.lemmas.List.Sorted.{searchable_from_sorted}
use Rattle.std.specs.List.{AllByRecursion, remove}
use Rattle.std.specs.List.Sorted.{IsBinarySearchResult, IsSearchInRange}
use Rattle.std.specs.Ordering.{is_lt, nat_cmp}
use Rattle.std.specs.Cmp.{nat_cmp_total}
use Rattle.std.specs.FinMap.Entries.{below_all, is_sorted, is_sorted-put, put}
use Rattle.std.specs.Prelude.{Result, Ok, Err}
use Rattle.std.specs.declared.cmp.Ordering.{Ordering}
use Rattle.std.specs.declared.cmp.Ordering.TheVariants.{Less, Equal, Greater}
use Rattle.zt_keys.specs.Test.{by_test}
use Rattle.zt_check_faces.specs.Parts.{HasThoseOf, those_of}
use Rattle.zt_check_faces.specs.Placed.{BeginsEqual, BeginsLess, FindsPlace, IsBehind}
use Rattle.zt_check_faces.specs.Rising.{Rise}
use Rattle.zt_check_faces.proofs.Hinting.{and_both, and_left, and_right}

-- ---- numbers

less-lt : (x y : ℕ) → nat_cmp x y ≡ Less → x < y
less-lt x y h = grind (arith, nat_tests)

greater-gt : (x y : ℕ) → nat_cmp x y ≡ Greater → y < x
greater-gt x y h = grind (arith, nat_tests)

equal-is : (x y : ℕ) → nat_cmp x y ≡ Equal → x ≡ y
equal-is x y h = grind (arith, nat_tests)

lt-less : (x y : ℕ) → x < y → nat_cmp x y ≡ Less
lt-less x y h = grind (arith, nat_tests)

gt-greater : (x y : ℕ) → y < x → nat_cmp x y ≡ Greater
gt-greater x y h = grind (arith, nat_tests)

is-equal : (x y : ℕ) → x ≡ y → nat_cmp x y ≡ Equal
is-equal x y h = grind (arith, nat_tests)

is_lt-lt : (x y : ℕ) → is_lt (nat_cmp x y) ≡ true → x < y
is_lt-lt x y h = grind (arith, nat_tests)

lt-is_lt : (x y : ℕ) → x < y → is_lt (nat_cmp x y) ≡ true
lt-is_lt x y h = grind (arith, nat_tests)

other : (x y : ℕ) → x < y → (x == y) ≡ false
other x y h = grind (arith, nat_tests)

other-above : (x y : ℕ) → y < x → (x == y) ≡ false
other-above x y h = grind (arith, nat_tests)

pub one : (x y : ℕ) → x ≡ y → (x == y) ≡ true
one x y h = grind (arith, nat_tests)

T-from : (b : Bool) → b ≡ true → T b
T-from b h = subst T (sym h) tt

T-to : (b : Bool) → T b → b ≡ true
T-to true h = refl
T-to false h = absurd h

module _ {X : Type 0} where
  -- the rows before a place stand under lower ids
  abbrev Behind : ℕ → List (ℕ × X) → Type 0
  Behind q = AllByRecursion (λ (row : ℕ × X). nat_cmp q row.0 ≡ Greater)

  abbrev order : ℕ → ℕ × X → Ordering
  order q row = nat_cmp q row.0

  -- an id is below those of all rows
  abbrev Below : ℕ → List (ℕ × X) → Type 0
  Below q rows = below_all nat_cmp q rows ≡ true

  below-rest : (q : ℕ) (row : ℕ × X) (rows : List (ℕ × X)) → Below q (row ∷ rows) → Below q rows
  below-rest q row rows h = and_right (is_lt (nat_cmp q row.0)) _ h

  below-first : (q : ℕ) (row : ℕ × X) (rows : List (ℕ × X)) → Below q (row ∷ rows) → q < row.0
  below-first q row rows h = is_lt-lt q row.0 (and_left _ (below_all nat_cmp q rows) h)

  below-more : (q : ℕ) (row : ℕ × X) (rows : List (ℕ × X)) → q < row.0 → Below q rows → Below q (row ∷ rows)
  below-more q row rows less h = and_both _ _ (lt-is_lt q row.0 less) h

  below-lower : (q p : ℕ) (rows : List (ℕ × X)) → q < p → Below p rows → Below q rows
  below-lower q p [] less h = refl
  below-lower q p (row ∷ rows) less h =
      let first = below-first p row rows h in
      below-more q row rows (omega arith) (below-lower q p rows less (below-rest p row rows h))

  rise-head : (row : ℕ × X) (rows : List (ℕ × X)) → Rise (row ∷ rows) → Below row.0 rows
  rise-head row rows h = and_left _ (is_sorted nat_cmp rows) h

  rise-rest : (row : ℕ × X) (rows : List (ℕ × X)) → Rise (row ∷ rows) → Rise rows
  rise-rest row rows h = and_right (below_all nat_cmp row.0 rows) _ h

  rise-more : (row : ℕ × X) (rows : List (ℕ × X)) → Below row.0 rows → Rise rows → Rise (row ∷ rows)
  rise-more row rows below h = and_both _ _ below h

  -- ---- where a search by halves ends

  below-at : (q : ℕ) (rows : List (ℕ × X)) (i : ℕ) (d : ℕ × X) → Below q rows → i < length rows → q < (get_or rows i d).0
  below-at q [] i d h l = absurd (omega arith)
  below-at q (row ∷ rows) zero d h l = below-first q row rows h
  below-at q (row ∷ rows) (suc i) d h l = below-at q rows i d (below-rest q row rows h) (omega arith)

  next-above : (rows : List (ℕ × X)) (i : ℕ) (d : ℕ × X) → Rise rows → suc i < length rows → (get_or rows i d).0 < (get_or rows (suc i) d).0
  next-above [] i d h l = absurd (omega arith)
  next-above (row ∷ rows) zero d h l = below-at row.0 rows 0 d (rise-head row rows h) (omega arith)
  next-above (row ∷ rows) (suc i) d h l = next-above rows i d (rise-rest row rows h) (omega arith)

  hit-behind : (q : ℕ) (rows : List (ℕ × X)) (i : ℕ) → Rise rows → i < length rows → ((d : ℕ × X) → nat_cmp (get_or rows i d).0 q ≡ Equal) → Behind q (take i rows)
  hit-behind q [] i h l at = absurd (omega arith)
  hit-behind q (row ∷ rows) zero h l at = tt
  hit-behind q (row ∷ rows) (suc i) h l at =
      let less : row.0 < q = subst (λ n. row.0 < n) (equal-is _ q (at row)) (below-at row.0 rows i row (rise-head row rows h) (omega arith)) in
      (gt-greater q row.0 less, hit-behind q rows i (rise-rest row rows h) (omega arith) at)

  hit-begins : (q : ℕ) (rows : List (ℕ × X)) (i : ℕ) → i < length rows → ((d : ℕ × X) → nat_cmp (get_or rows i d).0 q ≡ Equal) → BeginsEqual (order q) (drop i rows)
  hit-begins q [] i l at = absurd (omega arith)
  hit-begins q (row ∷ rows) zero l at = is-equal q row.0 (sym (equal-is row.0 q (at row)))
  hit-begins q (row ∷ rows) (suc i) l at = hit-begins q rows i (omega arith) at

  gap-behind : (q : ℕ) (rows : List (ℕ × X)) (i : ℕ) → i ≤ length rows → ((k : ℕ) (d : ℕ × X) → k < i → nat_cmp (get_or rows k d).0 q ≡ Less) → Behind q (take i rows)
  gap-behind q [] zero l below = tt
  gap-behind q [] (suc i) l below = absurd (omega arith)
  gap-behind q (row ∷ rows) zero l below = tt
  gap-behind q (row ∷ rows) (suc i) l below =
      (gt-greater q row.0 (less-lt row.0 q (below 0 row (omega arith))), gap-behind q rows i (omega arith) (λ k d h. below (suc k) d (omega arith)))

  gap-begins : (q : ℕ) (rows : List (ℕ × X)) (i : ℕ) → i ≤ length rows → ((k : ℕ) (d : ℕ × X) → i ≤ k → k < length rows → nat_cmp (get_or rows k d).0 q ≡ Greater) → BeginsLess (order q) (drop i rows)
  gap-begins q [] zero l above = tt
  gap-begins q [] (suc i) l above = absurd (omega arith)
  gap-begins q (row ∷ rows) zero l above = lt-less q row.0 (greater-gt row.0 q (above 0 row (omega arith) (omega arith)))
  gap-begins q (row ∷ rows) (suc i) l above = gap-begins q rows i (omega arith) (λ k d h m. above (suc k) d (omega arith) (omega arith))

  pub found_by_halves : (q : ℕ) (rows : List (ℕ × X)) (r : Result ℕ ℕ) → Rise rows → IsSearchInRange r (length rows) → IsBinarySearchResult (λ (row : ℕ × X). nat_cmp row.0 q) rows r → FindsPlace (λ (row : ℕ × X). nat_cmp q row.0) rows r
  found_by_halves q rows (Ok i) h bound at =
      (record { within = omega arith; behind = hit-behind q rows i h bound at }, hit-begins q rows i bound at)
  found_by_halves q rows (Err i) h bound at =
      let parted = at (searchable_from_sorted nat_cmp_total (λ (row : ℕ × X). row.0) rows q (λ k d _ l. rw add-one (not-back (get_or rows k d).0 (get_or rows (suc k) d).0 (next-above rows k d h (omega arith))))) in
      (record { within = bound; behind = gap-behind q rows i bound (λ k d m. parted.0 k d (omega arith) m) }, gap-begins q rows i bound (λ k d m n. parted.1 k d m n))
    where
      not-back : (x y : ℕ) → x < y → is_lt (nat_cmp y x) ≡ false
      not-back x y less = grind (arith, nat_tests)

  -- ---- a test that rows of other ids pass

  -- what holds of the rows of other ids holds of each above an id
  pass-above : (q : ℕ) (p : ℕ × X → Bool) (rows : List (ℕ × X)) → Below q rows → ((row : ℕ × X) → (q == row.0) ≡ false → p row ≡ true) → filter p rows ≡ rows
  pass-above q p [] below others = refl
  pass-above q p (row ∷ rows) below others =
      rw (others row (other q row.0 (below-first q row rows below))) (ap (λ (rest : List (ℕ × X)). row ∷ rest) (pass-above q p rows (below-rest q row rows below) others))

  fail-above : (q : ℕ) (p : ℕ × X → Bool) (rows : List (ℕ × X)) → Below q rows → ((row : ℕ × X) → (q == row.0) ≡ false → p row ≡ false) → filter p rows ≡ []
  fail-above q p [] below others = refl
  fail-above q p (row ∷ rows) below others =
      rw (others row (other q row.0 (below-first q row rows below))) (fail-above q p rows (below-rest q row rows below) others)

  tied : (q : ℕ) (row : ℕ × X) (rows : List (ℕ × X)) → nat_cmp q row.0 ≡ Equal → Rise (row ∷ rows) → Below q rows
  tied q row rows is h = subst (λ n. Below n rows) (sym (equal-is q row.0 is)) (rise-head row rows h)

  -- the row at the place fails
  pub filter_taken : (q : ℕ) (p : ℕ × X → Bool) (rows : List (ℕ × X)) (i : ℕ) (row : ℕ × X) → Rise rows → Behind q (take i rows) → BeginsEqual (order q) (drop i rows)
      → row ≡ get_or rows i row → ((r : ℕ × X) → (q == r.0) ≡ false → p r ≡ true) → p row ≡ false → remove rows i ≡ filter p rows
  filter_taken q p [] zero row h behind begins is others fails = absurd begins
  filter_taken q p [] (suc i) row h behind begins is others fails = absurd begins
  filter_taken q p (x ∷ rows) zero row h behind begins is others fails =
      let gone : p x ≡ false = subst (λ (r : ℕ × X). p r ≡ false) is fails in
      rw gone (sym (pass-above q p rows (tied q x rows begins h) others))
  filter_taken q p (x ∷ rows) (suc i) row h behind begins is others fails =
      rw (others x (other-above q x.0 (greater-gt q x.0 behind.0)))
      (ap (λ (rest : List (ℕ × X)). x ∷ rest) (filter_taken q p rows i row (rise-rest x rows h) behind.1 begins is others fails))

  -- it passes
  pub filter_kept : (q : ℕ) (p : ℕ × X → Bool) (rows : List (ℕ × X)) (i : ℕ) (row : ℕ × X) → Rise rows → Behind q (take i rows) → BeginsEqual (order q) (drop i rows)
      → row ≡ get_or rows i row → ((r : ℕ × X) → (q == r.0) ≡ false → p r ≡ true) → p row ≡ true → rows ≡ filter p rows
  filter_kept q p [] zero row h behind begins is others passes = refl
  filter_kept q p [] (suc i) row h behind begins is others passes = refl
  filter_kept q p (x ∷ rows) zero row h behind begins is others passes =
      let stays : p x ≡ true = subst (λ (r : ℕ × X). p r ≡ true) is passes in
      rw stays (ap (λ (rest : List (ℕ × X)). x ∷ rest) (sym (pass-above q p rows (tied q x rows begins h) others)))
  filter_kept q p (x ∷ rows) (suc i) row h behind begins is others passes =
      rw (others x (other-above q x.0 (greater-gt q x.0 behind.0)))
      (ap (λ (rest : List (ℕ × X)). x ∷ rest) (filter_kept q p rows i row (rise-rest x rows h) behind.1 begins is others passes))

  -- none stands at the place
  above-gap : (q : ℕ) (row : ℕ × X) (rows : List (ℕ × X)) → nat_cmp q row.0 ≡ Less → Rise (row ∷ rows) → Below q (row ∷ rows)
  above-gap q row rows less h =
      below-more q row rows (less-lt q row.0 less) (below-lower q row.0 rows (less-lt q row.0 less) (rise-head row rows h))

  pub filter_none : (q : ℕ) (p : ℕ × X → Bool) (rows : List (ℕ × X)) (i : ℕ) → i ≤ length rows → Rise rows → Behind q (take i rows) → BeginsLess (order q) (drop i rows)
      → ((r : ℕ × X) → (q == r.0) ≡ false → p r ≡ true) → rows ≡ filter p rows
  filter_none q p [] i l h behind begins others = refl
  filter_none q p (x ∷ rows) zero l h behind begins others = sym (pass-above q p (x ∷ rows) (above-gap q x rows begins h) others)
  filter_none q p (x ∷ rows) (suc i) l h behind begins others =
      rw (others x (other-above q x.0 (greater-gt q x.0 behind.0)))
      (ap (λ (rest : List (ℕ × X)). x ∷ rest) (filter_none q p rows i (omega arith) (rise-rest x rows h) behind.1 begins others))

  -- ---- the row of an id goes

  pub out_found : (q : ℕ) (rows : List (ℕ × X)) (i : ℕ) → Rise rows → IsBehind (order q) rows i × BeginsEqual (order q) (drop i rows) → remove rows i ≡ filter (λ row. not (q == row.0)) rows
  out_found q rows i h found = at rows i h found.0.behind found.1
    where
      at : (rows : List (ℕ × X)) (i : ℕ) → Rise rows → Behind q (take i rows) → BeginsEqual (order q) (drop i rows) → remove rows i ≡ filter (λ row. not (q == row.0)) rows
      at [] zero h behind begins = absurd begins
      at [] (suc i) h behind begins = absurd begins
      at (x ∷ rows) zero h behind begins =
          rw (one q x.0 (equal-is q x.0 begins)) (sym (pass-above q (λ row. not (q == row.0)) rows (tied q x rows begins h) (λ r t. rw t refl)))
      at (x ∷ rows) (suc i) h behind begins =
          rw (other-above q x.0 (greater-gt q x.0 behind.0)) (ap (λ (rest : List (ℕ × X)). x ∷ rest) (at rows i (rise-rest x rows h) behind.1 begins))

  pub out_none : (q : ℕ) (rows : List (ℕ × X)) (i : ℕ) → Rise rows → IsBehind (order q) rows i × BeginsLess (order q) (drop i rows) → rows ≡ filter (λ row. not (q == row.0)) rows
  out_none q rows i h found = filter_none q (λ row. not (q == row.0)) rows i found.0.within h found.0.behind found.1 (λ r t. rw t refl)

  -- ---- the part of an id

  part-row : (q : ℕ) (rows : List (ℕ × X)) (i : ℕ) (row : ℕ × X) → Rise rows → Behind q (take i rows) → BeginsEqual (order q) (drop i rows) → row ≡ get_or rows i row
      → row ∷ [] ≡ those_of (λ (r : ℕ × X). r.0) q rows
  part-row q [] zero row h behind begins is = absurd begins
  part-row q [] (suc i) row h behind begins is = absurd begins
  part-row q (x ∷ rows) zero row h behind begins is =
      rw (one q x.0 (equal-is q x.0 begins))
      (ap (λ (r : ℕ × X). r ∷ []) is ∙ ap (λ (rest : List (ℕ × X)). x ∷ rest) (sym (fail-above q (λ r. q == r.0) rows (tied q x rows begins h) (λ r t. t))))
  part-row q (x ∷ rows) (suc i) row h behind begins is =
      rw (other-above q x.0 (greater-gt q x.0 behind.0)) (part-row q rows i row (rise-rest x rows h) behind.1 begins is)

  pub row_tied : (q : ℕ) (rows : List (ℕ × X)) (i : ℕ) (row : ℕ × X) → BeginsEqual (order q) (drop i rows) → row ≡ get_or rows i row → (q == row.0) ≡ true
  row_tied q [] zero row begins is = absurd begins
  row_tied q [] (suc i) row begins is = absurd begins
  row_tied q (x ∷ rows) zero row begins is = one q row.0 (equal-is q x.0 begins ∙ ap (λ (r : ℕ × X). r.0) (sym is))
  row_tied q (x ∷ rows) (suc i) row begins is = row_tied q rows i row begins is

  pub part_found : (q : ℕ) (rows : List (ℕ × X)) (i : ℕ) (row : ℕ × X) → Rise rows → IsBehind (order q) rows i × BeginsEqual (order q) (drop i rows) → row ≡ get_or rows i row
      → HasThoseOf (λ (r : ℕ × X). r.0) q (row ∷ []) rows
  part_found q rows i row h found is = rw (row_tied q rows i row found.1 is) (part-row q rows i row h found.0.behind found.1 is)

  part-gap : (q : ℕ) (rows : List (ℕ × X)) (i : ℕ) → i ≤ length rows → Rise rows → Behind q (take i rows) → BeginsLess (order q) (drop i rows) → [] ≡ those_of (λ (r : ℕ × X). r.0) q rows
  part-gap q [] i l h behind begins = refl
  part-gap q (x ∷ rows) zero l h behind begins = sym (fail-above q (λ r. q == r.0) (x ∷ rows) (above-gap q x rows begins h) (λ r t. t))
  part-gap q (x ∷ rows) (suc i) l h behind begins =
      rw (other-above q x.0 (greater-gt q x.0 behind.0)) (part-gap q rows i (omega arith) (rise-rest x rows h) behind.1 begins)

  pub part_none : (q : ℕ) (rows : List (ℕ × X)) (i : ℕ) → Rise rows → IsBehind (order q) rows i × BeginsLess (order q) (drop i rows) → HasThoseOf (λ (r : ℕ × X). r.0) q [] rows
  part_none q rows i h found = part-gap q rows i found.0.within h found.0.behind found.1

  -- ---- ids that still rise

  below-filter : (q : ℕ) (p : ℕ × X → Bool) (rows : List (ℕ × X)) → Below q rows → Below q (filter p rows)
  below-filter q p [] h = refl
  below-filter q p (row ∷ rows) h =
      let rest = below-filter q p rows (below-rest q row rows h) in
      by_test (p row) (λ t. rw t (below-more q row (filter p rows) (below-first q row rows h) rest)) (λ t. rw t rest)

  pub rise_filter : (p : ℕ × X → Bool) (rows : List (ℕ × X)) → Rise rows → Rise (filter p rows)
  rise_filter p [] h = refl
  rise_filter p (row ∷ rows) h =
      let rest = rise_filter p rows (rise-rest row rows h) in
      by_test (p row) (λ t. rw t (rise-more row (filter p rows) (below-filter row.0 p rows (rise-head row rows h)) rest)) (λ t. rw t rest)

  pub rise_put : (id : ℕ) (x : X) (rows : List (ℕ × X)) → Rise rows → Rise (put nat_cmp id x rows)
  rise_put id x rows h = T-to _ (is_sorted-put nat_cmp nat_cmp_total id x rows (T-from _ h))

  below-set : (q : ℕ) (rows : List (ℕ × X)) (i : ℕ) (row y : ℕ × X) → Below q rows → row ≡ get_or rows i row → y.0 ≡ row.0 → Below q (set rows i y)
  below-set q [] i row y h is same = refl
  below-set q (x ∷ rows) zero row y h is same =
      below-more q y rows (subst (λ n. q < n) (sym (same ∙ ap (λ (r : ℕ × X). r.0) is)) (below-first q x rows h)) (below-rest q x rows h)
  below-set q (x ∷ rows) (suc i) row y h is same =
      below-more q x (set rows i y) (below-first q x rows h) (below-set q rows i row y (below-rest q x rows h) is same)

  pub rise_set : (rows : List (ℕ × X)) (i : ℕ) (row y : ℕ × X) → Rise rows → row ≡ get_or rows i row → y.0 ≡ row.0 → Rise (set rows i y)
  rise_set [] i row y h is same = refl
  rise_set (x ∷ rows) zero row y h is same =
      rise-more y rows (subst (λ n. Below n rows) (sym (same ∙ ap (λ (r : ℕ × X). r.0) is)) (rise-head x rows h)) (rise-rest x rows h)
  rise_set (x ∷ rows) (suc i) row y h is same =
      rise-more x (set rows i y) (below-set x.0 rows i row y (rise-head x rows h) is same) (rise_set rows i row y (rise-rest x rows h) is same)

  pub rise_push : (rows : List (ℕ × X)) (last y : ℕ × X) → Rise rows → slice_get rows (length rows - 1) ≡ Some last → last.0 < y.0 → Rise (rows ++ y ∷ [])
  rise_push [] last y h is less = refl
  rise_push (row ∷ []) last y h is less = rise-more row (y ∷ []) (below-more row.0 y [] (subst (λ (r : ℕ × X). r.0 < y.0) (sym (same-some row last is)) less) refl) refl
    where
      same-some : (a b : ℕ × X) → Some a ≡ Some b → a ≡ b
      same-some a b t = cc
  rise_push (row ∷ x ∷ rows) last y h is less =
      let later : slice_get (x ∷ rows) (length (x ∷ rows) - 1) ≡ Some last = simp unary_clauses (simp unary_clauses at is) in
      let rest = rise_push (x ∷ rows) last y (rise-rest row (x ∷ rows) h) later less in
      let below = below-lower row.0 x.0 (rows ++ y ∷ []) (below-first row.0 x rows (rise-head row (x ∷ rows) h)) (rise-head x (rows ++ y ∷ []) rest) in
      rise-more row (x ∷ (rows ++ y ∷ [])) (below-more row.0 x (rows ++ y ∷ []) (below-first row.0 x rows (rise-head row (x ∷ rows) h)) below) rest

  -- ---- one row is changed

  pub map_found : (q : ℕ) (f : ℕ × X → ℕ × X) (rows : List (ℕ × X)) (i : ℕ) (row : ℕ × X) → Rise rows → IsBehind (order q) rows i × BeginsEqual (order q) (drop i rows) → row ≡ get_or rows i row
      → ((r : ℕ × X) → (q == r.0) ≡ false → f r ≡ r) → set rows i (f row) ≡ map f rows
  map_found q f rows i row h found is others = at rows i row h found.0.behind found.1 is
    where
      above : (rows : List (ℕ × X)) → Below q rows → rows ≡ map f rows
      above [] below = refl
      above (x ∷ rows) below = rw (others x (other q x.0 (below-first q x rows below))) (ap (λ (rest : List (ℕ × X)). x ∷ rest) (above rows (below-rest q x rows below)))

      at : (rows : List (ℕ × X)) (i : ℕ) (row : ℕ × X) → Rise rows → Behind q (take i rows) → BeginsEqual (order q) (drop i rows) → row ≡ get_or rows i row → set rows i (f row) ≡ map f rows
      at [] zero row h behind begins is = absurd begins
      at [] (suc i) row h behind begins is = absurd begins
      at (x ∷ rows) zero row h behind begins is = ap (λ (r : ℕ × X). f r ∷ rows) is ∙ ap (λ (rest : List (ℕ × X)). f x ∷ rest) (above rows (tied q x rows begins h))
      at (x ∷ rows) (suc i) row h behind begins is =
          rw (others x (other-above q x.0 (greater-gt q x.0 behind.0))) (ap (λ (rest : List (ℕ × X)). x ∷ rest) (at rows i row (rise-rest x rows h) behind.1 begins is))

  pub map_none : (q : ℕ) (f : ℕ × X → ℕ × X) (rows : List (ℕ × X)) (i : ℕ) → Rise rows → IsBehind (order q) rows i × BeginsLess (order q) (drop i rows)
      → ((r : ℕ × X) → (q == r.0) ≡ false → f r ≡ r) → rows ≡ map f rows
  map_none q f rows i h found others = at rows i found.0.within h found.0.behind found.1
    where
      above : (rows : List (ℕ × X)) → Below q rows → rows ≡ map f rows
      above [] below = refl
      above (x ∷ rows) below = rw (others x (other q x.0 (below-first q x rows below))) (ap (λ (rest : List (ℕ × X)). x ∷ rest) (above rows (below-rest q x rows below)))

      at : (rows : List (ℕ × X)) (i : ℕ) → i ≤ length rows → Rise rows → Behind q (take i rows) → BeginsLess (order q) (drop i rows) → rows ≡ map f rows
      at [] i l h behind begins = refl
      at (x ∷ rows) zero l h behind begins = above (x ∷ rows) (above-gap q x rows begins h)
      at (x ∷ rows) (suc i) l h behind begins =
          rw (others x (other-above q x.0 (greater-gt q x.0 behind.0))) (ap (λ (rest : List (ℕ × X)). x ∷ rest) (at rows i (omega arith) (rise-rest x rows h) behind.1 begins))
