-- Rows in places under rising ids.
use native.Mathlib.Numerals.{unary_clauses}
use Rattle.std.proofs.Common.{◌≡◌, ℕ, ◌<◌, ◌≤◌, ◌==◌, ◌-◌, true, Option, Some, None, is_some, [], ◌∷◌, ◌++◌, filter, length, slice_get, add-one, drop, get_or, suc, ◌+◌, refl, ap, sym, subst, ◌∙◌, arith}
use Rattle.std.proofs.lemmas.Bool.{eqb-true}
use Rattle.std.proofs.lemmas.Bool.Decides.{nat_tests}
use Rattle.std.proofs.lemmas.List.{drop_all}
use Rattle.std.proofs.Math.Seq.{drop-cons}
use Rattle.std.specs.Cmp.{nat_cmp_total, unsigned_tied}
use Rattle.std.specs.FinMap.Entries.{below_all, find, put}
use Rattle.std.specs.List.{AllByRecursion}
use Rattle.std.specs.List.Sorted.{IsStrictlySortedBy}
use Rattle.std.specs.Map.{keys_of}
use Rattle.std.specs.Ordering.{is_eq, is_lt, nat_cmp}
use Rattle.std.specs.declared.cmp.Ordering.TheVariants.{Less}
use Rattle.zt_rows.specs.Places.{AreRising, rows_in}
use Rattle.zt_rows.specs.ById.{IsInOrder}
use Rattle.zt_rows.proofs.ById.{below_all_absent}
use Rattle.zt_rows.proofs.Found.{below_absent}
use Rattle.zt_keys.specs.Test.{by_test}
use Rattle.zt_model.specs.Lists.{at_id, without_id}
use Rattle.zt_model.specs.Rows.{ById}
use Rattle.zt_ordered.specs.Found.{below-lower, below-tied}
use Rattle.zt_ordered.specs.Test.{and_both, and_first, and_second, by_ordering, is_lt-Less}

module _ {A : Type 0} where
  abbrev IsBelow : ℕ → ById A → Type 0
  IsBelow n rows = AllByRecursion (λ k. nat_cmp n k ≡ Less) (keys_of rows)

  -- the row of a place that was found
  abbrev pub found_row : Option (Option A) → Option A
  found_row None = None
  found_row (Some row) = row

  pub below-in : (n : ℕ) (places : ById (Option A)) → below_all nat_cmp n places ≡ true → IsBelow n (rows_in places)
  below-in n [] below = tt
  below-in n ((id, None) ∷ places) below = below-in n places (and_second _ _ below)
  below-in n ((id, Some row) ∷ places) below = (is_lt-Less _ (and_first _ _ below), below-in n places (and_second _ _ below))

  -- rows stand in order
  pub ordered-in : (places : ById (Option A)) → AreRising places → IsInOrder (rows_in places)
  unfolding IsStrictlySortedBy
  ordered-in [] rising = tt
  ordered-in ((id, None) ∷ places) rising = ordered-in places (and_second _ _ rising)
  ordered-in ((id, Some row) ∷ places) rising = (below-in id places (and_first _ _ rising), ordered-in places (and_second _ _ rising))

  -- what a search finds
  pub found-in : (id : ℕ) (places : ById (Option A)) → AreRising places → found_row (find nat_cmp id places) ≡ at_id id (rows_in places)
  found-in id [] rising = refl
  found-in id ((n, None) ∷ places) rising = by_test (id == n)
      (λ t. rw (unsigned_tied id n ∙ t) (sym (below_absent id (rows_in places) (below-in id places (subst (λ k. below_all nat_cmp k places ≡ true) (sym (eqb-true id n t)) (and_first _ _ rising))))))
      (λ t. rw (unsigned_tied id n ∙ t) (found-in id places (and_second _ _ rising)))
  found-in id ((n, Some row) ∷ places) rising = by_test (id == n)
      (λ t. rw (unsigned_tied id n ∙ t, t) refl)
      (λ t. rw (unsigned_tied id n ∙ t, t) (found-in id places (and_second _ _ rising)))

  -- a place that is emptied
  pub emptied-in : (id : ℕ) (places : ById (Option A)) → AreRising places → rows_in (put nat_cmp id None places) ≡ without_id id (rows_in places)
  emptied-in id [] rising = refl
  emptied-in id ((n, None) ∷ places) rising = by_ordering (nat_cmp id n)
      (λ o. rw o (sym (below_all_absent id (rows_in places) (below-in id places (below-lower nat_cmp nat_cmp_total id n places o (and_first _ _ rising))))))
      (λ o. rw o (sym (below_all_absent id (rows_in places) (below-in id places (below-tied nat_cmp nat_cmp_total id n places o (and_first _ _ rising))))))
      (λ o. rw o (emptied-in id places (and_second _ _ rising)))
  emptied-in id ((n, Some row) ∷ places) rising = by_ordering (nat_cmp id n)
      (λ o. rw o (sym (below_all_absent id ((n, row) ∷ rows_in places) (o, below-in id places (below-lower nat_cmp nat_cmp_total id n places o (and_first _ _ rising))))))
      (λ o. rw (o, sym (unsigned_tied id n) ∙ ap is_eq o) (sym (below_all_absent id (rows_in places) (below-in id places (below-tied nat_cmp nat_cmp_total id n places o (and_first _ _ rising))))))
      (λ o. rw (o, sym (unsigned_tied id n) ∙ ap is_eq o) (ap (λ rows. (n, row) ∷ rows) (emptied-in id places (and_second _ _ rising))))

  -- a row more behind the others
  pub pushed-in : (id : ℕ) (row : A) (places : ById (Option A)) → rows_in (places ++ (id, Some row) ∷ []) ≡ rows_in places ++ (id, row) ∷ []
  pushed-in id row [] = refl
  pushed-in id row ((n, None) ∷ places) = pushed-in id row places
  pushed-in id row ((n, Some other) ∷ places) = ap (λ rows. (n, other) ∷ rows) (pushed-in id row places)

  -- ---- places that are dropped

  kept-below : (n : ℕ) (places : ById (Option A)) → below_all nat_cmp n places ≡ true → below_all nat_cmp n (filter (λ place. is_some place.1) places) ≡ true
  kept-below n [] below = refl
  kept-below n ((id, None) ∷ places) below = kept-below n places (and_second _ _ below)
  kept-below n ((id, Some row) ∷ places) below = and_both _ _ (and_first _ _ below) (kept-below n places (and_second _ _ below))

  pub kept-rising : (places : ById (Option A)) → AreRising places → AreRising (filter (λ place. is_some place.1) places)
  kept-rising [] rising = refl
  kept-rising ((id, None) ∷ places) rising = kept-rising places (and_second _ _ rising)
  kept-rising ((id, Some row) ∷ places) rising = and_both _ _ (kept-below id places (and_first _ _ rising)) (kept-rising places (and_second _ _ rising))

  pub kept-in : (places : ById (Option A)) → rows_in (filter (λ place. is_some place.1) places) ≡ rows_in places
  kept-in [] = refl
  kept-in ((id, None) ∷ places) = kept-in places
  kept-in ((id, Some row) ∷ places) = ap (λ rows. (id, row) ∷ rows) (kept-in places)

  -- ---- a place behind the others

  -- a place with an id that is above all others
  abbrev pub IsBehind : ℕ → ById (Option A) → Type 0
  IsBehind id places = AllByRecursion (λ (place : ℕ × Option A). nat_cmp place.0 id ≡ Less) places

  pub behind-last : (id : ℕ) (places : ById (Option A)) (last : ℕ × Option A) → AreRising places → slice_get places (length places - 1) ≡ Some last → last.0 < id → IsBehind id places
  behind-last id [] last rising is above = tt
  behind-last id (place ∷ []) last rising is above = (subst (λ (p : ℕ × Option A). nat_cmp p.0 id ≡ Less) (sym (same-some place last is)) (grind (arith, nat_tests)), tt)
    where
      same-some : (a b : ℕ × Option A) → Some a ≡ Some b → a ≡ b
      same-some a b e = cc
  behind-last id (place ∷ next ∷ places) last rising is above =
      let later : slice_get (next ∷ places) (length (next ∷ places) - 1) ≡ Some last = simp unary_clauses (simp unary_clauses at is) in
      let rest = behind-last id (next ∷ places) last (and_second _ _ rising) later above in
      (nat_cmp_total.trans place.0 next.0 id (is_lt-Less _ (and_first _ _ (and_first _ _ rising))) rest.0, rest)

  pushed-below : (n id : ℕ) (row : Option A) (places : ById (Option A)) → nat_cmp n id ≡ Less → below_all nat_cmp n places ≡ true → below_all nat_cmp n (places ++ (id, row) ∷ []) ≡ true
  pushed-below n id row [] less below = and_both _ _ (ap is_lt less) refl
  pushed-below n id row (place ∷ places) less below = and_both _ _ (and_first _ _ below) (pushed-below n id row places less (and_second _ _ below))

  pub pushed-rising : (id : ℕ) (row : Option A) (places : ById (Option A)) → AreRising places → IsBehind id places → AreRising (places ++ (id, row) ∷ [])
  pushed-rising id row [] rising behind = refl
  pushed-rising id row (place ∷ places) rising behind = and_both _ _ (pushed-below place.0 id row places behind.0 (and_first _ _ rising)) (pushed-rising id row places (and_second _ _ rising) behind.1)

  -- ---- a walk over the places

  pub left-empty : (places : ById (Option A)) (i : ℕ) (place : ℕ × Option A) → i < length places → place ≡ get_or places i place → place.1 ≡ None → rows_in (drop i places) ≡ rows_in (drop (i + 1) places)
  left-empty places i place within is empty =
      rw (add-one, drop-cons places i place within, ← is) (ap (λ (o : Option A). rows_in ((place.0, o) ∷ drop (suc i) places)) empty)

  pub left-row : (places : ById (Option A)) (i : ℕ) (place : ℕ × Option A) (row : A) → i < length places → place ≡ get_or places i place → place.1 ≡ Some row → rows_in (drop i places) ≡ (place.0, row) ∷ rows_in (drop (i + 1) places)
  left-row places i place row within is stands =
      rw (add-one, drop-cons places i place within, ← is) (ap (λ (o : Option A). rows_in ((place.0, o) ∷ drop (suc i) places)) stands)

  pub left-done : (places : ById (Option A)) (i : ℕ) → length places ≤ i → rows_in (drop i places) ≡ []
  left-done places i past = ap rows_in (drop_all i places past)

  -- and from the last on

  pub last-empty : (places front : ById (Option A)) (place : ℕ × Option A) → places ≡ front ++ place ∷ [] → place.1 ≡ None → rows_in places ≡ rows_in front
  last-empty places front place is empty = rw is (ap (λ (o : Option A). rows_in (front ++ (place.0, o) ∷ [])) empty ∙ none-behind place.0 front)
    where
      none-behind : (id : ℕ) (front : ById (Option A)) → rows_in (front ++ (id, None) ∷ []) ≡ rows_in front
      none-behind id [] = refl
      none-behind id ((n, None) ∷ front) = none-behind id front
      none-behind id ((n, Some row) ∷ front) = ap (λ rows. (n, row) ∷ rows) (none-behind id front)

  pub last-row : (places front : ById (Option A)) (place : ℕ × Option A) (row : A) → places ≡ front ++ place ∷ [] → place.1 ≡ Some row → rows_in places ≡ rows_in front ++ (place.0, row) ∷ []
  last-row places front place row is stands = rw is (ap (λ (o : Option A). rows_in (front ++ (place.0, o) ∷ [])) stands ∙ pushed-in place.0 row front)

  pub none-left : (places : ById (Option A)) → length places ≡ 0 → rows_in places ≡ []
  none-left [] none_ = refl
  none-left (place ∷ places) none_ = absurd (omega (arith, none_))
