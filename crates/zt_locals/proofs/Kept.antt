-- What stays where rows go that no aggregated row has taken in.
use Rattle.std.proofs.Common.{◌≡◌, ℕ, suc, zero, ◌<◌, arith, Bool, true, false, ◌||◌, List, [], ◌∷◌, ◌++◌, length, get_or, set, take, drop, map, Option, None, refl, sym, ◌∙◌, subst}
use Rattle.std.specs.Prelude.{filter}
use Rattle.std.specs.List.{remove, insert}
use Rattle.std.specs.declared.cmp.Ordering.{Ordering}
use Rattle.std.specs.FinMap.Entries.{is_sorted, below_all}
use Rattle.zt_ordered.specs.Test.{by_test, and_both, and_first, and_second}
use Rattle.zt_locals.specs.declared.rows.SimpleRow.{SimpleRow}
use Rattle.zt_locals.specs.declared.rows.AggregatedRow.{AggregatedRow}
use Rattle.zt_locals.specs.Ending.{belongs, unasked}
use Rattle.zt_locals.specs.Folding.{taken_in, fold_from, aggregate_of, AreFolds}
use Rattle.zt_locals.specs.Resources.{aggregated_row}
use Rattle.zt_locals.proofs.Folds.{aggregate_is}
use Rattle.zt_locals.proofs.Items.{set_at}

or_first : (a b : Bool) → (a || b) ≡ false → a ≡ false
or_first true b h = cc
or_first false b h = refl

or_second : (a b : Bool) → (a || b) ≡ false → b ≡ false
or_second true b h = cc
or_second false b h = h

-- ---- rows in order
module _ {P X : Type 0} (cmp : P → P → Ordering) (p : P × X → Bool) where
  below_filter : (key : P) (rows : List (P × X)) → below_all cmp key rows ≡ true → below_all cmp key (filter p rows) ≡ true
  below_filter key [] h = refl
  below_filter key (row ∷ rows) h =
      let rest = below_filter key rows (and_second _ _ h) in
      by_test (p row) (λ kept. rw kept (and_both _ _ (and_first _ _ h) rest)) (λ gone. rw gone rest)

  pub sorted_filter : (rows : List (P × X)) → is_sorted cmp rows ≡ true → is_sorted cmp (filter p rows) ≡ true
  sorted_filter [] s = refl
  sorted_filter (row ∷ rows) s =
      let rest = sorted_filter rows (and_second _ _ s) in
      by_test (p row) (λ kept. rw kept (and_both _ _ (below_filter row.0 rows (and_first _ _ s)) rest)) (λ gone. rw gone rest)

module _ {Id Res Info : Type 0} where
  below_unasked : (cmp : Res → Res → Ordering) (id : ℕ) (key : Res) (rows : List (Res × SimpleRow Id Info)) → below_all cmp key (map (unasked id) rows) ≡ below_all cmp key rows
  below_unasked cmp id key [] = refl
  below_unasked cmp id key (row ∷ rows) = rw (below_unasked cmp id key rows) refl

  pub sorted_unasked : (cmp : Res → Res → Ordering) (id : ℕ) (rows : List (Res × SimpleRow Id Info)) → is_sorted cmp (map (unasked id) rows) ≡ is_sorted cmp rows
  sorted_unasked cmp id [] = refl
  sorted_unasked cmp id (row ∷ rows) = rw (below_unasked cmp id row.0 rows, sorted_unasked cmp id rows) refl

-- ---- folds
module _ {Id Res Info : Type 0} (matching : Res → Res → Bool) (aggregate : Option Info → Res → Info → Res → Info) where
  kept_fold : (into : Res) (had : Option Info) (p : Res × SimpleRow Id Info → Bool) (rows : List (Res × SimpleRow Id Info)) → ((row : Res × SimpleRow Id Info) → p row ≡ false → matching into row.0 ≡ false)
      → fold_from matching aggregate into had (filter p rows) ≡ fold_from matching aggregate into had rows
  kept_fold into had p [] apart = refl
  kept_fold into had p (row ∷ rows) apart =
      by_test (p row)
      (λ kept. rw kept (kept_fold into (taken_in matching aggregate into had row.0 row.1.info) p rows apart))
      (λ gone. rw (gone, apart row gone) (kept_fold into had p rows apart))

  -- rows that go, and belong to no aggregated row
  pub folds_kept : (p : Res × SimpleRow Id Info → Bool) (simple : List (Res × SimpleRow Id Info)) (rows : List (Res × AggregatedRow Id Info)) → ((row : Res × SimpleRow Id Info) → p row ≡ false → belongs matching row.0 rows ≡ false)
      → AreFolds matching aggregate simple rows → AreFolds matching aggregate (filter p simple) rows
  folds_kept p simple [] apart are = tt
  folds_kept p simple (row ∷ rows) apart are = (
    are.0
        ∙ aggregate_is matching aggregate row.0 simple
        ∙ sym (kept_fold row.0 None p simple (λ r gone. or_first _ _ (apart r gone)))
        ∙ sym (aggregate_is matching aggregate row.0 (filter p simple)),
    folds_kept p simple rows (λ r gone. or_second _ _ (apart r gone)) are.1,
  )

  unasked_fold : (id : ℕ) (into : Res) (had : Option Info) (rows : List (Res × SimpleRow Id Info)) → fold_from matching aggregate into had (map (unasked id) rows) ≡ fold_from matching aggregate into had rows
  unasked_fold id into had [] = refl
  unasked_fold id into had (row ∷ rows) = unasked_fold id into (taken_in matching aggregate into had row.0 row.1.info) rows

  -- rows that lose an interest
  pub folds_unasked : (id : ℕ) (simple : List (Res × SimpleRow Id Info)) (rows : List (Res × AggregatedRow Id Info)) → AreFolds matching aggregate simple rows → AreFolds matching aggregate (map (unasked id) simple) rows
  folds_unasked id simple [] are = tt
  folds_unasked id simple (row ∷ rows) are =
      (are.0 ∙ aggregate_is matching aggregate row.0 simple ∙ sym (unasked_fold id row.0 None simple) ∙ sym (aggregate_is matching aggregate row.0 (map (unasked id) simple)), folds_unasked id simple rows are.1)

  -- ---- a change among the aggregated rows
  folds_append : (simple : List (Res × SimpleRow Id Info)) (xs ys : List (Res × AggregatedRow Id Info)) → AreFolds matching aggregate simple xs → AreFolds matching aggregate simple ys → AreFolds matching aggregate simple (xs ++ ys)
  folds_append simple [] ys a b = b
  folds_append simple (x ∷ xs) ys a b = (a.0, folds_append simple xs ys a.1 b)

  folds_take : (simple : List (Res × SimpleRow Id Info)) (rows : List (Res × AggregatedRow Id Info)) (i : ℕ) → AreFolds matching aggregate simple rows → AreFolds matching aggregate simple (take i rows)
  folds_take simple rows zero are = tt
  folds_take simple [] (suc i) are = tt
  folds_take simple (row ∷ rows) (suc i) are = (are.0, folds_take simple rows i are.1)

  folds_drop : (simple : List (Res × SimpleRow Id Info)) (rows : List (Res × AggregatedRow Id Info)) (i : ℕ) → AreFolds matching aggregate simple rows → AreFolds matching aggregate simple (drop i rows)
  folds_drop simple rows zero are = are
  folds_drop simple [] (suc i) are = tt
  folds_drop simple (row ∷ rows) (suc i) are = folds_drop simple rows i are.1

  pub folds_at : (simple : List (Res × SimpleRow Id Info)) (rows : List (Res × AggregatedRow Id Info)) (i : ℕ) (row : Res × AggregatedRow Id Info) → i < length rows → row ≡ get_or rows i row → AreFolds matching aggregate simple rows
      → row.1.info ≡ aggregate_of matching aggregate row.0 simple
  folds_at simple [] i row lt at are = absurd (omega arith)
  folds_at simple (x ∷ rows) zero row lt at are = subst (λ (r : Res × AggregatedRow Id Info). r.1.info ≡ aggregate_of matching aggregate r.0 simple) (sym at) are.0
  folds_at simple (x ∷ rows) (suc i) row lt at are = folds_at simple rows i row (omega arith) at are.1

  -- a new row
  pub folds_insert : (simple : List (Res × SimpleRow Id Info)) (rows : List (Res × AggregatedRow Id Info)) (i : ℕ) (key : Res) (row : AggregatedRow Id Info) → row.info ≡ aggregate_of matching aggregate key simple → AreFolds matching aggregate simple rows
      → AreFolds matching aggregate simple (insert rows i (key, row))
  folds_insert simple rows i key row is are = folds_append simple (take i rows) ((key, row) ∷ drop i rows) (folds_take simple rows i are) (is, folds_drop simple rows i are)

  -- a row less
  pub folds_remove : (simple : List (Res × SimpleRow Id Info)) (rows : List (Res × AggregatedRow Id Info)) (i : ℕ) → AreFolds matching aggregate simple rows → AreFolds matching aggregate simple (remove rows i)
  folds_remove simple rows i are = folds_append simple (take i rows) (drop (suc i) rows) (folds_take simple rows i are) (folds_drop simple rows (suc i) are)

  -- other interests of a row
  pub folds_set : (simple : List (Res × SimpleRow Id Info)) (rows : List (Res × AggregatedRow Id Info)) (i : ℕ) (row : Res × AggregatedRow Id Info) (id : Id) (ids : List ℕ) → i < length rows → row ≡ get_or rows i row → AreFolds matching aggregate simple rows
      → AreFolds matching aggregate simple (set rows i (row.0, aggregated_row id row.1.info ids))
  folds_set simple rows i row id ids lt at are =
      subst (λ l. AreFolds matching aggregate simple l) (sym (set_at rows i (row.0, aggregated_row id row.1.info ids) lt))
      (folds_append simple (take i rows) ((row.0, aggregated_row id row.1.info ids) ∷ drop (suc i) rows) (folds_take simple rows i are) (folds_at simple rows i row lt at are, folds_drop simple rows (suc i) are))
