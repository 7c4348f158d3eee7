-- The infos of aggregated rows, as the code finds them, are those from scratch.
use Rattle.std.proofs.Common.{◌≡◌, ℕ, suc, ◌+◌, ◌-◌, ◌<◌, Bool, false, List, [], ◌∷◌, ◌++◌, length, get_or, set, take, drop, map, Option, Some, None, refl, ap, ap₂, sym, ◌∙◌, add-one}
use Rattle.std.specs.List.{remove, insert, filter}
use Rattle.std.proofs.lemmas.List.{take-append-drop, take_rest}
use Rattle.std.specs.declared.cmp.Ordering.{Ordering}
use Rattle.std.specs.FinMap.Entries.{is_sorted, below_all}
use Rattle.zt_ordered.specs.Test.{by_test}
use Rattle.zt_locals.proofs.Items.{split_at, set_at}
use Rattle.zt_locals.specs.Laws.{InfoLaws}
use Rattle.zt_locals.specs.declared.rows.SimpleRow.{SimpleRow}
use Rattle.zt_locals.specs.declared.rows.AggregatedRow.{AggregatedRow}
use Rattle.zt_locals.specs.Folding.{folded, info_of, with_row_info, aggregate_of, refreshed, AreFolds, taken_in, fold_from, info_after, with_infos}

module _ {Res Info : Type 0} (matching : Res → Res → Bool) (aggregate : Option Info → Res → Info → Res → Info) (laws : InfoLaws aggregate) where
  swap : (into : Res) (had : Option Info) (k : Res) (x : Info) (l : Res) (y : Info) → taken_in matching aggregate into (taken_in matching aggregate into had k x) l y ≡ taken_in matching aggregate into (taken_in matching aggregate into had l y) k x
  swap into had k x l y =
      by_test (matching into k)
      (λ p. by_test (matching into l)
      (λ q. rw (p, q) (ap (λ i. Some i) (laws.any_order had into x k y l)))
      (λ q. rw (p, q) refl))
      (λ p. by_test (matching into l)
      (λ q. rw (p, q) refl)
      (λ q. rw (p, q) refl))

module _ {Id Res Info : Type 0} (matching : Res → Res → Bool) (aggregate : Option Info → Res → Info → Res → Info) where
  fold_is : (into : Res) (had : Option Info) (rows : List (Res × SimpleRow Id Info)) → folded aggregate into had (map info_of (filter (λ row. matching into row.0) rows)) ≡ fold_from matching aggregate into had rows
  fold_is into had [] = refl
  fold_is into had (row ∷ rows) =
      by_test (matching into row.0)
      (λ m. rw m (fold_is into (Some (aggregate had into row.1.info row.0)) rows))
      (λ m. rw m (fold_is into had rows))

  pub aggregate_is : (into : Res) (rows : List (Res × SimpleRow Id Info)) → aggregate_of matching aggregate into rows ≡ fold_from matching aggregate into None rows
  unfolding aggregate_of
  aggregate_is into rows = fold_is into None rows

  pub fold_append : (into : Res) (had : Option Info) (xs ys : List (Res × SimpleRow Id Info)) → fold_from matching aggregate into had (xs ++ ys) ≡ fold_from matching aggregate into (fold_from matching aggregate into had xs) ys
  fold_append into had [] ys = refl
  fold_append into had (x ∷ xs) ys = fold_append into (taken_in matching aggregate into had x.0 x.1.info) xs ys

  -- the fold over the rows before a place, and then over those behind it
  pub fold_others : (into : Res) (rows : List (Res × SimpleRow Id Info)) (i : ℕ) (front all : Option Info) → front ≡ fold_from matching aggregate into None (take i rows)
      → all ≡ fold_from matching aggregate into front (take (length rows - (i + 1)) (drop (i + 1) rows)) → all ≡ fold_from matching aggregate into None (remove rows i)
  fold_others into rows i front all first rest =
      rest
      ∙ ap (fold_from matching aggregate into front) (take_rest rows (i + 1))
      ∙ ap₂ (λ (h : Option Info) (j : ℕ). fold_from matching aggregate into h (drop j rows)) first (add-one i)
      ∙ sym (fold_append into None (take i rows) (drop (suc i) rows))

  module _ (laws : InfoLaws aggregate) where
    -- an info that is taken in first may be taken in last
    fold_last : (into : Res) (had : Option Info) (k : Res) (x : Info) (rows : List (Res × SimpleRow Id Info)) → fold_from matching aggregate into (taken_in matching aggregate into had k x) rows ≡ taken_in matching aggregate into (fold_from matching aggregate into had rows) k x
    fold_last into had k x [] = refl
    fold_last into had k x (row ∷ rows) =
        ap (λ h. fold_from matching aggregate into h rows) (swap matching aggregate laws into had k x row.0 row.1.info) ∙ fold_last into (taken_in matching aggregate into had row.0 row.1.info) k x rows

    -- a row among others counts as one that comes last
    pub fold_amid : (into : Res) (key : Res) (row : SimpleRow Id Info) (xs ys : List (Res × SimpleRow Id Info)) → aggregate_of matching aggregate into (xs ++ (key, row) ∷ ys) ≡ taken_in matching aggregate into (fold_from matching aggregate into None (xs ++ ys)) key row.info
    fold_amid into key row xs ys =
        aggregate_is into (xs ++ (key, row) ∷ ys)
        ∙ fold_append into None xs ((key, row) ∷ ys)
        ∙ fold_last into (fold_from matching aggregate into None xs) key row.info ys
        ∙ ap (λ h. taken_in matching aggregate into h key row.info) (sym (fold_append into None xs ys))

    -- a new simple row
    pub info_come : (simple : List (Res × SimpleRow Id Info)) (place : ℕ) (key : Res) (come : SimpleRow Id Info) (row : Res × AggregatedRow Id Info)
        → row.1.info ≡ aggregate_of matching aggregate row.0 simple → info_after matching aggregate simple None key (Some come.info) row ≡ aggregate_of matching aggregate row.0 (insert simple place (key, come))
    info_come simple place key come row is =
        ap (λ h. taken_in matching aggregate row.0 h key come.info) (is ∙ aggregate_is row.0 simple ∙ ap (fold_from matching aggregate row.0 None) (sym (take-append-drop place simple)))
        ∙ sym (fold_amid row.0 key come (take place simple) (drop place simple))

    -- what a row has that doesn't match the simple row at a place
    alone : (simple : List (Res × SimpleRow Id Info)) (place : ℕ) (gone : Res × SimpleRow Id Info) (row : Res × AggregatedRow Id Info)
        → place < length simple → gone ≡ get_or simple place gone → row.1.info ≡ aggregate_of matching aggregate row.0 simple → matching row.0 gone.0 ≡ false → row.1.info ≡ fold_from matching aggregate row.0 None (remove simple place)
    alone simple place gone row lt at is apart =
        is ∙ ap (aggregate_of matching aggregate row.0) (split_at simple place gone lt at) ∙ fold_amid row.0 gone.0 gone.1 (take place simple) (drop (suc place) simple) ∙ rw apart refl

    -- a simple row that goes
    pub info_gone : (simple : List (Res × SimpleRow Id Info)) (place : ℕ) (gone : Res × SimpleRow Id Info) (row : Res × AggregatedRow Id Info)
        → place < length simple → gone ≡ get_or simple place gone → row.1.info ≡ aggregate_of matching aggregate row.0 simple
        → info_after matching aggregate simple (Some place) gone.0 None row ≡ aggregate_of matching aggregate row.0 (remove simple place)
    info_gone simple place gone row lt at is =
        by_test (matching row.0 gone.0)
        (λ m. rw m refl)
        (λ m. rw m (alone simple place gone row lt at is m))
        ∙ sym (aggregate_is row.0 (remove simple place))

    -- a simple row in the place of another
    pub info_replaced : (simple : List (Res × SimpleRow Id Info)) (place : ℕ) (gone : Res × SimpleRow Id Info) (come : SimpleRow Id Info) (row : Res × AggregatedRow Id Info)
        → place < length simple → gone ≡ get_or simple place gone → row.1.info ≡ aggregate_of matching aggregate row.0 simple
        → info_after matching aggregate simple (Some place) gone.0 (Some come.info) row ≡ aggregate_of matching aggregate row.0 (set simple place (gone.0, come))
    info_replaced simple place gone come row lt at is =
        by_test (matching row.0 gone.0)
        (λ m. rw m refl)
        (λ m. rw m (alone simple place gone row lt at is m))
        ∙ sym (fold_amid row.0 gone.0 come (take place simple) (drop (suc place) simple))
        ∙ ap (aggregate_of matching aggregate row.0) (sym (set_at simple place (gone.0, come) lt))

  -- rows whose infos are folds
  pub map_folds : {A : Type 0} (f h : Res × AggregatedRow Id Info → A) (simple : List (Res × SimpleRow Id Info)) (rows : List (Res × AggregatedRow Id Info))
      → ((row : Res × AggregatedRow Id Info) → row.1.info ≡ aggregate_of matching aggregate row.0 simple → f row ≡ h row) → AreFolds matching aggregate simple rows → map f rows ≡ map h rows
  map_folds f h simple [] same are = refl
  map_folds f h simple (row ∷ rows) same are = ap₂ (λ x xs. x ∷ xs) (same row are.0) (map_folds f h simple rows same are.1)

  pub refreshed_folds : (simple : List (Res × SimpleRow Id Info)) (rows : List (Res × AggregatedRow Id Info)) → AreFolds matching aggregate simple (refreshed matching aggregate simple rows)
  refreshed_folds simple [] = tt
  refreshed_folds simple (row ∷ rows) = (refl, refreshed_folds simple rows)

  -- fresh infos are those that are there
  pub refreshed_same : (simple : List (Res × SimpleRow Id Info)) (rows : List (Res × AggregatedRow Id Info)) → AreFolds matching aggregate simple rows → rows ≡ refreshed matching aggregate simple rows
  refreshed_same simple [] are = refl
  refreshed_same simple (row ∷ rows) are = ap₂ (λ (info : Option Info) (l : List (Res × AggregatedRow Id Info)). with_row_info row info ∷ l) are.0 (refreshed_same simple rows are.1)

  -- a fresh info leaves the keys in order
  below_refreshed : (cmp : Res → Res → Ordering) (key : Res) (simple : List (Res × SimpleRow Id Info)) (rows : List (Res × AggregatedRow Id Info)) → below_all cmp key (refreshed matching aggregate simple rows) ≡ below_all cmp key rows
  below_refreshed cmp key simple [] = refl
  below_refreshed cmp key simple (row ∷ rows) = rw (below_refreshed cmp key simple rows) refl

  pub sorted_refreshed : (cmp : Res → Res → Ordering) (simple : List (Res × SimpleRow Id Info)) (rows : List (Res × AggregatedRow Id Info)) → is_sorted cmp (refreshed matching aggregate simple rows) ≡ is_sorted cmp rows
  sorted_refreshed cmp simple [] = refl
  sorted_refreshed cmp simple (row ∷ rows) = rw (below_refreshed cmp row.0 simple rows, sorted_refreshed cmp simple rows) refl

pub with_infos_map : {Id Res Info : Type 0} (f : Res × AggregatedRow Id Info → Option Info) (rows : List (Res × AggregatedRow Id Info)) → with_infos rows (map f rows) ≡ map (λ row. with_row_info row (f row)) rows
with_infos_map f [] = refl
with_infos_map f (row ∷ rows) = ap (λ l. with_row_info row (f row) ∷ l) (with_infos_map f rows)
