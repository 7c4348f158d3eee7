-- What holds after a change of a simple row, from what held before it.
use Rattle.std.proofs.Common.{◌≡◌, ℕ, ◌<◌, Bool, true, not, List, length, get_or, set, map, Option, Some, None, ap, sym, ◌∙◌, subst}
use Rattle.std.specs.List.{remove, insert}
use Rattle.std.specs.Cmp.{IsTotalOrder}
use Rattle.std.specs.declared.cmp.Ordering.{Ordering}
use Rattle.std.specs.FinMap.Entries.{put, is_sorted, is_sorted-put, is_sorted-where_key}
use Rattle.zt_ordered.specs.Test.{T-from, T-to}
use Rattle.zt_ordered.specs.Rows.{same, without}
use Rattle.zt_locals.specs.Laws.{InfoLaws}
use Rattle.zt_locals.specs.declared.rows.SimpleRow.{SimpleRow}
use Rattle.zt_locals.specs.declared.rows.AggregatedRow.{AggregatedRow}
use Rattle.zt_locals.specs.declared.rows.LocalResourceInsertResult.{LocalResourceInsertResult}
use Rattle.zt_locals.specs.declared.rows.LocalResourceRemoveResult.{LocalResourceRemoveResult}
use Rattle.zt_locals.specs.Folding.{aggregate_of, refreshed, AreFolds, info_after, with_infos}
use Rattle.zt_locals.specs.Resources.{IsSound, insert_results, remove_results}
use Rattle.zt_locals.specs.Results.{beside, insert_result, remove_result, with_told, with_untold}
use Rattle.zt_locals.proofs.Folds.{map_folds, info_come, info_gone, info_replaced, refreshed_folds, sorted_refreshed, with_infos_map}
use Rattle.zt_locals.proofs.Told.{beside_map}

module _ {Id Res Info : Type 0} (cmp : Res → Res → Ordering) (matching : Res → Res → Bool) (eq : Info → Info → Bool) (aggregate : Option Info → Res → Info → Res → Info) where
  -- the aggregated rows with infos that are those from scratch
  pub refreshed_by : (f : Res × AggregatedRow Id Info → Option Info) (simple : List (Res × SimpleRow Id Info)) (rows after : List (Res × AggregatedRow Id Info))
      → map f rows ≡ map (λ row. aggregate_of matching aggregate row.0 simple) rows → after ≡ with_infos rows (map f rows) → after ≡ refreshed matching aggregate simple rows
  refreshed_by f simple rows after infos is = is ∙ ap (with_infos rows) infos ∙ with_infos_map (λ row. aggregate_of matching aggregate row.0 simple) rows

  pub sound_after : (simple : List (Res × SimpleRow Id Info)) (rows after : List (Res × AggregatedRow Id Info))
      → is_sorted cmp simple ≡ true → is_sorted cmp rows ≡ true → after ≡ refreshed matching aggregate simple rows → IsSound cmp matching aggregate simple after
  sound_after simple rows after s a is = record {
    simple_in_order = s;
    aggregated_in_order = ap (is_sorted cmp) is ∙ sorted_refreshed matching aggregate cmp simple rows ∙ a;
    folds = subst (λ l. AreFolds matching aggregate simple l) (sym is) (refreshed_folds matching aggregate simple rows);
  }

  pub insert_told : (f : Res × AggregatedRow Id Info → Option Info) (simple : List (Res × SimpleRow Id Info)) (rows : List (Res × AggregatedRow Id Info)) (id : Id) (info : Info) (told : Option Res) (results : List (LocalResourceInsertResult Id Res Info))
      → map f rows ≡ map (λ row. aggregate_of matching aggregate row.0 simple) rows → results ≡ with_told cmp id info told (beside (insert_result eq) rows (map f rows)) → results ≡ insert_results cmp matching eq aggregate id info told simple rows
  unfolding insert_results
  insert_told f simple rows id info told results infos is =
      is ∙ ap (with_told cmp id info told) (ap (beside (insert_result eq) rows) infos ∙ beside_map (insert_result eq) (λ row. aggregate_of matching aggregate row.0 simple) rows)

  pub remove_told : (f : Res × AggregatedRow Id Info → Option Info) (simple : List (Res × SimpleRow Id Info)) (rows : List (Res × AggregatedRow Id Info)) (id : Id) (told : Option Res) (results : List (LocalResourceRemoveResult Id Res Info))
      → map f rows ≡ map (λ row. aggregate_of matching aggregate row.0 simple) rows → results ≡ with_untold cmp id told (beside (remove_result eq) rows (map f rows)) → results ≡ remove_results cmp matching eq aggregate id told simple rows
  unfolding remove_results
  remove_told f simple rows id told results infos is =
      is ∙ ap (with_untold cmp id told) (ap (beside (remove_result eq) rows) infos ∙ beside_map (remove_result eq) (λ row. aggregate_of matching aggregate row.0 simple) rows)

  -- all that a call's contract says of the rows after it
  pub record After (simple simple' : List (Res × SimpleRow Id Info)) (rows rows' : List (Res × AggregatedRow Id Info)) (infos : List (Option Info)) : Type 0 where
    pub fresh : rows' ≡ refreshed matching aggregate simple' rows
    pub from_scratch : infos ≡ map (λ row. aggregate_of matching aggregate row.0 simple') rows
    pub sound : IsSound cmp matching aggregate simple' rows'

  after_by : (f : Res × AggregatedRow Id Info → Option Info) (simple simple' : List (Res × SimpleRow Id Info)) (rows rows' : List (Res × AggregatedRow Id Info)) → IsSound cmp matching aggregate simple rows
      → ((row : Res × AggregatedRow Id Info) → row.1.info ≡ aggregate_of matching aggregate row.0 simple → f row ≡ aggregate_of matching aggregate row.0 simple')
      → is_sorted cmp simple' ≡ true → rows' ≡ with_infos rows (map f rows) → After simple simple' rows rows' (map f rows)
  after_by f simple simple' rows rows' s each sorted is =
      let infos = map_folds matching aggregate f (λ row. aggregate_of matching aggregate row.0 simple') simple rows each s.folds in
      let fresh = refreshed_by f simple' rows rows' infos is in
      record { fresh = fresh; from_scratch = infos; sound = sound_after simple' rows rows' sorted s.aggregated_in_order fresh }

  module _ (o : IsTotalOrder cmp) (laws : InfoLaws aggregate) where
    pub after_come : (key : Res) (come : SimpleRow Id Info) (at : ℕ) (simple simple' : List (Res × SimpleRow Id Info)) (rows rows' : List (Res × AggregatedRow Id Info)) → IsSound cmp matching aggregate simple rows
        → simple' ≡ insert simple at (key, come) → simple' ≡ put cmp key come simple → rows' ≡ with_infos rows (map (info_after matching aggregate simple None key (Some come.info)) rows)
        → After simple simple' rows rows' (map (info_after matching aggregate simple None key (Some come.info)) rows)
    after_come key come at simple simple' rows rows' s is is_put now =
        after_by (info_after matching aggregate simple None key (Some come.info)) simple simple' rows rows' s
        (λ row h. info_come matching aggregate laws simple at key come row h ∙ ap (aggregate_of matching aggregate row.0) (sym is))
        (ap (is_sorted cmp) is_put ∙ T-to _ (is_sorted-put cmp o key come simple (T-from _ s.simple_in_order))) now

    pub after_replaced : (key : Res) (gone : Res × SimpleRow Id Info) (come : SimpleRow Id Info) (at : ℕ) (simple simple' : List (Res × SimpleRow Id Info)) (rows rows' : List (Res × AggregatedRow Id Info)) → IsSound cmp matching aggregate simple rows
        → at < length simple → gone ≡ get_or simple at gone → key ≡ gone.0
        → simple' ≡ set simple at (gone.0, come) → simple' ≡ put cmp key come simple → rows' ≡ with_infos rows (map (info_after matching aggregate simple (Some at) key (Some come.info)) rows)
        → After simple simple' rows rows' (map (info_after matching aggregate simple (Some at) key (Some come.info)) rows)
    after_replaced key gone come at simple simple' rows rows' s lt there tied is is_put now =
        after_by (info_after matching aggregate simple (Some at) key (Some come.info)) simple simple' rows rows' s
        (λ row h. ap (λ k. info_after matching aggregate simple (Some at) k (Some come.info) row) tied ∙ info_replaced matching aggregate laws simple at gone come row lt there h ∙ ap (aggregate_of matching aggregate row.0) (sym is))
        (ap (is_sorted cmp) is_put ∙ T-to _ (is_sorted-put cmp o key come simple (T-from _ s.simple_in_order))) now

    pub after_gone : (key : Res) (gone : Res × SimpleRow Id Info) (at : ℕ) (simple simple' : List (Res × SimpleRow Id Info)) (rows rows' : List (Res × AggregatedRow Id Info)) → IsSound cmp matching aggregate simple rows
        → at < length simple → gone ≡ get_or simple at gone → key ≡ gone.0
        → simple' ≡ remove simple at → simple' ≡ without cmp key simple → rows' ≡ with_infos rows (map (info_after matching aggregate simple (Some at) key None) rows)
        → After simple simple' rows rows' (map (info_after matching aggregate simple (Some at) key None) rows)
    after_gone key gone at simple simple' rows rows' s lt there tied is is_without now =
        after_by (info_after matching aggregate simple (Some at) key None) simple simple' rows rows' s
        (λ row h. ap (λ k. info_after matching aggregate simple (Some at) k None row) tied ∙ info_gone matching aggregate laws simple at gone row lt there h ∙ ap (aggregate_of matching aggregate row.0) (sym is))
        (ap (is_sorted cmp) is_without ∙ T-to _ (is_sorted-where_key cmp (λ k. not (same cmp key k)) simple (T-from _ s.simple_in_order))) now
