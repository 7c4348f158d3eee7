-- The ways of the insertion of an aggregated resource, and of the end of an interest, from what the parts give to what the rules
-- say.
use Rattle.std.proofs.Common.{◌≡◌, ℕ, Bool, true, false, not, ◌&&◌, List, [], get_or, set, Option, None, Ok, Err, is_some, refl, ap, sym, ◌∙◌, subst}
use Rattle.std.specs.Prelude.{filter}
use Rattle.std.specs.List.{remove, insert}
use Rattle.std.specs.Cmp.{IsTotalOrder}
use Rattle.std.specs.declared.cmp.Ordering.{Ordering}
use Rattle.std.specs.FinMap.Entries.{put, find, is_sorted, is_sorted-put, is_sorted-where_key}
use Rattle.zt_ordered.specs.Test.{T-from, T-to}
use Rattle.zt_ordered.specs.Placing.{place-in_range, find-gap, put-gap, set-place, without-place}
use Rattle.zt_ordered.specs.Rows.{place, same, without}
use Rattle.zt_locals.specs.declared.rows.SimpleRow.{SimpleRow}
use Rattle.zt_locals.specs.declared.rows.AggregatedRow.{AggregatedRow}
use Rattle.zt_locals.specs.Ending.{belongs, goes_with, is_unheld, unasked_rows, ending, aggregated_after, simple_after}
use Rattle.zt_locals.specs.Folding.{AreFolds, aggregate_of, fold_from}
use Rattle.zt_locals.specs.Interests.{has_none, has_interest, is_only, joined, without_interest}
use Rattle.zt_locals.specs.Laws.{ResourceLaws}
use Rattle.zt_locals.specs.Resources.{IsSound, aggregated_interests_of, aggregated_row}
use Rattle.zt_locals.proofs.Folds.{aggregate_is}
use Rattle.zt_locals.proofs.Kept.{sorted_filter, sorted_unasked, folds_kept, folds_unasked, folds_at, folds_insert, folds_remove, folds_set}
use Rattle.zt_locals.proofs.Placing.{found_row, find_at}

-- a row goes only where it belongs to no aggregated row
unheld_apart : (a b : Bool) → not (a && not b) ≡ false → b ≡ false
unheld_apart true true h = cc
unheld_apart true false h = refl
unheld_apart false b h = cc

and_right : (a b : Bool) → a ≡ true → (a && b) ≡ b
and_right true b h = refl
and_right false b h = cc

module _ {Id Res Info : Type 0} (cmp : Res → Res → Ordering) (matching : Res → Res → Bool) (aggregate : Option Info → Res → Info → Res → Info) where
  -- a simple interest ended
  pub sound_unasked : (id : ℕ) (simple : List (Res × SimpleRow Id Info)) (rows : List (Res × AggregatedRow Id Info)) → IsSound cmp matching aggregate simple rows → IsSound cmp matching aggregate (unasked_rows matching id rows simple) rows
  sound_unasked id simple rows s =
      let stays = λ (row : Res × SimpleRow Id Info). not (goes_with matching id rows row) in
      record {
        simple_in_order = sorted_unasked cmp id (filter stays simple) ∙ sorted_filter cmp stays simple s.simple_in_order;
        aggregated_in_order = s.aggregated_in_order;
        folds = folds_unasked matching aggregate id (filter stays simple) rows (folds_kept matching aggregate stays simple rows (λ row gone. unheld_apart (is_only id row.1.interests) (belongs matching row.0 rows) gone) s.folds);
      }

  -- what the insertion of an aggregated resource gives
  pub record Joined (key : Res) (id : Id) (info : Option Info) (ids : List ℕ) (simple : List (Res × SimpleRow Id Info)) (rows rows' : List (Res × AggregatedRow Id Info)) : Type 0 where
    pub info_is : info ≡ aggregate_of matching aggregate key simple
    pub rows_are : rows' ≡ put cmp key (aggregated_row id info (joined (aggregated_interests_of (find cmp key rows)) ids)) rows
    pub sound : IsSound cmp matching aggregate simple rows'

  -- what the end of an interest in an aggregated resource gives
  pub record Ended (answer : Bool) (key : Res) (id : ℕ) (simple simple' : List (Res × SimpleRow Id Info)) (rows rows' : List (Res × AggregatedRow Id Info)) : Type 0 where
    pub answer_is : answer ≡ is_some (ending id (find cmp key rows))
    pub rows_are : rows' ≡ aggregated_after cmp key (ending id (find cmp key rows)) rows
    pub simple_are : simple' ≡ simple_after matching key (ending id (find cmp key rows)) rows' simple
    pub sound : IsSound cmp matching aggregate simple' rows'

  module _ (o : IsTotalOrder cmp) (same_key : ResourceLaws cmp matching) where
    sound_put : (key : Res) (row : AggregatedRow Id Info) (simple : List (Res × SimpleRow Id Info)) (rows : List (Res × AggregatedRow Id Info)) → IsSound cmp matching aggregate simple rows → is_sorted cmp (put cmp key row rows) ≡ true
    sound_put key row simple rows s = T-to _ (is_sorted-put cmp o key row rows (T-from _ s.aggregated_in_order))

    pub known_aggregate : (key : Res) (at : ℕ) (id : Id) (info : Option Info) (ids : List ℕ) (simple : List (Res × SimpleRow Id Info)) (rows rows' : List (Res × AggregatedRow Id Info)) → IsSound cmp matching aggregate simple rows → place cmp key rows ≡ Ok at
        → ((row : Res × AggregatedRow Id Info) → row ≡ get_or rows at row → info ≡ row.1.info)
        → ((row : Res × AggregatedRow Id Info) → row ≡ get_or rows at row → rows' ≡ set rows at (row.0, aggregated_row id info (joined row.1.interests ids)))
        → Joined key id info ids simple rows rows'
    known_aggregate key at id info ids simple rows rows' s is of_info of_rows =
        let f = found_row cmp o same_key.equal_is_same key rows at is in
        let row = f.0 in
        let there = f.1 in
        let found = f.2 in
        let lt = place-in_range cmp o key rows at is in
        let value = aggregated_row id info (joined row.1.interests ids) in
        let now = of_rows row there in
        let rows_put : rows' ≡ put cmp key value rows = now ∙ set-place cmp o key value rows at row is there in
        let kept = folds_set matching aggregate simple rows at row id (joined row.1.interests ids) lt there s.folds in
        record {
          info_is = of_info row there ∙ folds_at matching aggregate simple rows at row lt there s.folds ∙ ap (λ k. aggregate_of matching aggregate k simple) (sym f.3);
          rows_are = rw found rows_put;
          sound = record {
            simple_in_order = s.simple_in_order;
            aggregated_in_order = ap (is_sorted cmp) rows_put ∙ sound_put key value simple rows s;
            folds = subst (λ l. AreFolds matching aggregate simple l) (sym (now ∙ ap (λ i. set rows at (row.0, aggregated_row id i (joined row.1.interests ids))) (of_info row there))) kept;
          };
        }

    pub new_aggregate : (key : Res) (at : ℕ) (id : Id) (info : Option Info) (ids : List ℕ) (simple : List (Res × SimpleRow Id Info)) (rows rows' : List (Res × AggregatedRow Id Info)) → IsSound cmp matching aggregate simple rows → place cmp key rows ≡ Err at
        → info ≡ fold_from matching aggregate key None simple → rows' ≡ insert rows at (key, aggregated_row id info (joined [] ids)) → Joined key id info ids simple rows rows'
    new_aggregate key at id info ids simple rows rows' s is of_info now =
        let found = find-gap cmp o key rows at s.aggregated_in_order is in
        let value = aggregated_row id info (joined [] ids) in
        let rows_put : rows' ≡ put cmp key value rows = now ∙ sym (put-gap cmp o key value rows at is) in
        let scratch = of_info ∙ sym (aggregate_is matching aggregate key simple) in
        record {
          info_is = scratch;
          rows_are = rw found rows_put;
          sound = record {
            simple_in_order = s.simple_in_order;
            aggregated_in_order = ap (is_sorted cmp) rows_put ∙ sound_put key value simple rows s;
            folds = subst (λ l. AreFolds matching aggregate simple l) (sym now) (folds_insert matching aggregate simple rows at key value scratch s.folds);
          };
        }

    -- an interest that isn't there doesn't end
    pub not_asked : (key : Res) (at id : ℕ) (it : Res × AggregatedRow Id Info) (simple : List (Res × SimpleRow Id Info)) (rows : List (Res × AggregatedRow Id Info)) → IsSound cmp matching aggregate simple rows → place cmp key rows ≡ Ok at
        → it ≡ get_or rows at it → has_interest id it.1.interests ≡ false → Ended false key id simple simple rows rows
    not_asked key at id it simple rows s is there lacks =
        let found = find_at cmp o key rows at it is there in
        record {
          answer_is = rw (found, lacks) refl;
          rows_are = rw (found, lacks) refl;
          simple_are = rw (found, lacks) refl;
          sound = s;
        }

    -- one in a resource that isn't there doesn't either
    pub not_there : (key : Res) (at id : ℕ) (simple : List (Res × SimpleRow Id Info)) (rows : List (Res × AggregatedRow Id Info)) → IsSound cmp matching aggregate simple rows → place cmp key rows ≡ Err at → Ended false key id simple simple rows rows
    not_there key at id simple rows s is =
        let found = find-gap cmp o key rows at s.aggregated_in_order is in
        record {
          answer_is = rw found refl;
          rows_are = rw found refl;
          simple_are = rw found refl;
          sound = s;
        }

    -- the resource goes with its last interest
    pub goes : (key : Res) (at id : ℕ) (it : Res × AggregatedRow Id Info) (simple simple' : List (Res × SimpleRow Id Info)) (rows rows' : List (Res × AggregatedRow Id Info)) → IsSound cmp matching aggregate simple rows → place cmp key rows ≡ Ok at
        → it ≡ get_or rows at it → has_interest id it.1.interests ≡ true → is_only id it.1.interests ≡ true → rows' ≡ remove rows at → simple' ≡ filter (λ row. not (is_unheld matching key rows' row)) simple
        → Ended true key id simple simple' rows rows'
    goes key at id it simple simple' rows rows' s is there has only gone left =
        let found = find_at cmp o key rows at it is there in
        let last = sym (and_right (has_interest id it.1.interests) (has_none (without_interest id it.1.interests)) has) ∙ only in
        let rows_left : rows' ≡ without cmp key rows = gone ∙ sym (without-place cmp o key rows at s.aggregated_in_order is) in
        let stays = λ (row : Res × SimpleRow Id Info). not (is_unheld matching key rows' row) in
        let were = subst (λ l. AreFolds matching aggregate simple l) (sym gone) (folds_remove matching aggregate simple rows at s.folds) in
        record {
          answer_is = rw (found, has) refl;
          rows_are = rw (found, has, last) rows_left;
          simple_are = rw (found, has, last) left;
          sound = record {
            simple_in_order = ap (is_sorted cmp) left ∙ sorted_filter cmp stays simple s.simple_in_order;
            aggregated_in_order = ap (is_sorted cmp) rows_left ∙ T-to _ (is_sorted-where_key cmp (λ k. not (same cmp key k)) rows (T-from _ s.aggregated_in_order));
            folds = subst (λ l. AreFolds matching aggregate l rows') (sym left)
                (folds_kept matching aggregate stays simple rows' (λ row out. unheld_apart (matching key row.0 && has_none row.1.interests) (belongs matching row.0 rows') out) were);
          };
        }

    -- the resource stays with other interests
    pub stays : (key : Res) (at id : ℕ) (it : Res × AggregatedRow Id Info) (simple : List (Res × SimpleRow Id Info)) (rows rows' : List (Res × AggregatedRow Id Info)) → IsSound cmp matching aggregate simple rows → place cmp key rows ≡ Ok at
        → it ≡ get_or rows at it → has_interest id it.1.interests ≡ true → is_only id it.1.interests ≡ false → rows' ≡ set rows at (it.0, aggregated_row it.1.id it.1.info (without_interest id it.1.interests))
        → Ended true key id simple simple rows rows'
    stays key at id it simple rows rows' s is there has others now =
        let found = find_at cmp o key rows at it is there in
        let more = sym (and_right (has_interest id it.1.interests) (has_none (without_interest id it.1.interests)) has) ∙ others in
        let value = aggregated_row it.1.id it.1.info (without_interest id it.1.interests) in
        let rows_put : rows' ≡ put cmp key value rows = now ∙ set-place cmp o key value rows at it is there in
        record {
          answer_is = rw (found, has) refl;
          rows_are = rw (found, has, more) rows_put;
          simple_are = rw (found, has, more) refl;
          sound = record {
            simple_in_order = s.simple_in_order;
            aggregated_in_order = ap (is_sorted cmp) rows_put ∙ sound_put key value simple rows s;
            folds = subst (λ l. AreFolds matching aggregate simple l) (sym now)
                (folds_set matching aggregate simple rows at it it.1.id (without_interest id it.1.interests) (place-in_range cmp o key rows at is) there s.folds);
          };
        }
