-- The ways of an insertion and a removal, from what the parts give to what the rules say.
use Rattle.std.proofs.Common.{◌≡◌, ℕ, Bool, true, List, [], get_or, set, map, Option, Some, None, Result, Ok, Err, OnOk, OnErr, is_ok, is_some, refl, ap, ap₂, sym, ◌∙◌, subst}
use Rattle.std.specs.List.{remove, insert}
use Rattle.std.specs.Cmp.{IsTotalOrder}
use Rattle.std.specs.declared.cmp.Ordering.{Ordering}
use Rattle.std.specs.FinMap.Entries.{put, find, is_sorted}
use Rattle.zt_ordered.specs.Rows.{place, without}
use Rattle.zt_locals.specs.Laws.{InfoLaws, ResourceLaws}
use Rattle.zt_locals.specs.declared.rows.SimpleRow.{SimpleRow}
use Rattle.zt_locals.specs.declared.rows.AggregatedRow.{AggregatedRow}
use Rattle.zt_locals.specs.declared.rows.LocalResourceInsertResult.{LocalResourceInsertResult}
use Rattle.zt_locals.specs.declared.rows.LocalResourceRemoveResult.{LocalResourceRemoveResult}
use Rattle.zt_locals.specs.Folding.{refreshed, info_after, with_infos}
use Rattle.zt_locals.specs.Interests.{joined}
use Rattle.zt_locals.specs.Resources.{Resources, IsSound, simple_row, interests_of, is_told, is_untold, insert_results, remove_answer}
use Rattle.zt_locals.specs.Results.{beside, insert_result, remove_result, with_told, with_untold}
use Rattle.zt_locals.proofs.Items.{item_at}
use Rattle.zt_ordered.specs.Placing.{place-in_range, find-place, find-gap, put-gap, put-place, without-place}
use Rattle.zt_locals.proofs.Placing.{found_row}
use Rattle.zt_locals.proofs.Sound.{after_come, after_replaced, after_gone, insert_told, remove_told}

-- what holds after either outcome
pub sound_either : {Id Res Info T E : Type 0} (cmp : Res → Res → Ordering) (matching : Res → Res → Bool) (aggregate : Option Info → Res → Info → Res → Info) (s s' : List (Res × SimpleRow Id Info)) (a a' : List (Res × AggregatedRow Id Info)) (r : Result T E)
    → OnOk r (IsSound cmp matching aggregate s' a') → OnErr r (s' ≡ s) → OnErr r (a' ≡ a) → IsSound cmp matching aggregate s a → IsSound cmp matching aggregate s' a'
sound_either cmp matching aggregate s s' a a' (Ok x) ok es ea was = ok
sound_either cmp matching aggregate s s' a a' (Err e) ok es ea was =
    subst (λ l. IsSound cmp matching aggregate l a') (sym es) (subst (λ l. IsSound cmp matching aggregate s l) (sym ea) was)

pub same_either : {Id Res Info T E : Type 0} (s s' : List (Res × SimpleRow Id Info)) (a a' : List (Res × AggregatedRow Id Info)) (r : Result T E)
    → OnErr r (s' ≡ s) → OnErr r (a' ≡ a) → OnErr r (◌≡◌ {A = Resources Id Res Info} (record { simple = s'; aggregated = a' }) (record { simple = s; aggregated = a }))
same_either s s' a a' (Ok x) es ea = tt
same_either {Id} {Res} {Info} s s' a a' (Err e) es ea =
    ap₂ (λ (l : List (Res × SimpleRow Id Info)) (m : List (Res × AggregatedRow Id Info)). let both : Resources Id Res Info = record { simple = l; aggregated = m } in both) es ea

module _ {P X : Type 0} (cmp : P → P → Ordering) (o : IsTotalOrder cmp) where
  found_by : (q : P) (es : List (P × X)) (r : Result ℕ ℕ) → is_sorted cmp es ≡ true → place cmp q es ≡ r → is_ok r ≡ is_some (find cmp q es)
  found_by q es (Ok i) s h = let item = item_at es i (place-in_range cmp o q es i h) in ap is_some (sym (find-place cmp o q es i item.0 h))
  found_by q es (Err i) s h = ap is_some (sym (find-gap cmp o q es i s h))

  -- a search finds what is there
  pub place_found : (q : P) (es : List (P × X)) → is_sorted cmp es ≡ true → is_ok (place cmp q es) ≡ is_some (find cmp q es)
  place_found q es s = found_by q es (place cmp q es) s refl

module _ {Id Res Info : Type 0} (cmp : Res → Res → Ordering) (matching : Res → Res → Bool) (eq : Info → Info → Bool) (aggregate : Option Info → Res → Info → Res → Info) where
  -- what an insertion's contract says
  pub record Inserted (key : Res) (id : Id) (info : Info) (ids : List ℕ) (simple simple' : List (Res × SimpleRow Id Info)) (rows rows' : List (Res × AggregatedRow Id Info)) (results : List (LocalResourceInsertResult Id Res Info)) : Type 0 where
    pub simple_is : simple' ≡ put cmp key (simple_row id info (joined (interests_of (find cmp key simple)) ids)) simple
    pub fresh : rows' ≡ refreshed matching aggregate simple' rows
    pub told_is : results ≡ insert_results cmp matching eq aggregate id info (is_told eq key (find cmp key simple) info (joined (interests_of (find cmp key simple)) ids)) simple' rows
    pub sound : IsSound cmp matching aggregate simple' rows'

  module _ (o : IsTotalOrder cmp) (same_key : ResourceLaws cmp matching) (laws : InfoLaws aggregate) where
    pub known_arm : (key : Res) (at : ℕ) (id : Id) (info : Info) (ids : List ℕ) (simple simple' : List (Res × SimpleRow Id Info)) (rows rows' : List (Res × AggregatedRow Id Info)) (results : List (LocalResourceInsertResult Id Res Info))
        → IsSound cmp matching aggregate simple rows → place cmp key simple ≡ Ok at
        → ((row : Res × SimpleRow Id Info) → row ≡ get_or simple at row → id ≡ row.1.id)
        → ((row : Res × SimpleRow Id Info) → row ≡ get_or simple at row → simple' ≡ set simple at (row.0, simple_row id info (joined row.1.interests ids)))
        → rows' ≡ with_infos rows (map (info_after matching aggregate simple (Some at) key (Some info)) rows)
        → ((row : Res × SimpleRow Id Info) → row ≡ get_or simple at row → results ≡ with_told cmp row.1.id info (is_told eq key (Some row.1) info (joined row.1.interests ids)) (beside (insert_result eq) rows (map (info_after matching aggregate simple (Some at) key (Some info)) rows)))
        → Inserted key id info ids simple simple' rows rows' results
    known_arm key at id info ids simple simple' rows rows' results s is of_id of_simple now of_results =
        let f = found_row cmp o same_key.equal_is_same key simple at is in
        let row = f.0 in
        let there = f.1 in
        let found = f.2 in
        let come = simple_row id info (joined row.1.interests ids) in
        let putting = put-place cmp o key come simple at row is ∙ ap (λ (r : Res × SimpleRow Id Info). set simple at (r.0, come)) (sym there) in
        let simple_put = of_simple row there ∙ sym putting in
        let after = after_replaced cmp matching eq aggregate o laws key row come at simple simple' rows rows' s (place-in_range cmp o key simple at is) there f.3 (of_simple row there) simple_put now in
        let told = is_told eq key (Some row.1) info (joined row.1.interests ids) in
        let infos = info_after matching aggregate simple (Some at) key (Some info) in
        let results_are = of_results row there ∙ ap (λ i. with_told cmp i info told (beside (insert_result eq) rows (map infos rows))) (sym (of_id row there)) in
        record {
          simple_is = rw found simple_put;
          fresh = after.fresh;
          told_is = rw found (insert_told cmp matching eq aggregate infos simple' rows id info told results after.from_scratch results_are);
          sound = after.sound;
        }

    pub new_arm : (key : Res) (at : ℕ) (id : Id) (info : Info) (ids : List ℕ) (simple simple' : List (Res × SimpleRow Id Info)) (rows rows' : List (Res × AggregatedRow Id Info)) (results : List (LocalResourceInsertResult Id Res Info))
        → IsSound cmp matching aggregate simple rows → place cmp key simple ≡ Err at
        → simple' ≡ insert simple at (key, simple_row id info (joined [] ids))
        → rows' ≡ with_infos rows (map (info_after matching aggregate simple None key (Some info)) rows)
        → results ≡ with_told cmp id info (is_told {Id = Id} eq key None info (joined [] ids)) (beside (insert_result eq) rows (map (info_after matching aggregate simple None key (Some info)) rows))
        → Inserted key id info ids simple simple' rows rows' results
    new_arm key at id info ids simple simple' rows rows' results s is simple_now now results_are =
        let found = find-gap cmp o key simple at s.simple_in_order is in
        let come = simple_row id info (joined [] ids) in
        let simple_put = simple_now ∙ sym (put-gap cmp o key come simple at is) in
        let after = after_come cmp matching eq aggregate o laws key come at simple simple' rows rows' s simple_now simple_put now in
        record {
          simple_is = rw found simple_put;
          fresh = after.fresh;
          told_is = rw found (insert_told cmp matching eq aggregate (info_after matching aggregate simple None key (Some info)) simple' rows id info (is_told {Id = Id} eq key None info (joined [] ids)) results after.from_scratch results_are);
          sound = after.sound;
        }

    -- what a removal's contract says
    pub record Removed (key : Res) (simple simple' : List (Res × SimpleRow Id Info)) (rows rows' : List (Res × AggregatedRow Id Info)) (results : List (LocalResourceRemoveResult Id Res Info)) : Type 0 where
      pub simple_is : simple' ≡ without cmp key simple
      pub fresh : rows' ≡ refreshed matching aggregate simple' rows
      pub told_is : results ≡ remove_answer cmp matching eq aggregate key (find cmp key simple) simple' rows
      pub sound : IsSound cmp matching aggregate simple' rows'

    pub gone_arm : (key : Res) (at : ℕ) (simple simple' : List (Res × SimpleRow Id Info)) (rows rows' : List (Res × AggregatedRow Id Info)) (results : List (LocalResourceRemoveResult Id Res Info))
        → IsSound cmp matching aggregate simple rows → place cmp key simple ≡ Ok at → simple' ≡ remove simple at
        → rows' ≡ with_infos rows (map (info_after matching aggregate simple (Some at) key None) rows)
        → ((row : Res × SimpleRow Id Info) → row ≡ get_or simple at row → results ≡ with_untold cmp row.1.id (is_untold key row.1.interests) (beside (remove_result eq) rows (map (info_after matching aggregate simple (Some at) key None) rows)))
        → Removed key simple simple' rows rows' results
    gone_arm key at simple simple' rows rows' results s is simple_now now of_results =
        let f = found_row cmp o same_key.equal_is_same key simple at is in
        let row = f.0 in
        let there = f.1 in
        let found = f.2 in
        let simple_without = simple_now ∙ sym (without-place cmp o key simple at s.simple_in_order is) in
        let after = after_gone cmp matching eq aggregate o laws key row at simple simple' rows rows' s (place-in_range cmp o key simple at is) there f.3 simple_now simple_without now in
        record {
          simple_is = simple_without;
          fresh = after.fresh;
          told_is = rw found (remove_told cmp matching eq aggregate (info_after matching aggregate simple (Some at) key None) simple' rows row.1.id (is_untold key row.1.interests) results after.from_scratch (of_results row there));
          sound = after.sound;
        }
