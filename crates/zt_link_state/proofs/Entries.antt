-- Entries of origins in order, where one changes.
use Rattle.std.proofs.Common.{◌≡◌, Bool, true, false, not, List, [], ◌∷◌, ◌++◌, Option, Some, None, ap, filter, map, refl, subst, sym, ◌∙◌}
use Rattle.std.proofs.lemmas.Option.{same_Some}
use Rattle.std.specs.BTreeMap.{insert_entry, is_at}
use Rattle.std.specs.BTreeSet.{BTreeSet, insert_key}
use Rattle.std.specs.Cmp.{IsTotalOrder}
use Rattle.std.specs.FinMap.Entries.{by_order}
use Rattle.std.specs.List.{AllByRecursion, list_any}
use Rattle.std.specs.List.Sorted.{IsStrictlySortedBy}
use Rattle.std.specs.Map.{keys_of, lookup, remove_entry, set_value}
use Rattle.std.specs.Ordering.{match_ordering, ordering_reverse}
use Rattle.std.specs.Set.{remove_key}
use Rattle.std.specs.declared.cmp.Ordering.{Ordering}
use Rattle.std.specs.declared.cmp.Ordering.TheVariants.{Less, Equal, Greater}
use Rattle.zt_keys.specs.Test.{by_test}
use Rattle.zt_model.specs.Lists.{with_key}
use Rattle.zt_model.specs.Trees.{is_routed_row, routed_order}
use Rattle.zt_link_state.specs.More.{HasOneMore, IsMoreBy}
use Rattle.zt_link_state.specs.Routed.{AreInOrder, keys_at, keys_in, origin_cmp, row_of, rows_in}
use Rattle.zt_link_state.specs.declared.origin.Origin.{Origin}
use Rattle.zt_link_state.proofs.Flat.{any-none, any-there, by_cases, inserted-new, inserted-there, less-there, removed-none, removed-there, same-flat}
use Rattle.zt_link_state.proofs.More.{less-without, more-by, more-with, removed-filter}
use Rattle.zt_link_state.proofs.Origins.{origin-one, origin-total, rows-agree}

pub insert_key_is : {K : Type 0} (cmp : K → K → Ordering) (e : K) (keys : List K) → insert_key cmp keys e ≡ with_key cmp e keys
insert_key_is cmp e [] = refl
insert_key_is cmp e (k ∷ ks) =
    elim (cmp e k) as (λ o. match_ordering o (e ∷ k ∷ ks) (k ∷ ks) (k ∷ insert_key cmp ks e) ≡ by_order o (e ∷ k ∷ ks) (k ∷ ks) (k ∷ with_key cmp e ks)) [
      | Less ↦ refl
      | Equal ↦ refl
      | Greater ↦ ap (λ r. k ∷ r) (insert_key_is cmp e ks)
    ]

-- ---- what holds of each value
module _ {O S : Type 0} (P : S → Type 0) where
  pub found-all : (test : O → Bool) (es : List (O × S)) (s : S) → AllByRecursion (λ x. P x.1) es → lookup test es ≡ Some s → P s
  found-all test [] s all is = cc
  found-all test (x ∷ xs) s all is = by_test (test x.0) (λ t. subst P (same_Some x.1 s (rw t at is)) all.0) (λ t. found-all test xs s all.1 (rw t at is))

  set-all : (test : O → Bool) (es : List (O × S)) (w : S) → AllByRecursion (λ x. P x.1) es → P w → AllByRecursion (λ x. P x.1) (set_value test es w)
  set-all test [] w all here = tt
  set-all test (x ∷ xs) w all here = by_test (test x.0) (λ t. rw t (here, all.1)) (λ t. rw t (all.0, set-all test xs w all.1 here))

  inserted-all : (cmp : O → O → Ordering) (es : List (O × S)) (o : O) (w : S) → AllByRecursion (λ x. P x.1) es → P w → AllByRecursion (λ x. P x.1) (insert_entry cmp es o w)
  inserted-all cmp [] o w all here = (here, tt)
  inserted-all cmp (x ∷ xs) o w all here =
      by_cases (cmp o x.0) (λ t. rw t (here, all)) (λ t. rw t (here, all.1)) (λ t. rw t (all.0, inserted-all cmp xs o w all.1 here))

  removed-all : (test : O → Bool) (es : List (O × S)) → AllByRecursion (λ x. P x.1) es → AllByRecursion (λ x. P x.1) (remove_entry test es)
  removed-all test [] all = tt
  removed-all test (x ∷ xs) all = by_test (test x.0) (λ t. rw t all.1) (λ t. rw t (all.0, removed-all test xs all.1))

  filtered-all : (test : O × S → Bool) (es : List (O × S)) → AllByRecursion (λ x. P x.1) es → AllByRecursion (λ x. P x.1) (filter test es)
  filtered-all test [] all = tt
  filtered-all test (x ∷ xs) all = by_test (test x) (λ t. rw t (all.0, filtered-all test xs all.1)) (λ t. rw t (filtered-all test xs all.1))

  pub all-at : (xs : List (O × S)) (x : O × S) (ys : List (O × S)) → AllByRecursion (λ x. P x.1) (xs ++ x ∷ ys) → P x.1
  all-at [] x ys all = all.0
  all-at (y ∷ xs) x ys all = all-at xs x ys all.1

-- ---- the last of what is in order
module _ {A : Type 0} (cmp : A → A → Ordering) (total : IsTotalOrder cmp) where
  above : (x y : A) → cmp x y ≡ Less → cmp y x ≡ Greater
  above x y h = total.antisymm y x ∙ ap ordering_reverse h

  at-seam : (P : A → Type 0) (xs : List A) (k : A) (ys : List A) → AllByRecursion P (xs ++ k ∷ ys) → P k
  at-seam P [] k ys all = all.0
  at-seam P (x ∷ xs) k ys all = at-seam P xs k ys all.1

  pub insert-last : (xs : List A) (k : A) (ys : List A) → IsStrictlySortedBy cmp (xs ++ k ∷ ys) → insert_key cmp xs k ≡ xs ++ k ∷ []
  unfolding IsStrictlySortedBy
  insert-last [] k ys sorted = refl
  insert-last (x ∷ xs) k ys sorted =
      let is = above x k (at-seam (λ y. cmp x y ≡ Less) xs k ys sorted.0) in
      rw is (ap (λ l. x ∷ l) (insert-last xs k ys sorted.1))

  pub insert-last-entry : {S : Type 0} (xs : List (A × S)) (x : A × S) (ys : List (A × S)) → IsStrictlySortedBy cmp (keys_of (xs ++ x ∷ ys)) → insert_entry cmp xs x.0 x.1 ≡ xs ++ x ∷ []
  unfolding IsStrictlySortedBy
  insert-last-entry [] x ys sorted = refl
  insert-last-entry {S} (y ∷ xs) x ys sorted =
      let is = above y.0 x.0 (seam xs sorted.0) in
      rw is (ap (λ l. y ∷ l) (insert-last-entry xs x ys sorted.1))
    where
      seam : (zs : List (A × S)) → AllByRecursion (λ z. cmp y.0 z ≡ Less) (keys_of (zs ++ x ∷ ys)) → cmp y.0 x.0 ≡ Less
      seam [] all = all.0
      seam (z ∷ zs) all = seam zs all.1

pub by-either : {A : Type 0} (b : Bool) (x : A) (old new : List A) → (b ≡ true → HasOneMore x old new) → (b ≡ false → new ≡ old) → IsMoreBy b x old new
by-either true x old new more same = more refl
by-either false x old new more same = same refl

module _ {K : Type 0} (cmp : K → K → Ordering) where
  abbrev InOrder : BTreeSet K → Type 0
  InOrder s = IsStrictlySortedBy cmp (keys_in s)

  pub found-order : (o : Origin) (es : List (Origin × BTreeSet K)) (s : BTreeSet K) → AreInOrder cmp es → lookup (is_at (origin_cmp o)) es ≡ Some s → InOrder s
  found-order o es s h is = found-all InOrder (is_at (origin_cmp o)) es s h.keys is

  pub order-there : (o : Origin) (es new : List (Origin × BTreeSet K)) (w : BTreeSet K) → AreInOrder cmp es → new ≡ set_value (is_at (origin_cmp o)) es w → IsStrictlySortedBy origin_cmp (keys_of new) → InOrder w → AreInOrder cmp new
  order-there o es new w h is origins here = record {
    origins = origins;
    keys = subst (AllByRecursion (λ (x : Origin × BTreeSet K). InOrder x.1)) (sym is) (set-all InOrder (is_at (origin_cmp o)) es w h.keys here);
  }

  pub order-new : (o : Origin) (es new : List (Origin × BTreeSet K)) (w : BTreeSet K) → AreInOrder cmp es → new ≡ insert_entry origin_cmp es o w → IsStrictlySortedBy origin_cmp (keys_of new) → InOrder w → AreInOrder cmp new
  order-new o es new w h is origins here = record {
    origins = origins;
    keys = subst (AllByRecursion (λ (x : Origin × BTreeSet K). InOrder x.1)) (sym is) (inserted-all InOrder origin_cmp es o w h.keys here);
  }

  pub order-less : (o : Origin) (es new : List (Origin × BTreeSet K)) → AreInOrder cmp es → new ≡ remove_entry (is_at (origin_cmp o)) es → IsStrictlySortedBy origin_cmp (keys_of new) → AreInOrder cmp new
  order-less o es new h is origins = record {
    origins = origins;
    keys = subst (AllByRecursion (λ (x : Origin × BTreeSet K). InOrder x.1)) (sym is) (removed-all InOrder (is_at (origin_cmp o)) es h.keys);
  }

  pub order-filtered : (test : Origin × BTreeSet K → Bool) (es new : List (Origin × BTreeSet K)) → AreInOrder cmp es → new ≡ filter test es → IsStrictlySortedBy origin_cmp (keys_of new) → AreInOrder cmp new
  order-filtered test es new h is origins = record {
    origins = origins;
    keys = subst (AllByRecursion (λ (x : Origin × BTreeSet K). InOrder x.1)) (sym is) (filtered-all InOrder test es h.keys);
  }

  -- an origin that goes takes no row with it, where it has none
  pub bare-rows : (o : Origin) (es : List (Origin × BTreeSet K)) → keys_at o es ≡ [] → rows_in (remove_entry (is_at (origin_cmp o)) es) ≡ rows_in es
  bare-rows o [] bare = refl
  bare-rows o (x ∷ xs) bare =
      by_test (is_at (origin_cmp o) x.0)
      (λ t. rw t (sym (ap (λ ks. map (row_of x.0) ks ++ rows_in xs) (rw t at bare))))
      (λ t. rw t (ap (λ rs. map (row_of x.0) (keys_in x.1) ++ rs) (bare-rows o xs (rw t at bare))))

  module _ (o : Origin) (e : K) (es : List (Origin × BTreeSet K)) (h : AreInOrder cmp es) where
    pub row-none : lookup (is_at (origin_cmp o)) es ≡ None → list_any (is_routed_row cmp (row_of o e)) (rows_in es) ≡ false
    row-none none = any-none origin_cmp cmp (routed_order cmp) row_of keys_in (rows-agree cmp) o e es none

    pub rows-stay : lookup (is_at (origin_cmp o)) es ≡ None → rows_in es ≡ filter (λ row. not (is_routed_row cmp (row_of o e) row)) (rows_in es)
    rows-stay none = removed-none origin_cmp cmp (routed_order cmp) row_of keys_in (rows-agree cmp) o e es none

    pub rows-with-new : (new : List (Origin × BTreeSet K)) (w : BTreeSet K) → lookup (is_at (origin_cmp o)) es ≡ None → new ≡ insert_entry origin_cmp es o w → keys_in w ≡ e ∷ []
        → rows_in new ≡ with_key (routed_order cmp) (row_of o e) (rows_in es)
    rows-with-new new w none is more =
        ap rows_in is ∙ inserted-new origin_cmp cmp (routed_order cmp) row_of keys_in (rows-agree cmp) origin-total origin-one o e es w h.origins none more

    pub one-more-new : (new : List (Origin × BTreeSet K)) (w : BTreeSet K) → lookup (is_at (origin_cmp o)) es ≡ None → new ≡ insert_entry origin_cmp es o w → keys_in w ≡ e ∷ []
        → HasOneMore (row_of o e) (rows_in es) (rows_in new)
    one-more-new new w none is more =
        subst (HasOneMore (row_of o e) (rows_in es)) (sym (rows-with-new new w none is more)) (more-with (routed_order cmp) (row_of o e) (rows_in es) (row-none none))

    module _ (s : BTreeSet K) (there : lookup (is_at (origin_cmp o)) es ≡ Some s) where
      pub row-there : list_any (is_routed_row cmp (row_of o e)) (rows_in es) ≡ list_any (is_at (cmp e)) (keys_in s)
      row-there = any-there origin_cmp cmp (routed_order cmp) row_of keys_in (rows-agree cmp) origin-total o e es s h.origins there

      module _ (new : List (Origin × BTreeSet K)) (w : BTreeSet K) (is : new ≡ set_value (is_at (origin_cmp o)) es w) where
        pub rows-same : keys_in w ≡ keys_in s → rows_in new ≡ rows_in es
        rows-same same = ap rows_in is ∙ same-flat origin_cmp cmp (routed_order cmp) row_of keys_in (rows-agree cmp) o es s w there same

        pub rows-with : keys_in w ≡ insert_key cmp (keys_in s) e → rows_in new ≡ with_key (routed_order cmp) (row_of o e) (rows_in es)
        rows-with more =
            ap rows_in is
            ∙ inserted-there origin_cmp cmp (routed_order cmp) row_of keys_in (rows-agree cmp) origin-total origin-one o e es s w h.origins there (more ∙ insert_key_is cmp e (keys_in s))

        pub one-more : (is_new : Bool) → is_new ≡ not (list_any (is_at (cmp e)) (keys_in s)) → keys_in w ≡ insert_key cmp (keys_in s) e → (is_new ≡ false → keys_in w ≡ keys_in s)
            → IsMoreBy is_new (row_of o e) (rows_in es) (rows_in new)
        one-more is_new said more same =
            more-by (routed_order cmp) is_new (row_of o e) (rows_in es) (rows_in new) (said ∙ ap not (sym row-there)) (rows-with more) (λ not_new. rows-same (same not_new))

        pub rows-without : IsTotalOrder cmp → keys_in w ≡ remove_key (is_at (cmp e)) (keys_in s) → rows_in new ≡ filter (λ row. not (is_routed_row cmp (row_of o e) row)) (rows_in es)
        rows-without total less =
            ap rows_in is
            ∙ removed-there origin_cmp cmp (routed_order cmp) row_of keys_in (rows-agree cmp) origin-total o e es s w h.origins there (less ∙ removed-filter cmp total e (keys_in s) (found-order o es s h there))

        pub one-less : ((a b : K) → cmp a b ≡ Equal → a ≡ b) → (was : Bool) → was ≡ list_any (is_at (cmp e)) (keys_in s) → keys_in w ≡ remove_key (is_at (cmp e)) (keys_in s)
            → (was ≡ false → keys_in w ≡ keys_in s) → IsMoreBy was (row_of o e) (rows_in new) (rows_in es)
        one-less one was said less same =
            by-either was (row_of o e) (rows_in new) (rows_in es)
            (λ there_was.
            subst (λ rs. HasOneMore (row_of o e) rs (rows_in es)) (sym (ap rows_in is))
            (less-there origin_cmp cmp (routed_order cmp) row_of keys_in (rows-agree cmp) origin-total origin-one o e es s w there
            (subst (λ ks. HasOneMore e ks (keys_in s)) (sym less) (less-without cmp one e (keys_in s) (sym said ∙ there_was)))))
            (λ none. sym (rows-same (same none)))
