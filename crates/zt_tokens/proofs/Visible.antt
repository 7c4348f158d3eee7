-- The visible expressions are those that the counts show.
use Rattle.std.proofs.Common.{◌≡◌, ℕ, Bool, true, false, ◌&&◌, T, if◌then◌else◌, List, [], ◌∷◌, Some, None, ap, filter, map, refl, subst, sym, ◌∙◌}
use Rattle.std.proofs.lemmas.Map.Keys.{sorted_head, sorted_tail}
use Rattle.std.specs.Cmp.{IsTotalOrder}
use Rattle.std.specs.FinMap.Entries.{below_all, find, find-put, is_sorted, is_sorted-put, put, same_entries}
use Rattle.std.specs.List.{AllByRecursion, list_any}
use Rattle.std.specs.List.Sorted.{IsStrictlySortedBy}
use Rattle.std.specs.Map.{keys_of}
use Rattle.std.specs.Ordering.{is_lt}
use Rattle.std.specs.declared.cmp.Ordering.{Ordering}
use Rattle.std.specs.declared.cmp.Ordering.TheVariants.{Less, Equal, Greater}
use Rattle.zt_keys.specs.Test.{by_test}
use Rattle.zt_region.specs.declared.region.Region.{Region}
use Rattle.zt_indexes.specs.Counted.{is_shown_in}
use Rattle.zt_indexes.specs.Live.{counts_at, shown_keys}
use Rattle.zt_indexes.specs.Rows.{AreCountsOf, counts-shown}
use Rattle.zt_indexes.specs.Shown.{among-shown, shown-sorted}
use Rattle.zt_model.specs.Lists.{in_key_order, is_among, same, with_key}
use Rattle.zt_model.specs.Rows.{Rows}
use Rattle.zt_model.specs.Visible.{is_visible, live_rows, shows, visible_expressions}

by_ordering : {G : Type 0} (r : Ordering) → (r ≡ Less → G) → (r ≡ Equal → G) → (r ≡ Greater → G) → G
by_ordering Less less equal greater = less refl
by_ordering Equal less equal greater = equal refl
by_ordering Greater less equal greater = greater refl

both : (a b : Bool) → T a → T b → T (a && b)
both true b p q = q
both false b p q = absurd p

module _ {K : Type 0} (cmp : K → K → Ordering) where
  -- keys alone, as entries
  abbrev alone : List K → List (K × Unit {0})
  alone keys = map (λ k. (k, tt)) keys

  keys-alone : (keys : List K) → keys_of (alone keys) ≡ keys
  keys-alone [] = refl
  keys-alone (k ∷ ks) = ap (λ l. k ∷ l) (keys-alone ks)

  alone-with_key : (key : K) (keys : List K) → alone (with_key cmp key keys) ≡ put cmp key tt (alone keys)
  alone-with_key key [] = refl
  alone-with_key key (k ∷ ks) = by_ordering (cmp key k) (λ p. rw p refl) (λ p. rw p refl) (λ p. rw p (ap (λ l. (k, tt) ∷ l) (alone-with_key key ks)))

  find-alone : (q : K) (keys : List K) → find cmp q (alone keys) ≡ (if is_among cmp q keys then Some tt else None)
  find-alone q [] = refl
  find-alone q (k ∷ ks) = by_test (same cmp q k) (λ t. rw t refl) (λ t. rw t (find-alone q ks))

  below-alone : (x : K) (keys : List K) → AllByRecursion (λ y. cmp x y ≡ Less) keys → T (below_all cmp x (alone keys))
  below-alone x [] h = tt
  below-alone x (k ∷ ks) h = both _ _ (subst (λ r. T (is_lt r)) (sym h.0) tt) (below-alone x ks h.1)

  sorted-alone : (keys : List K) → IsStrictlySortedBy cmp keys → T (is_sorted cmp (alone keys))
  sorted-alone [] h = tt
  sorted-alone (k ∷ ks) h = both _ _ (below-alone k ks (sorted_head cmp k ks h)) (sorted-alone ks (sorted_tail cmp k ks h))

  -- of rows those keys that pass
  among-kept : {G : Type 0} (passes : G → Bool) (key : K) (rows : List (G × K)) → is_among cmp key (map (λ row. row.1) (filter (λ row. passes row.0) rows)) ≡ list_any (λ row. same cmp key row.1 && passes row.0) rows
  among-kept passes key [] = refl
  among-kept passes key (row ∷ rows) = by_test (passes row.0)
      (λ t. rw t (by_test (same cmp key row.1) (λ u. rw u refl) (λ u. rw u (among-kept passes key rows))))
      (λ t. rw t (by_test (same cmp key row.1) (λ u. rw u (among-kept passes key rows)) (λ u. rw u (among-kept passes key rows))))

  module _ (o : IsTotalOrder cmp) where
    sorted-in_order : (keys : List K) → T (is_sorted cmp (alone (in_key_order cmp keys)))
    sorted-in_order [] = tt
    sorted-in_order (k ∷ ks) = subst (λ (es : List (K × Unit {0})). T (is_sorted cmp es)) (sym (alone-with_key k (in_key_order cmp ks))) (is_sorted-put cmp o k tt (alone (in_key_order cmp ks)) (sorted-in_order ks))

    found-in_order : (q : K) (keys : List K) → find cmp q (alone (in_key_order cmp keys)) ≡ (if is_among cmp q keys then Some tt else None)
    found-in_order q [] = refl
    found-in_order q (k ∷ ks) =
        ap (find cmp q) (alone-with_key k (in_key_order cmp ks))
        ∙ find-put cmp o q k tt (alone (in_key_order cmp ks))
        ∙ by_test (same cmp q k) (λ t. rw t refl) (λ t. rw t (found-in_order q ks))

    -- keys in order that are those of a list are the list in order
    keys-listed : ((x y : K) → cmp x y ≡ Equal → x ≡ y) → (keys list : List K) → IsStrictlySortedBy cmp keys → ((q : K) → is_among cmp q keys ≡ is_among cmp q list) → keys ≡ in_key_order cmp list
    keys-listed one keys list sorted alike =
        let entries = same_entries cmp o one (alone keys) (alone (in_key_order cmp list)) (sorted-alone keys sorted) (sorted-in_order list)
        (λ q. find-alone q keys ∙ ap (λ b. if b then Some tt else None) (alike q) ∙ sym (found-in_order q list)) in
        sym (keys-alone keys) ∙ ap keys_of entries ∙ keys-alone (in_key_order cmp list)

    -- what a region is shown by counts of the live tokens
    pub visible-counted : (g : Rows K) (own : Region) (e : K) (counts : List (K × List (Region × ℕ))) → AreCountsOf cmp counts (live_rows g) → is_shown_in (shows g.mode own) (counts_at cmp e counts) ≡ is_visible cmp g own e
    unfolding is_visible
    visible-counted g own e counts are = counts-shown cmp (shows g.mode own) e counts (live_rows g) are

    pub visible-listed : ((x y : K) → cmp x y ≡ Equal → x ≡ y) → (g : Rows K) (own : Region) (counts : List (K × List (Region × ℕ))) → AreCountsOf cmp counts (live_rows g) → IsStrictlySortedBy cmp (keys_of counts)
        → shown_keys (shows g.mode own) counts ≡ visible_expressions cmp g own
    unfolding visible_expressions
    visible-listed one g own counts are sorted =
        keys-listed one (shown_keys (shows g.mode own) counts) (map (λ row. row.1) (filter (λ row. shows g.mode own row.0) (live_rows g))) (shown-sorted cmp o (shows g.mode own) counts sorted)
        (λ q. among-shown cmp o (shows g.mode own) q counts sorted ∙ counts-shown cmp (shows g.mode own) q counts (live_rows g) are ∙ sym (among-kept (shows g.mode own) q (live_rows g)))
