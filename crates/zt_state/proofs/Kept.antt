-- What keeps a gateway's look-ups as they have to be.
use Rattle.std.proofs.Common.{◌≡◌, ℕ, ◌+◌, ◌==◌, ◌≤◌, Bool, true, false, T, not, if◌then◌else◌, List, [], ◌∷◌, ◌++◌, Option, ap, arith, flat_map, map, refl, subst, sym}
use Rattle.std.proofs.lemmas.Cmp.{nat_cmp_total}
use Rattle.std.specs.FinMap.Entries.{is_sorted, is_sorted-put, is_sorted-where_key}
use Rattle.std.specs.List.{AllByRecursion}
use Rattle.std.specs.Ordering.{nat_cmp}
use Rattle.std.specs.declared.cmp.Ordering.{Ordering}
use Rattle.zt_region.specs.declared.region.Region.{Region}
use Rattle.zt_region.specs.declared.region.Zid.{Zid}
use Rattle.zt_indexes.specs.Recounts.{Recounts, counts-same, same-turned}
use Rattle.zt_indexes.specs.Rows.{AreCountsOf, counts-none}
use Rattle.zt_model.specs.Rows.{ById, Face, RoutedRow}
use Rattle.zt_model.specs.Telling.{registered, unregistered}
use Rattle.zt_model.specs.Visible.{rows_of_face}
use Rattle.zt_keys.specs.declared.anchor.Anchor.{Anchor}
use Rattle.zt_token_index.specs.Seekers.{AreSeekers, Seeking, no_seekers}
use Rattle.zt_token_index.proofs.SeekersChanged.{seekers-none, seekers-quiet}
use Rattle.zt_state.specs.Indexed.{HasLiveInOrder, IsIndexed, KeepsDeclared, KeepsLive, routed_live}
use Rattle.zt_faces.specs.Rising.{AreUpTo, IsRising}
use Rattle.zt_state.proofs.Recounted.{all-changed, others, quiet-order, quiet-rows}
use Rattle.zt_faces.proofs.Rising.{changed-rising, changed-up-to, filtered-all, filtered-rising, pushed-rising, pushed-up-to}

holds-from : (b : Bool) → b ≡ true → T b
holds-from b h = subst T (sym h) tt

holds-to : (b : Bool) → T b → b ≡ true
holds-to true h = refl
holds-to false h = absurd h

module _ {K : Type 0} where
  number : Face K → ℕ
  number f = f.number

  pub registered-order : (id : ℕ) (e : K) (f : Face K) → HasLiveInOrder f → HasLiveInOrder (registered id e f)
  registered-order id e f h = holds-to _ (is_sorted-put nat_cmp nat_cmp_total id e f.live (holds-from _ h))

  pub unregistered-order : (id : ℕ) (f : Face K) → HasLiveInOrder f → HasLiveInOrder (unregistered id f)
  unregistered-order id f h = holds-to _ (is_sorted-where_key nat_cmp (λ k. not (id == k)) f.live (holds-from _ h))

  pushed-rows : (fs : List (Face K)) (f : Face K) → f.live ≡ [] → flat_map rows_of_face (fs ++ f ∷ []) ≡ flat_map rows_of_face fs
  pushed-rows [] f none = ap (λ (rows : ById K). map (λ row. (f.region, row.1)) rows ++ []) none
  pushed-rows (g ∷ fs) f none = ap (λ (rows : List (Region × K)). rows_of_face g ++ rows) (pushed-rows fs f none)

  pushed-order : (fs : List (Face K)) (f : Face K) → AllByRecursion HasLiveInOrder fs → HasLiveInOrder f → AllByRecursion HasLiveInOrder (fs ++ f ∷ [])
  pushed-order [] f all here = (here, tt)
  pushed-order (g ∷ fs) f all here = (all.0, pushed-order fs f all.1 here)

module _ {K : Type 0} (cmp : K → K → Ordering) (anchored : Anchor → K → Option ℕ) (zid : Zid) (made : ℕ) where
  pub indexed-none : IsIndexed cmp anchored zid made [] [] [] no_seekers
  indexed-none = record { rising = tt; up_to = tt; in_order = tt; counts = counts-none cmp; seekers = seekers-none cmp anchored }

  module _ (routed : List (RoutedRow K)) (fs : List (Face K)) (old : List (K × List (Region × ℕ))) (seeking : Seeking K) (was : IsIndexed cmp anchored zid made routed fs old seeking) where
    -- other faces, with what is counted of them
    pub indexed-faces : (gs : List (Face K)) (new : List (K × List (Region × ℕ))) (found : Seeking K) → IsRising (λ f. f.number) gs → AreUpTo (λ f. f.number) made gs → AllByRecursion HasLiveInOrder gs
        → Recounts cmp (flat_map rows_of_face fs) (flat_map rows_of_face gs) old new → AreSeekers cmp anchored found gs → IsIndexed cmp anchored zid made routed gs new found
    indexed-faces gs new found rising up in_order change seekers = record { rising = rising; up_to = up; in_order = in_order; counts = change.at (routed_live zid routed) was.counts; seekers = seekers }

    -- a change of what one face declares
    pub indexed-changed : (n : ℕ) (change : Face K → Face K) (new : List (K × List (Region × ℕ))) → ((f : Face K) → (change f).number ≡ f.number) → ((f : Face K) → (change f).region ≡ f.region) → ((f : Face K) → (change f).held ≡ f.held) → ((f : Face K) → (change f).told ≡ f.told)
        → ((f : Face K) → HasLiveInOrder f → HasLiveInOrder (change f))
        → Recounts cmp (flat_map rows_of_face fs) (flat_map rows_of_face (map (λ f. if n == f.number then change f else f) fs)) old new
        → IsIndexed cmp anchored zid made routed (map (λ f. if n == f.number then change f else f) fs) new seeking
    indexed-changed n change new kept region held told order counted =
        indexed-faces (map (λ f. if n == f.number then change f else f) fs) new seeking
        (changed-rising (λ (f : Face K). f.number) n change kept fs was.rising) (changed-up-to (λ (f : Face K). f.number) n made change kept fs was.up_to) (all-changed n change order fs was.in_order) counted
        (seekers-quiet cmp anchored n change kept region held told seeking fs was.seekers)

    -- a change of what one face holds or was told
    pub indexed-held : (n : ℕ) (change : Face K → Face K) (found : Seeking K) → ((f : Face K) → KeepsDeclared f (change f)) → AreSeekers cmp anchored found (map (λ f. if n == f.number then change f else f) fs)
        → IsIndexed cmp anchored zid made routed (map (λ f. if n == f.number then change f else f) fs) old found
    indexed-held n change found kept seekers = record {
      rising = changed-rising (λ (f : Face K). f.number) n change (λ f. (kept f).number) fs was.rising;
      up_to = changed-up-to (λ (f : Face K). f.number) n made change (λ f. (kept f).number) fs was.up_to;
      in_order = all-changed n change (quiet-order change kept) fs was.in_order;
      counts = subst (λ (rows : List (Region × K)). AreCountsOf cmp old (rows ++ routed_live zid routed)) (sym (quiet-rows n change kept fs)) was.counts;
      seekers = seekers;
    }

    pub indexed-quiet : (n : ℕ) (change : Face K → Face K) → ((f : Face K) → KeepsLive f (change f)) → IsIndexed cmp anchored zid made routed (map (λ f. if n == f.number then change f else f) fs) old seeking
    indexed-quiet n change kept =
        indexed-held n change seeking (λ f. record { number = (kept f).number; region = (kept f).region; live = (kept f).live })
        (seekers-quiet cmp anchored n change (λ f. (kept f).number) (λ f. (kept f).region) (λ f. (kept f).held) (λ f. (kept f).told) seeking fs was.seekers)

    -- a face less
    pub indexed-closed : (n : ℕ) (new : List (K × List (Region × ℕ))) (found : Seeking K) → Recounts cmp (flat_map rows_of_face fs) (flat_map rows_of_face (others n fs)) old new → AreSeekers cmp anchored found (others n fs)
        → IsIndexed cmp anchored zid made routed (others n fs) new found
    indexed-closed n new found counted seekers =
        indexed-faces (others n fs) new found
        (filtered-rising (λ (f : Face K). f.number) (λ f. not (n == f.number)) fs was.rising)
        (filtered-all (λ (f : Face K). f.number) (λ f. f.number ≤ made) (λ f. not (n == f.number)) fs was.up_to)
        (filtered-all (λ (f : Face K). f.number) HasLiveInOrder (λ f. not (n == f.number)) fs was.in_order) counted seekers

    -- a face more, that declares nothing yet
    pub indexed-opened : (f : Face K) (found : Seeking K) → f.number ≡ made + 1 → f.live ≡ [] → AreSeekers cmp anchored found (fs ++ f ∷ []) → IsIndexed cmp anchored zid (made + 1) routed (fs ++ f ∷ []) old found
    indexed-opened f found next none seekers = record {
      rising = pushed-rising (λ (x : Face K). x.number) made fs f was.up_to (omega (arith, next)) was.rising;
      up_to = pushed-up-to (λ (x : Face K). x.number) made fs f was.up_to next;
      in_order = pushed-order fs f was.in_order (ap (λ (rows : ById K). is_sorted nat_cmp rows) none);
      counts = subst (λ (rows : List (Region × K)). AreCountsOf cmp old (rows ++ routed_live zid routed)) (sym (pushed-rows fs f none)) was.counts;
      seekers = seekers;
    }

    -- other rows of routers, with what is counted of them
    pub indexed-routed : (more : List (RoutedRow K)) (new : List (K × List (Region × ℕ))) → Recounts cmp (routed_live zid routed) (routed_live zid more) old new → IsIndexed cmp anchored zid made more fs new seeking
    indexed-routed more new change =
        let faces = flat_map rows_of_face fs in
        record {
          rising = was.rising;
          up_to = was.up_to;
          in_order = was.in_order;
          seekers = was.seekers;
          counts = counts-same cmp new (routed_live zid more ++ faces) (faces ++ routed_live zid more) (same-turned cmp (routed_live zid more) faces)
              (change.at faces (counts-same cmp old (faces ++ routed_live zid routed) (routed_live zid routed ++ faces) (same-turned cmp faces (routed_live zid routed)) was.counts));
        }
