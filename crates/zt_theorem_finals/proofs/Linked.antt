-- The two openings, and the two closings, of a link's line: what is printed, and what becomes of asks.
use Rattle.std.proofs.Common.{◌≡◌, ℕ, ◌+◌, ◌-◌, ◌≤◌, ◌<◌, Bool, false, ◌==◌, List, [], ◌∷◌, ◌++◌, length, map, Option, Some, None, refl, ap, ◌∙◌, arith, le_trans, ne_eqb}
use Rattle.std.specs.Cmp.{IsTotalOrder}
use Rattle.std.specs.declared.cmp.Ordering.{Ordering}
use Rattle.zt_region.specs.declared.region.Bound.{Bound}
use Rattle.zt_region.specs.declared.region.Region.{Region}
use Rattle.zt_region.specs.declared.region.WhatAmI.{WhatAmI}
use Rattle.zt_region.specs.declared.region.Zid.{Zid}
use Rattle.zt_protocol.specs.Plain.{PlainCall, NewTransport, CloseFace}
use Rattle.zt_protocol.specs.declared.entries.Sent.{Sent}
use Rattle.zt_protocol.specs.declared.messages.Message.{Message}
use Rattle.zt_model.specs.Closing.{closing}
use Rattle.zt_model.specs.Fabric.{CallAt, Fabric, Node, Place, after_opening, altered_at, at_nth, call_at, closed_ends, closing_call, gateways_after_hearing, next_face, number_from, opened_at, opened_ends, opening_at, printed_for, rows_after_hearing, said_at, said_opening, with_place}
use Rattle.zt_model.specs.Hearing.{rows_heard}
use Rattle.zt_model.specs.Linking.{LinkEnd}
use Rattle.zt_model.specs.Lists.{nth}
use Rattle.zt_model.specs.Routing.{face_opened, interests_from, opened, opening_final, opening_interests, opening_tokens, tokens_from}
use Rattle.zt_model.specs.Rows.{Ask, ById, Face, Rows}
use Rattle.zt_model.specs.Says.{Sends, altered, altered_by, find_face, parts_of, said, said_by, to_face}
use Rattle.zt_model.specs.Transcript.{Each}
use Rattle.zt_laws.specs.Order.{FabricIsInOrder, RowsAreInOrder}
use Rattle.zt_laws.specs.Sound.{EachFrom, is_placed, places_of}
use Rattle.zt_laws.proofs.Ends.{by_end, end_alone, end_in_order}
use Rattle.zt_laws.proofs.LinesOrder.{called_at, gateway_in_order}
use Rattle.zt_laws.proofs.Lists.{by_test, each_always, each_append, each_map, each_weaker}
use Rattle.zt_laws.proofs.Places.{not_placed_yet, number_new}
use Rattle.zt_laws.proofs.Sorting.{printed as printed_at}
use Rattle.zt_laws.proofs.ToldFrom.{found_by_number}
use Rattle.zt_laws.proofs.Unlinking.{closing_case}
use Rattle.zt_theorem_soundness.proofs.Parts.{only}
use Rattle.zt_theorem_finals.proofs.Calls.{closing_asks}

-- a fact of each that every change leaves
pub each_from_changed : {A : Type 0} (P : ℕ → A → Type 0) (change : A → A) → ((j : ℕ) (x : A) → P j x → P j (change x)) → (m i : ℕ) (xs : List A) → EachFrom P i xs → EachFrom P i (at_nth m change xs)
each_from_changed P change one m i [] all = tt
each_from_changed P change one m i (x ∷ xs) all = by_test (m == 1) (λ here. rw here (one i x all.0, all.1)) (λ here. rw here (all.0, each_from_changed P change one (m - 1) (i + 1) xs all.1))

-- nothing is printed for the numbers up to some
pub printed_beyond : {K : Type 0} (k n : ℕ) (ms : List (Sent K)) → k ≤ n → Each (λ m. n < m.face) ms → printed_for k ms ≡ []
unfolding printed_for
printed_beyond k n [] low beyond = refl
printed_beyond k n (m ∷ ms) low beyond =
    let more : n < m.face = beyond.0 in
    let miss : (k == m.face) ≡ false = ne_eqb k m.face (λ e. omega (arith, e, low, more)) in
    rw miss (printed_beyond k n ms low beyond.1)

module _ {K : Type 0} (cmp : K → K → Ordering) (matching : K → K → Bool) where
  -- a fact of the asks of each face, by its gateway and number
  abbrev pub AsksIn : (ℕ → ℕ → ById (Ask K) → Type 0) → List (Node K) → Type 0
  AsksIn P gs = EachFrom (λ j (x : Node K). Each (λ f. P j f.number f.asks) x.rows.faces) 1 gs

  -- ---- asks as they were

  -- the asks of a face, as they were
  pub asks_of : Fabric K → ℕ → ℕ → ById (Ask K)
  asks_of s j k = elim (nth j s.gateways) [ None ↦ [] | Some x ↦ elim (find_face k x.rows) [ None ↦ [] | Some f ↦ f.asks ] ]

  pub asks_are : (s : Fabric K) (j : ℕ) (x : Node K) → nth j s.gateways ≡ Some x → RowsAreInOrder cmp matching x.rows → Each (λ f. asks_of s j f.number ≡ f.asks) x.rows.faces
  unfolding asks_of
  asks_are s j x at_ ordered =
      each_weaker (λ f. find_face f.number x.rows ≡ Some f) (λ f. asks_of s j f.number ≡ f.asks)
      (λ f found.
      ap (λ (o : Option (Node K)). (let rows : ById (Ask K) = elim o [ None ↦ [] | Some y ↦ elim (find_face f.number y.rows) [ None ↦ [] | Some k ↦ k.asks ] ] in rows)) at_
      ∙ ap (λ (o : Option (Face K)). (let rows : ById (Ask K) = elim o [ None ↦ [] | Some k ↦ k.asks ] in rows)) found)
      x.rows.faces (found_by_number 1 x.rows.faces ordered.lists.faces_rise)

  -- ---- openings

  numbers_of_one : (n : ℕ) (rule : Face K → List (Message K)) (g : Rows K) → Each (λ s. s.0 ≡ n) (to_face n rule g)
  unfolding to_face
  numbers_of_one n rule g = cases (find_face n g)
    where
      cases : (o : Option (Face K)) → (let ss : Sends K = elim o [ None ↦ [] | Some f ↦ map (λ m. (n, m)) (rule f) ] in Each (λ s. s.0 ≡ n) ss)
      cases None = tt
      cases (Some f) = each_map (λ s. s.0 ≡ n) (λ m. (n, m)) (rule f) (each_always (λ m. n ≡ n) (λ m. refl) (rule f))

  -- an opening speaks to the new face alone
  pub opening_speaks : (zid : Zid) (whatami : WhatAmI) (region : Region) (bound : Bound) (first : ℕ) (g : Rows K) → Each (λ s. s.0 ≡ g.made + 1) (said cmp matching (NewTransport zid whatami region bound first) g)
  unfolding parts_of said_by
  opening_speaks zid whatami region bound first g =
      let made = g.made + 1 in
      let h = opened zid whatami region bound first g in
      let s1 = to_face made (λ f. interests_from f.next (opening_interests cmp matching h f)) h in
      let h1 = rows_heard cmp s1 h in
      let s2 = to_face made (λ f. tokens_from f.next (opening_tokens cmp matching h1 f)) h1 in
      let h2 = rows_heard cmp s2 h1 in
      let s3 = to_face made (opening_final cmp matching) h2 in
      each_append (λ s. s.0 ≡ made) s1 (s2 ++ (s3 ++ [])) (numbers_of_one made (λ f. interests_from f.next (opening_interests cmp matching h f)) h)
      (each_append (λ s. s.0 ≡ made) s2 (s3 ++ []) (numbers_of_one made (λ f. tokens_from f.next (opening_tokens cmp matching h1 f)) h1)
      (each_append (λ s. s.0 ≡ made) s3 [] (numbers_of_one made (opening_final cmp matching) h2) tt))

  -- the new face's number is beyond those of the others
  pub opening_beyond : (n : ℕ) (zid : Zid) (whatami : WhatAmI) (region : Region) (bound : Bound) (first : ℕ) (node : Node K) (X : Fabric K) → nth n X.gateways ≡ Some node → FabricIsInOrder cmp matching X
      → Each (λ m. length X.faces < m.face) (map (printed_at (with_place n X).faces n) (said cmp matching (NewTransport zid whatami region bound first) node.rows))
  opening_beyond n zid whatami region bound first node X at_ fine =
      let g = node.rows in
      let ss = said cmp matching (NewTransport zid whatami region bound first) g in
      let p : Place = record { gateway = n; face = next_face (nth n X.gateways) } in
      let places = X.faces ++ p ∷ [] in
      let gateway = gateway_in_order cmp matching X n node at_ fine in
      let p_face : p.face ≡ g.made + 1 = ap next_face at_ in
      let p_is : p ≡ record { gateway = n; face = g.made + 1 } = ap (λ k. record { gateway = n; face = k }) p_face in
      let unplaced : is_placed n (g.made + 1) X.faces ≡ false = not_placed_yet n (g.made + 1) X.faces (each_weaker (λ q. q.face ≤ g.made) (λ q. q.face < g.made + 1) (λ q low. omega arith) (places_of n X.faces) gateway.places_made) in
      let at_end : number_from 1 n (g.made + 1) places ≡ 1 + length X.faces = ap (λ q. number_from 1 n (g.made + 1) (X.faces ++ q ∷ [])) p_is ∙ number_new 1 n (g.made + 1) X.faces unplaced in
      each_map (λ m. length X.faces < m.face) (printed_at places n) ss
      (each_weaker (λ s. s.0 ≡ g.made + 1) (λ s. length X.faces < (printed_at places n s).face)
      (λ s is. let number_ : number_from 1 n s.0 places ≡ 1 + length X.faces = ap (λ k. number_from 1 n k places) is ∙ at_end in omega (arith, number_)) ss (opening_speaks zid whatami region bound first g))

  end_beyond : (end : LinkEnd K) (X : Fabric K) → FabricIsInOrder cmp matching X → (let at = opening_at cmp matching X end in Each (λ m. length X.faces < m.face) (said_at cmp matching (opened_at cmp matching at X) at))
  end_beyond end X fine =
      by_end cmp matching (λ c. (let at : Option (CallAt K) = elim c [ None ↦ None | Some call ↦ call_at X end.gateway call ] in Beyond at)) end tt
      (λ zid whatami region bound. called_at Beyond X end.gateway (NewTransport zid whatami region bound end.first) tt (λ node at_. opening_beyond end.gateway zid whatami region bound end.first node X at_ fine))
    where
      Beyond : Option (CallAt K) → Type 0
      Beyond at = Each (λ m. length X.faces < m.face) (said_at cmp matching (opened_at cmp matching at X) at)

  module _ (total : IsTotalOrder cmp) where
    pub openings_beyond : (low : ℕ) (ends : List (LinkEnd K)) (X : Fabric K) → low ≤ length X.faces → Each (λ end. 1 ≤ end.first) ends → FabricIsInOrder cmp matching X → Each (λ m. low < m.face) (said_opening cmp matching ends X)
    unfolding said_opening
    openings_beyond low [] X up real fine = tt
    openings_beyond low (end ∷ ends) X up real fine =
        let at = opening_at cmp matching X end in
        let Y = opened_at cmp matching at X in
        let alone = end_alone cmp matching total end X real.0 fine in
        each_append (λ m. low < m.face) (said_at cmp matching Y at) (said_opening cmp matching ends (after_opening cmp matching at X))
        (each_weaker (λ m. length X.faces < m.face) (λ m. low < m.face) (λ m beyond. omega (arith, up, beyond)) (said_at cmp matching Y at) (end_beyond end X fine))
        (openings_beyond low ends (after_opening cmp matching at X) (le_trans up alone.1) real.1 (end_in_order cmp matching total end X real.0 fine))

  -- no opening asks
  pub opened_asks : (P : ℕ → ℕ → ById (Ask K) → Type 0) → ((j k : ℕ) → P j k []) → (ends : List (LinkEnd K)) (X : Fabric K) → AsksIn P X.gateways → AsksIn P (opened_ends cmp matching ends X).gateways
  unfolding opened_ends parts_of altered_by
  opened_asks P none_ [] X all = all
  opened_asks P none_ (end ∷ ends) X all =
      opened_asks P none_ ends (opened_at cmp matching (opening_at cmp matching X end) X)
      (by_end cmp matching (λ c. (let at : Option (CallAt K) = elim c [ None ↦ None | Some call ↦ call_at X end.gateway call ] in AsksIn P (opened_at cmp matching at X).gateways)) end all
      (λ zid whatami region bound.
      let c : PlainCall K = NewTransport zid whatami region bound end.first in
      called_at (λ at. AsksIn P (opened_at cmp matching at X).gateways) X end.gateway c all
      (λ node at_.
      each_from_changed (λ j (x : Node K). Each (λ f. P j f.number f.asks) x.rows.faces) (λ (x : Node K). record x { rows = altered cmp matching c x.rows })
      (λ j x own. each_append (λ f. P j f.number f.asks) x.rows.faces (face_opened zid whatami region bound end.first x.rows ∷ []) own (none_ j (x.rows.made + 1), tt)) end.gateway 1 X.gateways all)))

  -- ---- closings

  altered_close : (P : ℕ → ById (Ask K) → Type 0) (k : ℕ) (g : Rows K) → Each (λ f. P f.number f.asks) g.faces → (let a = altered cmp matching (CloseFace k) g in Each (λ f. P f.number f.asks) a.faces)
  unfolding parts_of altered_by
  altered_close P k g all = cases (find_face k g)
    where
      cases : (o : Option (Face K)) → (let a = altered_by cmp matching (elim o [ None ↦ [] | Some f ↦ closing cmp matching k g f ]) g in Each (λ f. P f.number f.asks) a.faces)
      cases None = all
      cases (Some from) = closing_asks cmp matching P k from g (each_weaker (λ f. P f.number f.asks) (λ f. only k f.number ≡ false → P f.number f.asks) (λ f own _. own) g.faces all)

  -- no closing changes the asks of others
  pub closed_asks : (P : ℕ → ℕ → ById (Ask K) → Type 0) (fs : List ℕ) (X : Fabric K) → AsksIn P X.gateways → AsksIn P (closed_ends cmp matching fs X).gateways
  unfolding closed_ends
  closed_asks P [] X all = all
  closed_asks P (face ∷ fs) X all =
      closed_asks P fs (altered_at cmp matching X (closing_call X face))
      (closing_case cmp matching (λ at. AsksIn P (altered_at cmp matching X at).gateways) X face all
      (λ n k node at_.
      each_from_changed (λ j (x : Node K). Each (λ f. P j f.number f.asks) x.rows.faces) (λ (x : Node K). record x { rows = altered cmp matching (CloseFace k) x.rows })
      (λ j x own. altered_close (P j) k x.rows own) n 1 X.gateways all))

  -- ---- gateways that have heard

  pub heard_back : (P : ℕ → Node K → Type 0) (Z : Fabric K) (ms : List (Sent K)) (i : ℕ) (ws : List (Node K)) → EachFrom P i (gateways_after_hearing cmp Z ms i ws)
      → EachFrom (λ j (x : Node K). P j (record x { rows = rows_after_hearing cmp Z ms j x.rows })) i ws
  unfolding gateways_after_hearing
  heard_back P Z ms i [] all = tt
  heard_back P Z ms i (x ∷ ws) all = (all.0, heard_back P Z ms (i + 1) ws all.1)
