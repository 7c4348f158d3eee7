-- The two calls of a link's line: what the first says may be heard before the second opens its face, or after.
use Rattle.std.proofs.Common.{◌≡◌, ℕ, ◌+◌, ◌-◌, ◌≤◌, ◌<◌, Bool, true, false, cond, ◌==◌, List, [], ◌∷◌, ◌++◌, map, length, Option, Some, None, Ok, Err, refl, sym, ap, ◌∙◌, subst, arith, eqb-true, length-append, ne_eqb, le_refl, le_trans}
use Rattle.std.proofs.lemmas.Bool.{eqb-false}
use Rattle.std.specs.Cmp.{IsTotalOrder}
use Rattle.std.specs.declared.cmp.Ordering.{Ordering}
use Rattle.zt_region.specs.declared.region.Bound.{Bound}
use Rattle.zt_region.specs.declared.region.Region.{Region}
use Rattle.zt_region.specs.declared.region.WhatAmI.{WhatAmI}
use Rattle.zt_region.specs.declared.region.Zid.{Zid}
use Rattle.zt_region.specs.Tables.{RegionAnswer}
use Rattle.zt_protocol.specs.Plain.{PlainCall, NewTransport}
use Rattle.zt_protocol.specs.declared.entries.Sent.{Sent}
use Rattle.zt_protocol.specs.declared.messages.Message.{Message}
use Rattle.zt_model.specs.Fabric.{CallAt, Fabric, Node, Place, after_hearing, after_opening, at_nth, call_at, gateways_after_hearing, next_face, number_from, number_of_place, opened_at, opened_ends, opening_at, printed_for, rows_after_hearing, said_at, said_opening, with_place, with_rows}
use Rattle.zt_model.specs.Hearing.{heard_all}
use Rattle.zt_model.specs.Linking.{LinkEnd, end_call, end_region}
use Rattle.zt_model.specs.Lists.{nth}
use Rattle.zt_model.specs.Places.{Link}
use Rattle.zt_model.specs.Routing.{face_opened, opened}
use Rattle.zt_model.specs.Rows.{ById, Face, Rows}
use Rattle.zt_model.specs.Says.{Sends, altered, altered_by, parts_of, said}
use Rattle.zt_model.specs.Transcript.{Each}
use Rattle.zt_laws.specs.Order.{FabricIsInOrder}
use Rattle.zt_laws.specs.Sound.{EachFrom, is_placed, places_of}
use Rattle.zt_laws.proofs.CallsOrder.{transport_in_order}
use Rattle.zt_laws.proofs.Gateways.{FacesArePlaced, after_hearing_nothing, prints_map}
use Rattle.zt_laws.proofs.Hearing.{heard_all-append, heard_all-number}
use Rattle.zt_laws.proofs.LinesOrder.{called_at, faces_placed, gateway_in_order, in_order_opened, in_order_place, opened_faces}
use Rattle.zt_laws.proofs.Lists.{by_test, each_always, each_map, each_weaker, map-append, map-map, map_alike}
use Rattle.zt_laws.proofs.Numbered.{nth_real}
use Rattle.zt_laws.proofs.Places.{is_place, not_placed_yet, number_new, number_still, placed_new, placed_still}
use Rattle.zt_laws.proofs.Sorting.{printed}

pub printed_for-append : {K : Type 0} (n : ℕ) (ms ns : List (Sent K)) → printed_for n (ms ++ ns) ≡ printed_for n ms ++ printed_for n ns
unfolding printed_for
printed_for-append n [] ns = refl
printed_for-append n (m ∷ ms) ns = by_test (n == m.face) (λ here. rw here (ap (λ xs. m.message ∷ xs) (printed_for-append n ms ns))) (λ here. rw here (printed_for-append n ms ns))

-- nothing is printed for a number above those of the messages
pub printed_none : {K : Type 0} (n : ℕ) (ms : List (Sent K)) → Each (λ m. m.face < n) ms → printed_for n ms ≡ []
unfolding printed_for
printed_none n [] below = refl
printed_none n (m ∷ ms) below =
    let less : m.face < n = below.0 in
    let miss : (n == m.face) ≡ false = ne_eqb n m.face (λ e. omega arith) in
    rw miss (printed_none n ms below.1)

number_within : (i n f : ℕ) (ps : List Place) → 1 ≤ i → number_from i n f ps < i + length ps
unfolding number_from
number_within i n f [] real = omega arith
number_within i n f (p ∷ ps) real =
    by_test (is_place n f p) (λ here. rw here (omega arith)) (λ here. let rest : number_from (i + 1) n f ps < (i + 1) + length ps = number_within (i + 1) n f ps (omega arith) in rw here (omega arith))

printed_within : {K : Type 0} (places : List Place) (n : ℕ) (ss : Sends K) → Each (λ m. m.face ≤ length places) (map (printed places n) ss)
printed_within places n ss =
    each_map (λ m. m.face ≤ length places) (printed places n) ss
    (each_always (λ t. number_from 1 n t.0 places ≤ length places) (λ t. let less : number_from 1 n t.0 places < 1 + length places = number_within 1 n t.0 places (omega arith) in omega arith) ss)

module _ {K : Type 0} (cmp : K → K → Ordering) where
  -- ---- messages that are sent later are heard later

  rows_hear_append : (s : Fabric K) (ms ns : List (Sent K)) (k : ℕ) (g : Rows K) → rows_after_hearing cmp s (ms ++ ns) k g ≡ rows_after_hearing cmp s ns k (rows_after_hearing cmp s ms k g)
  rows_hear_append s ms ns k g =
      ap (λ (fs : List (Face K)). record g { faces = fs })
      (map_alike (λ f. heard_all cmp g.moment (printed_for (number_of_place s k f.number) (ms ++ ns)) f) (λ f. after (first f)) g.faces
      (each_always (λ f. heard_all cmp g.moment (printed_for (number_of_place s k f.number) (ms ++ ns)) f ≡ after (first f))
      (λ f.
      ap (λ xs. heard_all cmp g.moment xs f) (printed_for-append (number_of_place s k f.number) ms ns)
      ∙ heard_all-append cmp g.moment (printed_for (number_of_place s k f.number) ms) (printed_for (number_of_place s k f.number) ns) f
      ∙ ap (λ n. heard_all cmp g.moment (printed_for (number_of_place s k n) ns) (first f)) (sym (heard_all-number cmp g.moment (printed_for (number_of_place s k f.number) ms) f)))
      g.faces)
      ∙ sym (map-map after first g.faces))
    where
      first : Face K → Face K
      first f = heard_all cmp g.moment (printed_for (number_of_place s k f.number) ms) f

      after : Face K → Face K
      after f = heard_all cmp g.moment (printed_for (number_of_place s k f.number) ns) f

  pub after_hearing-append : (ms ns : List (Sent K)) (s : Fabric K) → after_hearing cmp (ms ++ ns) s ≡ after_hearing cmp ns (after_hearing cmp ms s)
  unfolding gateways_after_hearing
  after_hearing-append ms ns s = ap (λ (gs : List (Node K)). record s { gateways = gs }) (gateways 1 s.gateways)
    where
      gateways : (k : ℕ) (gs : List (Node K)) → gateways_after_hearing cmp s (ms ++ ns) k gs ≡ gateways_after_hearing cmp (after_hearing cmp ms s) ns k (gateways_after_hearing cmp s ms k gs)
      gateways k [] = refl
      gateways k (node ∷ gs) =
          ap (λ (g : Rows K). record node { rows = g } ∷ gateways_after_hearing cmp s (ms ++ ns) (k + 1) gs) (rows_hear_append s ms ns k node.rows)
          ∙ ap (λ rest. record node { rows = rows_after_hearing cmp s ns k (rows_after_hearing cmp s ms k node.rows) } ∷ rest) (gateways (k + 1) gs)

  -- ---- a change of one gateway, before or after messages are heard

  module _ (P : ℕ → Rows K → Type 0) (s t : Fabric K) (ms : List (Sent K)) (n : ℕ) (change : Rows K → Rows K)
      (other : (j : ℕ) (g : Rows K) → P j g → rows_after_hearing cmp t ms j g ≡ rows_after_hearing cmp s ms j g) where
    heard_alike : (k : ℕ) (gs : List (Node K)) → EachFrom (λ j (node : Node K). P j node.rows) k gs → gateways_after_hearing cmp t ms k gs ≡ gateways_after_hearing cmp s ms k gs
    unfolding gateways_after_hearing
    heard_alike k [] placed = refl
    heard_alike k (node ∷ gs) placed =
        ap (λ (g : Rows K). record node { rows = g } ∷ gateways_after_hearing cmp t ms (k + 1) gs) (other k node.rows placed.0)
        ∙ ap (λ rest. record node { rows = rows_after_hearing cmp s ms k node.rows } ∷ rest) (heard_alike (k + 1) gs placed.1)

    pub heard_changed : (k m : ℕ) (gs : List (Node K)) → 1 ≤ m → k + m ≡ n + 1
        → ((node : Node K) → nth m gs ≡ Some node → rows_after_hearing cmp t ms n (change node.rows) ≡ change (rows_after_hearing cmp s ms n node.rows))
        → EachFrom (λ j (node : Node K). P j node.rows) k gs
        → gateways_after_hearing cmp t ms k (at_nth m (λ (node : Node K). record node { rows = change node.rows }) gs) ≡ at_nth m (λ (node : Node K). record node { rows = change node.rows }) (gateways_after_hearing cmp s ms k gs)
    unfolding gateways_after_hearing
    heard_changed k m [] real count own placed = refl
    heard_changed k m (node ∷ gs) real count own placed =
        by_test (m == 1)
        (λ here.
        let one : m ≡ 1 = eqb-true m 1 here in
        let number_ : n ≡ k = omega arith in
        let at_node : nth m (node ∷ gs) ≡ Some node = ap (λ b. cond b (Some node) (nth (m - 1) gs)) here in
        rw here
        (ap (λ j. record node { rows = rows_after_hearing cmp t ms j (change node.rows) } ∷ gateways_after_hearing cmp t ms (k + 1) gs) (sym number_)
        ∙ ap (λ (g : Rows K). record node { rows = g } ∷ gateways_after_hearing cmp t ms (k + 1) gs) (own node at_node)
        ∙ ap (λ j. record node { rows = change (rows_after_hearing cmp s ms j node.rows) } ∷ gateways_after_hearing cmp t ms (k + 1) gs) number_
        ∙ ap (λ rest. record node { rows = change (rows_after_hearing cmp s ms k node.rows) } ∷ rest) (heard_alike (k + 1) gs placed.1)))
        (λ here.
        let more : m ≡ 1 → ⊥ = eqb-false m 1 here in
        let real_ : 1 ≤ m - 1 = omega arith in
        rw here
        (ap (λ (g : Rows K). record node { rows = g } ∷ gateways_after_hearing cmp t ms (k + 1) (at_nth (m - 1) (λ (node : Node K). record node { rows = change node.rows }) gs)) (other k node.rows placed.0)
        ∙ ap (λ rest. record node { rows = rows_after_hearing cmp s ms k node.rows } ∷ rest) (heard_changed (k + 1) (m - 1) gs real_ (omega arith) (λ x at_. own x (ap (λ b. cond b (Some node) (nth (m - 1) gs)) here ∙ at_)) placed.1)))

  -- the gateway of a number, after messages are heard
  pub nth_heard : (s : Fabric K) (ms : List (Sent K)) (k m : ℕ) (gs : List (Node K)) (node : Node K) → nth m gs ≡ Some node → (x : Node K) × (nth m (gateways_after_hearing cmp s ms k gs) ≡ Some x) × (x.rows.made ≡ node.rows.made)
  unfolding gateways_after_hearing
  nth_heard s ms k m [] node at_ = cc
  nth_heard s ms k m (y ∷ gs) node at_ =
      by_test (m == 1)
      (λ here. let e : Some y ≡ Some node = rw here at at_ in let is : y ≡ node = cc in rw here (record y { rows = rows_after_hearing cmp s ms k y.rows }, refl, ap (λ (z : Node K). z.rows.made) is))
      (λ here. rw here (nth_heard s ms (k + 1) (m - 1) gs node (rw here at at_)))

  pub nth_heard_none : (s : Fabric K) (ms : List (Sent K)) (k m : ℕ) (gs : List (Node K)) → nth m gs ≡ None → nth m (gateways_after_hearing cmp s ms k gs) ≡ None
  unfolding gateways_after_hearing
  nth_heard_none s ms k m [] at_ = refl
  nth_heard_none s ms k m (y ∷ gs) at_ =
      by_test (m == 1) (λ here. let e : Some y ≡ None = rw here at at_ in cc) (λ here. rw here (nth_heard_none s ms (k + 1) (m - 1) gs (rw here at at_)))

module _ {K : Type 0} (cmp : K → K → Ordering) (matching : K → K → Bool) where
  -- ---- a face is opened before or after messages are heard

  module _ (n : ℕ) (p : Place) (ms : List (Sent K)) (X : Fabric K) (within : Each (λ m. m.face ≤ length X.faces) ms) where
    abbrev more : Fabric K
    more = record X { faces = X.faces ++ p ∷ [] }

    hears_still : (j : ℕ) (g : Rows K) → FacesArePlaced X.faces j g → rows_after_hearing cmp more ms j g ≡ rows_after_hearing cmp X ms j g
    hears_still j g placed =
        ap (λ (fs : List (Face K)). record g { faces = fs })
        (map_alike (λ f. heard_all cmp g.moment (printed_for (number_from 1 j f.number (X.faces ++ p ∷ [])) ms) f) (λ f. heard_all cmp g.moment (printed_for (number_from 1 j f.number X.faces) ms) f) g.faces
        (each_weaker (λ f. is_placed j f.number X.faces ≡ true) (λ f. heard_all cmp g.moment (printed_for (number_from 1 j f.number (X.faces ++ p ∷ [])) ms) f ≡ heard_all cmp g.moment (printed_for (number_from 1 j f.number X.faces) ms) f)
        (λ f there. ap (λ k. heard_all cmp g.moment (printed_for k ms) f) (number_still 1 j f.number X.faces p there)) g.faces placed))

    opens_heard : (zid : Zid) (whatami : WhatAmI) (region : Region) (bound : Bound) (first : ℕ) (g : Rows K) → p ≡ record { gateway = n; face = g.made + 1 } → FacesArePlaced X.faces n g → is_placed n (g.made + 1) X.faces ≡ false
        → rows_after_hearing cmp more ms n (opened zid whatami region bound first g) ≡ opened zid whatami region bound first (rows_after_hearing cmp X ms n g)
    unfolding heard_all
    opens_heard zid whatami region bound first g p_is placed new_ =
        let f = face_opened zid whatami region bound first g in
        let hears = λ (h : Face K). heard_all cmp g.moment (printed_for (number_from 1 n h.number (X.faces ++ p ∷ [])) ms) h in
        let number_ : number_from 1 n (g.made + 1) (X.faces ++ p ∷ []) ≡ 1 + length X.faces = ap (λ q. number_from 1 n (g.made + 1) (X.faces ++ q ∷ [])) p_is ∙ number_new 1 n (g.made + 1) X.faces new_ in
        let nothing : printed_for (number_from 1 n (g.made + 1) (X.faces ++ p ∷ [])) ms ≡ [] =
        ap (λ k. printed_for k ms) number_ ∙ printed_none (1 + length X.faces) ms (each_weaker (λ m. m.face ≤ length X.faces) (λ m. m.face < 1 + length X.faces) (λ m up. omega arith) ms within) in
        ap (λ (fs : List (Face K)). record g { made = g.made + 1; faces = fs }) (map-append hears g.faces (f ∷ []) ∙ ap (λ xs. map hears g.faces ++ heard_all cmp g.moment xs f ∷ []) nothing)
        ∙ ap (λ (h : Rows K). record h { made = g.made + 1; faces = h.faces ++ f ∷ [] }) (hears_still n g placed)

  -- ---- ends of links

  abbrev StartsReal : LinkEnd K → Type 0
  StartsReal end = 1 ≤ end.first

  -- the call at an end opens a transport
  pub by_end : (G : Option (PlainCall K) → Type 0) (end : LinkEnd K) → G None → ((zid : Zid) (whatami : WhatAmI) (region : Region) (bound : Bound) → G (Some (NewTransport zid whatami region bound end.first))) → G (end_call end)
  by_end G end nothing opens = cases (end_region end.node end.other)
    where
      cases : (o : RegionAnswer) → G (elim o [ Ok given ↦ Some (NewTransport end.other.rows.zid end.other.rows.mode given.0 given.1 end.first) | Err e ↦ None ])
      cases (Ok given) = opens end.other.rows.zid end.other.rows.mode given.0 given.1
      cases (Err e) = nothing

  -- a face is opened at the gateway, where it is there
  abbrev opened_by : ℕ → PlainCall K → Fabric K → Fabric K
  opened_by n c X = opened_at cmp matching (call_at X n c) X

  length_more : (X : Fabric K) (p : Place) → length X.faces ≤ length (X.faces ++ p ∷ [])
  length_more X p = omega (arith, length-append X.faces (p ∷ []))

  module _ (total : IsTotalOrder cmp) where
    -- an opened face leaves the fabric in order, before its messages are heard
    pub opened_alone : (zid : Zid) (whatami : WhatAmI) (region : Region) (bound : Bound) (first n : ℕ) (X : Fabric K) → 1 ≤ first → FabricIsInOrder cmp matching X
        → (let c : PlainCall K = NewTransport zid whatami region bound first in FabricIsInOrder cmp matching (opened_by n c X) × (length X.faces ≤ length (opened_by n c X).faces))
    unfolding parts_of altered_by
    opened_alone zid whatami region bound first n X real fine =
        let c : PlainCall K = NewTransport zid whatami region bound first in
        called_at (λ at. FabricIsInOrder cmp matching (opened_at cmp matching at X) × (length X.faces ≤ length (opened_at cmp matching at X).faces)) X n c (fine, le_refl (length X.faces))
        (λ node at_.
        let gateway = gateway_in_order cmp matching X n node at_ fine in
        let p : Place = record { gateway = n; face = next_face (nth n X.gateways) } in
        let places = X.faces ++ p ∷ [] in
        let new_ : is_placed n (node.rows.made + 1) places ≡ true = subst (λ k. is_placed n k places ≡ true) (ap next_face at_) (placed_new n p.face X.faces) in
        let after = opened_faces cmp matching total (λ k. is_placed n k places ≡ true) c node.rows refl new_ (each_weaker (λ f. is_placed n f.number X.faces ≡ true) (λ f. is_placed n f.number places ≡ true) (λ f there. placed_still n f.number X.faces p there) node.rows.faces gateway.placed) in
        (in_order_place cmp matching n node (altered cmp matching c) X at_ (transport_in_order cmp matching total zid whatami region bound first node.rows real gateway.rows) after.0 after.1 fine, length_more X p))

    -- and so does it where messages are heard before it is opened, or after
    opening_commutes : (zid : Zid) (whatami : WhatAmI) (region : Region) (bound : Bound) (first n : ℕ) (ms : List (Sent K)) (X : Fabric K) → FabricIsInOrder cmp matching X → Each (λ m. m.face ≤ length X.faces) ms
        → (let c : PlainCall K = NewTransport zid whatami region bound first in after_hearing cmp ms (opened_by n c X) ≡ opened_by n c (after_hearing cmp ms X))
    unfolding parts_of altered_by gateways_after_hearing
    opening_commutes zid whatami region bound first n ms X fine within = cases (nth n X.gateways) refl
      where
        opens : Rows K → Rows K
        opens g = opened zid whatami region bound first g

        at : Option (Node K) → Option (CallAt K)
        at o = elim o [ None ↦ None | Some node ↦ Some (record { gateway = n; rows = node.rows; call = NewTransport zid whatami region bound first }) ]

        Commutes : Option (Node K) → Option (Node K) → Type 0
        Commutes o after = after_hearing cmp ms (opened_at cmp matching (at o) X) ≡ opened_at cmp matching (at after) (after_hearing cmp ms X)

        some : (node x : Node K) → nth n X.gateways ≡ Some node → nth n (after_hearing cmp ms X).gateways ≡ Some x → x.rows.made ≡ node.rows.made → Commutes (Some node) (Some x)
        some node x at_ after_ made_ =
            let H = after_hearing cmp ms X in
            let p : Place = record { gateway = n; face = next_face (nth n X.gateways) } in
            let next_ : next_face (nth n X.gateways) ≡ next_face (nth n H.gateways) = ap next_face at_ ∙ ap (λ (k : ℕ). k + 1) (sym made_) ∙ sym (ap next_face after_) in
            ap (λ (gs : List (Node K)). record (with_place n X) { gateways = gs })
            (heard_changed cmp (λ j g. FacesArePlaced X.faces j g) X (with_place n X) ms n opens (λ j g placed. hears_still n p ms X within j g placed) 1 n X.gateways (nth_real n X.gateways node at_) (omega arith)
            (λ y y_at.
            let gateway = gateway_in_order cmp matching X n y y_at fine in
            opens_heard n p ms X within zid whatami region bound first y.rows (ap (λ (k : ℕ). record { gateway = n; face = k }) (ap next_face y_at)) gateway.placed
            (not_placed_yet n (y.rows.made + 1) X.faces (each_weaker (λ q. q.face ≤ y.rows.made) (λ q. q.face < y.rows.made + 1) (λ q up. omega arith) (places_of n X.faces) gateway.places_made)))
            (faces_placed cmp matching X fine))
            ∙ ap (λ (k : ℕ). record (with_rows n opens H) { faces = X.faces ++ record { gateway = n; face = k } ∷ [] }) next_

        cases : (o : Option (Node K)) → nth n X.gateways ≡ o → Commutes (nth n X.gateways) (nth n (after_hearing cmp ms X).gateways)
        cases None at_ =
            subst (λ o. Commutes o (nth n (after_hearing cmp ms X).gateways)) (sym at_) (subst (λ o. Commutes None o) (sym (nth_heard_none cmp X ms 1 n X.gateways at_)) refl)
        cases (Some node) at_ =
            let there = nth_heard cmp X ms 1 n X.gateways node at_ in
            subst (λ o. Commutes o (nth n (after_hearing cmp ms X).gateways)) (sym at_) (subst (λ o. Commutes (Some node) o) (sym there.1) (some node there.0 at_ there.1 there.2))

    -- ---- all ends

    pub end_alone : (end : LinkEnd K) (X : Fabric K) → StartsReal end → FabricIsInOrder cmp matching X → FabricIsInOrder cmp matching (opened_at cmp matching (opening_at cmp matching X end) X) × (length X.faces ≤ length (opened_at cmp matching (opening_at cmp matching X end) X).faces)
    end_alone end X real fine =
        by_end (λ c. let Y = opened_at cmp matching (elim c [ None ↦ None | Some call ↦ call_at X end.gateway call ]) X in FabricIsInOrder cmp matching Y × (length X.faces ≤ length Y.faces)) end (fine, le_refl (length X.faces))
        (λ zid whatami region bound. opened_alone zid whatami region bound end.first end.gateway X real fine)

    end_commutes : (end : LinkEnd K) (ms : List (Sent K)) (X : Fabric K) → FabricIsInOrder cmp matching X → Each (λ m. m.face ≤ length X.faces) ms
        → after_hearing cmp ms (opened_at cmp matching (opening_at cmp matching X end) X) ≡ opened_at cmp matching (opening_at cmp matching (after_hearing cmp ms X) end) (after_hearing cmp ms X)
    end_commutes end ms X fine within =
        by_end
        (λ c. after_hearing cmp ms (opened_at cmp matching (elim c [ None ↦ None | Some call ↦ call_at X end.gateway call ]) X)
        ≡ opened_at cmp matching (elim c [ None ↦ None | Some call ↦ call_at (after_hearing cmp ms X) end.gateway call ]) (after_hearing cmp ms X)) end refl
        (λ zid whatami region bound. opening_commutes zid whatami region bound end.first end.gateway ms X fine within)

    pub ends_commute : (ends : List (LinkEnd K)) (ms : List (Sent K)) (X : Fabric K) → Each StartsReal ends → FabricIsInOrder cmp matching X → Each (λ m. m.face ≤ length X.faces) ms → after_hearing cmp ms (opened_ends cmp matching ends X) ≡ opened_ends cmp matching ends (after_hearing cmp ms X)
    unfolding opened_ends
    ends_commute [] ms X real fine within = refl
    ends_commute (end ∷ ends) ms X real fine within =
        let Y = opened_at cmp matching (opening_at cmp matching X end) X in
        let alone = end_alone end X real.0 fine in
        let up : length X.faces ≤ length Y.faces = alone.1 in
        ends_commute ends ms Y real.1 alone.0 (each_weaker (λ m. m.face ≤ length X.faces) (λ m. m.face ≤ length Y.faces) (λ m h. le_trans h up) ms within)
        ∙ ap (opened_ends cmp matching ends) (end_commutes end ms X fine within)

    -- a face is opened, and what is said then is heard
    pub end_in_order : (end : LinkEnd K) (X : Fabric K) → StartsReal end → FabricIsInOrder cmp matching X → FabricIsInOrder cmp matching (after_opening cmp matching (opening_at cmp matching X end) X)
    end_in_order end X real fine =
        by_end (λ c. FabricIsInOrder cmp matching (after_opening cmp matching (elim c [ None ↦ None | Some call ↦ call_at X end.gateway call ]) X)) end (subst (FabricIsInOrder cmp matching) (sym (after_hearing_nothing cmp X)) fine)
        (λ zid whatami region bound.
        let c : PlainCall K = NewTransport zid whatami region bound end.first in
        called_at (λ at. FabricIsInOrder cmp matching (after_opening cmp matching at X)) X end.gateway c (subst (FabricIsInOrder cmp matching) (sym (after_hearing_nothing cmp X)) fine)
        (λ node at_. in_order_opened cmp matching total end.gateway node c X (map (printed (with_place end.gateway X).faces end.gateway) (said cmp matching c node.rows)) (prints_map (with_place end.gateway X).faces end.gateway (said cmp matching c node.rows)) at_ refl real fine))

    pub said_within : (end : LinkEnd K) (X : Fabric K) → (let at = opening_at cmp matching X end in Each (λ m. m.face ≤ length (opened_at cmp matching at X).faces) (said_at cmp matching (opened_at cmp matching at X) at))
    said_within end X = cases (opening_at cmp matching X end)
      where
        cases : (at : Option (CallAt K)) → Each (λ m. m.face ≤ length (opened_at cmp matching at X).faces) (said_at cmp matching (opened_at cmp matching at X) at)
        cases None = tt
        cases (Some at) = printed_within (with_place at.gateway X).faces at.gateway (said cmp matching at.call at.rows)

    -- the ends of a link are opened one after another, and all that is said is heard
    pub ends_in_order : (ends : List (LinkEnd K)) (X : Fabric K) → Each StartsReal ends → FabricIsInOrder cmp matching X → FabricIsInOrder cmp matching (after_hearing cmp (said_opening cmp matching ends X) (opened_ends cmp matching ends X))
    unfolding opened_ends said_opening
    ends_in_order [] X real fine = subst (FabricIsInOrder cmp matching) (sym (after_hearing_nothing cmp X)) fine
    ends_in_order (end ∷ ends) X real fine =
        let at = opening_at cmp matching X end in
        let Y = opened_at cmp matching at X in
        let ms = said_at cmp matching Y at in
        let H = after_hearing cmp ms Y in
        let alone = end_alone end X real.0 fine in
        subst (FabricIsInOrder cmp matching)
        (sym (after_hearing-append cmp ms (said_opening cmp matching ends H) (opened_ends cmp matching ends Y) ∙ ap (after_hearing cmp (said_opening cmp matching ends H)) (ends_commute ends ms Y real.1 alone.0 (said_within end X))))
        (ends_in_order ends H real.1 (end_in_order end X real.0 fine))

    -- what is opened looks at no link
    pub opened_elsewhere : (ends : List (LinkEnd K)) (links : List Link) (waiting : ById (List (Message K))) (X : Fabric K) → opened_ends cmp matching ends (record X { links = links; waiting = waiting }) ≡ record (opened_ends cmp matching ends X) { links = links; waiting = waiting }
    unfolding opened_ends
    opened_elsewhere [] links waiting X = refl
    opened_elsewhere (end ∷ ends) links waiting X =
        ap (opened_ends cmp matching ends) (one (opening_at cmp matching X end)) ∙ opened_elsewhere ends links waiting (opened_at cmp matching (opening_at cmp matching X end) X)
      where
        one : (at : Option (CallAt K)) → opened_at cmp matching at (record X { links = links; waiting = waiting }) ≡ record (opened_at cmp matching at X) { links = links; waiting = waiting }
        one None = refl
        one (Some at) = refl
