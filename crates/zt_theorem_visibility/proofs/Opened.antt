-- The two openings of a link's line, one after another.
use Rattle.std.proofs.Common.{◌≡◌, ℕ, ◌+◌, ◌≤◌, ◌<◌, Bool, true, false, List, [], ◌∷◌, ◌++◌, length, map, Option, Some, None, refl, sym, ap, ◌∙◌, subst, append-nil, append_assoc, arith, le_trans}
use Rattle.std.specs.Cmp.{IsTotalOrder}
use Rattle.std.specs.declared.cmp.Ordering.{Ordering}
use Rattle.zt_region.specs.declared.region.Bound.{Bound}
use Rattle.zt_region.specs.declared.region.Region.{Region}
use Rattle.zt_region.specs.declared.region.WhatAmI.{WhatAmI}
use Rattle.zt_region.specs.declared.region.Zid.{Zid}
use Rattle.zt_protocol.specs.Plain.{PlainCall, NewTransport}
use Rattle.zt_protocol.specs.declared.entries.Sent.{Sent}
use Rattle.zt_protocol.specs.declared.messages.Message.{Message}
use Rattle.zt_model.specs.Fabric.{CallAt, Fabric, Node, Place, after_hearing, call_at, next_face, number_from, opened_at, opened_ends, opening_at, printed_for, said_at, said_opening, sorted_by_face, with_place}
use Rattle.zt_model.specs.Hearing.{messages_for}
use Rattle.zt_model.specs.Linking.{LinkEnd}
use Rattle.zt_model.specs.Lists.{nth}
use Rattle.zt_model.specs.Rows.{Face, Rows}
use Rattle.zt_model.specs.Says.{altered, said}
use Rattle.zt_model.specs.Transcript.{Each}
use Rattle.zt_laws.specs.Order.{FabricIsInOrder, GatewayIsInOrder, RowsAreInOrder}
use Rattle.zt_laws.specs.Sound.{is_placed, places_of, rows_after_call}
use Rattle.zt_laws.proofs.Ends.{after_hearing-append, by_end, end_alone, end_in_order, ends_commute, printed_for-append, printed_none, said_within}
use Rattle.zt_laws.proofs.Gateways.{after_hearing_nothing, prints_map}
use Rattle.zt_laws.proofs.Interleaving.{hearing_alike}
use Rattle.zt_laws.proofs.LinesOrder.{after_prints, called_at, faces_still_placed, gateway_in_order, heard_faces_placed, opened_faces}
use Rattle.zt_laws.proofs.Lists.{each_append, each_both, each_weaker}
use Rattle.zt_laws.proofs.Numbered.{each_from_at, each_from_nth, nth_real}
use Rattle.zt_laws.proofs.Places.{not_placed_yet, number_new, number_still, placed_new, placed_still}
use Rattle.zt_laws.proofs.Sorting.{printed as printed_at, printed_sorted}
use Rattle.zt_laws.proofs.Unlinking.{each_from_both}
use Rattle.zt_theorem_visibility.proofs.Faces.{FacesHave, faces_sorted}

module _ {K : Type 0} (cmp : K → K → Ordering) (matching : K → K → Bool) where
  module _ (total : IsTotalOrder cmp) (R : ℕ → Rows K → Face K → List (Message K) → Type 0)
      (step : (n : ℕ) (zid : Zid) (whatami : WhatAmI) (region : Region) (bound : Bound) (first : ℕ) (g : Rows K) → 1 ≤ first → RowsAreInOrder cmp matching g → (before : ℕ → List (Message K)) → before (g.made + 1) ≡ [] → Each (λ f. R n g f (before f.number)) g.faces
      → (let c : PlainCall K = NewTransport zid whatami region bound first in
      let h = rows_after_call cmp matching c g in
      Each (λ f. R n h f (before f.number ++ messages_for f.number (said cmp matching c g))) h.faces)) where
    abbrev Within : List (Sent K) → Fabric K → Type 0
    Within ms X = Each (λ m. m.face ≤ length X.faces) ms

    -- a face is opened, and what is said then is heard
    opening_goes_on : (end : LinkEnd K) (X : Fabric K) (ms : List (Sent K)) → 1 ≤ end.first → FabricIsInOrder cmp matching X → Within ms X → FacesHave R X.faces ms X.gateways
        → (let at = opening_at cmp matching X end in
        let Y = opened_at cmp matching at X in
        FacesHave R Y.faces (ms ++ said_at cmp matching Y at) (after_hearing cmp (said_at cmp matching Y at) Y).gateways)
    opening_goes_on end X ms real fine within all =
        by_end cmp matching (λ c. Opened (elim c [ None ↦ None | Some call ↦ call_at X end.gateway call ])) end nothing
        (λ zid whatami region bound. called_at Opened X end.gateway (NewTransport zid whatami region bound end.first) nothing (opened zid whatami region bound))
      where
        Opened : Option (CallAt K) → Type 0
        Opened at = (let Y = opened_at cmp matching at X in FacesHave R Y.faces (ms ++ said_at cmp matching Y at) (after_hearing cmp (said_at cmp matching Y at) Y).gateways)

        nothing : Opened None
        nothing = subst (λ (t : Fabric K). FacesHave R X.faces (ms ++ []) t.gateways) (sym (after_hearing_nothing cmp X)) (subst (λ xs. FacesHave R X.faces xs X.gateways) (sym (append-nil ms)) all)

        opened : (zid : Zid) (whatami : WhatAmI) (region : Region) (bound : Bound) (node : Node K) → nth end.gateway X.gateways ≡ Some node
            → Opened (Some (record { gateway = end.gateway; rows = node.rows; call = NewTransport zid whatami region bound end.first }))
        opened zid whatami region bound node at_ =
            let n = end.gateway in
            let c : PlainCall K = NewTransport zid whatami region bound end.first in
            let g = node.rows in
            let h = rows_after_call cmp matching c g in
            let ss = said cmp matching c g in
            let p : Place = record { gateway = n; face = next_face (nth n X.gateways) } in
            let places = X.faces ++ p ∷ [] in
            let ns = map (printed_at places n) ss in
            let prints = prints_map places n ss in
            let gateway = gateway_in_order cmp matching X n node at_ fine in
            let p_face : p.face ≡ g.made + 1 = ap next_face at_ in
            let new_ : is_placed n (g.made + 1) places ≡ true = subst (λ k. is_placed n k places ≡ true) p_face (placed_new n p.face X.faces) in
            let placed = opened_faces cmp matching total (λ k. is_placed n k places ≡ true) c g refl new_ (each_weaker (λ f. is_placed n f.number X.faces ≡ true) (λ f. is_placed n f.number places ≡ true) (λ f there. placed_still n f.number X.faces p there) g.faces gateway.placed) in
            let p_is : p ≡ record { gateway = n; face = g.made + 1 } = ap (λ k. record { gateway = n; face = k }) p_face in
            let unplaced : is_placed n (g.made + 1) X.faces ≡ false = not_placed_yet n (g.made + 1) X.faces (each_weaker (λ q. q.face ≤ g.made) (λ q. q.face < g.made + 1) (λ q low. omega arith) (places_of n X.faces) gateway.places_made) in
            let at_end : number_from 1 n (g.made + 1) places ≡ 1 + length X.faces = ap (λ q. number_from 1 n (g.made + 1) (X.faces ++ q ∷ [])) p_is ∙ number_new 1 n (g.made + 1) X.faces unplaced in
            let nothing_before : printed_for (number_from 1 n (g.made + 1) places) ms ≡ [] = ap (λ k. printed_for k ms) at_end ∙ printed_none (1 + length X.faces) ms (each_weaker (λ m. m.face ≤ length X.faces) (λ m. m.face < 1 + length X.faces) (λ m low. omega arith) ms within) in
            let before = λ (k : ℕ). printed_for (number_from 1 n k places) ms in
            let own = each_from_nth (λ j (x : Node K). Each (λ f. R j x.rows f (printed_for (number_from 1 j f.number X.faces) ms)) x.rows.faces) 1 n n X.gateways node (omega arith) all at_ in
            let own_ = each_both (λ f. is_placed n f.number X.faces ≡ true) (λ f. R n g f (printed_for (number_from 1 n f.number X.faces) ms)) (λ f. R n g f (before f.number)) (λ f there one. subst (λ k. R n g f (printed_for k ms)) (sym (number_still 1 n f.number X.faces p there)) one) g.faces gateway.placed own in
            subst (λ (t : Fabric K). FacesHave R places (ms ++ ns) t.gateways) (sym (after_prints cmp matching n node c (with_place n X) ns prints at_ placed.0 (faces_still_placed cmp matching p X fine)))
            (each_from_at (λ j (x : Node K). GatewayIsInOrder cmp matching X.faces j x.rows × Each (λ f. R j x.rows f (printed_for (number_from 1 j f.number X.faces) ms)) x.rows.faces) (λ j (x : Node K). Each (λ f. R j x.rows f (printed_for (number_from 1 j f.number places) (ms ++ ns))) x.rows.faces) (λ (x : Node K). record x { rows = rows_after_call cmp matching c x.rows }) 1 n n X.gateways (nth_real n X.gateways node at_) (omega arith)
            (λ j x apart both.
            each_both (λ f. is_placed j f.number X.faces ≡ true) (λ f. R j x.rows f (printed_for (number_from 1 j f.number X.faces) ms)) (λ f. R j x.rows f (printed_for (number_from 1 j f.number places) (ms ++ ns)))
            (λ f there one.
            let m = number_from 1 j f.number places in
            subst (R j x.rows f) (sym (printed_for-append m ms ns ∙ ap (λ xs. printed_for m ms ++ xs) (prints.other j f.number apart (placed_still j f.number X.faces p there)) ∙ append-nil (printed_for m ms)))
            (subst (λ k. R j x.rows f (printed_for k ms)) (sym (number_still 1 j f.number X.faces p there)) one)) x.rows.faces both.0.placed both.1)
            (λ x is both.
            let e : Some node ≡ Some x = sym at_ ∙ is in
            let same_ : node ≡ x = cc in
            subst (λ (y : Node K). (let y_after = rows_after_call cmp matching c y.rows in Each (λ f. R n y_after f (printed_for (number_from 1 n f.number places) (ms ++ ns))) y_after.faces)) same_
            (each_both (λ f. is_placed n f.number places ≡ true) (λ f. R n h f (before f.number ++ messages_for f.number ss)) (λ f. R n h f (printed_for (number_from 1 n f.number places) (ms ++ ns)))
            (λ f there one.
            let m = number_from 1 n f.number places in
            subst (R n h f) (sym (printed_for-append m ms ns ∙ ap (λ xs. printed_for m ms ++ xs) (prints.own f.number there))) one)
            h.faces (heard_faces_placed cmp matching places n ss (altered cmp matching c g) placed.0) (step n zid whatami region bound end.first g real gateway.rows before nothing_before own_)))
            (each_from_both (λ j (x : Node K). GatewayIsInOrder cmp matching X.faces j x.rows) (λ j (x : Node K). Each (λ f. R j x.rows f (printed_for (number_from 1 j f.number X.faces) ms)) x.rows.faces) (λ j (x : Node K). GatewayIsInOrder cmp matching X.faces j x.rows × Each (λ f. R j x.rows f (printed_for (number_from 1 j f.number X.faces) ms)) x.rows.faces) (λ j x a b. (a, b)) 1 X.gateways fine.gateways all))

    openings_go_on : (ends : List (LinkEnd K)) (X : Fabric K) (ms : List (Sent K)) → Each (λ end. 1 ≤ end.first) ends → FabricIsInOrder cmp matching X → Within ms X → FacesHave R X.faces ms X.gateways
        → (let Z = opened_ends cmp matching ends X in
        let ns = said_opening cmp matching ends X in
        FacesHave R Z.faces (ms ++ ns) (after_hearing cmp ns Z).gateways)
    unfolding opened_ends said_opening
    openings_go_on [] X ms real fine within all = subst (λ (t : Fabric K). FacesHave R X.faces (ms ++ []) t.gateways) (sym (after_hearing_nothing cmp X)) (subst (λ xs. FacesHave R X.faces xs X.gateways) (sym (append-nil ms)) all)
    openings_go_on (end ∷ ends) X ms real fine within all =
        let at = opening_at cmp matching X end in
        let Y = opened_at cmp matching at X in
        let ms1 = said_at cmp matching Y at in
        let H = after_hearing cmp ms1 Y in
        let ns = said_opening cmp matching ends H in
        let alone = end_alone cmp matching total end X real.0 fine in
        let up : length X.faces ≤ length Y.faces = alone.1 in
        let within1 = said_within cmp matching total end X in
        let rest = openings_go_on ends H (ms ++ ms1) real.1 (end_in_order cmp matching total end X real.0 fine)
        (each_append (λ m. m.face ≤ length Y.faces) ms ms1 (each_weaker (λ m. m.face ≤ length X.faces) (λ m. m.face ≤ length Y.faces) (λ m low. le_trans low up) ms within) within1)
        (opening_goes_on end X ms real.0 fine within all) in
        subst (λ xs. FacesHave R (opened_ends cmp matching ends Y).faces xs (after_hearing cmp (ms1 ++ ns) (opened_ends cmp matching ends Y)).gateways) (append_assoc ms ms1 ns)
        (subst (λ (t : Fabric K). FacesHave R t.faces ((ms ++ ms1) ++ ns) t.gateways)
        (sym (after_hearing-append cmp ms1 ns (opened_ends cmp matching ends Y) ∙ ap (after_hearing cmp ns) (ends_commute cmp matching total ends ms1 Y real.1 alone.0 within1)))
        rest)

    -- what openings say, in order of face
    pub linked_go_on : (ends : List (LinkEnd K)) (X : Fabric K) → Each (λ end. 1 ≤ end.first) ends → FabricIsInOrder cmp matching X → FacesHave R X.faces [] X.gateways
        → (let Z = opened_ends cmp matching ends X in
        let ms = sorted_by_face (said_opening cmp matching ends X) in
        FacesHave R Z.faces ms (after_hearing cmp ms Z).gateways)
    linked_go_on ends X real fine all =
        let Z = opened_ends cmp matching ends X in
        let ns = said_opening cmp matching ends X in
        let alike : after_hearing cmp (sorted_by_face ns) Z ≡ after_hearing cmp ns Z = hearing_alike cmp (sorted_by_face ns) ns Z (λ k. printed_sorted k ns) in
        subst (λ (t : Fabric K). FacesHave R Z.faces (sorted_by_face ns) t.gateways) (sym alike)
        (faces_sorted R Z.faces ns (after_hearing cmp ns Z).gateways (openings_go_on ends X [] real fine tt all))
