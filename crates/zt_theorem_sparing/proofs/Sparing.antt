-- Each turn of a transcript is sparing: a face is told only what it seeks, and answered only what it asked for.
use Rattle.std.proofs.Common.{◌≡◌, ◌≢◌, ℕ, ◌+◌, ◌≤◌, ◌==◌, Bool, true, false, not, List, [], ◌∷◌, ◌++◌, map, filter, Option, Some, None, refl, sym, ap, ◌∙◌, subst, eqb-true}
use Rattle.std.specs.Cmp.{IsTotalOrder}
use Rattle.std.specs.List.{list_any}
use Rattle.std.specs.declared.cmp.Ordering.{Ordering}
use Rattle.zt_region.specs.declared.region.Bound.{Bound}
use Rattle.zt_region.specs.declared.region.Region.{Region}
use Rattle.zt_region.specs.declared.region.WhatAmI.{WhatAmI}
use Rattle.zt_region.specs.declared.region.Zid.{Zid}
use Rattle.zt_protocol.specs.Plain.{PlainCall, NewSession, NewTransport, PlainLine}
use Rattle.zt_protocol.specs.declared.entries.Sent.{Sent}
use Rattle.zt_protocol.specs.declared.messages.Message.{Message}
use Rattle.zt_protocol.specs.declared.messages.Message.TheVariants as message
use Rattle.zt_model.specs.Fabric.{CallAt, Fabric, Node, Place, after_hearing, both_ends, closed_ends, entries_from, next_face, number_from, opened_ends, printed_for, said_closing, said_opening, sorted_by_face, with_place, with_rows}
use Rattle.zt_model.specs.Hearing.{messages_for}
use Rattle.zt_model.specs.Linking.{link_ends}
use Rattle.zt_model.specs.Lists.{at_id, is_some_and, nth}
use Rattle.zt_model.specs.Promises.{IsSparing, SparesMessage, Turn, printed, turns_from}
use Rattle.zt_model.specs.Refusals.{call_causes, first_cause}
use Rattle.zt_model.specs.Routing.{face_opened, opened}
use Rattle.zt_model.specs.Rows.{Face, Rows}
use Rattle.zt_model.specs.Says.{Sends, altered, altered_by, find_face, parts_of, said}
use Rattle.zt_model.specs.Transcript.{Each, FaceAt, face_numbered}
use Rattle.zt_model.specs.Wants.{asks_token}
use Rattle.zt_laws.specs.Order.{FabricIsInOrder, RowsAreInOrder}
use Rattle.zt_laws.specs.Shown.{as_shown, node_shown, without_own}
use Rattle.zt_laws.specs.Sound.{HasFirstIds, is_placed, opens_face, rows_after_call}
use Rattle.zt_laws.proofs.AllLines.{starts_real}
use Rattle.zt_laws.proofs.CallsOrder.{altered_faces}
use Rattle.zt_laws.proofs.Entries.{nth-at_nth}
use Rattle.zt_laws.proofs.Gateways.{prints_sorted}
use Rattle.zt_laws.proofs.Hearing.{find_passes}
use Rattle.zt_laws.proofs.LinesOrder.{faces_placed, faces_still_placed, gateway_in_order, heard_faces_placed, opened_faces}
use Rattle.zt_laws.proofs.Lists.{each_always, each_append, each_both, each_map, each_weaker, of_cond}
use Rattle.zt_laws.proofs.Places.{placed_new, placed_still}
use Rattle.zt_laws.proofs.Seen.{asked_for_is, hears_is}
use Rattle.zt_laws.proofs.Sorting.{printed as printed_at}
use Rattle.zt_laws.proofs.Unlinking.{each_from_always, each_from_both}
use Rattle.zt_theorem_visibility.proofs.Calls.{IsOfCalls, IsShownTurn, Shown, messages_at, turns_show}
use Rattle.zt_theorem_visibility.proofs.Faces.{FacesHave, faces_any, faces_called, faces_hear_nothing, faces_weaker}
use Rattle.zt_theorem_visibility.proofs.Future.{nth_map}
use Rattle.zt_theorem_visibility.proofs.Opened.{linked_go_on}
use Rattle.zt_theorem_visibility.proofs.Printed.{face_is_at, messages_judged}
use Rattle.zt_theorem_visibility.proofs.Saying.{closings_say, opening_says, openings_say, printed_sorted_each, unlinked_each}
use Rattle.zt_theorem_sparing.proofs.Answering.{AnswersAsk, AnswersNobody, asked, call_asked, nobody_asked}
use Rattle.zt_theorem_sparing.proofs.Telling.{TellsNobody, TellsRight, abides_heard, call_tells, each_right_still, nobody_right, opening_tells}

module _ {K : Type 0} (cmp : K → K → Ordering) (matching : K → K → Bool) where
  -- an ask stands, once the line has changed what it changes itself
  unfoldable pub asked_in : List (Node K) → ℕ → ℕ → ℕ → K → Bool
  asked_in ws j k i e = is_some_and (nth j ws) (λ (node : Node K). asked cmp matching node.rows k i e)

  abbrev Right : ℕ → Rows K → Face K → List (Message K) → Type 0
  Right j g f xs = Each (TellsRight cmp matching g f) xs

  -- what is told is sought, and what is answered asked for
  abbrev Spares : List (Node K) → ℕ → Rows K → Face K → Message K → Type 0
  Spares ws j g f m = TellsRight cmp matching g f m × AnswersAsk cmp matching (asked_in ws j) f.number m

  abbrev SparesAll : List (Node K) → ℕ → Rows K → Face K → List (Message K) → Type 0
  SparesAll ws j g f xs = Each (Spares ws j g f) xs

  nothing_spared : (ws : List (Node K)) (places : List Place) (gs : List (Node K)) → FacesHave (SparesAll ws) places [] gs
  nothing_spared ws places gs = faces_hear_nothing (SparesAll ws) places gs (each_from_always (λ j (x : Node K). Each (λ f. SparesAll ws j x.rows f []) x.rows.faces) (λ j x. each_always (λ f. Unit {0}) (λ f. tt) x.rows.faces) 1 gs)

  -- where nobody is answered
  right_spared : (ws : List (Node K)) (places : List Place) (ms : List (Sent K)) (gs : List (Node K)) → ((k : ℕ) → Each (AnswersNobody cmp matching) (printed_for k ms)) → FacesHave Right places ms gs → FacesHave (SparesAll ws) places ms gs
  right_spared ws places ms gs none_ right =
      each_from_both (λ j (x : Node K). Each (λ f. Right j x.rows f (printed_for (number_from 1 j f.number places) ms)) x.rows.faces) (λ j (x : Node K). Each (λ f. Each (AnswersNobody cmp matching) (printed_for (number_from 1 j f.number places) ms)) x.rows.faces) (λ j (x : Node K). Each (λ f. SparesAll ws j x.rows f (printed_for (number_from 1 j f.number places) ms)) x.rows.faces)
      (λ j x one two.
      each_both (λ f. Right j x.rows f (printed_for (number_from 1 j f.number places) ms)) (λ f. Each (AnswersNobody cmp matching) (printed_for (number_from 1 j f.number places) ms)) (λ f. SparesAll ws j x.rows f (printed_for (number_from 1 j f.number places) ms))
      (λ f a b. each_both (TellsRight cmp matching x.rows f) (AnswersNobody cmp matching) (Spares ws j x.rows f) (λ m p q. (p, nobody_asked cmp matching (asked_in ws j) f.number m q)) (printed_for (number_from 1 j f.number places) ms) a b) x.rows.faces one two)
      1 gs right (faces_any (λ j g f xs. Each (AnswersNobody cmp matching) xs) places ms gs (λ j k g f. none_ k))

  -- own rows aside
  right_shown : (g : Rows K) (f : Face K) (m : Message K) → TellsRight cmp matching g f m → TellsRight cmp matching (without_own g) f m
  right_shown g f (message.DeclareToken id e None node) right = right
  right_shown g f (message.DeclareToken id e (Some i) node) right = tt
  right_shown g f (message.UndeclareToken id e node) right = tt
  right_shown g f (message.DeclareFinal interest) right = tt
  right_shown g f (message.Interest id mode options e) right = tt
  right_shown g f (message.InterestFinal id) right = tt
  right_shown g f (message.DeclareSubscriber id e interest) right = tt
  right_shown g f (message.DeclareQueryable id e info interest) right = tt

  -- asks that are alike
  asked_alike : (one two : ℕ → ℕ → K → Bool) (n : ℕ) (m : Message K) → ((k i : ℕ) (e : K) → two k i e ≡ one k i e) → AnswersAsk cmp matching one n m → AnswersAsk cmp matching two n m
  asked_alike one two n (message.DeclareToken id e (Some i) node) alike has = alike n i e ∙ has
  asked_alike one two n (message.DeclareToken id e None node) alike has = tt
  asked_alike one two n (message.UndeclareToken id e node) alike has = tt
  asked_alike one two n (message.DeclareFinal interest) alike has = tt
  asked_alike one two n (message.Interest id mode options e) alike has = tt
  asked_alike one two n (message.InterestFinal id) alike has = tt
  asked_alike one two n (message.DeclareSubscriber id e interest) alike has = tt
  asked_alike one two n (message.DeclareQueryable id e info interest) alike has = tt

  -- what each message has, each of those for a face has
  pub each_for : (B : ℕ → Message K → Type 0) (k : ℕ) (ss : Sends K) → Each (λ s. B s.0 s.1) ss → Each (B k) (messages_for k ss)
  unfolding messages_for
  each_for B k [] all = tt
  each_for B k (s ∷ ss) all = of_cond (Each (B k)) (k == s.0) (s.1 ∷ messages_for k ss) (messages_for k ss) (λ here. (subst (λ n. B n s.1) (sym (eqb-true k s.0 here)) all.0, each_for B k ss all.1)) (λ _. each_for B k ss all.1)

  module _ (total : IsTotalOrder cmp) where
    abbrev Comes : Fabric K → List (CallAt K) → List (Sent K) → List Place → List (Node K) → List (Node K) → Type 0
    Comes s calls ms places ws gs = FacesHave (SparesAll ws) places ms gs

    called_spared : (spent : Bool) (n : ℕ) (node : Node K) (c : PlainCall K) (s : Fabric K) → nth n s.gateways ≡ Some node → opens_face c ≡ false → first_cause (call_causes cmp matching spent c node.rows) ≡ None → FabricIsInOrder cmp matching s
        → Comes s (Shown n node c ∷ []) (messages_at cmp matching s.faces n c node) s.faces (with_rows n (altered cmp matching c) s).gateways (with_rows n (rows_after_call cmp matching c) s).gateways
    unfolding asked_in
    called_spared spent n node c s at_ still accepted fine =
        let g = node.rows in
        let gateway = gateway_in_order cmp matching s n node at_ fine in
        let ss = said cmp matching c g in
        let ws = (with_rows n (altered cmp matching c) s).gateways in
        let h = rows_after_call cmp matching c g in
        let placed = altered_faces cmp matching total (λ k. is_placed n k s.faces ≡ true) c g still gateway.rows.lists gateway.placed in
        let there : nth n ws ≡ Some (record node { rows = altered cmp matching c g }) = nth-at_nth n (λ (x : Node K). record x { rows = altered cmp matching c x.rows }) s.gateways node at_ in
        let has = call_asked cmp matching spent c g still gateway.rows in
        faces_called (SparesAll ws) n node (rows_after_call cmp matching c) s.faces ss (messages_at cmp matching s.faces n c node) s.gateways (prints_sorted s.faces n ss) at_ (heard_faces_placed cmp matching s.faces n ss (altered cmp matching c g) placed.0)
        (each_weaker (λ f. Each (TellsRight cmp matching h f) (messages_for f.number ss)) (λ f. SparesAll ws n h f (messages_for f.number ss))
        (λ f right.
        each_both (TellsRight cmp matching h f) (AnswersAsk cmp matching (asked cmp matching (altered cmp matching c g)) f.number) (Spares ws n h f)
        (λ m p q. (p, asked_alike (asked cmp matching (altered cmp matching c g)) (asked_in ws n) f.number m (λ k i e. ap (λ (o : Option (Node K)). is_some_and o (λ (x : Node K). asked cmp matching x.rows k i e)) there) q))
        (messages_for f.number ss) right (each_for (AnswersAsk cmp matching (asked cmp matching (altered cmp matching c g))) f.number ss has)) h.faces (call_tells cmp matching spent c g still accepted gateway.rows))
        (faces_placed cmp matching s fine)
        (each_from_always (λ j (x : Node K). j ≢ n → Each (λ f. SparesAll ws j x.rows f []) x.rows.faces) (λ j x _. each_always (λ f. Unit {0}) (λ f. tt) x.rows.faces) 1 s.gateways)

    -- an opening, after what was printed before it
    opening_step : (n : ℕ) (zid : Zid) (whatami : WhatAmI) (region : Region) (bound : Bound) (first : ℕ) (g : Rows K) → 1 ≤ first → RowsAreInOrder cmp matching g → (before : ℕ → List (Message K)) → before (g.made + 1) ≡ [] → Each (λ f. Right n g f (before f.number)) g.faces
        → (let c : PlainCall K = NewTransport zid whatami region bound first in
        let h = rows_after_call cmp matching c g in
        Each (λ f. Right n h f (before f.number ++ messages_for f.number (said cmp matching c g))) h.faces)
    unfolding parts_of altered_by
    opening_step n zid whatami region bound first g real ordered before none_ all =
        let c : PlainCall K = NewTransport zid whatami region bound first in
        let one = opened zid whatami region bound first g in
        let ss = said cmp matching c g in
        let h = rows_after_call cmp matching c g in
        let new_ = face_opened zid whatami region bound first g in
        let earlier : Each (λ f. Right n one f (before f.number)) one.faces =
        each_append (λ f. Right n one f (before f.number)) g.faces (new_ ∷ [])
        (each_weaker (λ f. Right n g f (before f.number)) (λ f. Right n one f (before f.number)) (λ f own. each_weaker (TellsRight cmp matching g f) (TellsRight cmp matching one f) (λ m p. right_opened m f p) (before f.number) own) g.faces all)
        (subst (Each (TellsRight cmp matching one new_)) (sym none_) tt, tt) in
        each_both (λ f. Each (TellsRight cmp matching h f) (before f.number)) (λ f. Each (TellsRight cmp matching h f) (messages_for f.number ss)) (λ f. Right n h f (before f.number ++ messages_for f.number ss))
        (λ f a b. each_append (TellsRight cmp matching h f) (before f.number) (messages_for f.number ss) a b) h.faces
        (each_right_still cmp matching one h before (abides_heard cmp matching ss one) earlier) (opening_tells cmp matching total zid whatami region bound first g real ordered)
      where
        right_opened : (m : Message K) (f : Face K) → TellsRight cmp matching g f m → TellsRight cmp matching (opened zid whatami region bound first g) f m
        right_opened (message.DeclareToken id e None node) f right = right
        right_opened (message.DeclareToken id e (Some i) node) f right = tt
        right_opened (message.UndeclareToken id e node) f right = tt
        right_opened (message.DeclareFinal interest) f right = tt
        right_opened (message.Interest id mode options e) f right = tt
        right_opened (message.InterestFinal id) f right = tt
        right_opened (message.DeclareSubscriber id e interest) f right = tt
        right_opened (message.DeclareQueryable id e info interest) f right = tt

    nothing_right : (places : List Place) (gs : List (Node K)) → FacesHave Right places [] gs
    nothing_right places gs = faces_hear_nothing Right places gs (each_from_always (λ j (x : Node K). Each (λ f. Right j x.rows f []) x.rows.faces) (λ j x. each_always (λ f. Unit {0}) (λ f. tt) x.rows.faces) 1 gs)

    transport_right : (n : ℕ) (node : Node K) (zid : Zid) (whatami : WhatAmI) (region : Region) (bound : Bound) (first : ℕ) (s : Fabric K) → nth n s.gateways ≡ Some node → 1 ≤ first → FabricIsInOrder cmp matching s
        → (let c : PlainCall K = NewTransport zid whatami region bound first in FacesHave Right (with_place n s).faces (messages_at cmp matching (with_place n s).faces n c node) (with_rows n (rows_after_call cmp matching c) s).gateways)
    transport_right n node zid whatami region bound first s at_ real fine =
        let c : PlainCall K = NewTransport zid whatami region bound first in
        let g = node.rows in
        let gateway = gateway_in_order cmp matching s n node at_ fine in
        let ss = said cmp matching c g in
        let p : Place = record { gateway = n; face = next_face (nth n s.gateways) } in
        let places = s.faces ++ p ∷ [] in
        let p_face : p.face ≡ g.made + 1 = ap next_face at_ in
        let new_ : is_placed n (g.made + 1) places ≡ true = subst (λ k. is_placed n k places ≡ true) p_face (placed_new n p.face s.faces) in
        let placed = opened_faces cmp matching total (λ k. is_placed n k places ≡ true) c g refl new_ (each_weaker (λ f. is_placed n f.number s.faces ≡ true) (λ f. is_placed n f.number places ≡ true) (λ f there. placed_still n f.number s.faces p there) g.faces gateway.placed) in
        faces_called Right n node (rows_after_call cmp matching c) places ss (messages_at cmp matching places n c node) s.gateways (prints_sorted places n ss) at_ (heard_faces_placed cmp matching places n ss (altered cmp matching c g) placed.0)
        (opening_tells cmp matching total zid whatami region bound first g real gateway.rows) (faces_still_placed cmp matching p s fine)
        (each_from_always (λ j (x : Node K). j ≢ n → Each (λ f. Right j x.rows f []) x.rows.faces) (λ j x _. each_always (λ f. Unit {0}) (λ f. tt) x.rows.faces) 1 s.gateways)

    spared_of_calls : IsOfCalls cmp matching (λ s. Unit {0}) Comes
    spared_of_calls = record {
      nothing = λ s fine _. nothing_spared s.gateways s.faces s.gateways;
      gateway = λ mode zid regions timeout refused node s new_ fine _. nothing_spared (s.gateways ++ node ∷ []) s.faces (s.gateways ++ node ∷ []);
      call = λ spent n node c s at_ still accepted fine _. called_spared spent n node c s at_ still accepted fine;
      session = λ n first node s at_ real fine _. nothing_spared (with_rows n (altered cmp matching (NewSession first)) s).gateways (with_place n s).faces (with_rows n (rows_after_call cmp matching (NewSession first)) s).gateways;
      transport = λ spent n node zid whatami region bound first s at_ real accepted fine _.
          let c : PlainCall K = NewTransport zid whatami region bound first in
          right_spared (with_rows n (altered cmp matching c) s).gateways (with_place n s).faces (messages_at cmp matching (with_place n s).faces n c node) (with_rows n (rows_after_call cmp matching c) s).gateways
          (λ k. printed_sorted_each cmp matching (AnswersNobody cmp matching) k (map (printed_at (with_place n s).faces n) (said cmp matching c node.rows))
          (each_map (λ (m : Sent K). AnswersNobody cmp matching m.message) (printed_at (with_place n s).faces n) (said cmp matching c node.rows) (opening_says cmp matching (AnswersNobody cmp matching) (λ i mode options e. tt) (λ i e. tt) (λ i. tt) zid whatami region bound first node.rows)))
          (transport_right n node zid whatami region bound first s at_ real fine);
      link = λ spent one two first back s real real_back accepted fine _.
          let ends = link_ends s one two first back in
          let X = opened_ends cmp matching ends s in
          let ms = sorted_by_face (said_opening cmp matching ends s) in
          right_spared X.gateways X.faces ms (after_hearing cmp ms X).gateways
          (λ k. printed_sorted_each cmp matching (AnswersNobody cmp matching) k (said_opening cmp matching ends s) (openings_say cmp matching (AnswersNobody cmp matching) (λ i mode options e. tt) (λ i e. tt) (λ i. tt) ends s))
          (linked_go_on cmp matching total Right opening_step ends s (starts_real cmp matching s one two first back real real_back) fine (nothing_right s.faces s.gateways));
      unlink = λ n s fine _.
          let fs = both_ends cmp matching s n in
          let X = closed_ends cmp matching fs s in
          let ns = said_closing cmp matching fs s in
          let ms = sorted_by_face (filter (λ m. not (list_any (λ face. face == m.face) fs)) ns) in
          right_spared X.gateways X.faces ms (after_hearing cmp ms X).gateways
          (λ k. unlinked_each cmp matching (AnswersNobody cmp matching) k fs ns (closings_say cmp matching (AnswersNobody cmp matching) (λ i. tt) (λ e i. tt) (λ i. tt) (λ i. tt) fs s))
          (faces_any Right X.faces ms (after_hearing cmp ms X).gateways
          (λ j k g f. each_weaker (TellsNobody cmp matching) (TellsRight cmp matching g f) (λ m one. nobody_right cmp matching g f m one) (printed_for k ms) (unlinked_each cmp matching (TellsNobody cmp matching) k fs ns (closings_say cmp matching (TellsNobody cmp matching) (λ i. tt) (λ e i. tt) (λ i. tt) (λ i. tt) fs s))));
    }

    -- an ask of the machine's fabric, as a transcript shows it
    pub numbered_asked : (X : Fabric K) (k : ℕ) (p : Place) (i : ℕ) (e : K) → nth k X.faces ≡ Some p → asked_in X.gateways p.gateway p.face i e ≡ true
        → is_some_and (face_numbered (as_shown X) k) (λ x. is_some_and (at_id i x.face.asks) (λ ask. asks_token matching ask.interest e)) ≡ true
    unfolding asked_in face_numbered
    numbered_asked X k p i e at_ has = ap (λ o. is_some_and (at_place o) there) at_ ∙ ap (λ o. is_some_and (at_node p o) there) (nth_map node_shown p.gateway X.gateways) ∙ by_node (nth p.gateway X.gateways) ∙ has
      where
        there : FaceAt K → Bool
        there x = is_some_and (at_id i x.face.asks) (λ ask. asks_token matching ask.interest e)

        at_node : Place → Option (Node K) → Option (FaceAt K)
        at_node q o = elim o [ None ↦ None | Some x ↦ elim (find_face q.face x.rows) [ None ↦ None | Some f ↦ Some (record { gateway = q.gateway; rows = x.rows; face = f }) ] ]

        at_place : Option Place → Option (FaceAt K)
        at_place o =
            elim o [
              | None ↦ None
              | Some q ↦
                  elim (nth q.gateway (map node_shown X.gateways)) [
                    | None ↦ None
                    | Some x ↦ elim (find_face q.face x.rows) [ None ↦ None | Some f ↦ Some (record { gateway = q.gateway; rows = x.rows; face = f }) ]
                  ]
            ]

        by_face : (g : Rows K) (o : Option (Face K)) → is_some_and (let x : Option (FaceAt K) = elim o [ None ↦ None | Some f ↦ Some (record { gateway = p.gateway; rows = g; face = f }) ] in x) there ≡ is_some_and o (λ f. is_some_and (at_id i f.asks) (λ ask. asks_token matching ask.interest e))
        by_face g None = refl
        by_face g (Some f) = refl

        by_node : (o : Option (Node K)) → is_some_and (at_node p (elim o [ None ↦ None | Some x ↦ Some (node_shown x) ])) there ≡ is_some_and o (λ (x : Node K). asked cmp matching x.rows p.face i e)
        by_node None = refl
        by_node (Some x) = by_face (without_own x.rows) (find_face p.face x.rows)

    spares_in : (s : Fabric K) (t : Turn K) → FabricIsInOrder cmp matching s → Unit {0} → IsShownTurn cmp matching total (λ s. Unit {0}) Comes spared_of_calls s t → IsSparing cmp matching t
    spares_in s t fine _ is =
        let Z = after_hearing cmp (printed t) is.changed in
        let ws = is.changed.gateways in
        each_weaker (λ m. (x : FaceAt K) → face_numbered t.after m.face ≡ Some x → Spares ws x.gateway x.rows x.face m.message) (λ m. SparesMessage cmp matching t m.face m.message (face_numbered t.after m.face))
        (λ m judged. spares m.face m.message (face_numbered t.after m.face) refl judged) (printed t)
        (messages_judged cmp matching (Spares ws) Z t.after (printed t) is.after_order is.after_places is.after_gateways
        (faces_weaker (SparesAll ws) (λ j g f xs. Each (Spares ws j (without_own g) f) xs) is.changed.faces (printed t)
        (λ j g f xs all. each_weaker (Spares ws j g f) (Spares ws j (without_own g) f) (λ m one. (right_shown g f m one.0, one.1)) xs all) 1 Z.gateways is.comes))
      where
        spares : (k : ℕ) (m : Message K) (o : Option (FaceAt K)) → face_numbered t.after k ≡ o → ((x : FaceAt K) → face_numbered t.after k ≡ Some x → Spares is.changed.gateways x.gateway x.rows x.face m) → SparesMessage cmp matching t k m o
        spares k (message.DeclareToken id e None node) None found judged = tt
        spares k (message.DeclareToken id e None node) (Some x) found judged = λ plain. let spared = (judged x found).0 plain in (spared.0, hears_is matching x.rows.mode x.face e ∙ spared.1)
        spares k (message.DeclareToken id e (Some i) node) None found judged = tt
        spares k (message.DeclareToken id e (Some i) node) (Some x) found judged =
            λ plain.
            let it = face_is_at t.after k x found in
            let p = it.place in
            let number_ : p.face ≡ x.face.number = eqb-true p.face x.face.number (find_passes (λ f. p.face == f.number) it.node.rows.faces x.face it.face_is) in
            let has : asked_in is.changed.gateways p.gateway p.face i e ≡ true =
            ap (λ j. asked_in is.changed.gateways j p.face i e) (sym it.gateway_is) ∙ ap (λ j. asked_in is.changed.gateways x.gateway j i e) number_ ∙ (judged x found).1 in
            asked_for_is cmp matching t k i e
            ∙ ap (λ (X : Fabric K). is_some_and (face_numbered X k) (λ y. is_some_and (at_id i y.face.asks) (λ ask. asks_token matching ask.interest e))) is.with_is
            ∙ numbered_asked is.changed k p i e (ap (nth k) (sym is.after_places) ∙ it.place_is) has
        spares k (message.UndeclareToken id e node) o found judged = tt
        spares k (message.DeclareFinal interest) o found judged = tt
        spares k (message.Interest id mode options e) o found judged = tt
        spares k (message.InterestFinal id) o found judged = tt
        spares k (message.DeclareSubscriber id e interest) o found judged = tt
        spares k (message.DeclareQueryable id e info interest) o found judged = tt

    -- Each turn of a transcript is sparing.
    pub turns_spare : (lines : List (PlainLine K)) (s : Fabric K) → Each HasFirstIds lines → FabricIsInOrder cmp matching s
        → Each (IsSparing cmp matching) (turns_from cmp matching lines (entries_from cmp matching lines s) (as_shown s))
    turns_spare lines s real fine =
        turns_show cmp matching total (λ s. Unit {0}) Comes spared_of_calls (IsSparing cmp matching) spares_in (λ line x first ordered _. tt) lines s real fine tt
