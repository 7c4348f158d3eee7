-- Each turn of a transcript is more sparing: a face that was open is told only what is admitted to it, and every answer is
-- for an ask that asks for it.
use Rattle.std.proofs.Common.{◌≡◌, ◌≢◌, ◌⊎◌, inl, inr, ⊎_elim, ℕ, ◌+◌, ◌-◌, ◌≤◌, ◌<◌, ◌==◌, Bool, true, false, not, List, [], ◌∷◌, ◌++◌, length, map, filter, Option, Some, None, is_some, refl, sym, ap, ◌∙◌, subst, arith, eqb-true, ne_eqb, le_trans}
use Rattle.std.specs.Cmp.{IsTotalOrder}
use Rattle.std.specs.List.{list_any}
use Rattle.std.specs.declared.cmp.Ordering.{Ordering}
use Rattle.std.specs.declared.cmp.Ordering.TheVariants.{Equal}
use Rattle.zt_region.specs.declared.region.Bound.{Bound}
use Rattle.zt_region.specs.declared.region.Region.{Region}
use Rattle.zt_region.specs.declared.region.WhatAmI.{WhatAmI}
use Rattle.zt_region.specs.declared.region.Zid.{Zid}
use Rattle.zt_protocol.specs.Plain.{PlainCall, NewTransport, PlainLine}
use Rattle.zt_protocol.specs.declared.entries.Sent.{Sent}
use Rattle.zt_protocol.specs.declared.messages.Message.{Message}
use Rattle.zt_protocol.specs.declared.messages.Message.TheVariants as message
use Rattle.zt_model.specs.Fabric.{CallAt, Fabric, Node, Place, after_hearing, after_opening, both_ends, call_at, closed_ends, entries_from, next_face, number_from, opened_at, opening_at, printed_for, said_at, said_closing, said_opening, sorted_by_face, with_place, with_rows}
use Rattle.zt_model.specs.Linking.{LinkEnd, link_ends}
use Rattle.zt_model.specs.Lists.{at_id, is_some_and, nth}
use Rattle.zt_model.specs.Promises.{IsMoreSparing, SparesMore, Turn, is_open_face, printed, turns_from}
use Rattle.zt_model.specs.Refusals.{call_causes, first_cause}
use Rattle.zt_model.specs.Rows.{Face, Rows}
use Rattle.zt_model.specs.Says.{altered, find_face, parts_of, said, said_by, to_face}
use Rattle.zt_model.specs.Transcript.{Each, FaceAt, face_numbered}
use Rattle.zt_model.specs.Wants.{asks_token}
use Rattle.zt_laws.specs.Order.{FabricIsInOrder}
use Rattle.zt_laws.specs.Shown.{as_shown, node_shown, without_own}
use Rattle.zt_laws.specs.Sound.{HasFirstIds, is_placed, opens_face, places_of, rows_after_call}
use Rattle.zt_laws.proofs.AllLines.{starts_real}
use Rattle.zt_laws.proofs.CallsOrder.{altered_faces}
use Rattle.zt_laws.proofs.Ends.{by_end, end_alone, end_in_order}
use Rattle.zt_laws.proofs.Entries.{nth-at_nth, nth_of_number}
use Rattle.zt_laws.proofs.Gateways.{prints_sorted}
use Rattle.zt_laws.proofs.Hearing.{find_each, find_passes}
use Rattle.zt_laws.proofs.LinesOrder.{called_at, faces_placed, gateway_in_order, heard_faces_placed}
use Rattle.zt_laws.proofs.Lists.{each_always, each_append, each_both, each_filter, each_map, each_weaker, never}
use Rattle.zt_laws.proofs.Places.{not_placed_yet, number_new}
use Rattle.zt_laws.proofs.Seen.{admitted_is, asked_for_is}
use Rattle.zt_laws.proofs.Sorting.{printed as printed_at, sorted_each}
use Rattle.zt_laws.proofs.Unlinking.{each_from_always}
use Rattle.zt_theorem_visibility.proofs.Calls.{IsOfCalls, IsShownTurn, messages_at, turns_show}
use Rattle.zt_theorem_visibility.proofs.Exact.{admitted_shown}
use Rattle.zt_theorem_visibility.proofs.Faces.{FacesHave, faces_any, faces_called, faces_weaker}
use Rattle.zt_theorem_visibility.proofs.Printed.{messages_judged}
use Rattle.zt_theorem_visibility.proofs.Saying.{closings_say, opening_says, openings_say, unlinked_each}
use Rattle.zt_theorem_sparing.proofs.Admitted.{Admitted, call_admits, nobody_admitted}
use Rattle.zt_theorem_sparing.proofs.Answering.{AnswersAsk, AnswersNobody, asked, call_asked, nobody_asked}
use Rattle.zt_theorem_sparing.proofs.Sparing.{asked_in, numbered_asked}
use Rattle.zt_theorem_sparing.proofs.Telling.{TellsNobody}

-- beyond the end of a list
nth_beyond : {A : Type 0} (k : ℕ) (xs : List A) → length xs < k → nth k xs ≡ None
nth_beyond k [] beyond = refl
nth_beyond k (x ∷ xs) beyond =
    let miss : (k == 1) ≡ false = ne_eqb k 1 (λ e. omega arith) in
    rw miss (nth_beyond (k - 1) xs (omega arith))

module _ {K : Type 0} (cmp : K → K → Ordering) (matching : K → K → Bool) where
  -- the face of a number in scripts has an ask of the id that asks for the expression's tokens
  abbrev asked_here : List Place → List (Node K) → ℕ → ℕ → K → Bool
  asked_here places ws k i e = is_some_and (nth k places) (λ p. asked_in cmp matching ws p.gateway p.face i e)

  asked_weaker : (one two : ℕ → ℕ → K → Bool) (k j : ℕ) (m : Message K) → ((i : ℕ) (e : K) → one k i e ≡ true → two j i e ≡ true) → AnswersAsk cmp matching one k m → AnswersAsk cmp matching two j m
  asked_weaker one two k j (message.DeclareToken id e (Some i) node) weaker has = weaker i e has
  asked_weaker one two k j (message.DeclareToken id e None node) weaker has = tt
  asked_weaker one two k j (message.UndeclareToken id e node) weaker has = tt
  asked_weaker one two k j (message.DeclareFinal interest) weaker has = tt
  asked_weaker one two k j (message.Interest id mode options e) weaker has = tt
  asked_weaker one two k j (message.InterestFinal id) weaker has = tt
  asked_weaker one two k j (message.DeclareSubscriber id e interest) weaker has = tt
  asked_weaker one two k j (message.DeclareQueryable id e info interest) weaker has = tt

  abbrev AllAsked : List Place → List (Node K) → List (Sent K) → Type 0
  AllAsked places ws ms = Each (λ m. AnswersAsk cmp matching (asked_here places ws) m.face m.message) ms

  nobody_answered : (places : List Place) (ws : List (Node K)) (ms : List (Sent K)) → Each (λ m. AnswersNobody cmp matching m.message) ms → AllAsked places ws ms
  nobody_answered places ws ms none_ = each_weaker (λ m. AnswersNobody cmp matching m.message) (λ m. AnswersAsk cmp matching (asked_here places ws) m.face m.message) (λ m one. nobody_asked cmp matching (asked_here places ws) m.face m.message one) ms none_

  -- what is told is admitted
  abbrev AllAdmitted : ℕ → Rows K → Face K → List (Message K) → Type 0
  AllAdmitted j g f xs = Each (Admitted cmp matching g f) xs

  -- own rows aside
  admitted_still : (g : Rows K) (f : Face K) (m : Message K) → Admitted cmp matching g f m → Admitted cmp matching (without_own g) f m
  admitted_still g f (message.DeclareToken id e None node) admitted = λ plain. admitted_shown cmp matching g f.region e ∙ admitted plain
  admitted_still g f (message.DeclareToken id e (Some i) node) admitted = tt
  admitted_still g f (message.UndeclareToken id e node) admitted = tt
  admitted_still g f (message.DeclareFinal interest) admitted = tt
  admitted_still g f (message.Interest id mode options e) admitted = tt
  admitted_still g f (message.InterestFinal id) admitted = tt
  admitted_still g f (message.DeclareSubscriber id e interest) admitted = tt
  admitted_still g f (message.DeclareQueryable id e info interest) admitted = tt

  -- ---- openings

  to_face_alone : (n : ℕ) (rule : Face K → List (Message K)) (g : Rows K) → Each (λ s. s.0 ≡ n) (to_face n rule g)
  unfolding to_face
  to_face_alone n rule g = cases (find_face n g)
    where
      cases : (o : Option (Face K)) → Each (λ (s : ℕ × Message K). s.0 ≡ n) (elim o [ None ↦ [] | Some f ↦ map (λ m. (n, m)) (rule f) ])
      cases None = tt
      cases (Some f) = each_map (λ (s : ℕ × Message K). s.0 ≡ n) (λ m. (n, m)) (rule f) (each_always (λ m. n ≡ n) (λ m. refl) (rule f))

  -- an opening speaks to the new face alone
  opening_alone : (zid : Zid) (whatami : WhatAmI) (region : Region) (bound : Bound) (first : ℕ) (g : Rows K) → Each (λ s. s.0 ≡ g.made + 1) (said cmp matching (NewTransport zid whatami region bound first) g)
  unfolding parts_of said_by
  opening_alone zid whatami region bound first g =
      let n = g.made + 1 in
      each_append (λ s. s.0 ≡ n) (to_face n _ _) _ (to_face_alone n _ _)
      (each_append (λ s. s.0 ≡ n) (to_face n _ _) _ (to_face_alone n _ _)
      (each_append (λ s. s.0 ≡ n) (to_face n _ _) [] (to_face_alone n _ _) tt))

  module _ (total : IsTotalOrder cmp) where
    -- which has the next number in scripts
    opening_new : (n : ℕ) (node : Node K) (zid : Zid) (whatami : WhatAmI) (region : Region) (bound : Bound) (first low : ℕ) (X : Fabric K) → nth n X.gateways ≡ Some node → FabricIsInOrder cmp matching X → low ≤ length X.faces
        → Each (λ m. low < m.face) (map (printed_at (with_place n X).faces n) (said cmp matching (NewTransport zid whatami region bound first) node.rows))
    opening_new n node zid whatami region bound first low X at_ fine up =
        let g = node.rows in
        let gateway = gateway_in_order cmp matching X n node at_ fine in
        let p : Place = record { gateway = n; face = next_face (nth n X.gateways) } in
        let p_is : p ≡ record { gateway = n; face = g.made + 1 } = ap (λ k. record { gateway = n; face = k }) (ap next_face at_) in
        let unplaced : is_placed n (g.made + 1) X.faces ≡ false = not_placed_yet n (g.made + 1) X.faces (each_weaker (λ q. q.face ≤ g.made) (λ q. q.face < g.made + 1) (λ q less. omega arith) (places_of n X.faces) gateway.places_made) in
        let at_end : number_from 1 n (g.made + 1) (with_place n X).faces ≡ 1 + length X.faces = ap (λ q. number_from 1 n (g.made + 1) (X.faces ++ q ∷ [])) p_is ∙ number_new 1 n (g.made + 1) X.faces unplaced in
        let beyond : low < 1 + length X.faces = omega arith in
        let ss = said cmp matching (NewTransport zid whatami region bound first) g in
        each_map (λ m. low < m.face) (printed_at (with_place n X).faces n) ss
        (each_weaker (λ s. s.0 ≡ g.made + 1) (λ s. low < number_from 1 n s.0 (with_place n X).faces) (λ s own. subst (λ k. low < k) (sym (ap (λ k. number_from 1 n k (with_place n X).faces) own ∙ at_end)) beyond) ss (opening_alone zid whatami region bound first g))

    openings_new : (ends : List (LinkEnd K)) (X : Fabric K) (low : ℕ) → Each (λ end. 1 ≤ end.first) ends → FabricIsInOrder cmp matching X → low ≤ length X.faces → Each (λ m. low < m.face) (said_opening cmp matching ends X)
    unfolding said_opening
    openings_new [] X low real fine up = tt
    openings_new (end ∷ ends) X low real fine up =
        let at = opening_at cmp matching X end in
        let H = after_opening cmp matching at X in
        let alone = end_alone cmp matching total end X real.0 fine in
        each_append (λ m. low < m.face) (said_at cmp matching (opened_at cmp matching at X) at) (said_opening cmp matching ends H)
        (by_end cmp matching (λ c. let o : Option (CallAt K) = elim c [ None ↦ None | Some call ↦ call_at X end.gateway call ] in Each (λ m. low < m.face) (said_at cmp matching (opened_at cmp matching o X) o)) end tt
        (λ zid whatami region bound.
        called_at (λ o. Each (λ m. low < m.face) (said_at cmp matching (opened_at cmp matching o X) o)) X end.gateway (NewTransport zid whatami region bound end.first) tt
        (λ node at_. opening_new end.gateway node zid whatami region bound end.first low X at_ fine up)))
        (openings_new ends H low real.1 (end_in_order cmp matching total end X real.0 fine) (le_trans up alone.1))

    -- ---- turns

    -- all is told new faces, or admitted
    abbrev Told : Fabric K → List (Sent K) → List Place → List (Node K) → Type 0
    Told s ms places gs = Each (λ m. length s.faces < m.face) ms ⊎ FacesHave AllAdmitted places ms gs

    abbrev Comes : Fabric K → List (CallAt K) → List (Sent K) → List Place → List (Node K) → List (Node K) → Type 0
    Comes s calls ms places ws gs = AllAsked places ws ms × Told s ms places gs

    -- an ask of a gateway, by its face's number in scripts
    asked_there : (n : ℕ) (node : Node K) (c : PlainCall K) (s : Fabric K) → nth n s.gateways ≡ Some node → opens_face c ≡ false → FabricIsInOrder cmp matching s → (k i : ℕ) (e : K) → asked cmp matching (altered cmp matching c node.rows) k i e ≡ true
        → asked_here s.faces (with_rows n (altered cmp matching c) s).gateways (number_from 1 n k s.faces) i e ≡ true
    unfolding asked_in
    asked_there n node c s at_ still fine k i e has = cases (find_face k w) refl
      where
        w : Rows K
        w = altered cmp matching c node.rows

        ws : List (Node K)
        ws = (with_rows n (altered cmp matching c) s).gateways

        cases : (o : Option (Face K)) → find_face k w ≡ o → asked_here s.faces ws (number_from 1 n k s.faces) i e ≡ true
        cases None found = never (sym (ap (λ (o : Option (Face K)). is_some_and o (λ f. is_some_and (at_id i f.asks) (λ ask. asks_token matching ask.interest e))) found) ∙ has) refl
        cases (Some f) found =
            let gateway = gateway_in_order cmp matching s n node at_ fine in
            let all = (altered_faces cmp matching total (λ j. is_placed n j s.faces ≡ true) c node.rows still gateway.rows.lists gateway.placed).0 in
            let number_ : k ≡ f.number = eqb-true k f.number (find_passes (λ y. k == y.number) w.faces f found) in
            let placed : is_placed n k s.faces ≡ true = subst (λ j. is_placed n j s.faces ≡ true) (sym number_) (find_each (λ y. is_placed n y.number s.faces ≡ true) (λ y. k == y.number) w.faces f all found) in
            let back : number_from 1 n k s.faces + 1 - 1 ≡ number_from 1 n k s.faces = omega arith in
            let place_ : nth (number_from 1 n k s.faces) s.faces ≡ Some (record { gateway = n; face = k }) = sym (ap (λ j. nth j s.faces) back) ∙ nth_of_number 1 n k s.faces placed in
            let there : nth n ws ≡ Some (record node { rows = w }) = nth-at_nth n (λ (x : Node K). record x { rows = altered cmp matching c x.rows }) s.gateways node at_ in
            ap (λ (o : Option Place). is_some_and o (λ p. is_some_and (nth p.gateway ws) (λ (x : Node K). asked cmp matching x.rows p.face i e))) place_ ∙ ap (λ (o : Option (Node K)). is_some_and o (λ (x : Node K). asked cmp matching x.rows k i e)) there ∙ has

    module _ (equal_is_same : (a b : K) → cmp a b ≡ Equal → a ≡ b) where
      called_sparing : (spent : Bool) (n : ℕ) (node : Node K) (c : PlainCall K) (s : Fabric K) → nth n s.gateways ≡ Some node → opens_face c ≡ false → first_cause (call_causes cmp matching spent c node.rows) ≡ None → FabricIsInOrder cmp matching s
          → AllAsked s.faces (with_rows n (altered cmp matching c) s).gateways (messages_at cmp matching s.faces n c node) × Told s (messages_at cmp matching s.faces n c node) s.faces (with_rows n (rows_after_call cmp matching c) s).gateways
      called_sparing spent n node c s at_ still accepted fine =
          let g = node.rows in
          let ss = said cmp matching c g in
          let ws = (with_rows n (altered cmp matching c) s).gateways in
          let gateway = gateway_in_order cmp matching s n node at_ fine in
          let placed = altered_faces cmp matching total (λ k. is_placed n k s.faces ≡ true) c g still gateway.rows.lists gateway.placed in
          let Here : Sent K → Type 0 = λ m. AnswersAsk cmp matching (asked_here s.faces ws) m.face m.message in (
            sorted_each Here (map (printed_at s.faces n) ss)
                (each_map Here (printed_at s.faces n) ss
                (each_weaker (λ s_. AnswersAsk cmp matching (asked cmp matching (altered cmp matching c g)) s_.0 s_.1) (λ s_. Here (printed_at s.faces n s_))
                (λ s_ one. asked_weaker (asked cmp matching (altered cmp matching c g)) (asked_here s.faces ws) s_.0 (number_from 1 n s_.0 s.faces) s_.1 (λ i e has. asked_there n node c s at_ still fine s_.0 i e has) one) ss (call_asked cmp matching spent c g still gateway.rows))),
            inr
                (faces_called AllAdmitted n node (rows_after_call cmp matching c) s.faces ss (messages_at cmp matching s.faces n c node) s.gateways (prints_sorted s.faces n ss) at_ (heard_faces_placed cmp matching s.faces n ss (altered cmp matching c g) placed.0)
                (call_admits cmp matching total equal_is_same spent c g still accepted gateway.rows) (faces_placed cmp matching s fine)
                (each_from_always (λ j (x : Node K). j ≢ n → Each (λ f. AllAdmitted j x.rows f []) x.rows.faces) (λ j x _. each_always (λ f. Unit {0}) (λ f. tt) x.rows.faces) 1 s.gateways)),
          )

      sparing_of_calls : IsOfCalls cmp matching (λ s. Unit {0}) Comes
      sparing_of_calls = record {
        nothing = λ s fine _. (tt, inl tt);
        gateway = λ mode zid regions timeout refused node s new_ fine _. (tt, inl tt);
        call = λ spent n node c s at_ still accepted fine _. called_sparing spent n node c s at_ still accepted fine;
        session = λ n first node s at_ real fine _. (tt, inl tt);
        transport = λ spent n node zid whatami region bound first s at_ real accepted fine _.
            let c : PlainCall K = NewTransport zid whatami region bound first in
            let places = (with_place n s).faces in
            let ms = map (printed_at places n) (said cmp matching c node.rows) in
            let ws = (with_rows n (altered cmp matching c) s).gateways in (
              nobody_answered places ws (sorted_by_face ms)
                  (sorted_each (λ m. AnswersNobody cmp matching m.message) ms (each_map (λ (m : Sent K). AnswersNobody cmp matching m.message) (printed_at places n) (said cmp matching c node.rows) (opening_says cmp matching (AnswersNobody cmp matching) (λ i mode options e. tt) (λ i e. tt) (λ i. tt) zid whatami region bound first node.rows))),
              inl (sorted_each (λ m. length s.faces < m.face) ms (opening_new n node zid whatami region bound first (length s.faces) s at_ fine (omega arith))),
            );
        link = λ spent one two first back s real real_back accepted fine _.
            let ends = link_ends s one two first back in
            let ms = said_opening cmp matching ends s in (
              nobody_answered _ _ (sorted_by_face ms) (sorted_each (λ m. AnswersNobody cmp matching m.message) ms (openings_say cmp matching (AnswersNobody cmp matching) (λ i mode options e. tt) (λ i e. tt) (λ i. tt) ends s)),
              inl (sorted_each (λ m. length s.faces < m.face) ms (openings_new ends s (length s.faces) (starts_real cmp matching s one two first back real real_back) fine (omega arith))),
            );
        unlink = λ n s fine _.
            let fs = both_ends cmp matching s n in
            let X = closed_ends cmp matching fs s in
            let ns = said_closing cmp matching fs s in
            let kept = filter (λ m. not (list_any (λ face. face == m.face) fs)) ns in
            let ms = sorted_by_face kept in (
              nobody_answered X.faces X.gateways ms
                  (sorted_each (λ m. AnswersNobody cmp matching m.message) kept (each_filter (λ m. AnswersNobody cmp matching m.message) (λ m. not (list_any (λ face. face == m.face) fs)) ns (closings_say cmp matching (AnswersNobody cmp matching) (λ i. tt) (λ e i. tt) (λ i. tt) (λ i. tt) fs s))),
              inr
                  (faces_any AllAdmitted X.faces ms (after_hearing cmp ms X).gateways
                  (λ j k g f. each_weaker (TellsNobody cmp matching) (Admitted cmp matching g f) (λ m one. nobody_admitted cmp matching g f m one) (printed_for k ms) (unlinked_each cmp matching (TellsNobody cmp matching) k fs ns (closings_say cmp matching (TellsNobody cmp matching) (λ i. tt) (λ e i. tt) (λ i. tt) (λ i. tt) fs s)))),
            );
      }

      -- a face beyond those that are there isn't open
      beyond_closed : (s : Fabric K) (k : ℕ) → length s.faces < k → is_open_face (as_shown s) k ≡ false
      unfolding face_numbered
      beyond_closed s k beyond = ap (λ o. is_some (at_place o)) (nth_beyond k s.faces beyond)
        where
          at_place : Option Place → Option (FaceAt K)
          at_place o =
              elim o [
                | None ↦ None
                | Some q ↦
                    elim (nth q.gateway (map node_shown s.gateways)) [
                      | None ↦ None
                      | Some x ↦ elim (find_face q.face x.rows) [ None ↦ None | Some f ↦ Some (record { gateway = q.gateway; rows = x.rows; face = f }) ]
                    ]
              ]

      shown_asked : (X : Fabric K) (k i : ℕ) (e : K) → asked_here X.faces X.gateways k i e ≡ true → is_some_and (face_numbered (as_shown X) k) (λ x. is_some_and (at_id i x.face.asks) (λ ask. asks_token matching ask.interest e)) ≡ true
      shown_asked X k i e has = cases (nth k X.faces) refl
        where
          cases : (o : Option Place) → nth k X.faces ≡ o → is_some_and (face_numbered (as_shown X) k) (λ x. is_some_and (at_id i x.face.asks) (λ ask. asks_token matching ask.interest e)) ≡ true
          cases None at_ = never (sym (ap (λ (o : Option Place). is_some_and o (λ p. asked_in cmp matching X.gateways p.gateway p.face i e)) at_) ∙ has) refl
          cases (Some p) at_ = numbered_asked cmp matching total X k p i e at_ (sym (ap (λ (o : Option Place). is_some_and o (λ q. asked_in cmp matching X.gateways q.gateway q.face i e)) at_) ∙ has)

      more_shown : (s : Fabric K) (t : Turn K) → FabricIsInOrder cmp matching s → Unit {0} → IsShownTurn cmp matching total (λ s. Unit {0}) Comes sparing_of_calls s t → IsMoreSparing cmp matching t
      more_shown s t fine _ is =
          each_both (λ m. AnswersAsk cmp matching (asked_here is.changed.faces is.changed.gateways) m.face m.message) TellsAdmitted (λ m. SparesMore cmp matching t m.face m.message (face_numbered t.after m.face))
          (λ m asked_ told. spares m.face m.message (face_numbered t.after m.face) refl asked_ told) (printed t) is.comes.0 (⊎_elim new_ old is.comes.1)
        where
          TellsAdmitted : Sent K → Type 0
          TellsAdmitted m = (x : FaceAt K) → face_numbered t.after m.face ≡ Some x → is_open_face t.before m.face ≡ true → Admitted cmp matching x.rows x.face m.message

          new_ : Each (λ m. length s.faces < m.face) (printed t) → Each TellsAdmitted (printed t)
          new_ all = each_weaker (λ m. length s.faces < m.face) TellsAdmitted (λ m beyond x found open_. never open_ (ap (λ (X : Fabric K). is_open_face X m.face) is.before_is ∙ beyond_closed s m.face beyond)) (printed t) all

          old : FacesHave AllAdmitted is.changed.faces (printed t) (after_hearing cmp (printed t) is.changed).gateways → Each TellsAdmitted (printed t)
          old all =
              let Z = after_hearing cmp (printed t) is.changed in
              each_weaker (λ m. (x : FaceAt K) → face_numbered t.after m.face ≡ Some x → Admitted cmp matching x.rows x.face m.message) TellsAdmitted (λ m judged x found open_. judged x found) (printed t)
              (messages_judged cmp matching (λ j g f m. Admitted cmp matching g f m) Z t.after (printed t) is.after_order is.after_places is.after_gateways
              (faces_weaker AllAdmitted (λ j g f xs. Each (Admitted cmp matching (without_own g) f) xs) is.changed.faces (printed t)
              (λ j g f xs all_. each_weaker (Admitted cmp matching g f) (Admitted cmp matching (without_own g) f) (λ m one. admitted_still g f m one) xs all_) 1 Z.gateways all))

          spares : (k : ℕ) (m : Message K) (o : Option (FaceAt K)) → face_numbered t.after k ≡ o → AnswersAsk cmp matching (asked_here is.changed.faces is.changed.gateways) k m
              → ((x : FaceAt K) → face_numbered t.after k ≡ Some x → is_open_face t.before k ≡ true → Admitted cmp matching x.rows x.face m) → SparesMore cmp matching t k m o
          spares k (message.DeclareToken id e None node) None found asked_ told = tt
          spares k (message.DeclareToken id e None node) (Some x) found asked_ told = λ plain open_. admitted_is cmp x.rows x.face.region e ∙ told x found open_ plain
          spares k (message.DeclareToken id e (Some i) node) o found asked_ told =
              asked_for_is cmp matching t k i e
              ∙ ap (λ (X : Fabric K). is_some_and (face_numbered X k) (λ x. is_some_and (at_id i x.face.asks) (λ ask. asks_token matching ask.interest e))) is.with_is
              ∙ shown_asked is.changed k i e asked_
          spares k (message.UndeclareToken id e node) o found asked_ told = tt
          spares k (message.DeclareFinal interest) o found asked_ told = tt
          spares k (message.Interest id mode options e) o found asked_ told = tt
          spares k (message.InterestFinal id) o found asked_ told = tt
          spares k (message.DeclareSubscriber id e interest) o found asked_ told = tt
          spares k (message.DeclareQueryable id e info interest) o found asked_ told = tt

      -- Each turn of a transcript is more sparing.
      pub turns_spare_more : (lines : List (PlainLine K)) (s : Fabric K) → Each HasFirstIds lines → FabricIsInOrder cmp matching s
          → Each (IsMoreSparing cmp matching) (turns_from cmp matching lines (entries_from cmp matching lines s) (as_shown s))
      turns_spare_more lines s real fine =
          turns_show cmp matching total (λ s. Unit {0}) Comes sparing_of_calls (IsMoreSparing cmp matching) more_shown (λ line x first ordered _. tt) lines s real fine tt
