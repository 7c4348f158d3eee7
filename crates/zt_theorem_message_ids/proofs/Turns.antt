-- Each turn of a transcript names what stands, and draws next ids.
use Rattle.std.proofs.Common.{◌≡◌, ◌≢◌, ℕ, ◌+◌, ◌≤◌, Bool, true, false, not, ◌==◌, List, [], ◌∷◌, ◌++◌, map, filter, length, Option, Some, None, refl, sym, ap, subst, arith, le_trans}
use Rattle.std.specs.Cmp.{IsTotalOrder}
use Rattle.std.specs.List.{list_any}
use Rattle.std.specs.declared.cmp.Ordering.{Ordering}
use Rattle.zt_protocol.specs.Plain.{PlainCall, NewSession, NewTransport, CloseFace, PlainLine}
use Rattle.zt_protocol.specs.declared.entries.Sent.{Sent}
use Rattle.zt_protocol.specs.declared.messages.Message.{Message}
use Rattle.zt_model.specs.Fabric.{CallAt, Fabric, Node, Place, after_hearing, altered_at, both_ends, call_at, closed_ends, closing_call, entries_from, entry_of, gateways_after_hearing, next_face, number_from, opened_at, opened_ends, opening_at, printed_for, said_at, said_closing, said_opening, with_place, with_rows}
use Rattle.zt_model.specs.Hearing.{heard_all, messages_for}
use Rattle.zt_model.specs.Linking.{LinkEnd, link_ends}
use Rattle.zt_model.specs.Lists.{nth}
use Rattle.zt_model.specs.Promises.{DrawsNextIds, EndsWhatStands, NameWhatStands, Turn, printed, printed_to, turns_from, with_line}
use Rattle.zt_model.specs.Routing.{face_opened}
use Rattle.zt_model.specs.Rows.{Face, Rows}
use Rattle.zt_model.specs.Says.{altered, altered_by, parts_of, said}
use Rattle.zt_model.specs.Transcript.{Each}
use Rattle.zt_laws.specs.Order.{FabricIsInOrder}
use Rattle.zt_laws.specs.Shown.{as_shown}
use Rattle.zt_laws.specs.Sound.{CallHasFirstIds, EachFrom, HasFirstIds, is_placed, opens_face}
use Rattle.zt_laws.proofs.AllLines.{starts_real}
use Rattle.zt_laws.proofs.CallsOrder.{altered_faces}
use Rattle.zt_laws.proofs.Ends.{by_end, end_alone, end_in_order, ends_commute, printed_for-append, said_within}
use Rattle.zt_laws.proofs.Gateways.{PrintsSends, prints_map, prints_sorted}
use Rattle.zt_laws.proofs.Hearing.{heard_all-number}
use Rattle.zt_laws.proofs.LinesOrder.{called_at, calls_nothing, faces_placed, faces_still_placed, gateway_in_order, opened_faces}
use Rattle.zt_laws.proofs.LinesDraw.{turn_draws}
use Rattle.zt_laws.proofs.Lists.{each_always, each_both, each_weaker}
use Rattle.zt_laws.proofs.Numbered.{each_from_at, nth_real}
use Rattle.zt_laws.proofs.PartsOrder.{each_of_map}
use Rattle.zt_laws.proofs.Places.{placed_new, placed_still}
use Rattle.zt_laws.proofs.ShownLines.{fabric_is_shown, turns_have}
use Rattle.zt_laws.proofs.Sorting.{printed as printed_at}
use Rattle.zt_laws.proofs.Unlinking.{all_apart, closing_case, closing_in_order, closings_commute, each_from_always, each_from_both, ends_apart, printed_but_for}
use Rattle.zt_theorem_visibility.proofs.Calls.{IsOfCalls, IsShownTurn, messages_at, turns_show}
use Rattle.zt_theorem_visibility.proofs.Faces.{FacesHave, each_face_weaker, faces_called, faces_hear_nothing, faces_shown, faces_sorted, faces_still}
use Rattle.zt_theorem_message_ids.specs.Anew.{AreNews, TellsWhatIsNew}
use Rattle.zt_theorem_message_ids.proofs.Standing.{Name, after_heard_all, name_news, name_then, name_what_stands, standing_of}
use Rattle.zt_theorem_message_ids.proofs.Calls.{call_names, closing_stands}

module _ {K : Type 0} (cmp : K → K → Ordering) (matching : K → K → Bool) where
  -- what is printed for a face names what stands there
  abbrev Named : ℕ → Rows K → Face K → List (Message K) → Type 0
  Named j g f xs = Name cmp xs (standing_of f)

  -- what is printed for the faces of a fabric
  abbrev AllNamed : Fabric K → List (Sent K) → Type 0
  AllNamed X ms = FacesHave Named X.faces ms X.gateways

  nothing_named : (places : List Place) (gs : List (Node K)) → FacesHave Named places [] gs
  nothing_named places gs = faces_hear_nothing Named places gs (each_from_always (λ j (x : Node K). Each (λ f. Unit {0}) x.rows.faces) (λ j x. each_always (λ f. Unit {0}) (λ f. tt) x.rows.faces) 1 gs)

  -- what is said later
  named_then : (ms ns : List (Sent K)) (X : Fabric K) → AllNamed X ms → AllNamed (after_hearing cmp ms X) ns → AllNamed X (ms ++ ns)
  unfolding gateways_after_hearing
  named_then ms ns X one two = gateways 1 X.gateways one two
    where
      In : List (Sent K) → ℕ → Node K → Type 0
      In xs j node = Each (λ f. Named j node.rows f (printed_for (number_from 1 j f.number X.faces) xs)) node.rows.faces

      rows : (j : ℕ) (g : Rows K)
          → Each (λ f. Named j g f (printed_for (number_from 1 j f.number X.faces) ms)) g.faces
          → Each (λ f. Named j g f (printed_for (number_from 1 j f.number X.faces) ns)) (map (λ f. heard_all cmp g.moment (printed_for (number_from 1 j f.number X.faces) ms) f) g.faces)
          → Each (λ f. Named j g f (printed_for (number_from 1 j f.number X.faces) (ms ++ ns))) g.faces
      rows j g a b =
          each_both (λ f. Named j g f (printed_for (number_from 1 j f.number X.faces) ms)) (λ f. Later (heard_all cmp g.moment (printed_for (number_from 1 j f.number X.faces) ms) f)) (λ f. Named j g f (printed_for (number_from 1 j f.number X.faces) (ms ++ ns)))
          (λ f first later.
          let k = number_from 1 j f.number X.faces in
          let h = heard_all cmp g.moment (printed_for k ms) f in
          subst (λ xs. Named j g f xs) (sym (printed_for-append k ms ns))
          (name_then cmp (printed_for k ms) (printed_for k ns) (standing_of f) first
          (subst (Name cmp (printed_for k ns)) (after_heard_all cmp g.moment (printed_for k ms) f)
          (subst (λ i. Named j g h (printed_for (number_from 1 j i X.faces) ns)) (heard_all-number cmp g.moment (printed_for k ms) f) later))))
          g.faces a (each_of_map (λ f. Named j g f (printed_for (number_from 1 j f.number X.faces) ns)) (λ f. heard_all cmp g.moment (printed_for (number_from 1 j f.number X.faces) ms) f) g.faces b)
        where
          Later : Face K → Type 0
          Later h = Named j g h (printed_for (number_from 1 j h.number X.faces) ns)

      gateways : (k : ℕ) (gs : List (Node K)) → EachFrom (In ms) k gs → EachFrom (In ns) k (gateways_after_hearing cmp X ms k gs) → EachFrom (In (ms ++ ns)) k gs
      gateways k [] a b = tt
      gateways k (node ∷ gs) a b = (rows k node.rows a.0 b.0, gateways (k + 1) gs a.1 b.1)

  module _ (total : IsTotalOrder cmp) where
    -- what a call says to the faces of its gateway
    own_named : (n : ℕ) (c : PlainCall K) (node : Node K) (s : Fabric K) → nth n s.gateways ≡ Some node → CallHasFirstIds c → FabricIsInOrder cmp matching s
        → Each (λ f. Named n (altered cmp matching c node.rows) f (messages_for f.number (said cmp matching c node.rows))) (altered cmp matching c node.rows).faces
    own_named n c node s at_ real fine =
        each_of_map (λ v. Name cmp (messages_for v.number (said cmp matching c node.rows)) v) standing_of (altered cmp matching c node.rows).faces (call_names cmp matching total c node.rows real (gateway_in_order cmp matching s n node at_ fine).rows)

    others_named : (n : ℕ) (gs : List (Node K)) → EachFrom (λ j (x : Node K). j ≢ n → Each (λ f. Named j x.rows f []) x.rows.faces) 1 gs
    others_named n gs = each_from_always (λ j (x : Node K). j ≢ n → Each (λ f. Named j x.rows f []) x.rows.faces) (λ j x _. each_always (λ f. Unit {0}) (λ f. tt) x.rows.faces) 1 gs

    -- a call that opens no face
    called_named : (n : ℕ) (node : Node K) (c : PlainCall K) (s : Fabric K) (ms : List (Sent K)) → PrintsSends s.faces n (said cmp matching c node.rows) ms → nth n s.gateways ≡ Some node → opens_face c ≡ false → FabricIsInOrder cmp matching s → AllNamed (with_rows n (altered cmp matching c) s) ms
    called_named n node c s ms prints at_ still fine =
        let gateway = gateway_in_order cmp matching s n node at_ fine in
        let placed = altered_faces cmp matching total (λ k. is_placed n k s.faces ≡ true) c node.rows still gateway.rows.lists gateway.placed in
        faces_called Named n node (altered cmp matching c) s.faces (said cmp matching c node.rows) ms s.gateways prints at_ placed.0 (own_named n c node s at_ (calls_nothing cmp matching total c still) fine) (faces_placed cmp matching s fine) (others_named n s.gateways)

    -- one that opens a face
    opened_named : (n : ℕ) (node : Node K) (c : PlainCall K) (s : Fabric K) (ms : List (Sent K)) → PrintsSends (with_place n s).faces n (said cmp matching c node.rows) ms → nth n s.gateways ≡ Some node → opens_face c ≡ true → CallHasFirstIds c → FabricIsInOrder cmp matching s → AllNamed (with_rows n (altered cmp matching c) (with_place n s)) ms
    opened_named n node c s ms prints at_ opens real fine =
        let gateway = gateway_in_order cmp matching s n node at_ fine in
        let p : Place = record { gateway = n; face = next_face (nth n s.gateways) } in
        let places = s.faces ++ p ∷ [] in
        let new_ : is_placed n (node.rows.made + 1) places ≡ true = subst (λ k. is_placed n k places ≡ true) (ap next_face at_) (placed_new n p.face s.faces) in
        let placed = opened_faces cmp matching total (λ k. is_placed n k places ≡ true) c node.rows opens new_ (each_weaker (λ f. is_placed n f.number s.faces ≡ true) (λ f. is_placed n f.number places ≡ true) (λ f there. placed_still n f.number s.faces p there) node.rows.faces gateway.placed) in
        faces_called Named n node (altered cmp matching c) places (said cmp matching c node.rows) ms s.gateways prints at_ placed.0 (own_named n c node s at_ real fine) (faces_still_placed cmp matching p s fine) (others_named n s.gateways)

    -- ---- the ends of a link

    -- a face that is opened is sent nothing of what was said before
    end_still : (end : LinkEnd K) (ms : List (Sent K)) (X : Fabric K) → FabricIsInOrder cmp matching X → Each (λ m. m.face ≤ length X.faces) ms → AllNamed X ms → AllNamed (opened_at cmp matching (opening_at cmp matching X end) X) ms
    unfolding parts_of altered_by
    end_still end ms X fine within all =
        by_end cmp matching (λ c. AllNamed (opened_at cmp matching (elim c [ None ↦ None | Some call ↦ call_at X end.gateway call ]) X) ms) end all
        (λ zid whatami region bound.
        let c : PlainCall K = NewTransport zid whatami region bound end.first in
        called_at (λ at. AllNamed (opened_at cmp matching at X) ms) X end.gateway c all
        (λ node at_. faces_still cmp matching Named end.gateway node (altered cmp matching c) (face_opened zid whatami region bound end.first node.rows) ms X at_ fine refl refl (λ f xs own. own) tt within all))

    ends_still : (ends : List (LinkEnd K)) (ms : List (Sent K)) (X : Fabric K) → Each (λ end. 1 ≤ end.first) ends → FabricIsInOrder cmp matching X → Each (λ m. m.face ≤ length X.faces) ms → AllNamed X ms → AllNamed (opened_ends cmp matching ends X) ms
    unfolding opened_ends
    ends_still [] ms X real fine within all = all
    ends_still (end ∷ ends) ms X real fine within all =
        let Y = opened_at cmp matching (opening_at cmp matching X end) X in
        let alone = end_alone cmp matching total end X real.0 fine in
        let up : length X.faces ≤ length Y.faces = alone.1 in
        ends_still ends ms Y real.1 alone.0 (each_weaker (λ m. m.face ≤ length X.faces) (λ m. m.face ≤ length Y.faces) (λ m h. le_trans h up) ms within) (end_still end ms X fine within all)

    end_named : (end : LinkEnd K) (X : Fabric K) → 1 ≤ end.first → FabricIsInOrder cmp matching X → (let at = opening_at cmp matching X end in AllNamed (opened_at cmp matching at X) (said_at cmp matching (opened_at cmp matching at X) at))
    end_named end X real fine =
        by_end cmp matching (λ c. let at : Option (CallAt K) = elim c [ None ↦ None | Some call ↦ call_at X end.gateway call ] in AllNamed (opened_at cmp matching at X) (said_at cmp matching (opened_at cmp matching at X) at)) end (nothing_named X.faces X.gateways)
        (λ zid whatami region bound.
        let c : PlainCall K = NewTransport zid whatami region bound end.first in
        called_at (λ at. AllNamed (opened_at cmp matching at X) (said_at cmp matching (opened_at cmp matching at X) at)) X end.gateway c (nothing_named X.faces X.gateways)
        (λ node at_. opened_named end.gateway node c X (map (printed_at (with_place end.gateway X).faces end.gateway) (said cmp matching c node.rows)) (prints_map (with_place end.gateway X).faces end.gateway (said cmp matching c node.rows)) at_ refl real fine))

    ends_named : (ends : List (LinkEnd K)) (X : Fabric K) → Each (λ end. 1 ≤ end.first) ends → FabricIsInOrder cmp matching X → AllNamed (opened_ends cmp matching ends X) (said_opening cmp matching ends X)
    unfolding opened_ends said_opening
    ends_named [] X real fine = nothing_named X.faces X.gateways
    ends_named (end ∷ ends) X real fine =
        let at = opening_at cmp matching X end in
        let Y = opened_at cmp matching at X in
        let ms = said_at cmp matching Y at in
        let H = after_hearing cmp ms Y in
        let alone = end_alone cmp matching total end X real.0 fine in
        let within = said_within cmp matching total end X in
        named_then ms (said_opening cmp matching ends H) (opened_ends cmp matching ends Y) (ends_still ends ms Y real.1 alone.0 within (end_named end X real.0 fine))
        (subst (λ (t : Fabric K). AllNamed t (said_opening cmp matching ends H)) (sym (ends_commute cmp matching total ends ms Y real.1 alone.0 within)) (ends_named ends H real.1 (end_in_order cmp matching total end X real.0 fine)))

    -- ---- closing

    closing_still : (face : ℕ) (ms : List (Sent K)) (X : Fabric K) → AllNamed X ms → AllNamed (altered_at cmp matching X (closing_call X face)) ms
    closing_still face ms X all =
        closing_case cmp matching (λ at. AllNamed (altered_at cmp matching X at) ms) X face all
        (λ n k node at_.
        each_from_at In In (λ (x : Node K). record x { rows = altered cmp matching (CloseFace k) x.rows }) 1 n n X.gateways (nth_real n X.gateways node at_) (omega arith)
        (λ j x apart own. own) (λ x is own. closing_stands cmp matching total (λ v. Name cmp (printed_for (number_from 1 n v.number X.faces) ms) v) k x.rows own) all)
      where
        In : ℕ → Node K → Type 0
        In j x = Each (λ f. Named j x.rows f (printed_for (number_from 1 j f.number X.faces) ms)) x.rows.faces

    closings_still : (fs : List ℕ) (ms : List (Sent K)) (X : Fabric K) → AllNamed X ms → AllNamed (closed_ends cmp matching fs X) ms
    unfolding closed_ends
    closings_still [] ms X all = all
    closings_still (face ∷ fs) ms X all = closings_still fs ms (altered_at cmp matching X (closing_call X face)) (closing_still face ms X all)

    closing_named : (face : ℕ) (X : Fabric K) → FabricIsInOrder cmp matching X → AllNamed (altered_at cmp matching X (closing_call X face)) (said_at cmp matching X (closing_call X face))
    closing_named face X fine =
        closing_case cmp matching (λ at. AllNamed (altered_at cmp matching X at) (said_at cmp matching X at)) X face (nothing_named X.faces X.gateways)
        (λ n k node at_. called_named n node (CloseFace k) X (map (printed_at X.faces n) (said cmp matching (CloseFace k) node.rows)) (prints_map X.faces n (said cmp matching (CloseFace k) node.rows)) at_ refl fine)

    closings_named : (fs : List ℕ) (X : Fabric K) → FabricIsInOrder cmp matching X → AllNamed (closed_ends cmp matching fs X) (said_closing cmp matching fs X)
    unfolding closed_ends said_closing
    closings_named [] X fine = nothing_named X.faces X.gateways
    closings_named (face ∷ fs) X fine =
        let at = closing_call X face in
        let ms = said_at cmp matching X at in
        let Y = altered_at cmp matching X at in
        let H = after_hearing cmp ms Y in
        named_then ms (said_closing cmp matching fs H) (closed_ends cmp matching fs Y) (closings_still fs ms Y (closing_named face X fine))
        (subst (λ (t : Fabric K). AllNamed t (said_closing cmp matching fs H)) (sym (closings_commute cmp matching fs ms Y)) (closings_named fs H (closing_in_order cmp matching total face X fine)))

    -- what is dropped was for no open face
    unlinked_named : (fs : List ℕ) (X : Fabric K) → FabricIsInOrder cmp matching X → (let Z = closed_ends cmp matching fs X in AllNamed Z (filter (λ m. not (list_any (λ face. face == m.face) fs)) (said_closing cmp matching fs X)))
    unlinked_named fs X fine =
        let Z = closed_ends cmp matching fs X in
        let ms = said_closing cmp matching fs X in
        let kept = filter (λ m. not (list_any (λ face. face == m.face) fs)) ms in
        each_from_both (λ j (x : Node K). Each (λ f. list_any (λ face. face == number_from 1 j f.number Z.faces) fs ≡ false) x.rows.faces) (λ j (x : Node K). Each (λ f. Named j x.rows f (printed_for (number_from 1 j f.number Z.faces) ms)) x.rows.faces) (λ j (x : Node K). Each (λ f. Named j x.rows f (printed_for (number_from 1 j f.number Z.faces) kept)) x.rows.faces)
        (λ j x away all.
        each_both (λ f. list_any (λ face. face == number_from 1 j f.number Z.faces) fs ≡ false) (λ f. Named j x.rows f (printed_for (number_from 1 j f.number Z.faces) ms)) (λ f. Named j x.rows f (printed_for (number_from 1 j f.number Z.faces) kept))
        (λ f gone own. subst (λ xs. Named j x.rows f xs) (sym (printed_but_for cmp matching fs (number_from 1 j f.number Z.faces) ms gone)) own) x.rows.faces away all)
        1 Z.gateways (all_apart cmp matching fs Z (ends_apart cmp matching total fs X fine)) (closings_named fs X fine)

    -- ---- turns

    abbrev Comes : Fabric K → List (CallAt K) → List (Sent K) → List Place → List (Node K) → List (Node K) → Type 0
    Comes s calls ms places ws gs = FacesHave Named places ms ws

    named_of_calls : IsOfCalls cmp matching (λ s. Unit {0}) Comes
    named_of_calls = record {
      nothing = λ s fine _. nothing_named s.faces s.gateways;
      gateway = λ mode zid regions timeout refused node s new_ fine _. nothing_named s.faces (s.gateways ++ node ∷ []);
      call = λ spent n node c s at_ still accepted fine _. called_named n node c s (messages_at cmp matching s.faces n c node) (prints_sorted s.faces n (said cmp matching c node.rows)) at_ still fine;
      session = λ n first node s at_ real fine _. nothing_named (with_place n s).faces (with_rows n (altered cmp matching (NewSession first)) s).gateways;
      transport = λ spent n node zid whatami region bound first s at_ real accepted fine _.
          let c : PlainCall K = NewTransport zid whatami region bound first in
          opened_named n node c s (messages_at cmp matching (with_place n s).faces n c node) (prints_sorted (with_place n s).faces n (said cmp matching c node.rows)) at_ refl real fine;
      link = λ spent one two first back s real real_back accepted fine _.
          let ends = link_ends s one two first back in
          let X = opened_ends cmp matching ends s in
          faces_sorted Named X.faces (said_opening cmp matching ends s) X.gateways (ends_named ends s (starts_real cmp matching s one two first back real real_back) fine);
      unlink = λ n s fine _.
          let fs = both_ends cmp matching s n in
          let X = closed_ends cmp matching fs s in
          faces_sorted Named X.faces (filter (λ m. not (list_any (λ face. face == m.face) fs)) (said_closing cmp matching fs s)) X.gateways (unlinked_named fs s fine);
    }

    ends_shown : (s : Fabric K) (t : Turn K) → FabricIsInOrder cmp matching s → Unit {0} → IsShownTurn cmp matching total (λ s. Unit {0}) Comes named_of_calls s t → EndsWhatStands cmp matching t
    ends_shown s t fine _ is =
        each_face_weaker (λ n g f. Named n g f (printed_to t n f)) (λ n g f. NameWhatStands cmp matching (printed_to t n f) f) (λ n g f named. name_what_stands cmp matching (printed_to t n f) f named) 1 (with_line cmp matching t).gateways
        (faces_shown Named Named (λ j g f xs named. named) is.changed.faces t.after.faces (printed t) is.changed.gateways (with_line cmp matching t).gateways is.after_places (ap (λ (X : Fabric K). X.gateways) is.with_is) is.comes)

    -- Each turn of a transcript ends what stands.
    pub turns_end : (lines : List (PlainLine K)) (s : Fabric K) → Each HasFirstIds lines → FabricIsInOrder cmp matching s
        → Each (EndsWhatStands cmp matching) (turns_from cmp matching lines (entries_from cmp matching lines s) (as_shown s))
    turns_end lines s real fine =
        turns_show cmp matching total (λ s. Unit {0}) Comes named_of_calls (EndsWhatStands cmp matching) ends_shown (λ line x first ordered _. tt) lines s real fine tt

    news_shown : (s : Fabric K) (t : Turn K) → FabricIsInOrder cmp matching s → Unit {0} → IsShownTurn cmp matching total (λ s. Unit {0}) Comes named_of_calls s t → TellsWhatIsNew cmp matching t
    news_shown s t fine _ is =
        each_face_weaker (λ n g f. Named n g f (printed_to t n f)) (λ n g f. AreNews cmp matching (printed_to t n f) f) (λ n g f named. name_news cmp matching (printed_to t n f) f named) 1 (with_line cmp matching t).gateways
        (faces_shown Named Named (λ j g f xs named. named) is.changed.faces t.after.faces (printed t) is.changed.gateways (with_line cmp matching t).gateways is.after_places (ap (λ (X : Fabric K). X.gateways) is.with_is) is.comes)

    -- Each turn of a transcript tells what is new.
    pub turns_tell_news : (lines : List (PlainLine K)) (s : Fabric K) → Each HasFirstIds lines → FabricIsInOrder cmp matching s
        → Each (TellsWhatIsNew cmp matching) (turns_from cmp matching lines (entries_from cmp matching lines s) (as_shown s))
    turns_tell_news lines s real fine =
        turns_show cmp matching total (λ s. Unit {0}) Comes named_of_calls (TellsWhatIsNew cmp matching) news_shown (λ line x first ordered _. tt) lines s real fine tt

    -- Each turn of a transcript draws next ids.
    pub turns_draw : (lines : List (PlainLine K)) (s : Fabric K) → Each HasFirstIds lines → FabricIsInOrder cmp matching s
        → Each (DrawsNextIds cmp matching) (turns_from cmp matching lines (entries_from cmp matching lines s) (as_shown s))
    turns_draw lines s real fine =
        turns_have cmp matching total (DrawsNextIds cmp matching) (λ X. Unit {0})
        (λ line X first ordered _. (
          subst (λ (after : Fabric K). DrawsNextIds cmp matching (record { line = line; entry = entry_of cmp matching line X; before = as_shown X; after = after })) (fabric_is_shown cmp matching total line X ordered) (turn_draws cmp matching total line X first ordered),
          tt,
        )) lines s real fine tt
