-- Each turn of a transcript tells by expression that a token is gone only to who wants it and doesn't keep it.
use Rattle.std.proofs.Common.{◌≡◌, ◌≢◌, ℕ, ◌+◌, Bool, true, false, not, ◌==◌, List, [], ◌∷◌, ◌++◌, map, filter, Some, refl, sym, ap, subst, arith}
use Rattle.std.specs.Cmp.{IsTotalOrder}
use Rattle.std.specs.List.{list_any}
use Rattle.std.specs.declared.cmp.Ordering.{Ordering}
use Rattle.zt_protocol.specs.Plain.{PlainCall, NewSession, NewTransport, CloseFace, PlainLine}
use Rattle.zt_protocol.specs.declared.entries.Sent.{Sent}
use Rattle.zt_protocol.specs.declared.messages.Message.{Message}
use Rattle.zt_model.specs.Fabric.{CallAt, Fabric, Node, Place, after_hearing, altered_at, both_ends, closed_ends, closing_call, entries_from, gateways_after_hearing, number_from, opened_ends, printed_for, said_at, said_closing, said_opening, sorted_by_face, with_place, with_rows}
use Rattle.zt_model.specs.Hearing.{heard_all}
use Rattle.zt_model.specs.Linking.{link_ends}
use Rattle.zt_model.specs.Lists.{nth}
use Rattle.zt_model.specs.Promises.{Turn, printed, printed_to, turns_from, with_line}
use Rattle.zt_model.specs.Rows.{Face, Rows}
use Rattle.zt_model.specs.Says.{altered, said}
use Rattle.zt_model.specs.Transcript.{Each}
use Rattle.zt_laws.specs.Order.{FabricIsInOrder}
use Rattle.zt_laws.specs.Shown.{as_shown}
use Rattle.zt_laws.specs.Sound.{EachFrom, HasFirstIds, is_placed, opens_face}
use Rattle.zt_laws.proofs.CallsOrder.{altered_faces}
use Rattle.zt_laws.proofs.Ends.{printed_for-append}
use Rattle.zt_laws.proofs.Gateways.{PrintsSends, prints_map, prints_sorted}
use Rattle.zt_laws.proofs.Hearing.{heard_all-number}
use Rattle.zt_laws.proofs.LinesOrder.{faces_placed, gateway_in_order}
use Rattle.zt_laws.proofs.Lists.{each_always, each_both, each_map}
use Rattle.zt_laws.proofs.Numbered.{each_from_at, nth_real}
use Rattle.zt_laws.proofs.PartsOrder.{each_of_map}
use Rattle.zt_laws.proofs.Sorting.{printed as printed_at}
use Rattle.zt_laws.proofs.Unlinking.{all_apart, closing_case, closing_in_order, closings_commute, each_from_always, each_from_both, ends_apart, printed_but_for}
use Rattle.zt_theorem_visibility.proofs.Calls.{IsOfCalls, IsShownTurn, messages_at, turns_show}
use Rattle.zt_theorem_visibility.proofs.Faces.{FacesHave, each_face_weaker, faces_any, faces_called, faces_hear_nothing, faces_shown, faces_sorted}
use Rattle.zt_theorem_visibility.proofs.Saying.{opening_says, openings_say, printed_sorted_each}
use Rattle.zt_theorem_exact_messages.specs.Undeclared.{AreForWhoWants, UndeclaresToWhoWants}
use Rattle.zt_theorem_exact_messages.proofs.Hearers.{NamesNone, Right, after_heard_all, for_who_wants, hearer_of, right_if_none, right_then}
use Rattle.zt_theorem_exact_messages.proofs.Undeclaring.{call_right, closing_hears}

module _ {K : Type 0} (cmp : K → K → Ordering) (matching : K → K → Bool) where
  -- what is printed for a face is right
  abbrev IsRight : ℕ → Rows K → Face K → List (Message K) → Type 0
  IsRight j g f xs = Right cmp matching xs (hearer_of g f)

  abbrev AllRight : Fabric K → List (Sent K) → Type 0
  AllRight X ms = FacesHave IsRight X.faces ms X.gateways

  nothing_right : (places : List Place) (gs : List (Node K)) → FacesHave IsRight places [] gs
  nothing_right places gs = faces_hear_nothing IsRight places gs (each_from_always (λ j (x : Node K). Each (λ f. Unit {0}) x.rows.faces) (λ j x. each_always (λ f. Unit {0}) (λ f. tt) x.rows.faces) 1 gs)

  any_right : (places : List Place) (ms : List (Sent K)) (gs : List (Node K)) → ((k : ℕ) → Each (NamesNone cmp matching) (printed_for k ms)) → FacesHave IsRight places ms gs
  any_right places ms gs none_ = faces_any IsRight places ms gs (λ j k g f. right_if_none cmp matching (printed_for k ms) (hearer_of g f) (none_ k))

  -- what is said later
  right_later : (ms ns : List (Sent K)) (X : Fabric K) → AllRight X ms → AllRight (after_hearing cmp ms X) ns → AllRight X (ms ++ ns)
  unfolding gateways_after_hearing
  right_later ms ns X one two = gateways 1 X.gateways one two
    where
      In : List (Sent K) → ℕ → Node K → Type 0
      In xs j node = Each (λ f. IsRight j node.rows f (printed_for (number_from 1 j f.number X.faces) xs)) node.rows.faces

      rows : (j : ℕ) (g : Rows K)
          → Each (λ f. IsRight j g f (printed_for (number_from 1 j f.number X.faces) ms)) g.faces
          → Each (λ f. IsRight j g f (printed_for (number_from 1 j f.number X.faces) ns)) (map (λ f. heard_all cmp g.moment (printed_for (number_from 1 j f.number X.faces) ms) f) g.faces)
          → Each (λ f. IsRight j g f (printed_for (number_from 1 j f.number X.faces) (ms ++ ns))) g.faces
      rows j g a b =
          each_both (λ f. IsRight j g f (printed_for (number_from 1 j f.number X.faces) ms)) (λ f. Later (heard_all cmp g.moment (printed_for (number_from 1 j f.number X.faces) ms) f)) (λ f. IsRight j g f (printed_for (number_from 1 j f.number X.faces) (ms ++ ns)))
          (λ f first later.
          let k = number_from 1 j f.number X.faces in
          let h = heard_all cmp g.moment (printed_for k ms) f in
          subst (λ xs. IsRight j g f xs) (sym (printed_for-append k ms ns))
          (right_then cmp matching (printed_for k ms) (printed_for k ns) (hearer_of g f) first
          (subst (Right cmp matching (printed_for k ns)) (after_heard_all cmp matching g.moment g (printed_for k ms) f)
          (subst (λ i. IsRight j g h (printed_for (number_from 1 j i X.faces) ns)) (heard_all-number cmp g.moment (printed_for k ms) f) later))))
          g.faces a (each_of_map (λ f. IsRight j g f (printed_for (number_from 1 j f.number X.faces) ns)) (λ f. heard_all cmp g.moment (printed_for (number_from 1 j f.number X.faces) ms) f) g.faces b)
        where
          Later : Face K → Type 0
          Later h = IsRight j g h (printed_for (number_from 1 j h.number X.faces) ns)

      gateways : (k : ℕ) (gs : List (Node K)) → EachFrom (In ms) k gs → EachFrom (In ns) k (gateways_after_hearing cmp X ms k gs) → EachFrom (In (ms ++ ns)) k gs
      gateways k [] a b = tt
      gateways k (node ∷ gs) a b = (rows k node.rows a.0 b.0, gateways (k + 1) gs a.1 b.1)

  module _ (total : IsTotalOrder cmp) where
    others_right : (n : ℕ) (gs : List (Node K)) → EachFrom (λ j (x : Node K). j ≢ n → Each (λ f. IsRight j x.rows f []) x.rows.faces) 1 gs
    others_right n gs = each_from_always (λ j (x : Node K). j ≢ n → Each (λ f. IsRight j x.rows f []) x.rows.faces) (λ j x _. each_always (λ f. Unit {0}) (λ f. tt) x.rows.faces) 1 gs

    -- a call that opens no face
    called_right : (n : ℕ) (node : Node K) (c : PlainCall K) (s : Fabric K) (ms : List (Sent K)) → PrintsSends s.faces n (said cmp matching c node.rows) ms → nth n s.gateways ≡ Some node → opens_face c ≡ false → FabricIsInOrder cmp matching s → AllRight (with_rows n (altered cmp matching c) s) ms
    called_right n node c s ms prints at_ still fine =
        let gateway = gateway_in_order cmp matching s n node at_ fine in
        let placed = altered_faces cmp matching total (λ k. is_placed n k s.faces ≡ true) c node.rows still gateway.rows.lists gateway.placed in
        faces_called IsRight n node (altered cmp matching c) s.faces (said cmp matching c node.rows) ms s.gateways prints at_ placed.0 (call_right cmp matching total c node.rows gateway.rows) (faces_placed cmp matching s fine) (others_right n s.gateways)

    -- ---- closing

    closing_still : (face : ℕ) (ms : List (Sent K)) (X : Fabric K) → AllRight X ms → AllRight (altered_at cmp matching X (closing_call X face)) ms
    closing_still face ms X all =
        closing_case cmp matching (λ at. AllRight (altered_at cmp matching X at) ms) X face all
        (λ n k node at_.
        each_from_at In In (λ (x : Node K). record x { rows = altered cmp matching (CloseFace k) x.rows }) 1 n n X.gateways (nth_real n X.gateways node at_) (omega arith)
        (λ j x apart own. own) (λ x is own. closing_hears cmp matching (λ v. Right cmp matching (printed_for (number_from 1 n v.number X.faces) ms) v) k x.rows own) all)
      where
        In : ℕ → Node K → Type 0
        In j x = Each (λ f. IsRight j x.rows f (printed_for (number_from 1 j f.number X.faces) ms)) x.rows.faces

    closings_still : (fs : List ℕ) (ms : List (Sent K)) (X : Fabric K) → AllRight X ms → AllRight (closed_ends cmp matching fs X) ms
    unfolding closed_ends
    closings_still [] ms X all = all
    closings_still (face ∷ fs) ms X all = closings_still fs ms (altered_at cmp matching X (closing_call X face)) (closing_still face ms X all)

    closing_right : (face : ℕ) (X : Fabric K) → FabricIsInOrder cmp matching X → AllRight (altered_at cmp matching X (closing_call X face)) (said_at cmp matching X (closing_call X face))
    closing_right face X fine =
        closing_case cmp matching (λ at. AllRight (altered_at cmp matching X at) (said_at cmp matching X at)) X face (nothing_right X.faces X.gateways)
        (λ n k node at_. called_right n node (CloseFace k) X (map (printed_at X.faces n) (said cmp matching (CloseFace k) node.rows)) (prints_map X.faces n (said cmp matching (CloseFace k) node.rows)) at_ refl fine)

    closings_right : (fs : List ℕ) (X : Fabric K) → FabricIsInOrder cmp matching X → AllRight (closed_ends cmp matching fs X) (said_closing cmp matching fs X)
    unfolding closed_ends said_closing
    closings_right [] X fine = nothing_right X.faces X.gateways
    closings_right (face ∷ fs) X fine =
        let at = closing_call X face in
        let ms = said_at cmp matching X at in
        let Y = altered_at cmp matching X at in
        let H = after_hearing cmp ms Y in
        right_later ms (said_closing cmp matching fs H) (closed_ends cmp matching fs Y) (closings_still fs ms Y (closing_right face X fine))
        (subst (λ (t : Fabric K). AllRight t (said_closing cmp matching fs H)) (sym (closings_commute cmp matching fs ms Y)) (closings_right fs H (closing_in_order cmp matching total face X fine)))

    -- what is dropped was for no open face
    unlinked_right : (fs : List ℕ) (X : Fabric K) → FabricIsInOrder cmp matching X → (let Z = closed_ends cmp matching fs X in AllRight Z (filter (λ m. not (list_any (λ face. face == m.face) fs)) (said_closing cmp matching fs X)))
    unlinked_right fs X fine =
        let Z = closed_ends cmp matching fs X in
        let ms = said_closing cmp matching fs X in
        let kept = filter (λ m. not (list_any (λ face. face == m.face) fs)) ms in
        each_from_both (λ j (x : Node K). Each (λ f. list_any (λ face. face == number_from 1 j f.number Z.faces) fs ≡ false) x.rows.faces) (λ j (x : Node K). Each (λ f. IsRight j x.rows f (printed_for (number_from 1 j f.number Z.faces) ms)) x.rows.faces) (λ j (x : Node K). Each (λ f. IsRight j x.rows f (printed_for (number_from 1 j f.number Z.faces) kept)) x.rows.faces)
        (λ j x away all.
        each_both (λ f. list_any (λ face. face == number_from 1 j f.number Z.faces) fs ≡ false) (λ f. IsRight j x.rows f (printed_for (number_from 1 j f.number Z.faces) ms)) (λ f. IsRight j x.rows f (printed_for (number_from 1 j f.number Z.faces) kept))
        (λ f gone own. subst (λ xs. IsRight j x.rows f xs) (sym (printed_but_for cmp matching fs (number_from 1 j f.number Z.faces) ms gone)) own) x.rows.faces away all)
        1 Z.gateways (all_apart cmp matching fs Z (ends_apart cmp matching total fs X fine)) (closings_right fs X fine)

    -- ---- turns

    abbrev Comes : Fabric K → List (CallAt K) → List (Sent K) → List Place → List (Node K) → List (Node K) → Type 0
    Comes s calls ms places ws gs = FacesHave IsRight places ms ws

    right_of_calls : IsOfCalls cmp matching (λ s. Unit {0}) Comes
    right_of_calls = record {
      nothing = λ s fine _. nothing_right s.faces s.gateways;
      gateway = λ mode zid regions timeout refused node s new_ fine _. nothing_right s.faces (s.gateways ++ node ∷ []);
      call = λ spent n node c s at_ still accepted fine _. called_right n node c s (messages_at cmp matching s.faces n c node) (prints_sorted s.faces n (said cmp matching c node.rows)) at_ still fine;
      session = λ n first node s at_ real fine _. nothing_right (with_place n s).faces (with_rows n (altered cmp matching (NewSession first)) s).gateways;
      transport = λ spent n node zid whatami region bound first s at_ real accepted fine _.
          let c : PlainCall K = NewTransport zid whatami region bound first in
          any_right (with_place n s).faces (messages_at cmp matching (with_place n s).faces n c node) (with_rows n (altered cmp matching c) s).gateways
          (λ k. printed_sorted_each cmp matching (NamesNone cmp matching) k (map (printed_at (with_place n s).faces n) (said cmp matching c node.rows))
          (each_map (λ (m : Sent K). NamesNone cmp matching m.message) (printed_at (with_place n s).faces n) (said cmp matching c node.rows) (opening_says cmp matching (NamesNone cmp matching) (λ i mode options e. tt) (λ i e. tt) (λ i. tt) zid whatami region bound first node.rows)));
      link = λ spent one two first back s real real_back accepted fine _.
          let ends = link_ends s one two first back in
          let X = opened_ends cmp matching ends s in
          let ms = sorted_by_face (said_opening cmp matching ends s) in
          any_right X.faces ms X.gateways (λ k. printed_sorted_each cmp matching (NamesNone cmp matching) k (said_opening cmp matching ends s) (openings_say cmp matching (NamesNone cmp matching) (λ i mode options e. tt) (λ i e. tt) (λ i. tt) ends s));
      unlink = λ n s fine _.
          let fs = both_ends cmp matching s n in
          let X = closed_ends cmp matching fs s in
          faces_sorted IsRight X.faces (filter (λ m. not (list_any (λ face. face == m.face) fs)) (said_closing cmp matching fs s)) X.gateways (unlinked_right fs s fine);
    }

    right_shown : (s : Fabric K) (t : Turn K) → FabricIsInOrder cmp matching s → Unit {0} → IsShownTurn cmp matching total (λ s. Unit {0}) Comes right_of_calls s t → UndeclaresToWhoWants cmp matching t
    right_shown s t fine _ is =
        each_face_weaker (λ n g f. IsRight n g f (printed_to t n f)) (λ n g f. AreForWhoWants cmp matching g (printed_to t n f) f) (λ n g f right. for_who_wants cmp matching g (printed_to t n f) f right) 1 (with_line cmp matching t).gateways
        (faces_shown IsRight IsRight (λ j g f xs right. right) is.changed.faces t.after.faces (printed t) is.changed.gateways (with_line cmp matching t).gateways is.after_places (ap (λ (X : Fabric K). X.gateways) is.with_is) is.comes)

    -- Each turn of a transcript tells by expression who wants and doesn't keep it.
    pub turns_undeclare : (lines : List (PlainLine K)) (s : Fabric K) → Each HasFirstIds lines → FabricIsInOrder cmp matching s
        → Each (UndeclaresToWhoWants cmp matching) (turns_from cmp matching lines (entries_from cmp matching lines s) (as_shown s))
    turns_undeclare lines s real fine =
        turns_show cmp matching total (λ s. Unit {0}) Comes right_of_calls (UndeclaresToWhoWants cmp matching) right_shown (λ line x first ordered _. tt) lines s real fine tt
