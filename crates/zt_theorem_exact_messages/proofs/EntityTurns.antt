-- Each turn of a transcript prints the subscribers and queryables that are due.
use Rattle.std.proofs.Common.{◌≡◌, ◌≢◌, ℕ, ◌==◌, Bool, true, false, not, List, [], ◌∷◌, ◌++◌, map, filter, Some, None, refl, sym, ap, ◌∙◌, append-nil, ne_eqb}
use Rattle.std.specs.Cmp.{IsTotalOrder}
use Rattle.std.specs.List.{list_any, flat_map}
use Rattle.std.specs.Option.{option_to_list}
use Rattle.std.specs.declared.cmp.Ordering.{Ordering}
use Rattle.zt_protocol.specs.Plain.{PlainCall, NewSession, NewTransport, PlainLine}
use Rattle.zt_protocol.specs.declared.entries.Sent.{Sent}
use Rattle.zt_protocol.specs.declared.messages.Message.{Message}
use Rattle.zt_model.specs.Fabric.{CallAt, Fabric, Node, Place, both_ends, call_at, closed_ends, closing_call, entries_from, opened_ends, opening_at, printed_for, said_closing, said_opening, sorted_by_face, with_place, with_rows}
use Rattle.zt_model.specs.Hearing.{messages_for}
use Rattle.zt_model.specs.Linking.{LinkEnd, link_ends}
use Rattle.zt_model.specs.Promises.{Turn, calls_in, printed, turns_from, with_line}
use Rattle.zt_model.specs.Rows.{Face, Rows}
use Rattle.zt_model.specs.Says.{altered, said}
use Rattle.zt_model.specs.Transcript.{Each, openings, with_opening}
use Rattle.zt_laws.specs.Order.{FabricIsInOrder}
use Rattle.zt_laws.specs.Shown.{as_shown}
use Rattle.zt_laws.specs.Sound.{EachFrom, HasFirstIds, is_placed}
use Rattle.zt_laws.proofs.CallsOrder.{altered_faces}
use Rattle.zt_laws.proofs.Ends.{by_end}
use Rattle.zt_laws.proofs.Gateways.{prints_sorted}
use Rattle.zt_laws.proofs.LinesOrder.{called_at, faces_placed, gateway_in_order}
use Rattle.zt_laws.proofs.Lists.{each_always, each_append, each_map}
use Rattle.zt_laws.proofs.PartsOrder.{each_flat_map}
use Rattle.zt_laws.proofs.Sorting.{printed as printed_at}
use Rattle.zt_laws.proofs.Unlinking.{closing_case, each_from_always}
use Rattle.zt_theorem_visibility.proofs.Calls.{IsOfCalls, IsShownTurn, Shown, messages_at, turns_show}
use Rattle.zt_theorem_visibility.proofs.Faces.{FacesHave, faces_any, faces_called, faces_shown}
use Rattle.zt_theorem_visibility.proofs.Saying.{closings_say, openings_say, printed_sorted_each, unlinked_each}
use Rattle.zt_theorem_exact_messages.specs.Entities.{AnswersEntities, entities_due, entities_in}
use Rattle.zt_theorem_exact_messages.proofs.Entities.{AsksNothing, DeclaresNone, call_declares, no_entities, nothing_declared, nothing_due}

module _ {K : Type 0} (cmp : K → K → Ordering) (matching : K → K → Bool) where
  -- what is printed for a face is due by calls
  abbrev Due : List (CallAt K) → ℕ → Rows K → Face K → List (Message K) → Type 0
  Due calls j g f xs = entities_in xs ≡ flat_map (entities_due cmp matching j f.number) calls

  abbrev Comes : Fabric K → List (CallAt K) → List (Sent K) → List Place → List (Node K) → List (Node K) → Type 0
  Comes s calls ms places ws gs = FacesHave (Due calls) places ms ws

  -- nothing is due by calls that ask nothing
  none_due : (j number : ℕ) (calls : List (CallAt K)) → Each (λ at. AsksNothing cmp matching at.call) calls → flat_map (entities_due cmp matching j number) calls ≡ []
  none_due j number [] still = refl
  none_due j number (at ∷ calls) still = ap (λ ms. ms ++ flat_map (entities_due cmp matching j number) calls) (nothing_due cmp matching j number at still.0) ∙ none_due j number calls still.1

  -- and where nothing is declared either
  still_turn : (calls : List (CallAt K)) (places : List Place) (ms : List (Sent K)) (gs : List (Node K)) → Each (λ at. AsksNothing cmp matching at.call) calls → ((k : ℕ) → Each DeclaresNone (printed_for k ms)) → FacesHave (Due calls) places ms gs
  still_turn calls places ms gs still none_ = faces_any (Due calls) places ms gs (λ j k g f. no_entities (printed_for k ms) (none_ k) ∙ sym (none_due j f.number calls still))

  none_printed : (k : ℕ) → Each (DeclaresNone {K = K}) (printed_for k [])
  unfolding printed_for
  none_printed k = tt

  elsewhere : (j : ℕ) (at : CallAt K) (f : Face K) → j ≢ at.gateway → entities_in [] ≡ flat_map (entities_due cmp matching j f.number) (at ∷ [])
  elsewhere j at f apart = let miss : (j == at.gateway) ≡ false = ne_eqb j at.gateway apart in rw miss refl

  others_due : (at : CallAt K) (gs : List (Node K)) → EachFrom (λ j (x : Node K). j ≢ at.gateway → Each (λ f. Due (at ∷ []) j x.rows f []) x.rows.faces) 1 gs
  others_due at gs =
      each_from_always (λ j (x : Node K). j ≢ at.gateway → Each (λ f. Due (at ∷ []) j x.rows f []) x.rows.faces)
      (λ j x apart. each_always (λ f. Due (at ∷ []) j x.rows f []) (λ f. elsewhere j at f apart) x.rows.faces) 1 gs

  -- what a call comes to at its own gateway
  own_due : (n : ℕ) (node : Node K) (c : PlainCall K) → Each (λ f. Due (Shown n node c ∷ []) n (altered cmp matching c node.rows) f (messages_for f.number (said cmp matching c node.rows))) (altered cmp matching c node.rows).faces
  own_due n node c =
      each_always (λ f. Due (Shown n node c ∷ []) n (altered cmp matching c node.rows) f (messages_for f.number (said cmp matching c node.rows)))
      (λ f. call_declares cmp matching n f.number c node.rows ∙ sym (append-nil (entities_due cmp matching n f.number (Shown n node c)))) (altered cmp matching c node.rows).faces

  openings_still : (ends : List (LinkEnd K)) (X : Fabric K) → Each (λ at. AsksNothing cmp matching at.call) (openings cmp matching ends X)
  unfolding openings
  openings_still [] X = tt
  openings_still (end ∷ ends) X =
      let at = opening_at cmp matching X end in
      each_append (λ o. AsksNothing cmp matching o.call) (option_to_list at) (openings cmp matching ends (with_opening cmp matching at X))
      (by_end cmp matching (λ c. Each (λ o. AsksNothing cmp matching o.call) (option_to_list (elim c [ None ↦ None | Some call ↦ call_at X end.gateway call ]))) end tt
      (λ zid whatami region bound. called_at (λ o. Each (λ a. AsksNothing cmp matching a.call) (option_to_list o)) X end.gateway (NewTransport zid whatami region bound end.first) tt (λ node at_. (tt, tt))))
      (openings_still ends (with_opening cmp matching at X))

  closings_still : (fs : List ℕ) (X : Fabric K) → Each (λ at. AsksNothing cmp matching at.call) (flat_map (λ face. option_to_list (closing_call X face)) fs)
  closings_still fs X =
      each_flat_map (λ o. AsksNothing cmp matching o.call) (λ face. option_to_list (closing_call X face)) fs
      (λ face. closing_case cmp matching (λ o. Each (λ a. AsksNothing cmp matching a.call) (option_to_list o)) X face tt (λ n k node at_. (tt, tt)))

  module _ (total : IsTotalOrder cmp) where
    entities_of_calls : IsOfCalls cmp matching (λ s. Unit {0}) Comes
    entities_of_calls = record {
      nothing = λ s fine _. still_turn [] s.faces [] s.gateways tt none_printed;
      gateway = λ mode zid regions timeout refused node s new_ fine _. still_turn [] s.faces [] (s.gateways ++ node ∷ []) tt none_printed;
      call = λ spent n node c s at_ still accepted fine _.
          let gateway = gateway_in_order cmp matching s n node at_ fine in
          let placed = altered_faces cmp matching total (λ k. is_placed n k s.faces ≡ true) c node.rows still gateway.rows.lists gateway.placed in
          faces_called (Due (Shown n node c ∷ [])) n node (altered cmp matching c) s.faces (said cmp matching c node.rows) (messages_at cmp matching s.faces n c node) s.gateways
          (prints_sorted s.faces n (said cmp matching c node.rows)) at_ placed.0 (own_due n node c) (faces_placed cmp matching s fine) (others_due (Shown n node c) s.gateways);
      session = λ n first node s at_ real fine _. still_turn (Shown n node (NewSession first) ∷ []) (with_place n s).faces [] (with_rows n (altered cmp matching (NewSession first)) s).gateways (tt, tt) none_printed;
      transport = λ spent n node zid whatami region bound first s at_ real accepted fine _.
          let c : PlainCall K = NewTransport zid whatami region bound first in
          still_turn (Shown n node c ∷ []) (with_place n s).faces (messages_at cmp matching (with_place n s).faces n c node) (with_rows n (altered cmp matching c) s).gateways (tt, tt)
          (λ k. printed_sorted_each cmp matching DeclaresNone k (map (printed_at (with_place n s).faces n) (said cmp matching c node.rows)) (each_map (λ (m : Sent K). DeclaresNone m.message) (printed_at (with_place n s).faces n) (said cmp matching c node.rows) (nothing_declared cmp matching c node.rows tt)));
      link = λ spent one two first back s real real_back accepted fine _.
          let ends = link_ends s one two first back in
          let X = opened_ends cmp matching ends s in
          still_turn (openings cmp matching (link_ends (as_shown s) one two first back) (as_shown s)) X.faces (sorted_by_face (said_opening cmp matching ends s)) X.gateways (openings_still (link_ends (as_shown s) one two first back) (as_shown s))
          (λ k. printed_sorted_each cmp matching DeclaresNone k (said_opening cmp matching ends s) (openings_say cmp matching DeclaresNone (λ i mode options e. tt) (λ i e. tt) (λ i. tt) ends s));
      unlink = λ n s fine _.
          let fs = both_ends cmp matching s n in
          let X = closed_ends cmp matching fs s in
          let ms = said_closing cmp matching fs s in
          still_turn (flat_map (λ face. option_to_list (closing_call (as_shown s) face)) fs) X.faces (sorted_by_face (filter (λ m. not (list_any (λ face. face == m.face) fs)) ms)) X.gateways (closings_still fs (as_shown s))
          (λ k. unlinked_each cmp matching DeclaresNone k fs ms (closings_say cmp matching DeclaresNone (λ i. tt) (λ e i. tt) (λ i. tt) (λ i. tt) fs s));
    }

    entities_shown : (s : Fabric K) (t : Turn K) → FabricIsInOrder cmp matching s → Unit {0} → IsShownTurn cmp matching total (λ s. Unit {0}) Comes entities_of_calls s t → AnswersEntities cmp matching t
    entities_shown s t fine _ is =
        faces_shown (Due (calls_in cmp matching t)) (Due (calls_in cmp matching t)) (λ j g f xs one. one) is.changed.faces t.after.faces (printed t) is.changed.gateways (with_line cmp matching t).gateways is.after_places (ap (λ (X : Fabric K). X.gateways) is.with_is) is.comes

    -- Each turn of a transcript answers interests in entities.
    pub turns_declare : (lines : List (PlainLine K)) (s : Fabric K) → Each HasFirstIds lines → FabricIsInOrder cmp matching s
        → Each (AnswersEntities cmp matching) (turns_from cmp matching lines (entries_from cmp matching lines s) (as_shown s))
    turns_declare lines s real fine =
        turns_show cmp matching total (λ s. Unit {0}) Comes entities_of_calls (AnswersEntities cmp matching) entities_shown (λ line x first ordered _. tt) lines s real fine tt
