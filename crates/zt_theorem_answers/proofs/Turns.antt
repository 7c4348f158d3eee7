-- The asks of each turn of a transcript are answered.
use Rattle.std.proofs.Common.{◌≡◌, ◌≢◌, ℕ, ◌==◌, ◌&&◌, Bool, true, false, not, List, [], ◌∷◌, ◌++◌, map, filter, Option, Some, None, is_none, refl, sym, ap, ◌∙◌}
use Rattle.std.specs.Cmp.{IsTotalOrder}
use Rattle.std.specs.List.{list_any, flat_map}
use Rattle.std.specs.Option.{option_to_list}
use Rattle.std.specs.declared.cmp.Ordering.{Ordering}
use Rattle.std.specs.declared.cmp.Ordering.TheVariants.{Equal}
use Rattle.zt_protocol.specs.Interest.{has_tokens}
use Rattle.zt_protocol.specs.Plain.{PlainCall, NewSession, NewTransport, DeclareToken, UndeclareToken, Interest, InterestFinal, DeclareFinal, CloseFace, Expire, SetTrees, SetEntities, PlainLine}
use Rattle.zt_protocol.specs.declared.entries.Sent.{Sent}
use Rattle.zt_protocol.specs.declared.messages.Message.{Message}
use Rattle.zt_model.specs.Fabric.{CallAt, Fabric, Node, Place, both_ends, call_at, closed_ends, closing_call, entries_from, opened_ends, opening_at, printed_for, said_closing, said_opening, sorted_by_face, with_place, with_rows}
use Rattle.zt_model.specs.Hearing.{messages_for}
use Rattle.zt_model.specs.Linking.{LinkEnd, link_ends}
use Rattle.zt_model.specs.Promises.{AnswersAsks, IsAnswered, Turn, calls_in, printed, printed_to, turns_from, with_line}
use Rattle.zt_model.specs.Refusals.{call_causes, first_cause, is_interest_id_in_use, is_unknown_ask}
use Rattle.zt_model.specs.Rows.{Ask, Face, Rows}
use Rattle.zt_model.specs.Says.{altered, find_face, parts_of, said, said_by}
use Rattle.zt_model.specs.Transcript.{Each, openings, with_opening}
use Rattle.zt_model.specs.Wants.{is_about}
use Rattle.zt_laws.specs.Order.{FabricIsInOrder, RowsAreInOrder}
use Rattle.zt_laws.specs.Shown.{as_shown, without_own}
use Rattle.zt_laws.specs.Sound.{EachFrom, HasFirstIds, is_placed, opens_face}
use Rattle.zt_laws.proofs.Calls.{no_cause, not_on_face}
use Rattle.zt_laws.proofs.CallsOrder.{altered_faces}
use Rattle.zt_laws.proofs.Ends.{by_end}
use Rattle.zt_laws.proofs.Gateways.{prints_sorted}
use Rattle.zt_laws.proofs.LinesOrder.{called_at, faces_placed, gateway_in_order}
use Rattle.zt_laws.proofs.Lists.{each_always, each_append, each_map, each_weaker, never}
use Rattle.zt_laws.proofs.PartsOrder.{each_flat_map, each_message_for}
use Rattle.zt_laws.proofs.Seen.{seen_is}
use Rattle.zt_laws.proofs.Sorting.{printed as printed_at}
use Rattle.zt_laws.proofs.Unlinking.{closing_case, each_from_always}
use Rattle.zt_theorem_visibility.proofs.Calls.{IsOfCalls, IsShownTurn, Shown, messages_at, turns_show}
use Rattle.zt_theorem_visibility.proofs.Faces.{FacesHave, faces_any, faces_called, each_face_weaker, faces_shown}
use Rattle.zt_theorem_visibility.proofs.Saying.{closing_says, closings_say, declare_final_says, expiry_says, interest_final_says, openings_say, opening_says, printed_sorted_each, table_says, undeclaration_says, unlinked_each}
use Rattle.zt_theorem_answers.proofs.AtOnce.{AnswersNone}
use Rattle.zt_theorem_answers.proofs.Turning.{Answered, AsksAnswered, IsStill, NoAnswers, declaration_answered, elsewhere_answered, interest_answered, still_answered}

module _ {K : Type 0} (cmp : K → K → Ordering) (matching : K → K → Bool) where
  abbrev None_ : Message K → Type 0
  None_ m = (id : ℕ) → AnswersNone id m

  -- a call that neither asks nor answers prints no answer
  still_says : (c : PlainCall K) (g : Rows K) → IsStill cmp matching c → Each (λ s. None_ s.1) (said cmp matching c g)
  unfolding parts_of said_by
  still_says (NewSession first) g still = tt
  still_says (NewTransport zid whatami region bound first) g still = opening_says cmp matching None_ (λ k mode options e i. refl) (λ k e i. refl) (λ k i. refl) zid whatami region bound first g
  still_says (DeclareToken n id e node interest) g still = absurd still
  still_says (UndeclareToken n id given node) g still = undeclaration_says cmp matching None_ (λ k i. refl) (λ e k i. refl) n id node given g
  still_says (Interest n id mode options e) g still = absurd still
  still_says (InterestFinal n id) g still = interest_final_says cmp matching None_ (λ k i. refl) (λ k i. refl) (λ k i. refl) n id g
  still_says (DeclareFinal n id) g still = declare_final_says cmp matching None_ (λ k i. refl) n id g
  still_says (CloseFace n) g still = closing_says cmp matching None_ (λ k i. refl) (λ e k i. refl) (λ k i. refl) (λ k i. refl) n g
  still_says (Expire now) g still = expiry_says cmp matching None_ (λ k i. refl) now g
  still_says (SetTrees region t) g still = table_says cmp matching None_ (λ k i. refl) (λ e k i. refl) (λ e k i. refl) region t g
  still_says (SetEntities n subscribers queryables) g still = tt

  module _ (total : IsTotalOrder cmp) (equal_is_same : (a b : K) → cmp a b ≡ Equal → a ≡ b) where
    still_own : (n : ℕ) (node : Node K) (c : PlainCall K) → IsStill cmp matching c
        → Each (λ f. AsksAnswered cmp matching (Shown n node c ∷ []) n (without_own (altered cmp matching c node.rows)) f (messages_for f.number (said cmp matching c node.rows))) (altered cmp matching c node.rows).faces
    still_own n node c still =
        each_always (λ f. AsksAnswered cmp matching (Shown n node c ∷ []) n (without_own (altered cmp matching c node.rows)) f (messages_for f.number (said cmp matching c node.rows)))
        (λ f. still_answered cmp matching (Shown n node c ∷ []) n (without_own (altered cmp matching c node.rows)) f (messages_for f.number (said cmp matching c node.rows)) (still, tt) (each_message_for cmp None_ f.number (said cmp matching c node.rows) (still_says c node.rows still))) (altered cmp matching c node.rows).faces

    abbrev Comes : Fabric K → List (CallAt K) → List (Sent K) → List Place → List (Node K) → List (Node K) → Type 0
    Comes s calls ms places ws gs = FacesHave (λ j g f xs. AsksAnswered cmp matching calls j (without_own g) f xs) places ms ws

    -- what a call comes to at its own gateway
    own_answered : (spent : Bool) (n : ℕ) (node : Node K) (c : PlainCall K) → RowsAreInOrder cmp matching node.rows → opens_face c ≡ false → first_cause (call_causes cmp matching spent c node.rows) ≡ None
        → Each (λ f. AsksAnswered cmp matching (Shown n node c ∷ []) n (without_own (altered cmp matching c node.rows)) f (messages_for f.number (said cmp matching c node.rows))) (altered cmp matching c node.rows).faces
    unfolding call_causes
    own_answered spent n node (Interest k id mode options e) ordered still accepted = by_face (find_face k node.rows) refl
      where
        c : PlainCall K
        c = Interest k id mode options e

        by_face : (o : Option (Face K)) → find_face k node.rows ≡ o → Each (λ f. AsksAnswered cmp matching (Shown n node c ∷ []) n (without_own (altered cmp matching c node.rows)) f (messages_for f.number (said cmp matching c node.rows))) (altered cmp matching c node.rows).faces
        by_face None found = let one = (no_cause _ _ _ accepted).0 in never (ap (λ (o : Option (Face K)). is_none o) found) one
        by_face (Some from) found =
            let one = no_cause _ _ _ accepted in
            let two = no_cause _ _ _ one.1 in
            let three = no_cause _ _ _ two.1 in
            let four = no_cause _ _ _ three.1 in
            let five = no_cause _ _ _ four.1 in
            interest_answered cmp matching total equal_is_same n k id mode options e from node.rows found ordered (not_on_face k node.rows (is_interest_id_in_use id mode) from found five.0)
    own_answered spent n node (DeclareToken k id e nd interest) ordered still accepted = by_face (find_face k node.rows) refl
      where
        c : PlainCall K
        c = DeclareToken k id e nd interest

        by_face : (o : Option (Face K)) → find_face k node.rows ≡ o → Each (λ f. AsksAnswered cmp matching (Shown n node c ∷ []) n (without_own (altered cmp matching c node.rows)) f (messages_for f.number (said cmp matching c node.rows))) (altered cmp matching c node.rows).faces
        by_face None found = let one = (no_cause _ _ _ accepted).0 in never (ap (λ (o : Option (Face K)). is_none o) found) one
        by_face (Some from) found =
            let one = no_cause _ _ _ accepted in
            let two = no_cause _ _ _ one.1 in
            let three = no_cause _ _ _ two.1 in
            declaration_answered cmp matching total equal_is_same n k id nd e interest from node.rows found ordered (not_on_face k node.rows (is_unknown_ask id interest node.rows) from found three.0)
    own_answered spent n node (NewSession first) ordered still accepted = never refl still
    own_answered spent n node (NewTransport zid whatami region bound first) ordered still accepted = never refl still
    own_answered spent n node (UndeclareToken k id given nd) ordered still accepted = still_own n node (UndeclareToken k id given nd) tt
    own_answered spent n node (InterestFinal k id) ordered still accepted = still_own n node (InterestFinal k id) tt
    own_answered spent n node (DeclareFinal k id) ordered still accepted = still_own n node (DeclareFinal k id) tt
    own_answered spent n node (CloseFace k) ordered still accepted = still_own n node (CloseFace k) tt
    own_answered spent n node (Expire now) ordered still accepted = still_own n node (Expire now) tt
    own_answered spent n node (SetTrees region t) ordered still accepted = still_own n node (SetTrees region t) tt
    own_answered spent n node (SetEntities k subscribers queryables) ordered still accepted = still_own n node (SetEntities k subscribers queryables) tt

    others_answered : (at : CallAt K) (gs : List (Node K)) → EachFrom (λ j (x : Node K). j ≢ at.gateway → Each (λ f. AsksAnswered cmp matching (at ∷ []) j (without_own x.rows) f []) x.rows.faces) 1 gs
    others_answered at gs =
        each_from_always (λ j (x : Node K). j ≢ at.gateway → Each (λ f. AsksAnswered cmp matching (at ∷ []) j (without_own x.rows) f []) x.rows.faces)
        (λ j x apart. each_always (λ f. AsksAnswered cmp matching (at ∷ []) j (without_own x.rows) f []) (λ f. elsewhere_answered cmp matching at j (without_own x.rows) f apart) x.rows.faces) 1 gs

    -- where no call asks or answers, and nothing printed answers
    still_turn : (calls : List (CallAt K)) (places : List Place) (ms : List (Sent K)) (gs : List (Node K)) → Each (λ at. IsStill cmp matching at.call) calls → ((k : ℕ) → NoAnswers cmp matching (printed_for k ms))
        → FacesHave (λ j g f xs. AsksAnswered cmp matching calls j (without_own g) f xs) places ms gs
    still_turn calls places ms gs still none_ = faces_any (λ j g f xs. AsksAnswered cmp matching calls j (without_own g) f xs) places ms gs (λ j k g f. still_answered cmp matching calls j (without_own g) f (printed_for k ms) still (none_ k))

    openings_still : (ends : List (LinkEnd K)) (X : Fabric K) → Each (λ at. IsStill cmp matching at.call) (openings cmp matching ends X)
    unfolding openings
    openings_still [] X = tt
    openings_still (end ∷ ends) X =
        let at = opening_at cmp matching X end in
        each_append (λ o. IsStill cmp matching o.call) (option_to_list at) (openings cmp matching ends (with_opening cmp matching at X))
        (by_end cmp matching (λ c. Each (λ o. IsStill cmp matching o.call) (option_to_list (elim c [ None ↦ None | Some call ↦ call_at X end.gateway call ]))) end tt
        (λ zid whatami region bound. called_at (λ o. Each (λ a. IsStill cmp matching a.call) (option_to_list o)) X end.gateway (NewTransport zid whatami region bound end.first) tt (λ node at_. (tt, tt))))
        (openings_still ends (with_opening cmp matching at X))

    closings_still : (fs : List ℕ) (X : Fabric K) → Each (λ at. IsStill cmp matching at.call) (flat_map (λ face. option_to_list (closing_call X face)) fs)
    closings_still fs X =
        each_flat_map (λ o. IsStill cmp matching o.call) (λ face. option_to_list (closing_call X face)) fs
        (λ face. closing_case cmp matching (λ o. Each (λ a. IsStill cmp matching a.call) (option_to_list o)) X face tt (λ n k node at_. (tt, tt)))

    none_printed : (k : ℕ) → NoAnswers cmp matching (printed_for k [])
    unfolding printed_for
    none_printed k = tt

    asks_of_calls : IsOfCalls cmp matching (λ s. Unit {0}) Comes
    asks_of_calls = record {
      nothing = λ s fine _. still_turn [] s.faces [] s.gateways tt none_printed;
      gateway = λ mode zid regions timeout refused node s new_ fine _. still_turn [] s.faces [] (s.gateways ++ node ∷ []) tt none_printed;
      call = λ spent n node c s at_ still accepted fine _.
          let gateway = gateway_in_order cmp matching s n node at_ fine in
          let placed = altered_faces cmp matching total (λ k. is_placed n k s.faces ≡ true) c node.rows still gateway.rows.lists gateway.placed in
          faces_called (λ j g f xs. AsksAnswered cmp matching (Shown n node c ∷ []) j (without_own g) f xs) n node (altered cmp matching c) s.faces (said cmp matching c node.rows) (messages_at cmp matching s.faces n c node) s.gateways
          (prints_sorted s.faces n (said cmp matching c node.rows)) at_ placed.0 (own_answered spent n node c gateway.rows still accepted) (faces_placed cmp matching s fine) (others_answered (Shown n node c) s.gateways);
      session = λ n first node s at_ real fine _. still_turn (Shown n node (NewSession first) ∷ []) (with_place n s).faces [] (with_rows n (altered cmp matching (NewSession first)) s).gateways (tt, tt) none_printed;
      transport = λ spent n node zid whatami region bound first s at_ real accepted fine _.
          let c : PlainCall K = NewTransport zid whatami region bound first in
          still_turn (Shown n node c ∷ []) (with_place n s).faces (messages_at cmp matching (with_place n s).faces n c node) (with_rows n (altered cmp matching c) s).gateways (tt, tt)
          (λ k. printed_sorted_each cmp matching None_ k (map (printed_at (with_place n s).faces n) (said cmp matching c node.rows)) (each_map (λ (m : Sent K). None_ m.message) (printed_at (with_place n s).faces n) (said cmp matching c node.rows) (still_says c node.rows tt)));
      link = λ spent one two first back s real real_back accepted fine _.
          let ends = link_ends s one two first back in
          let X = opened_ends cmp matching ends s in
          still_turn (openings cmp matching (link_ends (as_shown s) one two first back) (as_shown s)) X.faces (sorted_by_face (said_opening cmp matching ends s)) X.gateways (openings_still (link_ends (as_shown s) one two first back) (as_shown s))
          (λ k. printed_sorted_each cmp matching None_ k (said_opening cmp matching ends s) (openings_say cmp matching None_ (λ i mode options e j. refl) (λ i e j. refl) (λ i j. refl) ends s));
      unlink = λ n s fine _.
          let fs = both_ends cmp matching s n in
          let X = closed_ends cmp matching fs s in
          let ms = said_closing cmp matching fs s in
          still_turn (flat_map (λ face. option_to_list (closing_call (as_shown s) face)) fs) X.faces (sorted_by_face (filter (λ m. not (list_any (λ face. face == m.face) fs)) ms)) X.gateways (closings_still fs (as_shown s))
          (λ k. unlinked_each cmp matching None_ k fs ms (closings_say cmp matching None_ (λ i j. refl) (λ e i j. refl) (λ i j. refl) (λ i j. refl) fs s));
    }

    -- as a turn has it
    answered_in : (t : Turn K) (n : ℕ) (g : Rows K) (f : Face K) (id : ℕ) (ask : Ask K) → Answered cmp matching (calls_in cmp matching t) (printed_to t n f) n g f id ask → IsAnswered cmp matching t n g f id ask
    answered_in t n g f id ask is = record { at_once = λ asks e. is.at_once asks e ∙ ap (λ b. is_about matching ask.interest.expr e && b) (sym (seen_is cmp g f.region e)); only_declared = is.only_declared; each_declared = is.each_declared; once = is.once }

    asks_shown : (s : Fabric K) (t : Turn K) → FabricIsInOrder cmp matching s → Unit {0} → IsShownTurn cmp matching total (λ s. Unit {0}) Comes asks_of_calls s t → AnswersAsks cmp matching t
    unfolding AsksAnswered
    asks_shown s t fine _ is =
        each_face_weaker
        (λ n g f. Each (λ row. has_tokens row.1.interest.options ≡ true → Answered cmp matching (calls_in cmp matching t) (printed_to t n f) n g f row.0 row.1) f.asks)
        (λ n g f. Each (λ row. has_tokens row.1.interest.options ≡ true → IsAnswered cmp matching t n g f row.0 row.1) f.asks)
        (λ n g f all.
        each_weaker (λ row. has_tokens row.1.interest.options ≡ true → Answered cmp matching (calls_in cmp matching t) (printed_to t n f) n g f row.0 row.1) (λ row. has_tokens row.1.interest.options ≡ true → IsAnswered cmp matching t n g f row.0 row.1)
        (λ row one tokens. answered_in t n g f row.0 row.1 (one tokens)) f.asks all) 1 (with_line cmp matching t).gateways
        (faces_shown (λ j g f xs. AsksAnswered cmp matching (calls_in cmp matching t) j (without_own g) f xs) (AsksAnswered cmp matching (calls_in cmp matching t)) (λ j g f xs one. one)
        is.changed.faces t.after.faces (printed t) is.changed.gateways (with_line cmp matching t).gateways is.after_places (ap (λ (X : Fabric K). X.gateways) is.with_is) is.comes)

    -- Each turn of a transcript answers its asks.
    pub turns_answer : (lines : List (PlainLine K)) (s : Fabric K) → Each HasFirstIds lines → FabricIsInOrder cmp matching s
        → Each (AnswersAsks cmp matching) (turns_from cmp matching lines (entries_from cmp matching lines s) (as_shown s))
    turns_answer lines s real fine =
        turns_show cmp matching total (λ s. Unit {0}) Comes asks_of_calls (AnswersAsks cmp matching) asks_shown (λ line x first ordered _. tt) lines s real fine tt
