-- What a turn of a transcript comes to by its calls: a fact of the calls that a line makes, of what they print, and of the
-- gateways that they leave, is one of each turn.
use Rattle.std.proofs.Common.{◌≡◌, ℕ, ◌+◌, ◌≤◌, Bool, true, false, ◌==◌, not, nat_lt, List, [], ◌∷◌, ◌++◌, map, filter, Option, Some, None, is_none, Ok, refl, sym, ap, ◌∙◌, subst}
use Rattle.std.specs.Cmp.{IsTotalOrder}
use Rattle.std.specs.List.{list_any, flat_map}
use Rattle.std.specs.Option.{option_to_list}
use Rattle.std.specs.declared.cmp.Ordering.{Ordering}
use Rattle.zt_region.specs.declared.region.Bound.{Bound}
use Rattle.zt_region.specs.declared.region.Region.{Region}
use Rattle.zt_region.specs.declared.region.WhatAmI.{WhatAmI}
use Rattle.zt_region.specs.declared.region.Zid.{Zid}
use Rattle.zt_protocol.specs.Plain.{PlainCall, NewSession, NewTransport, Expire, SetTrees, PlainLine, Gateway, Session, Face as FaceLine, Link as LinkLine, Unlink, Step, Speak, Moment, SetTreesAt}
use Rattle.zt_protocol.specs.Refusal.{number_of}
use Rattle.zt_protocol.specs.declared.entries.Sent.{Sent}
use Rattle.zt_protocol.specs.declared.errors.Refusal.{Refusal}
use Rattle.zt_protocol.specs.declared.messages.Message.{Message}
use Rattle.zt_model.specs.Fabric.{CallAt, Fabric, Node, Place, after_hearing, after_refusal, altered_at, altered_by_line, at_nth, both_ends, line_causes, call_at, call_face, call_of, call_of_face, call_of_step, causes_of_call, closed_ends, closing_call, entries_from, entry_by, entry_of, fabric_after, gateways_after_hearing, line_causes, line_spends_ids, new_rows, next_face, opened_at, opened_ends, said_at, said_by_line, said_closing, said_opening, sorted_by_face, table_at, with_gateway, with_place, with_rows, with_session, with_waiting, without_message}
use Rattle.zt_model.specs.Linking.{link_ends, with_link, without_link}
use Rattle.zt_model.specs.Lists.{nth, without_id}
use Rattle.zt_model.specs.Places.{Link}
use Rattle.zt_model.specs.Promises.{Turn, calls_in, printed, turns_from, with_line}
use Rattle.zt_model.specs.Refusals.{Causes, call_causes, first_cause}
use Rattle.zt_model.specs.Rows.{ById}
use Rattle.zt_model.specs.Says.{altered, altered_by, parts_of, said, said_by}
use Rattle.zt_model.specs.Transcript.{Each, openings}
use Rattle.zt_laws.specs.Order.{FabricIsInOrder}
use Rattle.zt_laws.specs.Shown.{as_shown, call_shown, node_shown, without_own}
use Rattle.zt_laws.specs.Sound.{HasFirstIds, is_placed, opens_face, rows_after_call}
use Rattle.zt_laws.proofs.AllLines.{in_order_after_line, without_message_is}
use Rattle.zt_laws.proofs.Calls.{no_cause}
use Rattle.zt_laws.proofs.CallsOrder.{altered_faces}
use Rattle.zt_laws.proofs.Ends.{opened_elsewhere}
use Rattle.zt_laws.proofs.Gateways.{after_hearing_nothing, prints_sorted}
use Rattle.zt_laws.proofs.LinesOrder.{after_prints, called_at, called_by_speaker, called_by_step, faces_placed, faces_still_placed, gateway_in_order, opened_faces}
use Rattle.zt_laws.proofs.Lists.{each_weaker, of_cond}
use Rattle.zt_laws.proofs.Places.{placed_new, placed_still}
use Rattle.zt_laws.proofs.ShownLines.{line_is_shown, turns_have}
use Rattle.zt_laws.proofs.Sorting.{printed as printed_at}
use Rattle.zt_theorem_visibility.proofs.Future.{call_at_shown, call_of_face_shown, call_of_step_shown}

-- a call of the n-th gateway, as a transcript shows it
abbrev pub Shown : {K : Type 0} → ℕ → Node K → PlainCall K → CallAt K
Shown n node c = record { gateway = n; rows = without_own node.rows; call = c }

module _ {K : Type 0} (cmp : K → K → Ordering) (matching : K → K → Bool) where
  abbrev pub messages_at : List Place → ℕ → PlainCall K → Node K → List (Sent K)
  messages_at places n c node = sorted_by_face (map (printed_at places n) (said cmp matching c node.rows))

  -- A fact of what a line brings about, from the fabric before it on: of its calls, as a transcript shows them, of what
  -- is printed, of the places of faces then, and of the gateways, once the line has changed what it changes itself, and when
  -- the messages are heard as well. It holds where each line has it of its calls.
  pub record IsOfCalls (Holds : Fabric K → Type 0) (P : Fabric K → List (CallAt K) → List (Sent K) → List Place → List (Node K) → List (Node K) → Type 0) : Type 0 where
    pub nothing : (s : Fabric K) → FabricIsInOrder cmp matching s → Holds s → P s [] [] s.faces s.gateways s.gateways
    pub gateway : (mode : WhatAmI) (zid : Zid) (regions : List Region) (timeout : ℕ) (refused : List (Region × Region)) (node : Node K) (s : Fabric K) → node.rows ≡ new_rows mode zid regions timeout refused → FabricIsInOrder cmp matching s → Holds s
        → P s [] [] s.faces (s.gateways ++ node ∷ []) (s.gateways ++ node ∷ [])
    pub call : (spent : Bool) (n : ℕ) (node : Node K) (c : PlainCall K) (s : Fabric K) → nth n s.gateways ≡ Some node → opens_face c ≡ false → first_cause (call_causes cmp matching spent c node.rows) ≡ None → FabricIsInOrder cmp matching s → Holds s
        → P s (Shown n node c ∷ []) (messages_at s.faces n c node) s.faces (with_rows n (altered cmp matching c) s).gateways (with_rows n (rows_after_call cmp matching c) s).gateways
    pub session : (n first : ℕ) (node : Node K) (s : Fabric K) → nth n s.gateways ≡ Some node → 1 ≤ first → FabricIsInOrder cmp matching s → Holds s
        → (let c : PlainCall K = NewSession first in P s (Shown n node c ∷ []) [] (with_place n s).faces (with_rows n (altered cmp matching c) s).gateways (with_rows n (rows_after_call cmp matching c) s).gateways)
    pub transport : (spent : Bool) (n : ℕ) (node : Node K) (zid : Zid) (whatami : WhatAmI) (region : Region) (bound : Bound) (first : ℕ) (s : Fabric K) → nth n s.gateways ≡ Some node → 1 ≤ first
        → (let c : PlainCall K = NewTransport zid whatami region bound first in first_cause (call_causes cmp matching spent c node.rows) ≡ None → FabricIsInOrder cmp matching s → Holds s
        → P s (Shown n node c ∷ []) (messages_at (with_place n s).faces n c node) (with_place n s).faces (with_rows n (altered cmp matching c) s).gateways (with_rows n (rows_after_call cmp matching c) s).gateways)
    pub link : (spent : Bool) (one two first back : ℕ) (s : Fabric K) → 1 ≤ first → 1 ≤ back → first_cause (line_causes cmp matching spent (LinkLine one two first back) s) ≡ None → FabricIsInOrder cmp matching s → Holds s
        → (let ends = link_ends s one two first back in
        let X = opened_ends cmp matching ends s in
        let ms = sorted_by_face (said_opening cmp matching ends s) in
        P s (openings cmp matching (link_ends (as_shown s) one two first back) (as_shown s)) ms X.faces X.gateways (after_hearing cmp ms X).gateways)
    pub unlink : (n : ℕ) (s : Fabric K) → FabricIsInOrder cmp matching s → Holds s
        → (let faces = both_ends cmp matching s n in
        let X = closed_ends cmp matching faces s in
        let ms = sorted_by_face (filter (λ m. not (list_any (λ face. face == m.face) faces)) (said_closing cmp matching faces s)) in
        P s (flat_map (λ face. option_to_list (closing_call (as_shown s) face)) faces) ms X.faces X.gateways (after_hearing cmp ms X).gateways)

  -- no cause of a call applies, where none of more does
  first_of_more : (xs ys : Causes) → first_cause (xs ++ ys) ≡ None → first_cause xs ≡ None
  unfolding first_cause
  first_of_more [] ys none_ = refl
  first_of_more (x ∷ xs) ys none_ =
      let parts = no_cause x.0 x.1 (xs ++ ys) none_ in
      rw parts.0 (first_of_more xs ys parts.1)

  module _ (total : IsTotalOrder cmp) (Holds : Fabric K → Type 0) (P : Fabric K → List (CallAt K) → List (Sent K) → List Place → List (Node K) → List (Node K) → Type 0) (is : IsOfCalls Holds P) where
    -- what a line prints and leaves, with links and waiting messages aside
    abbrev Comes : Fabric K → List (CallAt K) → List (Sent K) → Fabric K → Type 0
    Comes s calls ms X = P s calls ms X.faces X.gateways (after_hearing cmp ms X).gateways

    comes_elsewhere : (s : Fabric K) (calls : List (CallAt K)) (ms : List (Sent K)) (links : List Link) (waiting : ById (List (Message K))) (X : Fabric K) → Comes s calls ms X → Comes s calls ms (record X { links = links; waiting = waiting })
    unfolding gateways_after_hearing
    comes_elsewhere s calls ms links waiting X comes = comes

    comes_nothing : (s : Fabric K) (calls : List (CallAt K)) (X : Fabric K) → P s calls [] X.faces X.gateways X.gateways → Comes s calls [] X
    comes_nothing s calls X comes = subst (λ (t : Fabric K). P s calls [] X.faces X.gateways t.gateways) (sym (after_hearing_nothing cmp X)) comes

    comes_called : (spent : Bool) (n : ℕ) (node : Node K) (c : PlainCall K) (s : Fabric K) → nth n s.gateways ≡ Some node → opens_face c ≡ false → first_cause (call_causes cmp matching spent c node.rows) ≡ None → FabricIsInOrder cmp matching s → Holds s
        → Comes s (Shown n node c ∷ []) (messages_at s.faces n c node) (with_rows n (altered cmp matching c) s)
    comes_called spent n node c s at_ still accepted fine holds =
        let gateway = gateway_in_order cmp matching s n node at_ fine in
        let placed = altered_faces cmp matching total (λ k. is_placed n k s.faces ≡ true) c node.rows still gateway.rows.lists gateway.placed in
        subst (λ (t : Fabric K). P s (Shown n node c ∷ []) (messages_at s.faces n c node) s.faces (with_rows n (altered cmp matching c) s).gateways t.gateways)
        (sym (after_prints cmp matching n node c s (messages_at s.faces n c node) (prints_sorted s.faces n (said cmp matching c node.rows)) at_ placed.0 (faces_placed cmp matching s fine)))
        (is.call spent n node c s at_ still accepted fine holds)

    -- the fabric after a face is opened
    opened_heard : (n : ℕ) (node : Node K) (c : PlainCall K) (s : Fabric K) → nth n s.gateways ≡ Some node → opens_face c ≡ true → FabricIsInOrder cmp matching s
        → after_hearing cmp (messages_at (with_place n s).faces n c node) (with_rows n (altered cmp matching c) (with_place n s)) ≡ with_rows n (rows_after_call cmp matching c) (with_place n s)
    opened_heard n node c s at_ opens fine =
        let gateway = gateway_in_order cmp matching s n node at_ fine in
        let p : Place = record { gateway = n; face = next_face (nth n s.gateways) } in
        let places = s.faces ++ p ∷ [] in
        let p_face : p.face ≡ node.rows.made + 1 = ap next_face at_ in
        let new_ : is_placed n (node.rows.made + 1) places ≡ true = subst (λ k. is_placed n k places ≡ true) p_face (placed_new n p.face s.faces) in
        let after = opened_faces cmp matching total (λ k. is_placed n k places ≡ true) c node.rows opens new_ (each_weaker (λ f. is_placed n f.number s.faces ≡ true) (λ f. is_placed n f.number places ≡ true) (λ f there. placed_still n f.number s.faces p there) node.rows.faces gateway.placed) in
        after_prints cmp matching n node c (with_place n s) (messages_at places n c node) (prints_sorted places n (said cmp matching c node.rows)) at_ after.0 (faces_still_placed cmp matching p s fine)

    abbrev Called : Bool → ById (List (Message K)) → Fabric K → Option (CallAt K) → Type 0
    Called spent waiting s at =
        first_cause (causes_of_call cmp matching spent at) ≡ None → Comes s (option_to_list (call_shown at)) (sorted_by_face (said_at cmp matching s at)) (altered_at cmp matching (record s { waiting = waiting }) at)

    call_made : (spent : Bool) (n : ℕ) (node : Node K) (c : PlainCall K) (s : Fabric K) (waiting : ById (List (Message K))) → nth n s.gateways ≡ Some node → opens_face c ≡ false → FabricIsInOrder cmp matching s → Holds s
        → (let at : Option (CallAt K) = Some (record { gateway = n; rows = node.rows; call = c }) in Called spent waiting s at)
    call_made spent n node c s waiting at_ still fine holds accepted =
        comes_elsewhere s (Shown n node c ∷ []) (messages_at s.faces n c node) s.links waiting (with_rows n (altered cmp matching c) s) (comes_called spent n node c s at_ still accepted fine holds)

    none_made : (spent : Bool) (s : Fabric K) (waiting : ById (List (Message K))) → FabricIsInOrder cmp matching s → Holds s → Called spent waiting s None
    unfolding sorted_by_face
    none_made spent s waiting fine holds accepted = comes_nothing s [] (record s { waiting = waiting }) (is.nothing s fine holds)

    without_link_comes : (s : Fabric K) (calls : List (CallAt K)) (ms : List (Sent K)) (n : ℕ) (X : Fabric K) → Comes s calls ms X → Comes s calls ms (without_link n X)
    without_link_comes s calls ms n X comes = cases (nth n X.links)
      where
        cases : (o : Option Link) → Comes s calls ms (elim o [ None ↦ X | Some link ↦ record X { links = at_nth n (λ l. record l { is_open = false }) X.links; waiting = without_id link.one (without_id link.two X.waiting) } ])
        cases None = comes
        cases (Some link) = comes_elsewhere s calls ms (at_nth n (λ l. record l { is_open = false }) X.links) (without_id link.one (without_id link.two X.waiting)) X comes

    line_comes : (spent : Bool) (line : PlainLine K) (s : Fabric K) (after : Fabric K) → HasFirstIds line → first_cause (line_causes cmp matching spent line s) ≡ None → FabricIsInOrder cmp matching s → Holds s
        → (let ms = sorted_by_face (said_by_line cmp matching line s) in
        Comes s (calls_in cmp matching (record { line = line; entry = Ok ms; before = as_shown s; after = after })) ms (altered_by_line cmp matching line s))
    unfolding calls_in altered_by_line said_by_line line_causes call_of sorted_by_face parts_of said_by altered_by
    line_comes spent (Gateway mode zid regions south name timeout refused) s after real accepted fine holds =
        let node : Node K = record { rows = new_rows mode zid regions timeout refused; south = south; name = name } in
        comes_nothing s [] (with_gateway node s) (is.gateway mode zid regions timeout refused node s refl fine holds)
    line_comes spent (Session n first) s after real accepted fine holds = cases (nth n s.gateways) refl (no_cause _ _ _ accepted).0
      where
        G : Option (CallAt K) → Type 0
        G at = Comes s (option_to_list (call_shown at)) (sorted_by_face (said_at cmp matching s at)) (with_session n first s)

        cases : (o : Option (Node K)) → nth n s.gateways ≡ o → is_none o ≡ false → Comes s (option_to_list (call_at (as_shown s) n (NewSession first))) (sorted_by_face (said_at cmp matching s (elim o [ None ↦ None | Some node ↦ Some (record { gateway = n; rows = node.rows; call = NewSession first }) ]))) (with_session n first s)
        cases None at_ known = cc
        cases (Some node) at_ known =
            let c : PlainCall K = NewSession first in
            let shown_ : call_at (as_shown s) n c ≡ Some (Shown n node c) = call_at_shown s n c ∙ ap (λ (o : Option (Node K)). call_shown (elim o [ None ↦ None | Some x ↦ Some (record { gateway = n; rows = x.rows; call = c }) ])) at_ in
            subst (λ o. Comes s (option_to_list o) [] (with_session n first s)) (sym shown_)
            (subst (λ (t : Fabric K). P s (Shown n node c ∷ []) [] (with_place n s).faces (with_rows n (altered cmp matching c) s).gateways t.gateways) (sym (opened_heard n node c s at_ refl fine))
            (is.session n first node s at_ real fine holds))
    line_comes spent (FaceLine n mode zid region bound first) s after real accepted fine holds =
        let c : PlainCall K = NewTransport zid mode region bound first in
        let one = (no_cause _ _ _ accepted).1 in
        subst (λ o. Comes s (option_to_list o) (sorted_by_face (said_at cmp matching (opened_at cmp matching (call_at s n c) s) (call_at s n c))) (opened_at cmp matching (call_at s n c) s)) (sym (call_at_shown s n c))
        (called_at (λ at. first_cause (causes_of_call cmp matching spent at) ≡ None → Comes s (option_to_list (call_shown at)) (sorted_by_face (said_at cmp matching (opened_at cmp matching at s) at)) (opened_at cmp matching at s)) s n c
        (λ _. comes_nothing s [] s (is.nothing s fine holds))
        (λ node at_ none_.
        subst (λ (t : Fabric K). P s (Shown n node c ∷ []) (messages_at (with_place n s).faces n c node) (with_place n s).faces (with_rows n (altered cmp matching c) s).gateways t.gateways) (sym (opened_heard n node c s at_ refl fine))
        (is.transport spent n node zid mode region bound first s at_ real none_ fine holds))
        (first_of_more (causes_of_call cmp matching spent (call_at s n c)) _ one))
    line_comes spent (LinkLine one two first back) s after real accepted fine holds =
        let ends = link_ends s one two first back in
        let linked = with_link s in
        let calls = openings cmp matching (link_ends (as_shown s) one two first back) (as_shown s) in
        let ms = sorted_by_face (said_opening cmp matching ends s) in
        subst (Comes s calls ms) (sym (opened_elsewhere cmp matching total ends linked.links linked.waiting s))
        (comes_elsewhere s calls ms linked.links linked.waiting (opened_ends cmp matching ends s) (is.link spent one two first back s real.0 real.1 accepted fine holds))
    line_comes spent (Unlink link) s after real accepted fine holds =
        let faces = both_ends cmp matching s link in
        let ms = sorted_by_face (filter (λ m. not (list_any (λ face. face == m.face) faces)) (said_closing cmp matching faces s)) in
        without_link_comes s (flat_map (λ face. option_to_list (closing_call (as_shown s) face)) faces) ms link (closed_ends cmp matching faces s) (is.unlink link s fine holds)
    line_comes spent (Step link back) s after real accepted fine holds =
        let one = no_cause _ _ _ accepted in
        let two = no_cause _ _ _ one.1 in
        let taken = without_message_is cmp matching link back s in
        let at = call_of_step s back (nth link s.links) in
        let ms = sorted_by_face (said_at cmp matching s at) in
        subst (λ o. Comes s (option_to_list o) ms (altered_at cmp matching (without_message link back s) at)) (sym (call_of_step_shown s back (nth link s.links)))
        (subst (λ (t : Fabric K). Comes s (option_to_list (call_shown at)) ms (altered_at cmp matching t at)) (sym taken.1)
        (called_by_step (Called spent taken.0 s) s back (nth link s.links) (none_made spent s taken.0 fine holds) (λ n node c at_ still. call_made spent n node c s taken.0 at_ still fine holds) two.1))
    line_comes spent (Speak c) s after real accepted fine holds =
        let one = no_cause _ _ _ accepted in
        let two = no_cause _ _ _ one.1 in
        let at = call_of_face s c (call_face c) in
        subst (λ o. Comes s (option_to_list o) (sorted_by_face (said_at cmp matching s at)) (altered_at cmp matching s at)) (sym (call_of_face_shown s c (call_face c)))
        (called_by_speaker (Called spent s.waiting s) s c (none_made spent s s.waiting fine holds) (λ n node d at_ still. call_made spent n node d s s.waiting at_ still fine holds) two.1)
    line_comes spent (Moment n now) s after real accepted fine holds =
        let one = no_cause _ _ _ accepted in
        let at = call_at s n (Expire now) in
        subst (λ o. Comes s (option_to_list o) (sorted_by_face (said_at cmp matching s at)) (altered_at cmp matching s at)) (sym (call_at_shown s n (Expire now)))
        (called_at (Called spent s.waiting s) s n (Expire now) (none_made spent s s.waiting fine holds) (λ node at_. call_made spent n node (Expire now) s s.waiting at_ refl fine holds) one.1)
    line_comes spent (SetTreesAt n region t) s after real accepted fine holds =
        let one = no_cause _ _ _ accepted in
        let c : PlainCall K = SetTrees region (table_at s n t) in
        let at = call_at s n c in
        subst (λ o. Comes s (option_to_list o) (sorted_by_face (said_at cmp matching s at)) (altered_at cmp matching s at)) (sym (call_at_shown s n c))
        (called_at (Called spent s.waiting s) s n c (none_made spent s s.waiting fine holds) (λ node at_. call_made spent n node c s s.waiting at_ refl fine holds) one.1)

    -- a refused line leaves gateways and faces as they are
    refused_same : {A : Type 0} (part : Fabric K → A) → ((waiting : ById (List (Message K))) (s : Fabric K) → part (record s { waiting = waiting }) ≡ part s) → (line : PlainLine K) (r : Refusal) (s : Fabric K) → part (after_refusal cmp matching line r s) ≡ part s
    refused_same part aside (Step link back) r s =
        let taken = without_message_is cmp matching link back s in
        of_cond (λ (X : Fabric K). part X ≡ part s) (nat_lt 3 (number_of r)) (without_message link back s) s (λ _. ap part taken.1 ∙ aside taken.0 s) (λ _. refl)
    refused_same part aside (Gateway mode zid regions south name timeout refused) r s = refl
    refused_same part aside (Session n first) r s = refl
    refused_same part aside (FaceLine n mode zid region bound first) r s = refl
    refused_same part aside (LinkLine one two first back) r s = refl
    refused_same part aside (Unlink link) r s = refl
    refused_same part aside (Speak c) r s = refl
    refused_same part aside (Moment n now) r s = refl
    refused_same part aside (SetTreesAt n region t) r s = refl

    -- what a turn shows of a fabric: the one that its line changes, and what is heard then
    pub record IsShownTurn (s : Fabric K) (t : Turn K) : Type 0 where
      pub changed : Fabric K
      pub before_is : t.before ≡ as_shown s
      pub with_is : with_line cmp matching t ≡ as_shown changed
      pub after_places : t.after.faces ≡ changed.faces
      pub after_gateways : t.after.gateways ≡ map node_shown (after_hearing cmp (printed t) changed).gateways
      pub after_order : FabricIsInOrder cmp matching (after_hearing cmp (printed t) changed)
      pub comes : P s (calls_in cmp matching t) (printed t) changed.faces changed.gateways (after_hearing cmp (printed t) changed).gateways

    pub turn_is_shown : (line : PlainLine K) (s : Fabric K) → HasFirstIds line → FabricIsInOrder cmp matching s → Holds s
        → (let entry = entry_of cmp matching line s in IsShownTurn s (record { line = line; entry = entry; before = as_shown s; after = as_shown (fabric_after cmp matching line entry s) }))
    unfolding entry_of fabric_after calls_in
    turn_is_shown line s real fine holds = cases (first_cause (line_causes cmp matching spent line s)) refl (in_order_after_line cmp matching total line s real fine)
      where
        spent : Bool
        spent = line_spends_ids cmp matching line s

        ms : List (Sent K)
        ms = sorted_by_face (said_by_line cmp matching line s)

        X : Fabric K
        X = altered_by_line cmp matching line s

        cases : (o : Option Refusal) → first_cause (line_causes cmp matching spent line s) ≡ o → FabricIsInOrder cmp matching (fabric_after cmp matching line (entry_by cmp matching o ms) s)
            → (let entry = entry_by cmp matching o ms in IsShownTurn s (record { line = line; entry = entry; before = as_shown s; after = as_shown (fabric_after cmp matching line entry s) }))
        cases None accepted ordered = record {
          changed = X;
          before_is = refl;
          with_is = line_is_shown cmp matching total line s fine;
          after_places = refl;
          after_gateways = refl;
          after_order = record { gateways = ordered.gateways; places_exist = ordered.places_exist };
          comes = line_comes spent line s (as_shown (with_waiting ms (after_hearing cmp ms X))) real accepted fine holds;
        }
        cases (Some r) refused ordered = record {
          changed = s;
          before_is = refl;
          with_is = refl;
          after_places = refused_same (λ (X : Fabric K). X.faces) (λ waiting X. refl) line r s;
          after_gateways = ap (λ (gs : List (Node K)). map node_shown gs) (refused_same (λ (X : Fabric K). X.gateways) (λ waiting X. refl) line r s ∙ sym (ap (λ (X : Fabric K). X.gateways) (after_hearing_nothing cmp s)));
          after_order = subst (FabricIsInOrder cmp matching) (sym (after_hearing_nothing cmp s)) fine;
          comes = subst (λ (t : Fabric K). P s [] [] s.faces s.gateways t.gateways) (sym (after_hearing_nothing cmp s)) (is.nothing s fine holds);
        }

    -- What lines bring about by their calls, the turns of a transcript show.
    pub turns_show : (Q : Turn K → Type 0) → ((s : Fabric K) (t : Turn K) → FabricIsInOrder cmp matching s → Holds s → IsShownTurn s t → Q t)
        → ((line : PlainLine K) (s : Fabric K) → HasFirstIds line → FabricIsInOrder cmp matching s → Holds s → Holds (fabric_after cmp matching line (entry_of cmp matching line s) s))
        → (lines : List (PlainLine K)) (s : Fabric K) → Each HasFirstIds lines → FabricIsInOrder cmp matching s → Holds s
        → Each Q (turns_from cmp matching lines (entries_from cmp matching lines s) (as_shown s))
    turns_show Q shows next lines s real fine holds =
        turns_have cmp matching total Q Holds
        (λ line x first ordered held. (shows x _ ordered held (turn_is_shown line x first ordered held), next line x first ordered held)) lines s real fine holds
