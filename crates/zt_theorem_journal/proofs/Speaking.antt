-- A line that speaks comes to what its call comes to at the one gateway.
use Rattle.std.proofs.Common.{◌≡◌, ℕ, ◌≤◌, Bool, true, false, ◌==◌, ◌&&◌, ◌||◌, List, [], ◌∷◌, ◌++◌, length, map, Option, Some, None, Ok, Err, is_none, refl, sym, ap, ◌∙◌, subst}
use Rattle.std.specs.Cmp.{IsTotalOrder}
use Rattle.std.specs.List.{list_any}
use Rattle.std.specs.declared.cmp.Ordering.{Ordering}
use Rattle.zt_protocol.specs.Plain.{PlainCall, NewSession, NewTransport, DeclareToken, UndeclareToken, Interest, InterestFinal, DeclareFinal, CloseFace, Expire, SetTrees, SetEntities, PlainEntry, PlainLine, Speak}
use Rattle.zt_protocol.specs.declared.entries.Sent.{Sent}
use Rattle.zt_protocol.specs.declared.errors.Refusal.{Refusal}
use Rattle.zt_protocol.specs.declared.errors.Refusal.TheVariants as refusal
use Rattle.zt_model.specs.Fabric.{CallAt, Fabric, Node, Place, after_hearing, altered_at, altered_by_line, line_causes, call_at, call_at_place, call_face, call_of, call_of_face, causes_of_call, entry_by, entry_of, fabric_after, is_linked_face, line_causes, line_spends_ids, at_nth, printed_for, said_at, said_by_line, sorted_by_face, with_rows, with_waiting}
use Rattle.zt_model.specs.Hearing.{rows_heard}
use Rattle.zt_model.specs.Journal.{cause_of, outcome_of, rows_after}
use Rattle.zt_model.specs.Lists.{is_some_and, nth}
use Rattle.zt_model.specs.Refusals.{Causes, call_causes, first_cause, spends_ids}
use Rattle.zt_model.specs.Rows.{Rows}
use Rattle.zt_model.specs.Says.{altered, find_face, said}
use Rattle.zt_model.specs.Transcript.{Each}
use Rattle.zt_laws.specs.Order.{FabricIsInOrder, ListsAreInOrder}
use Rattle.zt_laws.specs.Sound.{EachFrom, is_placed, opens_face, rows_after_call}
use Rattle.zt_laws.proofs.CallsOrder.{altered_faces, in_order_after_call}
use Rattle.zt_laws.proofs.Gateways.{FacesArePlaced, prints_sorted}
use Rattle.zt_laws.proofs.LinesOrder.{after_prints, calls_nothing, faces_placed, gateway_in_order, in_order_called}
use Rattle.zt_laws.proofs.Sorting.{printed}
use Rattle.zt_theorem_transcript.proofs.Said.{said_for_open}
use Rattle.zt_theorem_journal.specs.Alone.{ComesTo, IsAlone, Speaks}
use Rattle.zt_theorem_journal.proofs.Numbers.{at_one, called_at_one, not_found, numbers_made, own_face, place_of, placed_there, printed_alone, sent_alone}

pub first_holds : (b : Bool) (r : Refusal) (later : Causes) → b ≡ true → first_cause ((b, r) ∷ later) ≡ Some r
unfolding first_cause
first_holds true r later h = refl
first_holds false r later h = cc

module _ {K : Type 0} where
  -- a call that speaks opens no face
  pub speaks_on : (c : PlainCall K) → Speaks c → opens_face c ≡ false
  speaks_on (NewSession first) speaks = let none : None ≡ Some speaks.0 = speaks.1 in cc
  speaks_on (NewTransport zid whatami region bound first) speaks = let none : None ≡ Some speaks.0 = speaks.1 in cc
  speaks_on (DeclareToken n id e node interest) speaks = refl
  speaks_on (UndeclareToken n id given node) speaks = refl
  speaks_on (Interest n id mode options e) speaks = refl
  speaks_on (InterestFinal n id) speaks = refl
  speaks_on (DeclareFinal n id) speaks = refl
  speaks_on (CloseFace n) speaks = refl
  speaks_on (Expire now) speaks = refl
  speaks_on (SetTrees region t) speaks = refl
  speaks_on (SetEntities n subscribers queryables) speaks = refl

  pub not_linked : (s : Fabric K) (o : Option ℕ) → s.links ≡ [] → is_linked_face s o ≡ false
  not_linked s None links = refl
  not_linked s (Some face) links = ap (λ ls. list_any (λ link. link.is_open && (face == link.one || face == link.two)) ls) links

  -- the call of a line that speaks, by the place of its face
  pub spoken_at : (s : Fabric K) (c : PlainCall K) (n : ℕ) (o : Option Place) → call_face c ≡ Some n → nth n s.faces ≡ o → call_of (Speak c) s ≡ call_at_place s c o
  unfolding call_of
  spoken_at s c n o names at_ = ap (call_of_face s c) names ∙ ap (call_at_place s c) at_

module _ {K : Type 0} (cmp : K → K → Ordering) (matching : K → K → Bool) where
  -- where no face has the number, the call is refused for that
  unknown_cause : (c : PlainCall K) (n : ℕ) (g : Rows K) → call_face c ≡ Some n → find_face n g ≡ None → cause_of cmp matching c g ≡ Some refusal.UnknownFace
  unfolding cause_of call_causes
  unknown_cause (NewSession first) n g names none = cc
  unknown_cause (NewTransport zid whatami region bound first) n g names none = cc
  unknown_cause (DeclareToken m id e node interest) n g names none = let same : n ≡ m = cc in first_holds _ _ _ (ap is_none (subst (λ k. find_face k g ≡ None) same none))
  unknown_cause (UndeclareToken m id given node) n g names none = let same : n ≡ m = cc in first_holds _ _ _ (ap is_none (subst (λ k. find_face k g ≡ None) same none))
  unknown_cause (Interest m id mode options e) n g names none = let same : n ≡ m = cc in first_holds _ _ _ (ap is_none (subst (λ k. find_face k g ≡ None) same none))
  unknown_cause (InterestFinal m id) n g names none = let same : n ≡ m = cc in first_holds _ _ _ (ap is_none (subst (λ k. find_face k g ≡ None) same none))
  unknown_cause (DeclareFinal m id) n g names none = let same : n ≡ m = cc in first_holds _ _ _ (ap is_none (subst (λ k. find_face k g ≡ None) same none))
  unknown_cause (CloseFace m) n g names none = let same : n ≡ m = cc in first_holds _ _ _ (ap is_none (subst (λ k. find_face k g ≡ None) same none))
  unknown_cause (Expire now) n g names none = cc
  unknown_cause (SetTrees region t) n g names none = cc
  unknown_cause (SetEntities m subscribers queryables) n g names none = let same : n ≡ m = cc in first_holds _ _ _ (ap is_none (subst (λ k. find_face k g ≡ None) same none))

  -- the first cause of a line that speaks, by its call
  abbrev spoken_cause : Option (CallAt K) → Bool → Option Refusal
  spoken_cause at linked =
      first_cause ((is_none at, refusal.UnknownFace) ∷ (linked, refusal.LinkedFace) ∷ causes_of_call cmp matching (is_some_and at (λ a. spends_ids cmp matching a.call a.rows)) at)

  -- the first cause of a line
  abbrev pub cause_in : PlainLine K → Fabric K → Option Refusal
  cause_in line s = first_cause (line_causes cmp matching (line_spends_ids cmp matching line s) line s)

  cause_by_call : (c : PlainCall K) (s : Fabric K) (at : Option (CallAt K)) → call_of (Speak c) s ≡ at → s.links ≡ [] → cause_in (Speak c) s ≡ spoken_cause at false
  unfolding line_causes
  cause_by_call c s at is links =
      ap (λ o. spoken_cause o (is_linked_face s (call_face c))) is
      ∙ ap (spoken_cause at) (not_linked s (call_face c) links)

  -- with a place, the causes of the call
  known_cause : (c : PlainCall K) (s : Fabric K) (node : Node K) → call_of (Speak c) s ≡ at_one node c → s.links ≡ [] → cause_in (Speak c) s ≡ cause_of cmp matching c node.rows
  unfolding cause_of first_cause
  known_cause c s node is links = cause_by_call c s (at_one node c) is links

  -- without one, that the face isn't there
  pub nowhere_cause : (c : PlainCall K) (s : Fabric K) → call_of (Speak c) s ≡ None → s.links ≡ [] → cause_in (Speak c) s ≡ Some refusal.UnknownFace
  unfolding first_cause
  nowhere_cause c s is links = cause_by_call c s None is links

  module _ (total : IsTotalOrder cmp) where
    heard_made : (c : PlainCall K) (g : Rows K) → (rows_after_call cmp matching c g).made ≡ (altered cmp matching c g).made
    unfolding rows_heard
    heard_made c g = refl

    pub nth_alone : (g : Rows K) (s : Fabric K) (alone : IsAlone cmp matching g s) → nth 1 s.gateways ≡ Some alone.node
    nth_alone g s alone = ap (nth 1) alone.gateways

    -- the faces that a call leaves have their places, and no more were made
    left_faces : (c : PlainCall K) (g : Rows K) (s : Fabric K) (alone : IsAlone cmp matching g s) → opens_face c ≡ false
        → FacesArePlaced s.faces 1 (altered cmp matching c alone.node.rows) × ((altered cmp matching c alone.node.rows).made ≡ alone.node.rows.made)
    left_faces c g s alone still =
        let gateway = gateway_in_order cmp matching s 1 alone.node (nth_alone g s alone) alone.ordered in
        altered_faces cmp matching total (λ k. is_placed 1 k s.faces ≡ true) c alone.node.rows still gateway.rows.lists gateway.placed

    rows_made : (c : PlainCall K) (g : Rows K) (s : Fabric K) (alone : IsAlone cmp matching g s) → opens_face c ≡ false → (rows_after_call cmp matching c alone.node.rows).made ≡ length s.faces
    rows_made c g s alone still =
        heard_made c alone.node.rows ∙ (left_faces c g s alone still).1 ∙ ap (λ (h : Rows K). h.made) alone.rows ∙ sym alone.made

    -- the messages of a call that speaks name faces that were made
    said_made : (c : PlainCall K) (g : Rows K) (s : Fabric K) (alone : IsAlone cmp matching g s) → opens_face c ≡ false → Each (λ m. (1 ≤ m.0) × (m.0 ≤ length s.faces)) (said cmp matching c alone.node.rows)
    said_made c g s alone still =
        let gateway = gateway_in_order cmp matching s 1 alone.node (nth_alone g s alone) alone.ordered in
        let after = in_order_after_call cmp matching total c alone.node.rows (calls_nothing cmp matching total c still) gateway.rows in
        subst (λ k. Each (λ m. (1 ≤ m.0) × (m.0 ≤ k)) (said cmp matching c alone.node.rows)) (rows_made c g s alone still)
        (numbers_made cmp matching (rows_after_call cmp matching c alone.node.rows) (said cmp matching c alone.node.rows) after.lists (said_for_open cmp matching total c alone.node.rows gateway.rows.lists))

    -- what it says is printed as its outcome has it
    said_alone : (c : PlainCall K) (g : Rows K) (s : Fabric K) (alone : IsAlone cmp matching g s) → opens_face c ≡ false → call_of (Speak c) s ≡ at_one alone.node c → said_by_line cmp matching (Speak c) s ≡ map sent_alone (said cmp matching c alone.node.rows)
    unfolding said_by_line
    said_alone c g s alone still is =
        let gateway = gateway_in_order cmp matching s 1 alone.node (nth_alone g s alone) alone.ordered in
        ap (said_at cmp matching s) is ∙ printed_alone s.faces (said cmp matching c alone.node.rows) alone.places gateway.places_rise (said_made c g s alone still)

    -- the outcome of a call, by its cause and what is printed
    pub outcome_by : (c : PlainCall K) (g : Rows K) (o : Option Refusal) (ms : List (Sent K)) → o ≡ cause_of cmp matching c g → ms ≡ map sent_alone (said cmp matching c g) → entry_by cmp matching o (sorted_by_face ms) ≡ outcome_of cmp matching c g
    unfolding outcome_of
    outcome_by c g o ms caused says = ap (λ p. entry_by cmp matching p (sorted_by_face ms)) caused ∙ ap (λ xs. entry_by cmp matching (cause_of cmp matching c g) (sorted_by_face xs)) says

    pub outcome_refused : (c : PlainCall K) (g : Rows K) (o : Option Refusal) (r : Refusal) (ms : List (Sent K)) → o ≡ Some r → cause_of cmp matching c g ≡ Some r → entry_by cmp matching o (sorted_by_face ms) ≡ outcome_of cmp matching c g
    unfolding outcome_of
    outcome_refused c g o r ms is caused = ap (λ p. entry_by cmp matching p (sorted_by_face ms)) is ∙ sym (ap (λ p. entry_by cmp matching p (sorted_by_face (map sent_alone (said cmp matching c g)))) caused)

    entry_there : (c : PlainCall K) (g : Rows K) (s : Fabric K) (alone : IsAlone cmp matching g s) → opens_face c ≡ false → call_of (Speak c) s ≡ at_one alone.node c → entry_of cmp matching (Speak c) s ≡ outcome_of cmp matching c g
    unfolding entry_of
    entry_there c g s alone still is =
        outcome_by c alone.node.rows (cause_in (Speak c) s) (said_by_line cmp matching (Speak c) s) (known_cause c s alone.node is alone.links) (said_alone c g s alone still is)
        ∙ ap (outcome_of cmp matching c) alone.rows

    entry_nowhere : (c : PlainCall K) (g : Rows K) (s : Fabric K) → IsAlone cmp matching g s → call_of (Speak c) s ≡ None → cause_of cmp matching c g ≡ Some refusal.UnknownFace → entry_of cmp matching (Speak c) s ≡ outcome_of cmp matching c g
    unfolding entry_of
    entry_nowhere c g s alone is unknown = outcome_refused c g (cause_in (Speak c) s) refusal.UnknownFace (said_by_line cmp matching (Speak c) s) (nowhere_cause c s is alone.links) unknown

    -- ---- what it leaves

    -- a refused call leaves all as it is
    alone_refused : (c : PlainCall K) (g : Rows K) (s : Fabric K) (r : Refusal) → IsAlone cmp matching g s → cause_of cmp matching c g ≡ Some r → IsAlone cmp matching (rows_after cmp matching c g) (fabric_after cmp matching (Speak c) (Err r) s)
    unfolding fabric_after rows_after
    alone_refused c g s r alone caused =
        let same : g ≡ rows_after cmp matching c g = sym (ap (λ o. elim o [ None ↦ rows_after_call cmp matching c g | Some refusal ↦ g ]) caused) in
        subst (λ h. IsAlone cmp matching h s) same alone

    no_messages_wait : (ms : List (Sent K)) (s : Fabric K) → s.waiting ≡ [] → (with_waiting ms s).waiting ≡ []
    no_messages_wait ms s waiting = ap (map (λ row. (row.0, row.1 ++ printed_for row.0 ms))) waiting

    -- with the rows after a call, and the places that there are
    pub alone_with : (c : PlainCall K) (g : Rows K) (node : Node K) (s t : Fabric K) (ms : List (Sent K)) → t ≡ with_rows 1 (rows_after_call cmp matching c) s → s.gateways ≡ node ∷ [] → node.rows ≡ g → cause_of cmp matching c g ≡ None
        → length s.faces ≡ (rows_after_call cmp matching c node.rows).made → EachFrom (λ n p. p ≡ record { gateway = 1; face = n }) 1 s.faces → s.links ≡ [] → s.waiting ≡ [] → FabricIsInOrder cmp matching t
        → IsAlone cmp matching (rows_after cmp matching c g) (with_waiting ms t)
    unfolding rows_after
    alone_with c g node s t ms is gateways rows accepted made places links waiting ordered =
        let changed : Node K = record node { rows = rows_after_call cmp matching c node.rows } in
        let after : rows_after_call cmp matching c node.rows ≡ rows_after cmp matching c g =
        ap (rows_after_call cmp matching c) rows ∙ sym (ap (λ o. elim o [ None ↦ rows_after_call cmp matching c g | Some refusal ↦ g ]) accepted) in
        record {
          node = changed;
          gateways = ap (λ (f : Fabric K). f.gateways) is ∙ ap (at_nth 1 (λ (n : Node K). record n { rows = rows_after_call cmp matching c n.rows })) gateways;
          rows = after;
          made = ap (λ (f : Fabric K). length f.faces) is ∙ made ∙ ap (λ (h : Rows K). h.made) after;
          places = subst (λ (f : Fabric K). EachFrom (λ n p. p ≡ record { gateway = 1; face = n }) 1 f.faces) (sym is) places;
          links = ap (λ (f : Fabric K). f.links) is ∙ links;
          waiting = no_messages_wait ms t (ap (λ (f : Fabric K). f.waiting) is ∙ waiting);
          ordered = record { gateways = ordered.gateways; places_exist = ordered.places_exist };
        }

    -- what an accepted call that speaks leaves
    spoken_after : (c : PlainCall K) (s : Fabric K) (node : Node K) (ms : List (Sent K)) → call_of (Speak c) s ≡ at_one node c → fabric_after cmp matching (Speak c) (Ok ms) s ≡ with_waiting ms (after_hearing cmp ms (with_rows 1 (altered cmp matching c) s))
    unfolding fabric_after altered_by_line
    spoken_after c s node ms is = ap (λ at. with_waiting ms (after_hearing cmp ms (altered_at cmp matching s at))) is

    alone_accepted : (c : PlainCall K) (g : Rows K) (s : Fabric K) (alone : IsAlone cmp matching g s) → opens_face c ≡ false → call_of (Speak c) s ≡ at_one alone.node c → cause_of cmp matching c g ≡ None
        → (let ms = sorted_by_face (map (printed s.faces 1) (said cmp matching c alone.node.rows)) in IsAlone cmp matching (rows_after cmp matching c g) (fabric_after cmp matching (Speak c) (Ok ms) s))
    alone_accepted c g s alone still is accepted =
        let ms = sorted_by_face (map (printed s.faces 1) (said cmp matching c alone.node.rows)) in
        let there = nth_alone g s alone in
        let prints = prints_sorted s.faces 1 (said cmp matching c alone.node.rows) in
        let heard = after_prints cmp matching 1 alone.node c s ms prints there (left_faces c g s alone still).0 (faces_placed cmp matching s alone.ordered) in
        subst (IsAlone cmp matching (rows_after cmp matching c g)) (sym (spoken_after c s alone.node ms is))
        (alone_with c g alone.node s (after_hearing cmp ms (with_rows 1 (altered cmp matching c) s)) ms heard alone.gateways alone.rows accepted (sym (rows_made c g s alone still)) alone.places alone.links alone.waiting
        (in_order_called cmp matching total 1 alone.node c s ms prints there still alone.ordered))

    -- ---- the line

    entry_is_printed : (c : PlainCall K) (g : Rows K) (s : Fabric K) (alone : IsAlone cmp matching g s) → opens_face c ≡ false → call_of (Speak c) s ≡ at_one alone.node c → cause_of cmp matching c g ≡ None
        → (let entry : PlainEntry K = Ok (sorted_by_face (map (printed s.faces 1) (said cmp matching c alone.node.rows))) in entry_of cmp matching (Speak c) s ≡ entry)
    unfolding entry_of said_by_line
    entry_is_printed c g s alone still is accepted =
        let cause : cause_in (Speak c) s ≡ None = known_cause c s alone.node is alone.links ∙ ap (cause_of cmp matching c) alone.rows ∙ accepted in
        ap (λ o. entry_by cmp matching o (sorted_by_face (said_at cmp matching s (call_of (Speak c) s)))) cause
        ∙ ap (λ at. let entry : PlainEntry K = Ok (sorted_by_face (said_at cmp matching s at)) in entry) is

    entry_is_refused : (c : PlainCall K) (g : Rows K) (s : Fabric K) (r : Refusal) → entry_of cmp matching (Speak c) s ≡ outcome_of cmp matching c g → cause_of cmp matching c g ≡ Some r → (let entry : PlainEntry K = Err r in entry_of cmp matching (Speak c) s ≡ entry)
    unfolding outcome_of
    entry_is_refused c g s r is caused = is ∙ ap (λ o. entry_by cmp matching o (sorted_by_face (map sent_alone (said cmp matching c g)))) caused

    speaks_there : (c : PlainCall K) (g : Rows K) (s : Fabric K) (alone : IsAlone cmp matching g s) → opens_face c ≡ false → call_of (Speak c) s ≡ at_one alone.node c → ComesTo cmp matching (Speak c) s (outcome_of cmp matching c g) (rows_after cmp matching c g)
    speaks_there c g s alone still is =
        let entry = entry_there c g s alone still is in
        let Left : PlainEntry K → Type 0 = λ e. IsAlone cmp matching (rows_after cmp matching c g) (fabric_after cmp matching (Speak c) e s) in
        let by_cause : (o : Option Refusal) → cause_of cmp matching c g ≡ o → Left (entry_of cmp matching (Speak c) s) = λ o.
        elim o as (λ o. cause_of cmp matching c g ≡ o → Left (entry_of cmp matching (Speak c) s)) [
          | None ↦ λ accepted. subst Left (sym (entry_is_printed c g s alone still is accepted)) (alone_accepted c g s alone still is accepted)
          | Some r ↦ λ caused. subst Left (sym (entry_is_refused c g s r entry caused)) (alone_refused c g s r alone caused)
        ] in
        record { entry_is = entry; after = by_cause (cause_of cmp matching c g) refl }

    speaks_nowhere : (c : PlainCall K) (g : Rows K) (s : Fabric K) → IsAlone cmp matching g s → call_of (Speak c) s ≡ None → cause_of cmp matching c g ≡ Some refusal.UnknownFace → ComesTo cmp matching (Speak c) s (outcome_of cmp matching c g) (rows_after cmp matching c g)
    speaks_nowhere c g s alone is unknown =
        let entry = entry_nowhere c g s alone is unknown in
        let Left : PlainEntry K → Type 0 = λ e. IsAlone cmp matching (rows_after cmp matching c g) (fabric_after cmp matching (Speak c) e s) in
        record { entry_is = entry; after = subst Left (sym (entry_is_refused c g s refusal.UnknownFace entry unknown)) (alone_refused c g s refusal.UnknownFace alone unknown) }

    -- A line that speaks comes to the outcome of its call, and leaves the rows after it.
    pub line_speaks : (c : PlainCall K) (g : Rows K) (s : Fabric K) → Speaks c → IsAlone cmp matching g s → ComesTo cmp matching (Speak c) s (outcome_of cmp matching c g) (rows_after cmp matching c g)
    line_speaks c g s speaks alone =
        let n = speaks.0 in
        let by_place : (o : Option Place) → nth n s.faces ≡ o → ComesTo cmp matching (Speak c) s (outcome_of cmp matching c g) (rows_after cmp matching c g) = λ o.
        elim o as (λ o. nth n s.faces ≡ o → ComesTo cmp matching (Speak c) s (outcome_of cmp matching c g) (rows_after cmp matching c g)) [
          | None ↦ λ at_. speaks_nowhere c g s alone (spoken_at s c n None speaks.1 at_) (unknown_cause c n g speaks.1 (out_of_range g s n alone at_))
          | Some p ↦ λ at_. speaks_there c g s alone (speaks_on c speaks) (spoken_at s c n (Some p) speaks.1 at_ ∙ placed_call g s c n p alone speaks.1 at_)
        ] in
        by_place (nth n s.faces) refl
      where
        placed_call : (g : Rows K) (s : Fabric K) (c : PlainCall K) (n : ℕ) (p : Place) (alone : IsAlone cmp matching g s) → call_face c ≡ Some n → nth n s.faces ≡ Some p → call_at_place s c (Some p) ≡ at_one alone.node c
        placed_call g s c n p alone names at_ =
            ap (λ q. call_at_place s c (Some q)) (place_of n s.faces p alone.places at_) ∙ ap (call_at s 1) (own_face c n names) ∙ called_at_one s alone.node c alone.gateways

        out_of_range : (g : Rows K) (s : Fabric K) (n : ℕ) → IsAlone cmp matching g s → nth n s.faces ≡ None → find_face n g ≡ None
        out_of_range g s n alone at_ =
            let gateway = gateway_in_order cmp matching s 1 alone.node (nth_alone g s alone) alone.ordered in
            let lists = subst (λ h. ListsAreInOrder cmp matching h) alone.rows gateway.rows.lists in
            not_found n 1 g.made g.faces lists.faces_rise lists.faces_made
            (λ within. let most : n ≤ length s.faces = subst (λ k. n ≤ k) (sym alone.made) within.1 in let there = placed_there n s.faces alone.places within.0 most in cc)
