-- Every line prints interests with named options alone, and leaves such ones held and waiting.
use Rattle.std.proofs.Common.{◌≡◌, ℕ, ◌+◌, ◌-◌, Bool, true, false, not, ◌==◌, if◌then◌else◌, nat_lt, List, [], ◌∷◌, ◌++◌, Option, Some, None, Ok, Err, refl, subst, ltb-true}
use Rattle.std.specs.Cmp.{IsTotalOrder}
use Rattle.std.specs.List.{list_any}
use Rattle.std.specs.declared.cmp.Ordering.{Ordering}
use Rattle.zt_protocol.specs.Plain.{PlainCall, NewSession, NewTransport, DeclareToken, UndeclareToken, Interest, InterestFinal, DeclareFinal, CloseFace, Expire, SetTrees, SetEntities, PlainEntry, PlainLine, Gateway, Session, Face as FaceLine, Link as LinkLine, Unlink, Step, Speak, Moment, SetTreesAt}
use Rattle.zt_protocol.specs.Refusal.{number_of}
use Rattle.zt_protocol.specs.declared.entries.Sent.{Sent}
use Rattle.zt_protocol.specs.declared.errors.Refusal.{Refusal}
use Rattle.zt_protocol.specs.declared.messages.Message.{Message}
use Rattle.zt_protocol.specs.declared.messages.Message.TheVariants as message
use Rattle.zt_model.specs.Fabric.{CallAt, Fabric, Node, Place, after_hearing, after_opening, after_refusal, at_nth, both_ends, call_at, call_at_place, call_face, call_of, call_of_face, call_of_step, closing_call, entry_by, entry_of, fabric_after, gateways_after_hearing, line_causes, line_spends_ids, number_of_place, opened_at, opening_at, printed_for, printed_message, said_at, said_by_line, said_closing, said_opening, sorted_by_face, table_at, with_call_face, with_place, with_rows, with_waiting, without_message}
use Rattle.zt_model.specs.Linking.{LinkEnd, call_of_message, link_ends, oldest, sending_end, speaking_end, with_link, with_taken, without_link}
use Rattle.zt_model.specs.Lists.{at_id, first_of, nth, rest_of, without_id}
use Rattle.zt_model.specs.Places.{Link}
use Rattle.zt_model.specs.Refusals.{first_cause}
use Rattle.zt_model.specs.Routing.{face_opened}
use Rattle.zt_model.specs.Rows.{ById, Rows}
use Rattle.zt_model.specs.Says.{altered, altered_by, opened_session, parts_of, said}
use Rattle.zt_model.specs.Shown.{rows_shown}
use Rattle.zt_model.specs.Transcript.{Each, IsEntry, fabric_shown, fabric_with, has_named_options, messages_of, pendings_printed, with_call, with_closings, with_opening, with_openings}
use Rattle.zt_laws.specs.Order.{FabricIsInOrder}
use Rattle.zt_laws.specs.Shown.{as_shown, node_shown}
use Rattle.zt_laws.proofs.Ends.{by_end}
use Rattle.zt_laws.proofs.Lists.{all_of_each, by_test, each_append, each_filter, each_map, each_weaker, of_cond}
use Rattle.zt_laws.proofs.LinesOrder.{called_at}
use Rattle.zt_laws.proofs.PartsOrder.{each_of_map}
use Rattle.zt_laws.proofs.ShownLines.{fabric_is_shown}
use Rattle.zt_laws.proofs.Sorting.{sorted_each}
use Rattle.zt_theorem_visibility.proofs.Saying.{closings_say, printed_each}
use Rattle.zt_theorem_transcript.specs.Named.{CallHasNamedOptions, FabricHasNamedOptions, HasNamedOptions, HoldNamedOptions, SendNamedOptions}
use Rattle.zt_theorem_transcript.proofs.Named.{HeldNamed, named_heard, named_shown, said_named}
use Rattle.zt_theorem_transcript.proofs.Order.{entry_in_order}
use Rattle.zt_theorem_transcript.proofs.Spends.{member}

each_changed : {A : Type 0} (P : A → Type 0) (n : ℕ) (change : A → A) (xs : List A) → ((x : A) → P x → P (change x)) → Each P xs → Each P (at_nth n change xs)
each_changed P n change [] one all = tt
each_changed P n change (x ∷ xs) one all =
    by_test (n == 1)
    (λ here. rw here (one x all.0, all.1))
    (λ here. rw here (all.0, each_changed P (n - 1) change xs one all.1))

module _ {K : Type 0} where
  abbrev Held : List (Node K) → Type 0
  Held gs = Each (λ (node : Node K). HoldNamedOptions node.rows) gs

  abbrev Waits : ById (List (Message K)) → Type 0
  Waits rows = Each (λ row. SendNamedOptions row.1) rows

  abbrev pub Prints : List (Sent K) → Type 0
  Prints ms = Each (λ m. has_named_options m.message ≡ true) ms

  -- ---- the calls of lines

  abbrev NamedAt : Option (CallAt K) → Type 0
  NamedAt None = Unit {0}
  NamedAt (Some at) = CallHasNamedOptions at.call

  at_named : (s : Fabric K) (n : ℕ) (c : PlainCall K) → CallHasNamedOptions c → NamedAt (call_at s n c)
  at_named s n c named = cases (nth n s.gateways)
    where
      cases : (o : Option (Node K)) → (let at : Option (CallAt K) = elim o [ None ↦ None | Some node ↦ Some (record { gateway = n; rows = node.rows; call = c }) ] in NamedAt at)
      cases None = tt
      cases (Some node) = named

  face_named : (n : ℕ) (c : PlainCall K) → CallHasNamedOptions c → CallHasNamedOptions (with_call_face n c)
  face_named n (DeclareToken k id e node interest) named = tt
  face_named n (UndeclareToken k id given node) named = tt
  face_named n (Interest k id mode options e) named = named
  face_named n (InterestFinal k id) named = tt
  face_named n (DeclareFinal k id) named = tt
  face_named n (CloseFace k) named = tt
  face_named n (SetEntities k subscribers queryables) named = tt
  face_named n (NewSession first) named = tt
  face_named n (NewTransport zid whatami region bound first) named = tt
  face_named n (Expire now) named = tt
  face_named n (SetTrees region t) named = tt

  place_named : (s : Fabric K) (c : PlainCall K) (o : Option Place) → CallHasNamedOptions c → NamedAt (call_at_place s c o)
  place_named s c None named = tt
  place_named s c (Some p) named = at_named s p.gateway (with_call_face p.face c) (face_named p.face c named)

  speaker_named : (s : Fabric K) (c : PlainCall K) (o : Option ℕ) → CallHasNamedOptions c → NamedAt (call_of_face s c o)
  speaker_named s c None named = tt
  speaker_named s c (Some face) named = place_named s c (nth face s.faces) named

  message_named : (s : Fabric K) (m : Message K) (o : Option Place) → has_named_options m ≡ true
      → (let at : Option (CallAt K) = elim (call_of_message 0 m) [ None ↦ None | Some call ↦ call_at_place s call o ] in NamedAt at)
  message_named s (message.DeclareToken id e interest node) o named = place_named s (DeclareToken 0 id e node interest) o tt
  message_named s (message.UndeclareToken id e node) o named = place_named s (UndeclareToken 0 id e node) o tt
  message_named s (message.DeclareFinal interest) o named = place_named s (DeclareFinal 0 interest) o tt
  message_named s (message.Interest id mode options e) o named = place_named s (Interest 0 id mode options e) o (ltb-true options.0 32 named)
  message_named s (message.InterestFinal id) o named = place_named s (InterestFinal 0 id) o tt
  message_named s (message.DeclareSubscriber id e interest) o named = tt
  message_named s (message.DeclareQueryable id e info interest) o named = tt

  waiting_named : (face : ℕ) (rows : ById (List (Message K))) → Waits rows → (let ms : List (Message K) = elim (at_id face rows) [ None ↦ [] | Some ms ↦ ms ] in SendNamedOptions ms)
  waiting_named face [] all = tt
  waiting_named face (row ∷ rows) all = by_test (face == row.0) (λ here. rw here all.0) (λ here. rw here (waiting_named face rows all.1))

  step_named : (s : Fabric K) (back : Bool) (o : Option Link) → Waits s.waiting → NamedAt (call_of_step s back o)
  step_named s back None all = tt
  step_named s back (Some link) all = by_list (elim (at_id (sending_end link back) s.waiting) [ None ↦ [] | Some ms ↦ ms ]) (waiting_named (sending_end link back) s.waiting all)
    where
      by_list : (ms : List (Message K)) → SendNamedOptions ms
          → (let at : Option (CallAt K) = elim (first_of ms) [ None ↦ None | Some m ↦ elim (call_of_message 0 m) [ None ↦ None | Some call ↦ call_at_place s call (nth (speaking_end link back) s.faces) ] ] in NamedAt at)
      by_list [] named = tt
      by_list (m ∷ ms) named = message_named s m (nth (speaking_end link back) s.faces) named.0

  -- the rows of a call are those of its gateway
  abbrev RowsAt : Option (CallAt K) → Type 0
  RowsAt None = Unit {0}
  RowsAt (Some at) = HoldNamedOptions at.rows

  rows_at : (s : Fabric K) (n : ℕ) (c : PlainCall K) → Held s.gateways → RowsAt (call_at s n c)
  rows_at s n c all = called_at RowsAt s n c tt (λ node at_. member (λ (x : Node K). HoldNamedOptions x.rows) n s.gateways node at_ all)

  rows_place : (s : Fabric K) (c : PlainCall K) (o : Option Place) → Held s.gateways → RowsAt (call_at_place s c o)
  rows_place s c None all = tt
  rows_place s c (Some p) all = rows_at s p.gateway (with_call_face p.face c) all

  rows_face : (s : Fabric K) (c : PlainCall K) (o : Option ℕ) → Held s.gateways → RowsAt (call_of_face s c o)
  rows_face s c None all = tt
  rows_face s c (Some face) all = rows_place s c (nth face s.faces) all

  rows_step : (s : Fabric K) (back : Bool) (o : Option Link) → Held s.gateways → RowsAt (call_of_step s back o)
  rows_step s back None all = tt
  rows_step s back (Some link) all = by_oldest (oldest s link back)
    where
      by_call : (o : Option (PlainCall K)) → (let at : Option (CallAt K) = elim o [ None ↦ None | Some call ↦ call_at_place s call (nth (speaking_end link back) s.faces) ] in RowsAt at)
      by_call None = tt
      by_call (Some call) = rows_place s call (nth (speaking_end link back) s.faces) all

      by_oldest : (o : Option (Message K)) → (let at : Option (CallAt K) = elim o [ None ↦ None | Some m ↦ elim (call_of_message 0 m) [ None ↦ None | Some call ↦ call_at_place s call (nth (speaking_end link back) s.faces) ] ] in RowsAt at)
      by_oldest None = tt
      by_oldest (Some m) = by_call (call_of_message 0 m)

module _ {K : Type 0} (cmp : K → K → Ordering) (matching : K → K → Bool) where
  -- ---- what lines print

  said_at_named : (s : Fabric K) (at : Option (CallAt K)) → NamedAt at → RowsAt at → Prints (said_at cmp matching s at)
  said_at_named s None named all = tt
  said_at_named s (Some at) named all =
      each_map (λ (m : Sent K). has_named_options m.message ≡ true) (printed_message s at.gateway) (said cmp matching at.call at.rows) (said_named cmp matching at.call at.rows named all)

  opening_named_at : (end : LinkEnd K) (s : Fabric K) → NamedAt (opening_at cmp matching s end)
  opening_named_at end s = by_end cmp matching (λ o. (let at : Option (CallAt K) = elim o [ None ↦ None | Some call ↦ call_at s end.gateway call ] in NamedAt at)) end tt (λ zid whatami region bound. at_named s end.gateway (NewTransport zid whatami region bound end.first) tt)

  opening_rows_at : (end : LinkEnd K) (s : Fabric K) → Held s.gateways → RowsAt (opening_at cmp matching s end)
  opening_rows_at end s all = by_end cmp matching (λ o. (let at : Option (CallAt K) = elim o [ None ↦ None | Some call ↦ call_at s end.gateway call ] in RowsAt at)) end tt (λ zid whatami region bound. rows_at s end.gateway (NewTransport zid whatami region bound end.first) all)

  held_heard : (s : Fabric K) (ms : List (Sent K)) (n : ℕ) (gs : List (Node K)) → Held gs → Held (gateways_after_hearing cmp s ms n gs)
  unfolding gateways_after_hearing
  held_heard s ms n [] all = tt
  held_heard s ms n (node ∷ gs) all = (named_heard cmp matching node.rows.moment (λ f. printed_for (number_of_place s n f.number) ms) node.rows.faces all.0, held_heard s ms (n + 1) gs all.1)

  held_opened : (end : LinkEnd K) (s : Fabric K) → Held s.gateways → Held (opened_at cmp matching (opening_at cmp matching s end) s).gateways
  unfolding parts_of altered_by
  held_opened end s all =
      by_end cmp matching (λ o. (let at : Option (CallAt K) = elim o [ None ↦ None | Some call ↦ call_at s end.gateway call ] in Held (opened_at cmp matching at s).gateways)) end all
      (λ zid whatami region bound.
      let c : PlainCall K = NewTransport zid whatami region bound end.first in
      called_at (λ at. Held (opened_at cmp matching at s).gateways) s end.gateway c all
      (λ node at_.
      each_changed (λ (x : Node K). HoldNamedOptions x.rows) end.gateway (λ (x : Node K). record x { rows = altered cmp matching c x.rows }) s.gateways
      (λ x own. each_append HeldNamed x.rows.faces (face_opened zid whatami region bound end.first x.rows ∷ []) own (tt, tt)) all))

  openings_named : (ends : List (LinkEnd K)) (s : Fabric K) → Held s.gateways → Prints (said_opening cmp matching ends s)
  unfolding said_opening
  openings_named [] s all = tt
  openings_named (end ∷ ends) s all =
      let at = opening_at cmp matching s end in
      let Y = opened_at cmp matching at s in
      let ms = said_at cmp matching Y at in
      each_append (λ (m : Sent K). has_named_options m.message ≡ true) ms (said_opening cmp matching ends (after_opening cmp matching at s))
      (said_at_named Y at (opening_named_at end s) (opening_rows_at end s all))
      (openings_named ends (after_opening cmp matching at s) (held_heard Y ms 1 Y.gateways (held_opened end s all)))

  line_prints_named : (line : PlainLine K) (s : Fabric K) → HasNamedOptions line → FabricHasNamedOptions s → Prints (said_by_line cmp matching line s)
  unfolding said_by_line call_of
  line_prints_named (Gateway mode zid regions south name timeout refused) s named all = tt
  line_prints_named (Session n first) s named all = said_at_named s (call_at s n (NewSession first)) (at_named s n (NewSession first) tt) (rows_at s n (NewSession first) all.gateways)
  line_prints_named (FaceLine n mode zid region bound first) s named all =
      let c : PlainCall K = NewTransport zid mode region bound first in
      said_at_named (opened_at cmp matching (call_at s n c) s) (call_at s n c) (at_named s n c tt) (rows_at s n c all.gateways)
  line_prints_named (LinkLine one two first back) s named all = openings_named (link_ends s one two first back) s all.gateways
  line_prints_named (Unlink link) s named all =
      let fs = both_ends cmp matching s link in
      each_filter (λ (m : Sent K). has_named_options m.message ≡ true) (λ m. not (list_any (λ face. face == m.face) fs)) (said_closing cmp matching fs s)
      (closings_say cmp matching (λ m. has_named_options m ≡ true) (λ i. refl) (λ x j. refl) (λ i. refl) (λ i. refl) fs s)
  line_prints_named (Step link back) s named all = said_at_named s (call_of_step s back (nth link s.links)) (step_named s back (nth link s.links) all.waiting) (rows_step s back (nth link s.links) all.gateways)
  line_prints_named (Speak c) s named all = said_at_named s (call_of_face s c (call_face c)) (speaker_named s c (call_face c) named) (rows_face s c (call_face c) all.gateways)
  line_prints_named (Moment n now) s named all = said_at_named s (call_at s n (Expire now)) (at_named s n (Expire now) tt) (rows_at s n (Expire now) all.gateways)
  line_prints_named (SetTreesAt n region t) s named all =
      let c : PlainCall K = SetTrees region (table_at s n t) in said_at_named s (call_at s n c) (at_named s n c tt) (rows_at s n c all.gateways)

  -- ---- what lines leave, as a transcript shows it

  abbrev Fine : Fabric K → Type 0
  Fine s = FabricHasNamedOptions s

  fine_rows : (n : ℕ) (change : Rows K → Rows K) (s : Fabric K) → ((g : Rows K) → HoldNamedOptions g → HoldNamedOptions (change g)) → Fine s → Fine (with_rows n change s)
  fine_rows n change s one all =
      record { gateways = each_changed (λ (x : Node K). HoldNamedOptions x.rows) n (λ (x : Node K). record x { rows = change x.rows }) s.gateways (λ x own. one x.rows own) all.gateways; waiting = all.waiting }

  fine_call : (ms : List (Sent K)) (at : Option (CallAt K)) (s : Fabric K) → NamedAt at → Fine s → Fine (with_call cmp matching ms at s)
  fine_call ms None s named all = all
  fine_call ms (Some at) s named all = fine_rows at.gateway (rows_shown cmp (pendings_printed s ms at) at.call) s (λ g own. named_shown cmp matching (pendings_printed s ms at) at.call g named own) all

  fine_place : (n : ℕ) (s : Fabric K) → Fine s → Fine (with_place n s)
  fine_place n s all = record { gateways = all.gateways; waiting = all.waiting }

  fine_opening : (at : Option (CallAt K)) (s : Fabric K) → NamedAt at → Fine s → Fine (with_opening cmp matching at s)
  fine_opening None s named all = all
  fine_opening (Some at) s named all = fine_call [] (Some at) (with_place at.gateway s) named (fine_place at.gateway s all)

  fine_openings : (ends : List (LinkEnd K)) (s : Fabric K) → Fine s → Fine (with_openings cmp matching ends s)
  unfolding with_openings
  fine_openings [] s all = all
  fine_openings (end ∷ ends) s all = fine_openings ends (with_opening cmp matching (opening_at cmp matching s end) s) (fine_opening (opening_at cmp matching s end) s (opening_named_at end s) all)

  fine_closings : (fs : List ℕ) (s : Fabric K) → Fine s → Fine (with_closings cmp matching fs s)
  unfolding with_closings
  fine_closings [] s all = all
  fine_closings (face ∷ fs) s all = fine_closings fs (with_call cmp matching [] (closing_call s face) s) (fine_call [] (closing_call s face) s (place_named s (CloseFace face) (nth face s.faces) tt) all)

  fine_unlinked : (n : ℕ) (s : Fabric K) → Fine s → Fine (without_link n s)
  fine_unlinked n s all = cases (nth n s.links)
    where
      cases : (o : Option Link) → Fine (elim o [ None ↦ s | Some link ↦ record s { links = at_nth n (λ l. record l { is_open = false }) s.links; waiting = without_id link.one (without_id link.two s.waiting) } ])
      cases None = all
      cases (Some link) =
          record {
            gateways = all.gateways;
            waiting =
                each_filter (λ (row : ℕ × List (Message K)). SendNamedOptions row.1) (λ row. not (link.one == row.0)) (without_id link.two s.waiting)
                (each_filter (λ (row : ℕ × List (Message K)). SendNamedOptions row.1) (λ row. not (link.two == row.0)) s.waiting all.waiting);
          }

  rest_named : (ms : List (Message K)) → SendNamedOptions ms → SendNamedOptions (rest_of ms)
  rest_named [] all = tt
  rest_named (m ∷ ms) all = all.1

  fine_taken : (n : ℕ) (back : Bool) (s : Fabric K) → Fine s → Fine (without_message n back s)
  fine_taken n back s all = cases (nth n s.links)
    where
      taken : (face : ℕ) → Fine (with_taken face s)
      taken face =
          record {
            gateways = all.gateways;
            waiting =
                each_map (λ (row : ℕ × List (Message K)). SendNamedOptions row.1) (λ row. if face == row.0 then (row.0, rest_of row.1) else row) s.waiting
                (each_weaker (λ (row : ℕ × List (Message K)). SendNamedOptions row.1) (λ (row : ℕ × List (Message K)). SendNamedOptions (if face == row.0 then (row.0, rest_of row.1) else row).1)
                (λ row own. of_cond (λ (r : ℕ × List (Message K)). SendNamedOptions r.1) (face == row.0) (row.0, rest_of row.1) row (λ _. rest_named row.1 own) (λ _. own)) s.waiting all.waiting);
          }

      cases : (o : Option Link) → Fine (elim o [ None ↦ s | Some link ↦ with_taken (sending_end link back) s ])
      cases None = all
      cases (Some link) = taken (sending_end link back)

  fine_with : (line : PlainLine K) (ms : List (Sent K)) (s : Fabric K) → HasNamedOptions line → Fine s → Fine (fabric_with cmp matching line ms s)
  unfolding fabric_with call_of
  fine_with (Gateway mode zid regions south name timeout refused) ms s named all =
      record { gateways = each_append (λ (x : Node K). HoldNamedOptions x.rows) s.gateways _ all.gateways (tt, tt); waiting = all.waiting }
  fine_with (Session n first) ms s named all =
      let one = fine_rows n (opened_session first) s (λ g own. each_append HeldNamed g.faces _ own (tt, tt)) all in
      record { gateways = one.gateways; waiting = one.waiting }
  fine_with (FaceLine n mode zid region bound first) ms s named all =
      let c : PlainCall K = NewTransport zid mode region bound first in fine_opening (call_at s n c) s (at_named s n c tt) all
  fine_with (LinkLine one two first back) ms s named all =
      fine_openings (link_ends s one two first back) (with_link s) (record { gateways = all.gateways; waiting = each_append (λ (row : ℕ × List (Message K)). SendNamedOptions row.1) s.waiting _ all.waiting (tt, (tt, tt)) })
  fine_with (Unlink link) ms s named all = fine_unlinked link (with_closings cmp matching (both_ends cmp matching s link) s) (fine_closings (both_ends cmp matching s link) s all)
  fine_with (Step link back) ms s named all = fine_call ms (call_of_step s back (nth link s.links)) (without_message link back s) (step_named s back (nth link s.links) all.waiting) (fine_taken link back s all)
  fine_with (Speak c) ms s named all = fine_call ms (call_of_face s c (call_face c)) s (speaker_named s c (call_face c) named) all
  fine_with (Moment n now) ms s named all = fine_call ms (call_at s n (Expire now)) s (at_named s n (Expire now) tt) all
  fine_with (SetTreesAt n region t) ms s named all =
      let c : PlainCall K = SetTrees region (table_at s n t) in fine_call ms (call_at s n c) s (at_named s n c tt) all

  fine_heard : (ms : List (Sent K)) (s : Fabric K) → Prints ms → Fine s → Fine (with_waiting ms (after_hearing cmp ms s))
  fine_heard ms s prints all =
      record {
        gateways = held_heard s ms 1 s.gateways all.gateways;
        waiting =
            each_map (λ (row : ℕ × List (Message K)). SendNamedOptions row.1) (λ row. (row.0, row.1 ++ printed_for row.0 ms)) s.waiting
            (each_weaker (λ (row : ℕ × List (Message K)). SendNamedOptions row.1) (λ row. SendNamedOptions (row.1 ++ printed_for row.0 ms))
            (λ row own. each_append (λ m. has_named_options m ≡ true) row.1 (printed_for row.0 ms) own (printed_each cmp matching (λ m. has_named_options m ≡ true) row.0 ms prints)) s.waiting all.waiting);
      }

  fine_refused : (line : PlainLine K) (r : Refusal) (s : Fabric K) → Fine s → Fine (after_refusal cmp matching line r s)
  fine_refused (Step link back) r s all = of_cond Fine (nat_lt 3 (number_of r)) (without_message link back s) s (λ _. fine_taken link back s all) (λ _. all)
  fine_refused (Gateway mode zid regions south name timeout refused) r s all = all
  fine_refused (Session n first) r s all = all
  fine_refused (FaceLine n mode zid region bound first) r s all = all
  fine_refused (LinkLine one two first back) r s all = all
  fine_refused (Unlink link) r s all = all
  fine_refused (Speak c) r s all = all
  fine_refused (Moment n now) r s all = all
  fine_refused (SetTreesAt n region t) r s all = all

  fine_entry : (line : PlainLine K) (entry : PlainEntry K) (s : Fabric K) → HasNamedOptions line → Prints (messages_of entry) → Fine s → Fine (fabric_shown cmp matching line entry s)
  unfolding fabric_shown
  fine_entry line (Ok ms) s named prints all = fine_heard ms (fabric_with cmp matching line ms s) prints (fine_with line ms s named all)
  fine_entry line (Err r) s named prints all = fine_refused line r s all

  as_shown_fine : (s : Fabric K) → Fine s → Fine (as_shown s)
  as_shown_fine s all = record { gateways = each_map (λ (x : Node K). HoldNamedOptions x.rows) node_shown s.gateways all.gateways; waiting = all.waiting }

  fine_as_shown : (s : Fabric K) → Fine (as_shown s) → Fine s
  fine_as_shown s all = record { gateways = each_of_map (λ (x : Node K). HoldNamedOptions x.rows) node_shown s.gateways all.gateways; waiting = all.waiting }

  entry_named : (line : PlainLine K) (s : Fabric K) → HasNamedOptions line → Fine s → Prints (messages_of (entry_of cmp matching line s))
  unfolding entry_of
  entry_named line s named all = cases (first_cause (line_causes cmp matching (line_spends_ids cmp matching line s) line s))
    where
      cases : (o : Option Refusal) → (let ms = sorted_by_face (said_by_line cmp matching line s) in Prints (messages_of (entry_by cmp matching o ms)))
      cases None = sorted_each (λ m. has_named_options m.message ≡ true) (said_by_line cmp matching line s) (line_prints_named line s named all)
      cases (Some r) = tt

  module _ (total : IsTotalOrder cmp) where
    pub fine_after_line : (line : PlainLine K) (s : Fabric K) → HasNamedOptions line → FabricIsInOrder cmp matching s → Fine s → Fine (fabric_after cmp matching line (entry_of cmp matching line s) s)
    fine_after_line line s named fine all =
        let entry = entry_of cmp matching line s in
        fine_as_shown (fabric_after cmp matching line entry s)
        (subst Fine (fabric_is_shown cmp matching total line s fine) (fine_entry line entry (as_shown s) named (entry_named line s named all) (as_shown_fine s all)))

    -- What is printed for a line is an entry.
    pub is_entry : (line : PlainLine K) (s : Fabric K) → HasNamedOptions line → Fine s → IsEntry (entry_of cmp matching line s)
    is_entry line s named all =
        let entry = entry_of cmp matching line s in
        record {
          in_order = entry_in_order cmp matching line s;
          named_options = all_of_each (λ m. has_named_options m.message) (messages_of entry) (entry_named line s named all);
        }
