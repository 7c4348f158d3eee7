-- Calls and steps: fabrics of trees still agree, where their gateways are still those of trees.
use Rattle.std.proofs.Common.{◌≡◌, ◌≢◌, ◌⊎◌, inl, inr, ℕ, ◌≤◌, Bool, true, false, if◌then◌else◌, ◌==◌, not, nat_lt, List, [], ◌∷◌, length, Option, Some, None, Err, is_some, refl, sym, ap, ◌∙◌, subst}
use Rattle.std.specs.Cmp.{IsTotalOrder}
use Rattle.std.specs.declared.cmp.Ordering.{Ordering}
use Rattle.std.specs.declared.cmp.Ordering.TheVariants.{Equal}
use Rattle.zt_protocol.specs.Plain.{PlainCall, NewSession, NewTransport, DeclareToken, UndeclareToken, Interest, InterestFinal, DeclareFinal, CloseFace, Expire, SetTrees, SetEntities, PlainLine, Gateway, Session, Face as FaceLine, Link as LinkLine, Unlink, Step, Speak, Moment, SetTreesAt}
use Rattle.zt_protocol.specs.Refusal.{number_of}
use Rattle.zt_protocol.specs.declared.entries.Sent.{Sent}
use Rattle.zt_protocol.specs.declared.errors.Refusal.{Refusal}
use Rattle.zt_protocol.specs.declared.errors.Refusal.TheVariants as refusal
use Rattle.zt_protocol.specs.declared.messages.Message.{Message}
use Rattle.zt_protocol.specs.declared.messages.Message.TheVariants as message
use Rattle.zt_model.specs.Fabric.{CallAt, Fabric, Link, Node, Place, after_hearing, after_refusal, altered_by_line, line_causes, call_at, call_at_place, call_face, call_of, call_of_face, call_of_step, causes_of_call, entry_by, entry_of, fabric_after, is_linked_face, line_causes, line_spends_ids, said_at, said_by_line, sorted_by_face, table_at, with_call_face, with_waiting, without_message}
use Rattle.zt_model.specs.Linking.{call_of_message, oldest, sending_end, waiting_of}
use Rattle.zt_model.specs.Lists.{has_id, is_some_and, nth, rest_of}
use Rattle.zt_model.specs.Refusals.{call_causes, first_cause}
use Rattle.zt_model.specs.Rows.{ById}
use Rattle.zt_model.specs.Says.{said}
use Rattle.zt_model.specs.Transcript.{Each, FaceAt, face_numbered, messages_of}
use Rattle.zt_laws.specs.Order.{FabricIsInOrder}
use Rattle.zt_laws.specs.Sound.{opens_face}
use Rattle.zt_laws.proofs.Calls.{no_cause}
use Rattle.zt_laws.proofs.Gateways.{after_hearing_nothing, prints_sorted}
use Rattle.zt_laws.proofs.Lists.{by_test, each_map, each_weaker, never, of_cond}
use Rattle.zt_laws.proofs.LinesOrder.{called_at, calls_nothing}
use Rattle.zt_theorem_tree_invariant.specs.Facts.{IsTreeGateway, TreesAgree}
use Rattle.zt_theorem_tree_invariant.specs.Joints.{IsForest, LinksStand, are_joined, is_call_or_step}
use Rattle.zt_theorem_tree_invariant.proofs.After.{after_call, agree_after_line, joined_ends, some_oldest, step_is, with_nothing}
use Rattle.zt_theorem_tree_invariant.proofs.Lines.{after_is, is_linked, same_number}
use Rattle.zt_theorem_tree_invariant.proofs.Standing.{LeavesOpen, closes_face, links_stand, ranks_stand}
use Rattle.zt_theorem_tree_invariant.proofs.Stepping.{has_taken, taken}
use Rattle.zt_theorem_tree_invariant.proofs.Turning.{turned}

not_not : {b : Bool} → not b ≡ false → b ≡ true
not_not {b} h = by_test b (λ e. e) (λ e. let t : not b ≡ true = ap not e in never t h)

module _ {K : Type 0} (cmp : K → K → Ordering) (matching : K → K → Bool) (total : IsTotalOrder cmp) (equal_is_same : (a b : K) → cmp a b ≡ Equal → a ≡ b) (s : Fabric K) (fine : FabricIsInOrder cmp matching s) (agree : TreesAgree cmp matching s) where
  abbrev pub Stand : Fabric K → Type 0
  Stand t = LinksStand t × IsForest t

  abbrev then_called : Fabric K → Option (CallAt K) → Fabric K
  then_called t at = after_call cmp matching total equal_is_same s fine agree t at

  -- queues for the same faces
  abbrev pub Waits : ById (List (Message K)) → Type 0
  Waits w = ((k : ℕ) → has_id k s.waiting ≡ true → has_id k w ≡ true) × Each (λ row. row.0 ≤ length s.faces) w

  taken_rows : (q : ℕ) (w : ById (List (Message K))) → Each (λ row. row.0 ≤ length s.faces) w → Each (λ row. row.0 ≤ length s.faces) (taken q w)
  taken_rows q w rows = each_map (λ (row : ℕ × List (Message K)). row.0 ≤ length s.faces) _ w (each_weaker (λ row. row.0 ≤ length s.faces) (λ row. (if q == row.0 then (row.0, rest_of row.1) else row).0 ≤ length s.faces) (λ row le. of_cond (λ (r : ℕ × List (Message K)). r.0 ≤ length s.faces) (q == row.0) (row.0, rest_of row.1) row (λ _. le) (λ _. le)) w rows)

  -- other messages wait
  links_waiting : (w : ById (List (Message K))) → Waits w → Stand (record s { waiting = w })
  unfolding face_numbered
  links_waiting w waits = (
    record {
      meet = λ a b joined. let ends = agree.links.meet a b joined in record { one = ends.one; two = ends.two; one_is = ends.one_is; two_is = ends.two_is; one_leads_up = ends.one_leads_up };
      once = agree.links.once;
      stay = λ a x found some. let j = agree.links.stay a x found some in record { other = j.other; joined = j.joined };
      wait = λ a b joined. waits.0 a (agree.links.wait a b joined);
      made = agree.links.made;
      rise = agree.links.rise;
      rows = waits.1;
    },
    record { rank = agree.forest.rank; within = agree.forest.within; falls = agree.forest.falls },
  )

  -- a call that closes no face
  pub closes_none : (c : PlainCall K) → closes_face c ≡ false → (p : ℕ) → LeavesOpen c p
  closes_none c open_ p = λ closes. never closes open_

  -- what a call prints
  abbrev pub printed_by : ℕ → Node K → PlainCall K → List (Sent K)
  printed_by j node c = sorted_by_face (said_at cmp matching s (Some (record { gateway = j; rows = node.rows; call = c })))

  -- the fabric after an accepted call that opens no face, with what waited before it
  abbrev pub turned_by : (j : ℕ) (node : Node K) (c : PlainCall K) → ById (List (Message K)) → nth j s.gateways ≡ Some node → opens_face c ≡ false → Fabric K
  turned_by j node c w at_j still = turned cmp matching total s fine j node at_j c (calls_nothing cmp matching total c still) (printed_by j node c) w (prints_sorted s.faces j (said cmp matching c node.rows))

  -- ---- a fact that calls leave true is left by each call and each step

  -- what waits is as it was, or a message was taken
  abbrev pub IsLess : ById (List (Message K)) → Type 0
  IsLess w = (w ≡ s.waiting) ⊎ ((q : ℕ) × (w ≡ taken q s.waiting))

  -- what calls say and leave, of calls at gateways of which something holds
  abbrev pub LeftByCalls : (ℕ → PlainCall K → Type 0) → (List (Sent K) → Fabric K → Type 0) → Type 0
  LeftByCalls Said P = (spent : Bool) (j : ℕ) (node : Node K) (c : PlainCall K) (w : ById (List (Message K))) → Waits w → (at_j : nth j s.gateways ≡ Some node) (still : opens_face c ≡ false)
      → ((k b : ℕ) (z : FaceAt K) → face_numbered s k ≡ Some z → are_joined s k b ≡ true → z.gateway ≡ j → LeavesOpen c z.face.number) → first_cause (call_causes cmp matching spent c node.rows) ≡ None → Said j c → (w_is : IsLess w)
      → P (printed_by j node c) (turned_by j node c w at_j still)

  -- the call of a message at each gateway and face
  abbrev pub MessageSaid : (ℕ → PlainCall K → Type 0) → Message K → Type 0
  MessageSaid Said m = (j f : ℕ) → (let T : Type 0 = Unit {0} in elim (call_of_message 0 m) as (λ o. Type 0) [ None ↦ T | Some call ↦ Said j (with_call_face f call) ])

  -- the calls of a line
  abbrev pub LineSaid : (ℕ → PlainCall K → Type 0) → PlainLine K → Type 0
  LineSaid Said (Step n back) = (q : ℕ) (m : Message K) (rest : List (Message K)) → waiting_of s q ≡ m ∷ rest → MessageSaid Said m
  LineSaid Said (Speak call) = (place : Place) (k : ℕ) → call_face call ≡ Some k → nth k s.faces ≡ Some place → is_linked_face s (Some k) ≡ false → Said place.gateway (with_call_face place.face call)
  LineSaid Said (Moment n now) = Said n (Expire now)
  LineSaid Said (SetTreesAt n region t) = Said n (SetTrees region (table_at s n t))
  LineSaid Said _ = Unit {0}

  module _ (Said : ℕ → PlainCall K → Type 0) (P : List (Sent K) → Fabric K → Type 0) (itself : P [] s) (stand_waiting : (w : ById (List (Message K))) → Waits w → IsLess w → P [] (record s { waiting = w })) (calls : LeftByCalls Said P) where
    -- what an accepted call says, and the fabric after it
    abbrev Follows : Fabric K → Option (CallAt K) → Type 0
    Follows t at = P (sorted_by_face (said_at cmp matching s at)) (then_called t at)

    stand_no_call : (t : Fabric K) → P [] t → Follows t None
    unfolding sorted_by_face
    stand_no_call t all = subst (P []) (sym (ap (with_waiting []) (after_hearing_nothing cmp t) ∙ ap (λ (w : ById (List (Message K))). record t { waiting = w }) (with_nothing t.waiting))) all

    stand_called : (spent : Bool) (j : ℕ) (node : Node K) (c : PlainCall K) (w : ById (List (Message K))) → Waits w → IsLess w → Said j c → nth j s.gateways ≡ Some node → opens_face c ≡ false
        → ((k b : ℕ) (z : FaceAt K) → face_numbered s k ≡ Some z → are_joined s k b ≡ true → z.gateway ≡ j → LeavesOpen c z.face.number) → first_cause (call_causes cmp matching spent c node.rows) ≡ None
        → Follows (record s { waiting = w }) (Some (record { gateway = j; rows = node.rows; call = c }))
    stand_called spent j node c w waits less said_ at_j still open_ accepted =
        subst (P (printed_by j node c)) (sym (after_is cmp matching total s fine agree j node c (printed_by j node c) w at_j still (prints_sorted s.faces j (said cmp matching c node.rows))))
        (calls spent j node c w waits at_j still open_ accepted said_ less)

    stand_at : (spent : Bool) (n : ℕ) (c : PlainCall K) → Said n c → opens_face c ≡ false → closes_face c ≡ false → first_cause (causes_of_call cmp matching spent (call_at s n c)) ≡ None → Follows s (call_at s n c)
    stand_at spent n c said_ still open_ accepted =
        called_at (λ at. first_cause (causes_of_call cmp matching spent at) ≡ None → Follows s at) s n c (λ _. stand_no_call s itself)
        (λ node at_j accepted_. stand_called spent n node c s.waiting (λ k h. h, agree.links.rows) (inl refl) said_ at_j still (λ k b z found joined here. closes_none c open_ z.face.number) accepted_) accepted

    -- a call of a plain face
    stand_place : (spent : Bool) (call : PlainCall K) (k : ℕ) → is_linked_face s (Some k) ≡ false → ((f : ℕ) → (call_face (with_call_face f call) ≡ Some f) × (opens_face (with_call_face f call) ≡ false)) → ((place : Place) → nth k s.faces ≡ Some place → Said place.gateway (with_call_face place.face call)) → (o : Option Place) → nth k s.faces ≡ o
        → first_cause (causes_of_call cmp matching spent (call_at_place s call o)) ≡ None → Follows s (call_at_place s call o)
    stand_place spent call k plain names said_ None at_k accepted = stand_no_call s itself
    stand_place spent call k plain names said_ (Some place) at_k accepted =
        called_at (λ at. first_cause (causes_of_call cmp matching spent at) ≡ None → Follows s at) s place.gateway (with_call_face place.face call) (λ _. stand_no_call s itself)
        (λ node at_j accepted_. stand_called spent place.gateway node (with_call_face place.face call) s.waiting (λ k h. h, agree.links.rows) (inl refl) (said_ place at_k) at_j (names place.face).1
        (λ a b z found link_ here _ n n_is is.
        let both : Some n ≡ Some place.face = sym n_is ∙ (names place.face).0 in
        let n_place : n ≡ place.face = cc in
        let same_ : a ≡ k = same_number cmp matching total s fine agree k a place z at_k found here (sym is ∙ n_place) node at_j in
        never (subst (λ i. is_linked_face s (Some i) ≡ true) same_ (is_linked cmp matching total s fine agree a b link_)) plain)
        accepted_)
        accepted

    stand_speech : (spent : Bool) (call : PlainCall K) → LineSaid Said (Speak call) → first_cause (line_causes cmp matching spent (Speak call) s) ≡ None → Follows s (call_of_face s call (call_face call))
    unfolding line_causes call_of
    stand_speech spent (NewSession first) said_ accepted = never refl (no_cause _ _ _ accepted).0
    stand_speech spent (NewTransport zid whatami region bound first) said_ accepted = never refl (no_cause _ _ _ accepted).0
    stand_speech spent (Expire now) said_ accepted = never refl (no_cause _ _ _ accepted).0
    stand_speech spent (SetTrees region t) said_ accepted = never refl (no_cause _ _ _ accepted).0
    stand_speech spent (CloseFace k) said_ accepted = let two = no_cause _ _ _ (no_cause _ _ _ accepted).1 in stand_place spent (CloseFace k) k two.0 (λ f. (refl, refl)) (λ place at_. said_ place k refl at_ two.0) (nth k s.faces) refl two.1
    stand_speech spent (DeclareToken k id e node interest) said_ accepted = let two = no_cause _ _ _ (no_cause _ _ _ accepted).1 in stand_place spent (DeclareToken k id e node interest) k two.0 (λ f. (refl, refl)) (λ place at_. said_ place k refl at_ two.0) (nth k s.faces) refl two.1
    stand_speech spent (UndeclareToken k id given node) said_ accepted = let two = no_cause _ _ _ (no_cause _ _ _ accepted).1 in stand_place spent (UndeclareToken k id given node) k two.0 (λ f. (refl, refl)) (λ place at_. said_ place k refl at_ two.0) (nth k s.faces) refl two.1
    stand_speech spent (Interest k id mode options e) said_ accepted = let two = no_cause _ _ _ (no_cause _ _ _ accepted).1 in stand_place spent (Interest k id mode options e) k two.0 (λ f. (refl, refl)) (λ place at_. said_ place k refl at_ two.0) (nth k s.faces) refl two.1
    stand_speech spent (InterestFinal k id) said_ accepted = let two = no_cause _ _ _ (no_cause _ _ _ accepted).1 in stand_place spent (InterestFinal k id) k two.0 (λ f. (refl, refl)) (λ place at_. said_ place k refl at_ two.0) (nth k s.faces) refl two.1
    stand_speech spent (DeclareFinal k id) said_ accepted = let two = no_cause _ _ _ (no_cause _ _ _ accepted).1 in stand_place spent (DeclareFinal k id) k two.0 (λ f. (refl, refl)) (λ place at_. said_ place k refl at_ two.0) (nth k s.faces) refl two.1
    stand_speech spent (SetEntities k subscribers queryables) said_ accepted = let two = no_cause _ _ _ (no_cause _ _ _ accepted).1 in stand_place spent (SetEntities k subscribers queryables) k two.0 (λ f. (refl, refl)) (λ place at_. said_ place k refl at_ two.0) (nth k s.faces) refl two.1

    -- ---- steps

    stand_message : (spent : Bool) (q : ℕ) (z : FaceAt K) (node : Node K) → nth z.gateway s.gateways ≡ Some node → (m : Message K) → MessageSaid Said m
        → first_cause (causes_of_call cmp matching spent (elim (call_of_message 0 m) [ None ↦ None | Some call ↦ Some (record { gateway = z.gateway; rows = node.rows; call = with_call_face z.face.number call }) ])) ≡ None
        → Follows (record s { waiting = taken q s.waiting }) (elim (call_of_message 0 m) [ None ↦ None | Some call ↦ Some (record { gateway = z.gateway; rows = node.rows; call = with_call_face z.face.number call }) ])
    stand_message spent q z node at_j (message.DeclareToken id e i n) said_ accepted = stand_called spent z.gateway node (DeclareToken z.face.number id e n i) (taken q s.waiting) (λ k h. has_taken q k s.waiting h, taken_rows q s.waiting agree.links.rows) (inr (q, refl)) (said_ z.gateway z.face.number) at_j refl (λ k b y found joined here closes. never closes refl) accepted
    stand_message spent q z node at_j (message.UndeclareToken id e n) said_ accepted = stand_called spent z.gateway node (UndeclareToken z.face.number id e n) (taken q s.waiting) (λ k h. has_taken q k s.waiting h, taken_rows q s.waiting agree.links.rows) (inr (q, refl)) (said_ z.gateway z.face.number) at_j refl (λ k b y found joined here closes. never closes refl) accepted
    stand_message spent q z node at_j (message.DeclareFinal id) said_ accepted = stand_called spent z.gateway node (DeclareFinal z.face.number id) (taken q s.waiting) (λ k h. has_taken q k s.waiting h, taken_rows q s.waiting agree.links.rows) (inr (q, refl)) (said_ z.gateway z.face.number) at_j refl (λ k b y found joined here closes. never closes refl) accepted
    stand_message spent q z node at_j (message.Interest id mode options e) said_ accepted = stand_called spent z.gateway node (Interest z.face.number id mode options e) (taken q s.waiting) (λ k h. has_taken q k s.waiting h, taken_rows q s.waiting agree.links.rows) (inr (q, refl)) (said_ z.gateway z.face.number) at_j refl (λ k b y found joined here closes. never closes refl) accepted
    stand_message spent q z node at_j (message.InterestFinal id) said_ accepted = stand_called spent z.gateway node (InterestFinal z.face.number id) (taken q s.waiting) (λ k h. has_taken q k s.waiting h, taken_rows q s.waiting agree.links.rows) (inr (q, refl)) (said_ z.gateway z.face.number) at_j refl (λ k b y found joined here closes. never closes refl) accepted
    stand_message spent q z node at_j (message.DeclareSubscriber id e i) said_ accepted = stand_no_call (record s { waiting = taken q s.waiting }) (stand_waiting (taken q s.waiting) (λ k h. has_taken q k s.waiting h, taken_rows q s.waiting agree.links.rows) (inr (q, refl)))
    stand_message spent q z node at_j (message.DeclareQueryable id e info i) said_ accepted = stand_no_call (record s { waiting = taken q s.waiting }) (stand_waiting (taken q s.waiting) (λ k h. has_taken q k s.waiting h, taken_rows q s.waiting agree.links.rows) (inr (q, refl)))

    stand_taken : (spent : Bool) (n : ℕ) (back : Bool) → LineSaid Said (Step n back) → (o : Option Link) → nth n s.links ≡ o → is_some_and o (λ l. l.is_open) ≡ true → is_some_and o (λ l. is_some (oldest s l back)) ≡ true → first_cause (causes_of_call cmp matching spent (call_of_step s back o)) ≡ None
        → Follows (let t : Fabric K = elim o [ None ↦ s | Some l ↦ record s { waiting = taken (sending_end l back) s.waiting } ] in t) (call_of_step s back o)
    stand_taken spent n back said_ None at_ open_ there accepted = never open_ refl
    stand_taken spent n back said_ (Some l) at_ open_ there accepted =
        let joined = joined_ends cmp matching total equal_is_same s fine agree n l back at_ open_ in
        let old = some_oldest cmp matching total equal_is_same s fine agree n l back there in
        let is = step_is cmp matching total equal_is_same s fine agree back l old.0 old.1 joined old.2 in
        subst (λ at. Follows (record s { waiting = taken (sending_end l back) s.waiting }) at) (sym is.call_is)
        (stand_message spent (sending_end l back) is.z is.node is.at_j old.0 (said_ (sending_end l back) old.0 old.1 old.2) (subst (λ at. first_cause (causes_of_call cmp matching spent at) ≡ None) is.call_is accepted))

    stand_dropped : (n : ℕ) (back : Bool) → P [] (without_message n back s)
    stand_dropped n back = cases (nth n s.links)
      where
        cases : (o : Option Link) → P [] (let t : Fabric K = elim o [ None ↦ s | Some l ↦ record s { waiting = taken (sending_end l back) s.waiting } ] in t)
        cases None = itself
        cases (Some l) = stand_waiting (taken (sending_end l back) s.waiting) (λ k h. has_taken (sending_end l back) k s.waiting h, taken_rows (sending_end l back) s.waiting agree.links.rows) (inr (sending_end l back, refl))

    -- ---- lines

    stand_accepted : (spent : Bool) (line : PlainLine K) → LineSaid Said line → is_call_or_step line ≡ true → first_cause (line_causes cmp matching spent line s) ≡ None
        → P (sorted_by_face (said_by_line cmp matching line s)) (with_waiting (sorted_by_face (said_by_line cmp matching line s)) (after_hearing cmp (sorted_by_face (said_by_line cmp matching line s)) (altered_by_line cmp matching line s)))
    unfolding line_causes call_of said_by_line altered_by_line
    stand_accepted spent (Step n back) said_ leaves accepted =
        let one = no_cause _ _ _ accepted in
        let two = no_cause _ _ _ one.1 in
        stand_taken spent n back said_ (nth n s.links) refl (not_not one.0) (not_not two.0) two.1
    stand_accepted spent (Speak call) said_ leaves accepted = stand_speech spent call said_ accepted
    stand_accepted spent (Moment n now) said_ leaves accepted = stand_at spent n (Expire now) said_ refl refl (no_cause _ _ _ accepted).1
    stand_accepted spent (SetTreesAt n region t) said_ leaves accepted = stand_at spent n (SetTrees region (table_at s n t)) said_ refl refl (no_cause _ _ _ accepted).1
    stand_accepted spent (Gateway mode zid regions south name timeout refused) said_ leaves accepted = never leaves refl
    stand_accepted spent (Session n first) said_ leaves accepted = never leaves refl
    stand_accepted spent (FaceLine n mode zid region bound first) said_ leaves accepted = never leaves refl
    stand_accepted spent (LinkLine one two first back) said_ leaves accepted = never leaves refl
    stand_accepted spent (Unlink link) said_ leaves accepted = never leaves refl

    pub stand_refused : (line : PlainLine K) (r : Refusal) → P [] (after_refusal cmp matching line r s)
    stand_refused (Step n back) r = of_cond (P []) (nat_lt 3 (number_of r)) (without_message n back s) s (λ _. stand_dropped n back) (λ _. itself)
    stand_refused (Speak call) r = itself
    stand_refused (Moment n now) r = itself
    stand_refused (SetTreesAt n region t) r = itself
    stand_refused (Gateway mode zid regions south name timeout pairs) r = itself
    stand_refused (Session n first) r = itself
    stand_refused (FaceLine n mode zid region bound first) r = itself
    stand_refused (LinkLine one two first back) r = itself
    stand_refused (Unlink link) r = itself

    pub stand_after : (line : PlainLine K) → LineSaid Said line → is_call_or_step line ≡ true → P (messages_of (entry_of cmp matching line s)) (fabric_after cmp matching line (entry_of cmp matching line s) s)
    unfolding fabric_after entry_of
    stand_after line said_ leaves = cases (first_cause (line_causes cmp matching (line_spends_ids cmp matching line s) line s)) refl
      where
        spent : Bool
        spent = line_spends_ids cmp matching line s

        cases : (o : Option Refusal) → first_cause (line_causes cmp matching spent line s) ≡ o → P (messages_of (entry_by cmp matching o (sorted_by_face (said_by_line cmp matching line s)))) (fabric_after cmp matching line (entry_by cmp matching o (sorted_by_face (said_by_line cmp matching line s))) s)
        cases None accepted = stand_accepted spent line said_ leaves accepted
        cases (Some r) refused = stand_refused line r

  -- where nothing is asked of calls
  abbrev pub AnyCall : ℕ → PlainCall K → Type 0
  AnyCall j c = Unit {0}

  any_message : (m : Message K) → MessageSaid AnyCall m
  any_message (message.DeclareToken id e i n) = λ j f. tt
  any_message (message.UndeclareToken id e n) = λ j f. tt
  any_message (message.DeclareFinal id) = λ j f. tt
  any_message (message.Interest id mode options e) = λ j f. tt
  any_message (message.InterestFinal id) = λ j f. tt
  any_message (message.DeclareSubscriber id e i) = λ j f. tt
  any_message (message.DeclareQueryable id e info i) = λ j f. tt

  pub any_line : (line : PlainLine K) → LineSaid AnyCall line
  any_line (Step n back) = λ q m rest is. any_message m
  any_line (Speak call) = λ place k is at_ plain. tt
  any_line (Moment n now) = tt
  any_line (SetTreesAt n region t) = tt
  any_line (Gateway mode zid regions south name timeout refused) = tt
  any_line (Session n first) = tt
  any_line (FaceLine n mode zid region bound first) = tt
  any_line (LinkLine one two first back) = tt
  any_line (Unlink link) = tt

  pub stand_calls : LeftByCalls AnyCall (λ ms t. Stand t)
  stand_calls = λ spent j node c w waits at_j still open_ accepted _ _.
      let prints = prints_sorted s.faces j (said cmp matching c node.rows) in
      let real = calls_nothing cmp matching total c still in (
        links_stand cmp matching total s fine agree j node at_j c real still open_ spent accepted (printed_by j node c) w prints waits.0 waits.1,
        ranks_stand cmp matching total s fine agree j node at_j c real still open_ spent accepted (printed_by j node c) w prints,
      )

  -- A call or a step leaves trees that agree, where it leaves gateways of trees.
  pub trees_after_line : (line : PlainLine K) → is_call_or_step line ≡ true → entry_of cmp matching line s ≢ Err refusal.IdsSpent
      → Each (λ (node : Node K). IsTreeGateway cmp matching node.rows) (fabric_after cmp matching line (entry_of cmp matching line s) s).gateways → TreesAgree cmp matching (fabric_after cmp matching line (entry_of cmp matching line s) s)
  trees_after_line line leaves other gateways =
      let stand = stand_after AnyCall (λ ms t. Stand t) (agree.links, agree.forest) (λ w waits _. links_waiting w waits) stand_calls line (any_line line) leaves in
      record { gateways = gateways; joints = agree_after_line cmp matching total equal_is_same s fine agree line leaves other; links = stand.0; forest = stand.1 }
