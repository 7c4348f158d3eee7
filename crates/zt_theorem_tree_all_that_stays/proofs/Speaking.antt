-- Calls and steps: a fact that calls leave, known who speaks them, and that a message leaves which comes to nothing, is left
-- by each such line.
use Rattle.std.proofs.Common.{◌≡◌, ◌≢◌, ◌⊎◌, inl, inr, ℕ, Bool, true, false, ◌==◌, not, nat_lt, List, [], ◌∷◌, Option, Some, None, Err, is_some, refl, sym, ap, ◌∙◌, subst, eq-eqb, eqb-true, ⊎_elim}
use Rattle.std.specs.Cmp.{IsTotalOrder}
use Rattle.std.specs.declared.cmp.Ordering.{Ordering}
use Rattle.std.specs.declared.cmp.Ordering.TheVariants.{Equal}
use Rattle.zt_protocol.specs.Plain.{PlainCall, NewSession, NewTransport, DeclareToken, UndeclareToken, Interest, InterestFinal, DeclareFinal, CloseFace, Expire, SetTrees, SetEntities, PlainEntry, PlainLine, Gateway, Session, Face as FaceLine, Link as LinkLine, Unlink, Step, Speak, Moment, SetTreesAt}
use Rattle.zt_protocol.specs.Refusal.{number_of}
use Rattle.zt_protocol.specs.declared.entries.Sent.{Sent}
use Rattle.zt_protocol.specs.declared.errors.Refusal.{Refusal}
use Rattle.zt_protocol.specs.declared.errors.Refusal.TheVariants as refusal
use Rattle.zt_protocol.specs.declared.messages.Message.{Message}
use Rattle.zt_protocol.specs.declared.messages.Message.TheVariants as message
use Rattle.zt_model.specs.Fabric.{CallAt, Fabric, Link, Node, Place, after_hearing, after_refusal, altered_by_line, line_causes, call_at, call_at_place, call_face, call_of, call_of_face, call_of_step, causes_of_call, entry_by, entry_of, fabric_after, is_linked_face, line_causes, line_spends_ids, said_at, said_by_line, sorted_by_face, table_at, with_call_face, with_waiting, without_message}
use Rattle.zt_model.specs.Linking.{call_of_message, oldest, sending_end, speaking_end, waiting_of}
use Rattle.zt_model.specs.Lists.{has_id, is_some_and, nth, rest_of}
use Rattle.zt_model.specs.Parts.{find_face}
use Rattle.zt_model.specs.Refusals.{Causes, call_causes, first_cause}
use Rattle.zt_model.specs.Rows.{ById}
use Rattle.zt_model.specs.Says.{said}
use Rattle.zt_model.specs.Transcript.{FaceAt, face_numbered, messages_of}
use Rattle.zt_laws.specs.Order.{FabricIsInOrder}
use Rattle.zt_laws.specs.Sound.{opens_face}
use Rattle.zt_laws.proofs.Calls.{no_cause}
use Rattle.zt_laws.proofs.Gateways.{after_hearing_nothing, prints_sorted}
use Rattle.zt_laws.proofs.Lists.{by_test, never, of_cond}
use Rattle.zt_laws.proofs.LinesOrder.{called_at, calls_nothing}
use Rattle.zt_theorem_tree_invariant.specs.Facts.{TreesAgree}
use Rattle.zt_theorem_tree_invariant.specs.Joints.{are_joined, is_call_or_step}
use Rattle.zt_theorem_tree_invariant.proofs.After.{after_call, joined_ends, some_oldest, step_is, with_nothing}
use Rattle.zt_theorem_tree_invariant.proofs.Lasting.{LineSaid, printed_by, turned_by}
use Rattle.zt_theorem_tree_invariant.proofs.Lines.{after_is, is_linked, same_number}
use Rattle.zt_theorem_tree_invariant.proofs.Members.{is_there}
use Rattle.zt_theorem_tree_invariant.proofs.Quiet.{joined_back}
use Rattle.zt_theorem_tree_invariant.proofs.Stepping.{has_taken, taken}
use Rattle.zt_theorem_tree_invariant.proofs.Turning.{queue}
use Rattle.zt_theorem_tree_all_that_stays.proofs.Taken.{queue_still, queue_taken}
use Rattle.zt_theorem_tree_all_that_stays.proofs.Views.{Speaks}

not_not : {b : Bool} → not b ≡ false → b ≡ true
not_not {b} h = by_test b (λ e. e) (λ e. let t : not b ≡ true = ap not e in never t h)

skip_to : (b : Bool) (cause : Refusal) (causes : Causes) (r : Refusal) → first_cause ((b, cause) ∷ causes) ≡ Some r → ((b ≡ true) × (r ≡ cause)) ⊎ ((b ≡ false) × (first_cause causes ≡ Some r))
unfolding first_cause
skip_to true cause causes r h = let is : cause ≡ r = cc in inl (refl, sym is)
skip_to false cause causes r h = inr (refl, h)

module _ {K : Type 0} (cmp : K → K → Ordering) (matching : K → K → Bool) (total : IsTotalOrder cmp) (equal_is_same : (a b : K) → cmp a b ≡ Equal → a ≡ b) (s : Fabric K) (fine : FabricIsInOrder cmp matching s) (agree : TreesAgree cmp matching s) where
  -- the call that a message is at the face that speaks it
  abbrev pub call_there : FaceAt K → Node K → Message K → Option (CallAt K)
  call_there z node m = elim (call_of_message 0 m) [ None ↦ None | Some call ↦ Some (record { gateway = z.gateway; rows = node.rows; call = with_call_face z.face.number call }) ]

  -- the call is spoken by the end of a link, whose message it is
  pub record IsStepCall (j : ℕ) (c : PlainCall K) : Type 0 where
    pub speaker : ℕ
    pub other : ℕ
    pub joined : are_joined s speaker other ≡ true
    pub at : FaceAt K
    pub at_is : face_numbered s speaker ≡ Some at
    pub here : at.gateway ≡ j
    pub message : Message K
    pub says : call_of_message at.face.number message ≡ Some c

  -- what is left by calls, known who speaks them; `Stepping` says that they may be steps
  abbrev pub LeftBySpoken : (ℕ → PlainCall K → Type 0) → Type 0 → (List (Sent K) → Fabric K → Type 0) → Type 0
  LeftBySpoken Said Stepping P = (spent : Bool) (j : ℕ) (node : Node K) (c : PlainCall K) (w : ById (List (Message K))) → ((k : ℕ) → has_id k s.waiting ≡ true → has_id k w ≡ true) → (at_j : nth j s.gateways ≡ Some node) (still : opens_face c ≡ false) → first_cause (call_causes cmp matching spent c node.rows) ≡ None
      → Speaks cmp matching total s fine j node at_j c (calls_nothing cmp matching total c still) (printed_by cmp matching total equal_is_same s fine agree j node c) w (prints_sorted s.faces j (said cmp matching c node.rows)) → Said j c ⊎ (Stepping × IsStepCall j c)
      → P (printed_by cmp matching total equal_is_same s fine agree j node c) (turned_by cmp matching total equal_is_same s fine agree j node c w at_j still)

  -- and where a message comes to nothing
  abbrev pub LeftByDropped : (List (Sent K) → Fabric K → Type 0) → Type 0
  LeftByDropped P = (q0 q1 : ℕ) → are_joined s q1 q0 ≡ true → (z : FaceAt K) → face_numbered s q1 ≡ Some z → (node : Node K) → nth z.gateway s.gateways ≡ Some node → find_face z.face.number node.rows ≡ Some z.face → (m : Message K) (rest : List (Message K)) → waiting_of s q0 ≡ m ∷ rest
      → ((call_of_message 0 m ≡ None) ⊎ ((spent : Bool) × (r : Refusal) × (first_cause (causes_of_call cmp matching spent (call_there z node m)) ≡ Some r) × (r ≢ refusal.IdsSpent))) → P [] (record s { waiting = taken q0 s.waiting })

  module _ (Said : ℕ → PlainCall K → Type 0) (Stepping : Type 0) (P : List (Sent K) → Fabric K → Type 0) (itself : P [] s) (dropped : LeftByDropped P) (calls : LeftBySpoken Said Stepping P) where
    abbrev Follows : Fabric K → Option (CallAt K) → Type 0
    Follows t at = P (sorted_by_face (said_at cmp matching s at)) (after_call cmp matching total equal_is_same s fine agree t at)

    no_call : (t : Fabric K) → P [] t → Follows t None
    unfolding sorted_by_face
    no_call t all = subst (P []) (sym (ap (with_waiting []) (after_hearing_nothing cmp t) ∙ ap (λ (w : ById (List (Message K))). record t { waiting = w }) (with_nothing t.waiting))) all

    called : (spent : Bool) (j : ℕ) (node : Node K) (c : PlainCall K) (w : ById (List (Message K))) → ((k : ℕ) → has_id k s.waiting ≡ true → has_id k w ≡ true) → (at_j : nth j s.gateways ≡ Some node) (still : opens_face c ≡ false) → first_cause (call_causes cmp matching spent c node.rows) ≡ None
        → Speaks cmp matching total s fine j node at_j c (calls_nothing cmp matching total c still) (printed_by cmp matching total equal_is_same s fine agree j node c) w (prints_sorted s.faces j (said cmp matching c node.rows)) → Said j c ⊎ (Stepping × IsStepCall j c) → Follows (record s { waiting = w }) (Some (record { gateway = j; rows = node.rows; call = c }))
    called spent j node c w waits at_j still accepted speaks how =
        subst (P (printed_by cmp matching total equal_is_same s fine agree j node c)) (sym (after_is cmp matching total s fine agree j node c (printed_by cmp matching total equal_is_same s fine agree j node c) w at_j still (prints_sorted s.faces j (said cmp matching c node.rows))))
        (calls spent j node c w waits at_j still accepted speaks how)

    at_gateway : (spent : Bool) (n : ℕ) (c : PlainCall K) → Said n c → opens_face c ≡ false → call_face c ≡ None → first_cause (causes_of_call cmp matching spent (call_at s n c)) ≡ None → Follows s (call_at s n c)
    at_gateway spent n c said_ still nobody accepted =
        called_at (λ at. first_cause (causes_of_call cmp matching spent at) ≡ None → Follows s at) s n c (λ _. no_call s itself)
        (λ node at_j accepted_. called spent n node c s.waiting (λ k h. h) at_j still accepted_ (λ k b z found joined. inl (record { queue_is = refl; unnamed = λ here m m_is. let bad : None ≡ Some m = sym nobody ∙ m_is in cc })) (inl said_)) accepted

    at_place : (spent : Bool) (call : PlainCall K) (k : ℕ) → is_linked_face s (Some k) ≡ false → ((f : ℕ) → (call_face (with_call_face f call) ≡ Some f) × (opens_face (with_call_face f call) ≡ false)) → ((place : Place) → nth k s.faces ≡ Some place → Said place.gateway (with_call_face place.face call)) → (o : Option Place) → nth k s.faces ≡ o
        → first_cause (causes_of_call cmp matching spent (call_at_place s call o)) ≡ None → Follows s (call_at_place s call o)
    at_place spent call k plain names said_ None at_k accepted = no_call s itself
    at_place spent call k plain names said_ (Some place) at_k accepted =
        called_at (λ at. first_cause (causes_of_call cmp matching spent at) ≡ None → Follows s at) s place.gateway (with_call_face place.face call) (λ _. no_call s itself)
        (λ node at_j accepted_.
        called spent place.gateway node (with_call_face place.face call) s.waiting (λ k h. h) at_j (names place.face).1 accepted_
        (λ a b z found link_.
        inl (record {
          queue_is = refl;
          unnamed = λ here n n_is is.
              let both : Some n ≡ Some place.face = sym n_is ∙ (names place.face).0 in
              let n_place : n ≡ place.face = cc in
              let same_ : a ≡ k = same_number cmp matching total s fine agree k a place z at_k found here (sym is ∙ n_place) node at_j in
              never (subst (λ i. is_linked_face s (Some i) ≡ true) same_ (is_linked cmp matching total s fine agree a b link_)) plain;
        }))
        (inl (said_ place at_k)))
        accepted

    speech : (spent : Bool) (call : PlainCall K) → LineSaid cmp matching total equal_is_same s fine agree Said (Speak call) → first_cause (line_causes cmp matching spent (Speak call) s) ≡ None → Follows s (call_of_face s call (call_face call))
    unfolding line_causes call_of
    speech spent (NewSession first) said_ accepted = never refl (no_cause _ _ _ accepted).0
    speech spent (NewTransport zid whatami region bound first) said_ accepted = never refl (no_cause _ _ _ accepted).0
    speech spent (Expire now) said_ accepted = never refl (no_cause _ _ _ accepted).0
    speech spent (SetTrees region t) said_ accepted = never refl (no_cause _ _ _ accepted).0
    speech spent (CloseFace k) said_ accepted = let two = no_cause _ _ _ (no_cause _ _ _ accepted).1 in at_place spent (CloseFace k) k two.0 (λ f. (refl, refl)) (λ place at_. said_ place k refl at_ two.0) (nth k s.faces) refl two.1
    speech spent (DeclareToken k id e node interest) said_ accepted = let two = no_cause _ _ _ (no_cause _ _ _ accepted).1 in at_place spent (DeclareToken k id e node interest) k two.0 (λ f. (refl, refl)) (λ place at_. said_ place k refl at_ two.0) (nth k s.faces) refl two.1
    speech spent (UndeclareToken k id given node) said_ accepted = let two = no_cause _ _ _ (no_cause _ _ _ accepted).1 in at_place spent (UndeclareToken k id given node) k two.0 (λ f. (refl, refl)) (λ place at_. said_ place k refl at_ two.0) (nth k s.faces) refl two.1
    speech spent (Interest k id mode options e) said_ accepted = let two = no_cause _ _ _ (no_cause _ _ _ accepted).1 in at_place spent (Interest k id mode options e) k two.0 (λ f. (refl, refl)) (λ place at_. said_ place k refl at_ two.0) (nth k s.faces) refl two.1
    speech spent (InterestFinal k id) said_ accepted = let two = no_cause _ _ _ (no_cause _ _ _ accepted).1 in at_place spent (InterestFinal k id) k two.0 (λ f. (refl, refl)) (λ place at_. said_ place k refl at_ two.0) (nth k s.faces) refl two.1
    speech spent (DeclareFinal k id) said_ accepted = let two = no_cause _ _ _ (no_cause _ _ _ accepted).1 in at_place spent (DeclareFinal k id) k two.0 (λ f. (refl, refl)) (λ place at_. said_ place k refl at_ two.0) (nth k s.faces) refl two.1
    speech spent (SetEntities k subscribers queryables) said_ accepted = let two = no_cause _ _ _ (no_cause _ _ _ accepted).1 in at_place spent (SetEntities k subscribers queryables) k two.0 (λ f. (refl, refl)) (λ place at_. said_ place k refl at_ two.0) (nth k s.faces) refl two.1

    -- ---- steps

    module _ (q0 q1 : ℕ) (joined : are_joined s q1 q0 ≡ true) (z : FaceAt K) (z_is : face_numbered s q1 ≡ Some z) (node : Node K) (at_j : nth z.gateway s.gateways ≡ Some node) (found : find_face z.face.number node.rows ≡ Some z.face) (m : Message K) (rest : List (Message K)) (old : waiting_of s q0 ≡ m ∷ rest) (steps : Stepping) where
      abbrev w : ById (List (Message K))
      w = taken q0 s.waiting

      the_same : {A : Type 0} {u v : A} → Some u ≡ Some v → u ≡ v
      the_same h = cc

      spoken : (c : PlainCall K) (still : opens_face c ≡ false) → call_of_message z.face.number m ≡ Some c → call_face c ≡ Some z.face.number
          → Speaks cmp matching total s fine z.gateway node at_j c (calls_nothing cmp matching total c still) (printed_by cmp matching total equal_is_same s fine agree z.gateway node c) w (prints_sorted s.faces z.gateway (said cmp matching c node.rows))
      spoken c still says names = λ k b u u_is link_.
          by_test (q0 == b)
          (λ here.
          let b_is : b ≡ q0 = sym (eqb-true q0 b here) in
          let k_is : k ≡ q1 = agree.links.once b k q1 (joined_back s k b link_) (subst (λ x. are_joined s x q1 ≡ true) (sym b_is) (joined_back s q1 q0 joined)) in
          let u_same : u ≡ z = the_same (sym u_is ∙ ap (face_numbered s) k_is ∙ z_is) in
          inr (record {
            here = ap (λ (v : FaceAt K). v.gateway) u_same;
            message = m;
            oldest = ap (waiting_of s) b_is ∙ old ∙ ap (λ ms. m ∷ ms) (sym (ap (queue w) b_is ∙ queue_taken q0 s.waiting ∙ ap rest_of old));
            says = ap (λ (v : FaceAt K). call_of_message v.face.number m) u_same ∙ says;
          }))
          (λ apart.
          inl (record {
            queue_is = queue_still q0 b s.waiting apart;
            unnamed = λ here n n_is is.
                let both : Some n ≡ Some z.face.number = sym n_is ∙ names in
                let n_z : n ≡ z.face.number = cc in
                let at_ = is_there s q1 z z_is in
                let k_is : k ≡ q1 = same_number cmp matching total s fine agree q1 k at_.place u at_.place_is u_is (here ∙ sym at_.gateway_is) (sym is ∙ n_z ∙ sym at_.number_is) node (ap (λ i. nth i s.gateways) at_.gateway_is ∙ at_j) in
                let b_is : b ≡ q0 = agree.links.once q1 b q0 (subst (λ x. are_joined s x b ≡ true) k_is link_) joined in
                never (eq-eqb q0 b (sym b_is)) apart;
          }))

      abbrev At : Type 0
      At = Follows (record s { waiting = w }) (call_there z node m)

      taken_call : (spent : Bool) (c : PlainCall K) (still : opens_face c ≡ false) → call_of_message z.face.number m ≡ Some c → call_face c ≡ Some z.face.number → first_cause (call_causes cmp matching spent c node.rows) ≡ None → Follows (record s { waiting = w }) (Some (record { gateway = z.gateway; rows = node.rows; call = c }))
      taken_call spent c still says names accepted = called spent z.gateway node c w (λ k h. has_taken q0 k s.waiting h) at_j still accepted (spoken c still says names) (inr (steps, record { speaker = q1; other = q0; joined = joined; at = z; at_is = z_is; here = refl; message = m; says = says }))

    -- the call of each message
    message_call : (spent : Bool) (q0 q1 : ℕ) (joined : are_joined s q1 q0 ≡ true) (z : FaceAt K) (z_is : face_numbered s q1 ≡ Some z) (node : Node K) (at_j : nth z.gateway s.gateways ≡ Some node) (found : find_face z.face.number node.rows ≡ Some z.face) (m : Message K) (rest : List (Message K)) (old : waiting_of s q0 ≡ m ∷ rest) → Stepping
        → first_cause (causes_of_call cmp matching spent (call_there z node m)) ≡ None → Follows (record s { waiting = taken q0 s.waiting }) (call_there z node m)
    message_call spent q0 q1 joined z z_is node at_j found (message.DeclareToken id e i n) rest old steps accepted = taken_call q0 q1 joined z z_is node at_j found (message.DeclareToken id e i n) rest old steps spent (DeclareToken z.face.number id e n i) refl refl refl accepted
    message_call spent q0 q1 joined z z_is node at_j found (message.UndeclareToken id e n) rest old steps accepted = taken_call q0 q1 joined z z_is node at_j found (message.UndeclareToken id e n) rest old steps spent (UndeclareToken z.face.number id e n) refl refl refl accepted
    message_call spent q0 q1 joined z z_is node at_j found (message.DeclareFinal id) rest old steps accepted = taken_call q0 q1 joined z z_is node at_j found (message.DeclareFinal id) rest old steps spent (DeclareFinal z.face.number id) refl refl refl accepted
    message_call spent q0 q1 joined z z_is node at_j found (message.Interest id mode options e) rest old steps accepted = taken_call q0 q1 joined z z_is node at_j found (message.Interest id mode options e) rest old steps spent (Interest z.face.number id mode options e) refl refl refl accepted
    message_call spent q0 q1 joined z z_is node at_j found (message.InterestFinal id) rest old steps accepted = taken_call q0 q1 joined z z_is node at_j found (message.InterestFinal id) rest old steps spent (InterestFinal z.face.number id) refl refl refl accepted
    message_call spent q0 q1 joined z z_is node at_j found (message.DeclareSubscriber id e i) rest old steps accepted = no_call (record s { waiting = taken q0 s.waiting }) (dropped q0 q1 joined z z_is node at_j found (message.DeclareSubscriber id e i) rest old (inl refl))
    message_call spent q0 q1 joined z z_is node at_j found (message.DeclareQueryable id e info i) rest old steps accepted = no_call (record s { waiting = taken q0 s.waiting }) (dropped q0 q1 joined z z_is node at_j found (message.DeclareQueryable id e info i) rest old (inl refl))

    step_taken : Stepping → (spent : Bool) (n : ℕ) (back : Bool) (o : Option Link) → nth n s.links ≡ o → is_some_and o (λ l. l.is_open) ≡ true → is_some_and o (λ l. is_some (oldest s l back)) ≡ true → first_cause (causes_of_call cmp matching spent (call_of_step s back o)) ≡ None
        → Follows (let t : Fabric K = elim o [ None ↦ s | Some l ↦ record s { waiting = taken (sending_end l back) s.waiting } ] in t) (call_of_step s back o)
    step_taken steps spent n back None at_ open_ there accepted = never open_ refl
    step_taken steps spent n back (Some l) at_ open_ there accepted =
        let joined = joined_ends cmp matching total equal_is_same s fine agree n l back at_ open_ in
        let old = some_oldest cmp matching total equal_is_same s fine agree n l back there in
        let is = step_is cmp matching total equal_is_same s fine agree back l old.0 old.1 joined old.2 in
        subst (λ at. Follows (record s { waiting = taken (sending_end l back) s.waiting }) at) (sym is.call_is)
        (message_call spent (sending_end l back) (speaking_end l back) joined is.z is.z_is is.node is.at_j is.found old.0 old.1 old.2 steps (subst (λ at. first_cause (causes_of_call cmp matching spent at) ≡ None) is.call_is accepted))

    step_dropped : (spent : Bool) (n : ℕ) (back : Bool) (r : Refusal) (o : Option Link) → nth n s.links ≡ o → is_some_and o (λ l. l.is_open) ≡ true → is_some_and o (λ l. is_some (oldest s l back)) ≡ true → first_cause (causes_of_call cmp matching spent (call_of_step s back o)) ≡ Some r → r ≢ refusal.IdsSpent
        → P [] (let t : Fabric K = elim o [ None ↦ s | Some l ↦ record s { waiting = taken (sending_end l back) s.waiting } ] in t)
    step_dropped spent n back r None at_ open_ there refused other = itself
    step_dropped spent n back r (Some l) at_ open_ there refused other =
        let joined = joined_ends cmp matching total equal_is_same s fine agree n l back at_ open_ in
        let old = some_oldest cmp matching total equal_is_same s fine agree n l back there in
        let is = step_is cmp matching total equal_is_same s fine agree back l old.0 old.1 joined old.2 in
        dropped (sending_end l back) (speaking_end l back) joined is.z is.z_is is.node is.at_j is.found old.0 old.1 old.2 (inr (spent, r, subst (λ at. first_cause (causes_of_call cmp matching spent at) ≡ Some r) is.call_is refused, other))

    -- ---- lines

    step_refused : (spent : Bool) (n : ℕ) (back : Bool) (r : Refusal) → first_cause (line_causes cmp matching spent (Step n back) s) ≡ Some r → r ≢ refusal.IdsSpent → P [] (after_refusal cmp matching (Step n back) r s)
    unfolding line_causes call_of
    step_refused spent n back r refused other =
        of_cond (P []) (nat_lt 3 (number_of r)) (without_message n back s) s
        (λ far.
        ⊎_elim (λ first. never (ap (λ x. nat_lt 3 (number_of x)) (sym first.1) ∙ far) refl)
        (λ two.
        ⊎_elim (λ first. never (ap (λ x. nat_lt 3 (number_of x)) (sym first.1) ∙ far) refl)
        (λ three. step_dropped spent n back r (nth n s.links) refl (not_not two.0) (not_not three.0) three.1 other)
        (skip_to _ refusal.EmptyLink _ r two.1))
        (skip_to _ refusal.UnknownLink _ r refused))
        (λ _. itself)

    abbrev pub SaidBy : PlainLine K → Type 0
    SaidBy (Step n back) = Stepping
    SaidBy line = LineSaid cmp matching total equal_is_same s fine agree Said line

    accepted_line : (spent : Bool) (line : PlainLine K) → SaidBy line → is_call_or_step line ≡ true → first_cause (line_causes cmp matching spent line s) ≡ None
        → P (sorted_by_face (said_by_line cmp matching line s)) (with_waiting (sorted_by_face (said_by_line cmp matching line s)) (after_hearing cmp (sorted_by_face (said_by_line cmp matching line s)) (altered_by_line cmp matching line s)))
    unfolding line_causes call_of said_by_line altered_by_line
    accepted_line spent (Step n back) said_ leaves accepted =
        let one = no_cause _ _ _ accepted in
        let two = no_cause _ _ _ one.1 in
        step_taken said_ spent n back (nth n s.links) refl (not_not one.0) (not_not two.0) two.1
    accepted_line spent (Speak call) said_ leaves accepted = speech spent call said_ accepted
    accepted_line spent (Moment n now) said_ leaves accepted = at_gateway spent n (Expire now) said_ refl refl (no_cause _ _ _ accepted).1
    accepted_line spent (SetTreesAt n region t) said_ leaves accepted = at_gateway spent n (SetTrees region (table_at s n t)) said_ refl refl (no_cause _ _ _ accepted).1
    accepted_line spent (Gateway mode zid regions south name timeout refused) said_ leaves accepted = never leaves refl
    accepted_line spent (Session n first) said_ leaves accepted = never leaves refl
    accepted_line spent (FaceLine n mode zid region bound first) said_ leaves accepted = never leaves refl
    accepted_line spent (LinkLine one two first back) said_ leaves accepted = never leaves refl
    accepted_line spent (Unlink link) said_ leaves accepted = never leaves refl

    refused_line : (spent : Bool) (line : PlainLine K) (r : Refusal) → first_cause (line_causes cmp matching spent line s) ≡ Some r → r ≢ refusal.IdsSpent → P [] (after_refusal cmp matching line r s)
    refused_line spent (Step n back) r refused other = step_refused spent n back r refused other
    refused_line spent (Speak call) r refused other = itself
    refused_line spent (Moment n now) r refused other = itself
    refused_line spent (SetTreesAt n region t) r refused other = itself
    refused_line spent (Gateway mode zid regions south name timeout pairs) r refused other = itself
    refused_line spent (Session n first) r refused other = itself
    refused_line spent (FaceLine n mode zid region bound first) r refused other = itself
    refused_line spent (LinkLine one two first back) r refused other = itself
    refused_line spent (Unlink link) r refused other = itself

    pub spoken_after : (line : PlainLine K) → SaidBy line → is_call_or_step line ≡ true → entry_of cmp matching line s ≢ Err refusal.IdsSpent → P (messages_of (entry_of cmp matching line s)) (fabric_after cmp matching line (entry_of cmp matching line s) s)
    unfolding fabric_after entry_of
    spoken_after line said_ leaves other = cases (first_cause (line_causes cmp matching (line_spends_ids cmp matching line s) line s)) refl other
      where
        spent : Bool
        spent = line_spends_ids cmp matching line s

        cases : (o : Option Refusal) → first_cause (line_causes cmp matching spent line s) ≡ o → entry_by cmp matching o (sorted_by_face (said_by_line cmp matching line s)) ≢ Err refusal.IdsSpent → P (messages_of (entry_by cmp matching o (sorted_by_face (said_by_line cmp matching line s)))) (fabric_after cmp matching line (entry_by cmp matching o (sorted_by_face (said_by_line cmp matching line s))) s)
        cases None accepted other_ = accepted_line spent line said_ leaves accepted
        cases (Some r) refused other_ = refused_line spent line r refused (λ is. other_ (ap (λ (x : Refusal). (let d : PlainEntry K = Err x in d)) is))
