-- Lines that open and close no link: after each of them all joints agree.
use Rattle.std.proofs.Common.{◌≡◌, ◌≢◌, ◌⊎◌, inl, inr, ℕ, ◌-◌, ◌≤◌, Bool, true, false, ◌&&◌, ◌==◌, not, nat_lt, List, [], ◌∷◌, ◌++◌, length, map, Option, Some, None, Err, is_some, refl, sym, ap, ◌∙◌, subst, eq-eqb, ⊎_elim}
use Rattle.std.proofs.lemmas.Bool.{and_from, or_left, or_right}
use Rattle.std.specs.Cmp.{IsTotalOrder}
use Rattle.std.specs.List.{list_any}
use Rattle.std.specs.declared.cmp.Ordering.{Ordering}
use Rattle.std.specs.declared.cmp.Ordering.TheVariants.{Equal}
use Rattle.zt_region.specs.Region.{is_north}
use Rattle.zt_protocol.specs.Plain.{PlainCall, PlainEntry, NewSession, NewTransport, DeclareToken, UndeclareToken, Interest, InterestFinal, DeclareFinal, CloseFace, Expire, SetTrees, SetEntities, PlainLine, Gateway, Session, Face as FaceLine, Link as LinkLine, Unlink, Step, Speak, Moment, SetTreesAt}
use Rattle.zt_protocol.specs.Refusal.{number_of}
use Rattle.zt_protocol.specs.declared.entries.Sent.{Sent}
use Rattle.zt_protocol.specs.declared.errors.Refusal.{Refusal}
use Rattle.zt_protocol.specs.declared.errors.Refusal.TheVariants as refusal
use Rattle.zt_protocol.specs.declared.messages.Message.{Message}
use Rattle.zt_protocol.specs.declared.messages.Message.TheVariants as message
use Rattle.zt_model.specs.Fabric.{CallAt, Fabric, Link, Node, Place, after_hearing, after_refusal, altered_at, altered_by_line, line_causes, call_at, call_at_place, call_face, call_of, call_of_face, call_of_step, causes_of_call, entry_by, entry_of, fabric_after, is_linked_face, line_causes, line_spends_ids, printed_for, said_at, said_by_line, sorted_by_face, table_at, with_call_face, with_waiting, without_message}
use Rattle.zt_model.specs.Linking.{call_of_message, oldest, sending_end, speaking_end, waiting_of}
use Rattle.zt_model.specs.Lists.{first_of, is_some_and, nth}
use Rattle.zt_model.specs.Parts.{find_face}
use Rattle.zt_model.specs.Refusals.{Causes, GREATEST_DICTIONARY, call_causes, first_cause}
use Rattle.zt_model.specs.Rows.{ById, Face}
use Rattle.zt_model.specs.Says.{said}
use Rattle.zt_model.specs.Transcript.{FaceAt, face_numbered}
use Rattle.zt_laws.specs.Order.{FabricIsInOrder, HasRowsInOrder}
use Rattle.zt_laws.specs.Sound.{RiseFrom, opens_face}
use Rattle.zt_laws.proofs.Calls.{no_cause}
use Rattle.zt_laws.proofs.Gateways.{after_hearing_nothing, prints_sorted}
use Rattle.zt_laws.proofs.Hearing.{find_each}
use Rattle.zt_laws.proofs.Lists.{by_test, never, of_cond}
use Rattle.zt_laws.proofs.LinesOrder.{called_at, calls_nothing, gateway_in_order}
use Rattle.zt_theorem_tree_invariant.specs.Facts.{IsTreeGateway, JointAgrees, TreesAgree, tokens_by}
use Rattle.zt_theorem_tree_invariant.specs.Joints.{EachJoint, are_joined, is_call_or_step, joins}
use Rattle.zt_theorem_tree_invariant.proofs.Lines.{after_is, hears_call, is_linked, kept_called, same_number, tree_rows}
use Rattle.zt_theorem_tree_invariant.proofs.Members.{each_nth, is_there}
use Rattle.zt_theorem_tree_invariant.proofs.Saying.{TreeRows}
use Rattle.zt_theorem_tree_invariant.proofs.Stepping.{step_drops, step_keeps, taken}
use Rattle.zt_theorem_tree_invariant.proofs.Steps.{Speaks, lower_finish, lower_ignores, lower_token, lower_token_refused, lower_untoken, lower_untoken_refused, upper_final, upper_final_refused, upper_interest, upper_interest_refused, upper_token, upper_token_refused, upper_untoken, upper_untoken_refused}

member_passes : {A : Type 0} (n : ℕ) (p : A → Bool) (xs : List A) (x : A) → nth n xs ≡ Some x → p x ≡ true → list_any p xs ≡ true
member_passes n p [] x at_ passes = cc
member_passes {A} n p (y ∷ xs) x at_ passes =
    by_test (n == 1)
    (λ here. let e : Some y ≡ Some x = rw here at at_ in let is : y ≡ x = cc in or_left (p y) (list_any p xs) (ap p is ∙ passes))
    (λ here. or_right (p y) (list_any p xs) (member_passes (n - 1) p xs x (rw here at at_) passes))

module _ {K : Type 0} where
  pub with_nothing : (w : ById (List (Message K))) → map (λ row. (row.0, row.1 ++ printed_for row.0 (let none_ : List (Sent K) = [] in none_))) w ≡ w
  unfolding printed_for
  with_nothing [] = refl
  with_nothing (row ∷ w) = ap (λ ms. (row.0, ms) ∷ map (λ r. (r.0, r.1 ++ printed_for r.0 (let none_ : List (Sent K) = [] in none_))) w) (no_more row.1) ∙ ap (λ rest. row ∷ rest) (with_nothing w)
    where
      no_more : (xs : List (Message K)) → xs ++ [] ≡ xs
      no_more [] = refl
      no_more (x ∷ xs) = ap (λ ys. x ∷ ys) (no_more xs)

module _ {K : Type 0} (cmp : K → K → Ordering) (matching : K → K → Bool) (total : IsTotalOrder cmp) (equal_is_same : (a b : K) → cmp a b ≡ Equal → a ≡ b) (s : Fabric K) (fine : FabricIsInOrder cmp matching s) (agree : TreesAgree cmp matching s) where
  abbrev AllAgree : Fabric K → Type 0
  AllAgree t = EachJoint (JointAgrees cmp) t

  -- the fabric after what an accepted call says and changes, where there is one
  abbrev pub after_call : Fabric K → Option (CallAt K) → Fabric K
  after_call t at = with_waiting (sorted_by_face (said_at cmp matching s at)) (after_hearing cmp (sorted_by_face (said_at cmp matching s at)) (altered_at cmp matching t at))

  after_no_call : (t : Fabric K) → AllAgree t → AllAgree (after_call t None)
  unfolding sorted_by_face
  after_no_call t all = subst AllAgree (sym (ap (with_waiting []) (after_hearing_nothing cmp t) ∙ ap (λ (w : ById (List (Message K))). record t { waiting = w }) (with_nothing t.waiting))) all

  -- a call that no end of a link makes
  after_other : (spent : Bool) (j : ℕ) (node : Node K) (c : PlainCall K) → nth j s.gateways ≡ Some node → opens_face c ≡ false → first_cause (call_causes cmp matching spent c node.rows) ≡ None
      → ((k b n : ℕ) (z : FaceAt K) → face_numbered s k ≡ Some z → are_joined s k b ≡ true → z.gateway ≡ j → call_face c ≡ Some n → n ≢ z.face.number)
      → AllAgree (after_call s (Some (record { gateway = j; rows = node.rows; call = c })))
  after_other spent j node c at_j still accepted apart =
      let ms = sorted_by_face (said_at cmp matching s (Some (record { gateway = j; rows = node.rows; call = c }))) in
      let prints = prints_sorted s.faces j (said cmp matching c node.rows) in
      subst AllAgree (sym (after_is cmp matching total s fine agree j node c ms s.waiting at_j still prints))
      (kept_called cmp matching total s fine agree j node c ms at_j (calls_nothing cmp matching total c still) prints
      (λ k b z found link_ here.
      let at_ = is_there s k z found in
      let e : Some at_.node ≡ Some node = sym at_.node_is ∙ ap (λ g. nth g s.gateways) here ∙ at_j in
      let n : at_.node ≡ node = cc in
      hears_call cmp matching spent c node.rows z.face.number z.face (tree_rows cmp matching s j node fine agree at_j) accepted still (λ n n_is. apart k b n z found link_ here n_is)
      (ap (λ (x : Node K). find_face z.face.number x.rows) (sym n) ∙ ap (find_face z.face.number) at_.rows_are ∙ at_.face_is)))

  -- ---- what a plain face says

  spoken_at : (spent : Bool) (call : PlainCall K) (k : ℕ) → is_linked_face s (Some k) ≡ false → ((f : ℕ) → (call_face (with_call_face f call) ≡ Some f) × (opens_face (with_call_face f call) ≡ false)) → (o : Option Place) → nth k s.faces ≡ o
      → first_cause (causes_of_call cmp matching spent (call_at_place s call o)) ≡ None → AllAgree (after_call s (call_at_place s call o))
  spoken_at spent call k plain names None at_k accepted = after_no_call s agree.joints
  spoken_at spent call k plain names (Some place) at_k accepted =
      called_at (λ at. first_cause (causes_of_call cmp matching spent at) ≡ None → AllAgree (after_call s at)) s place.gateway (with_call_face place.face call) (λ _. after_no_call s agree.joints)
      (λ node at_j accepted_. after_other spent place.gateway node (with_call_face place.face call) at_j (names place.face).1 accepted_
      (λ a b n z found link_ here n_is is.
      let both : Some n ≡ Some place.face = sym n_is ∙ (names place.face).0 in
      let n_place : n ≡ place.face = cc in
      let same_ : a ≡ k = same_number cmp matching total s fine agree k a place z at_k found here (sym is ∙ n_place) node at_j in
      never (subst (λ i. is_linked_face s (Some i) ≡ true) same_ (is_linked cmp matching total s fine agree a b link_)) plain))
      accepted

  after_speech : (spent : Bool) (call : PlainCall K) → first_cause (line_causes cmp matching spent (Speak call) s) ≡ None → AllAgree (after_call s (call_of_face s call (call_face call)))
  unfolding line_causes call_of
  after_speech spent (NewSession first) accepted = never refl (no_cause _ _ _ accepted).0
  after_speech spent (NewTransport zid whatami region bound first) accepted = never refl (no_cause _ _ _ accepted).0
  after_speech spent (Expire now) accepted = never refl (no_cause _ _ _ accepted).0
  after_speech spent (SetTrees region t) accepted = never refl (no_cause _ _ _ accepted).0
  after_speech spent (DeclareToken k id e node interest) accepted = let two = no_cause _ _ _ (no_cause _ _ _ accepted).1 in spoken_at spent (DeclareToken k id e node interest) k two.0 (λ f. (refl, refl)) (nth k s.faces) refl two.1
  after_speech spent (UndeclareToken k id given node) accepted = let two = no_cause _ _ _ (no_cause _ _ _ accepted).1 in spoken_at spent (UndeclareToken k id given node) k two.0 (λ f. (refl, refl)) (nth k s.faces) refl two.1
  after_speech spent (Interest k id mode options e) accepted = let two = no_cause _ _ _ (no_cause _ _ _ accepted).1 in spoken_at spent (Interest k id mode options e) k two.0 (λ f. (refl, refl)) (nth k s.faces) refl two.1
  after_speech spent (InterestFinal k id) accepted = let two = no_cause _ _ _ (no_cause _ _ _ accepted).1 in spoken_at spent (InterestFinal k id) k two.0 (λ f. (refl, refl)) (nth k s.faces) refl two.1
  after_speech spent (DeclareFinal k id) accepted = let two = no_cause _ _ _ (no_cause _ _ _ accepted).1 in spoken_at spent (DeclareFinal k id) k two.0 (λ f. (refl, refl)) (nth k s.faces) refl two.1
  after_speech spent (CloseFace k) accepted = let two = no_cause _ _ _ (no_cause _ _ _ accepted).1 in spoken_at spent (CloseFace k) k two.0 (λ f. (refl, refl)) (nth k s.faces) refl two.1
  after_speech spent (SetEntities k subscribers queryables) accepted = let two = no_cause _ _ _ (no_cause _ _ _ accepted).1 in spoken_at spent (SetEntities k subscribers queryables) k two.0 (λ f. (refl, refl)) (nth k s.faces) refl two.1

  -- a call that is made at a gateway, of no face
  after_gateway_call : (spent : Bool) (n : ℕ) (c : PlainCall K) → opens_face c ≡ false → call_face c ≡ None → first_cause (causes_of_call cmp matching spent (call_at s n c)) ≡ None → AllAgree (after_call s (call_at s n c))
  after_gateway_call spent n c still no_face accepted =
      called_at (λ at. first_cause (causes_of_call cmp matching spent at) ≡ None → AllAgree (after_call s at)) s n c (λ _. after_no_call s agree.joints)
      (λ node at_j accepted_. after_other spent n node c at_j still accepted_ (λ a b k z found link_ here k_is. let bad : None ≡ Some k = sym no_face ∙ k_is in cc)) accepted

  -- ---- steps

  pub joined_ends : (n : ℕ) (l : Link) (back : Bool) → nth n s.links ≡ Some l → l.is_open ≡ true → are_joined s (speaking_end l back) (sending_end l back) ≡ true
  joined_ends n l true at_ open_ =
      member_passes n (λ link. link.is_open && joins l.one l.two link) s.links l at_
      (and_from l.is_open (joins l.one l.two l) open_ (or_left ((l.one == l.one) && (l.two == l.two)) ((l.one == l.two) && (l.two == l.one)) (and_from (l.one == l.one) (l.two == l.two) (eq-eqb l.one l.one refl) (eq-eqb l.two l.two refl))))
  joined_ends n l false at_ open_ =
      member_passes n (λ link. link.is_open && joins l.two l.one link) s.links l at_
      (and_from l.is_open (joins l.two l.one l) open_ (or_right ((l.two == l.one) && (l.one == l.two)) ((l.two == l.two) && (l.one == l.one)) (and_from (l.two == l.two) (l.one == l.one) (eq-eqb l.two l.two refl) (eq-eqb l.one l.one refl))))

  -- the end that speaks: its gateway, and what its rows are like
  module _ (q0 q1 : ℕ) (joined : are_joined s q1 q0 ≡ true) (z : FaceAt K) (z_is : face_numbered s q1 ≡ Some z) (node : Node K) (at_j : nth z.gateway s.gateways ≡ Some node) (found : find_face z.face.number node.rows ≡ Some z.face) where
    rows : TreeRows cmp node.rows
    rows = tree_rows cmp matching s z.gateway node fine agree at_j

    lives : RiseFrom (λ row. row.0) 0 z.face.live
    lives = (find_each HasRowsInOrder (λ (h : Face K). z.face.number == h.number) node.rows.faces z.face (gateway_in_order cmp matching s z.gateway node at_j fine).rows.lists.rows found).live

    room : length node.rows.dictionary ≤ GREATEST_DICTIONARY
    room = (each_nth (λ (x : Node K). IsTreeGateway cmp matching x.rows) z.gateway s.gateways node agree.gateways at_j).dictionary

    -- the call of a message there
    abbrev call_there : Message K → Option (CallAt K)
    call_there m = elim (call_of_message 0 m) [ None ↦ None | Some call ↦ Some (record { gateway = z.gateway; rows = node.rows; call = with_call_face z.face.number call }) ]

    abbrev without_oldest : Fabric K
    without_oldest = record s { waiting = taken q0 s.waiting }

    -- ---- accepted

    took : (spent : Bool) (m : Message K) (rest : List (Message K)) (c : PlainCall K) → waiting_of s q0 ≡ m ∷ rest → (still : opens_face c ≡ false) → call_face c ≡ Some z.face.number → first_cause (call_causes cmp matching spent c node.rows) ≡ None
        → ((y : Face K) (rising : List (Message K)) → is_north z.face.region ≡ true → JointAgrees cmp z.face y rising (m ∷ rest) → Speaks cmp matching total equal_is_same node.rows z.face.number z.face rows found lives c (λ h. JointAgrees cmp h y rising rest))
        → ((x : Face K) (falling : List (Message K)) → is_north z.face.region ≡ false → JointAgrees cmp x z.face (m ∷ rest) falling → Speaks cmp matching total equal_is_same node.rows z.face.number z.face rows found lives c (λ h. JointAgrees cmp x h rest falling))
        → AllAgree (after_call without_oldest (Some (record { gateway = z.gateway; rows = node.rows; call = c })))
    took spent m rest c oldest_is still names accepted low high =
        let ms = sorted_by_face (said_at cmp matching s (Some (record { gateway = z.gateway; rows = node.rows; call = c }))) in
        let prints = prints_sorted s.faces z.gateway (said cmp matching c node.rows) in
        subst AllAgree (sym (after_is cmp matching total s fine agree z.gateway node c ms (taken q0 s.waiting) at_j still prints))
        (step_keeps cmp matching total s fine agree q0 q1 joined m rest oldest_is z.gateway node at_j c (calls_nothing cmp matching total c still) still ms prints spent accepted z z_is refl names
        (λ y rising up j. let sp = low y rising up j in record { after = sp.after; altered_is = sp.altered_is; region = sp.region; well = sp.well; agrees = sp.agrees })
        (λ x falling down j. let sp = high x falling down j in record { after = sp.after; altered_is = sp.altered_is; region = sp.region; well = sp.well; agrees = sp.agrees }))

    drops : (m : Message K) (rest : List (Message K)) → waiting_of s q0 ≡ m ∷ rest
        → ((y : Face K) (rising : List (Message K)) → is_north z.face.region ≡ true → JointAgrees cmp z.face y rising (m ∷ rest) → JointAgrees cmp z.face y rising rest)
        → ((x : Face K) (falling : List (Message K)) → is_north z.face.region ≡ false → JointAgrees cmp x z.face (m ∷ rest) falling → JointAgrees cmp x z.face rest falling)
        → AllAgree without_oldest
    drops m rest oldest_is low high =
        step_drops cmp matching total s fine agree q0 q1 joined m rest oldest_is
        (λ u y rising u_is up j.
        let e : Some u ≡ Some z = sym u_is ∙ z_is in
        let is : u ≡ z = cc in
        subst (λ (v : FaceAt K). JointAgrees cmp v.face y.face rising rest) (sym is) (low y.face rising (ap (λ (v : FaceAt K). is_north v.face.region) (sym is) ∙ up) (subst (λ (v : FaceAt K). JointAgrees cmp v.face y.face rising (m ∷ rest)) is j)))
        (λ x u falling u_is down j.
        let e : Some u ≡ Some z = sym u_is ∙ z_is in
        let is : u ≡ z = cc in
        subst (λ (v : FaceAt K). JointAgrees cmp x.face v.face rest falling) (sym is) (high x.face falling (ap (λ (v : FaceAt K). is_north v.face.region) (sym is) ∙ down) (subst (λ (v : FaceAt K). JointAgrees cmp x.face v.face (m ∷ rest) falling) is j)))

    ignores : (m : Message K) (y : Face K) (rising rest : List (Message K)) → tokens_by cmp m z.face.live ≡ z.face.live → JointAgrees cmp z.face y rising (m ∷ rest) → JointAgrees cmp z.face y rising rest
    ignores m y rising rest still j = lower_ignores cmp matching total equal_is_same node.rows z.face.number z.face rows found lives m y rising rest still j

    pub after_step : (spent : Bool) (m : Message K) (rest : List (Message K)) → waiting_of s q0 ≡ m ∷ rest → first_cause (causes_of_call cmp matching spent (call_there m)) ≡ None → AllAgree (after_call without_oldest (call_there m))
    after_step spent (message.DeclareToken id e None n) rest is accepted =
        took spent (message.DeclareToken id e None n) rest (DeclareToken z.face.number id e n None) is refl refl accepted
        (λ y rising up j. lower_token cmp matching total equal_is_same node.rows z.face.number z.face rows found lives spent id n e None y rising rest accepted j)
        (λ x falling down j. upper_token cmp matching total equal_is_same node.rows z.face.number z.face rows found lives spent id n e x rest falling accepted j)
    after_step spent (message.DeclareToken id e (Some i) n) rest is accepted =
        took spent (message.DeclareToken id e (Some i) n) rest (DeclareToken z.face.number id e n (Some i)) is refl refl accepted
        (λ y rising up j. lower_token cmp matching total equal_is_same node.rows z.face.number z.face rows found lives spent id n e (Some i) y rising rest accepted j)
        (λ x falling down j. let none_ : Some i ≡ None = j.for_above.0 in absurd (cc))
    after_step spent (message.UndeclareToken id None n) rest is accepted =
        took spent (message.UndeclareToken id None n) rest (UndeclareToken z.face.number id None n) is refl refl accepted
        (λ y rising up j. lower_untoken cmp matching total equal_is_same node.rows z.face.number z.face rows found lives spent id n None y rising rest accepted j)
        (λ x falling down j. upper_untoken cmp matching total equal_is_same node.rows z.face.number z.face rows found lives spent id n x rest falling accepted j)
    after_step spent (message.UndeclareToken id (Some e) n) rest is accepted =
        took spent (message.UndeclareToken id (Some e) n) rest (UndeclareToken z.face.number id (Some e) n) is refl refl accepted
        (λ y rising up j. lower_untoken cmp matching total equal_is_same node.rows z.face.number z.face rows found lives spent id n (Some e) y rising rest accepted j)
        (λ x falling down j. let none_ : Some e ≡ None = j.for_above.0 in absurd (cc))
    after_step spent (message.DeclareFinal id) rest is accepted =
        took spent (message.DeclareFinal id) rest (DeclareFinal z.face.number id) is refl refl accepted
        (λ y rising up j. lower_finish cmp matching total equal_is_same node.rows z.face.number z.face rows found lives id y rising rest j)
        (λ x falling down j. absurd j.for_above.0)
    after_step spent (message.Interest id mode options e) rest is accepted =
        took spent (message.Interest id mode options e) rest (Interest z.face.number id mode options e) is refl refl accepted
        (λ y rising up j. absurd j.for_below.0)
        (λ x falling down j. upper_interest cmp matching total equal_is_same node.rows z.face.number z.face rows found lives id mode options e x rest falling down j)
    after_step spent (message.InterestFinal id) rest is accepted =
        took spent (message.InterestFinal id) rest (InterestFinal z.face.number id) is refl refl accepted
        (λ y rising up j. absurd j.for_below.0)
        (λ x falling down j. upper_final cmp matching total equal_is_same node.rows z.face.number z.face rows found lives spent id x rest falling accepted j)
    after_step spent (message.DeclareSubscriber id e i) rest is accepted =
        after_no_call without_oldest (drops (message.DeclareSubscriber id e i) rest is (λ y rising up j. ignores (message.DeclareSubscriber id e i) y rising rest refl j) (λ x falling down j. absurd j.for_above.0))
    after_step spent (message.DeclareQueryable id e info i) rest is accepted =
        after_no_call without_oldest (drops (message.DeclareQueryable id e info i) rest is (λ y rising up j. ignores (message.DeclareQueryable id e info i) y rising rest refl j) (λ x falling down j. absurd j.for_above.0))

    -- ---- refused, but not for want of ids

    pub after_refused_step : (spent : Bool) (m : Message K) (rest : List (Message K)) (r : Refusal) → waiting_of s q0 ≡ m ∷ rest → first_cause (causes_of_call cmp matching spent (call_there m)) ≡ Some r → r ≢ refusal.IdsSpent → AllAgree without_oldest
    after_refused_step spent (message.DeclareToken id e None n) rest r is refused other =
        drops (message.DeclareToken id e None n) rest is
        (λ y rising up j. lower_token_refused cmp matching total equal_is_same node.rows z.face.number z.face rows found lives spent id n e None r y rising rest up refused other j)
        (λ x falling down j. upper_token_refused cmp matching total equal_is_same node.rows z.face.number z.face rows found lives spent id n e r x rest falling down refused other j)
    after_refused_step spent (message.DeclareToken id e (Some i) n) rest r is refused other =
        drops (message.DeclareToken id e (Some i) n) rest is
        (λ y rising up j. lower_token_refused cmp matching total equal_is_same node.rows z.face.number z.face rows found lives spent id n e (Some i) r y rising rest up refused other j)
        (λ x falling down j. let none_ : Some i ≡ None = j.for_above.0 in absurd (cc))
    after_refused_step spent (message.UndeclareToken id None n) rest r is refused other =
        drops (message.UndeclareToken id None n) rest is
        (λ y rising up j. lower_untoken_refused cmp matching total equal_is_same node.rows z.face.number z.face rows found lives spent id n None r y rising rest refused j)
        (λ x falling down j. upper_untoken_refused cmp matching total equal_is_same node.rows z.face.number z.face rows found lives spent id n r x rest falling refused j)
    after_refused_step spent (message.UndeclareToken id (Some e) n) rest r is refused other =
        drops (message.UndeclareToken id (Some e) n) rest is
        (λ y rising up j. lower_untoken_refused cmp matching total equal_is_same node.rows z.face.number z.face rows found lives spent id n (Some e) r y rising rest refused j)
        (λ x falling down j. let none_ : Some e ≡ None = j.for_above.0 in absurd (cc))
    after_refused_step spent (message.DeclareFinal id) rest r is refused other = drops (message.DeclareFinal id) rest is (λ y rising up j. ignores (message.DeclareFinal id) y rising rest refl j) (λ x falling down j. absurd j.for_above.0)
    after_refused_step spent (message.Interest id mode options e) rest r is refused other =
        drops (message.Interest id mode options e) rest is (λ y rising up j. absurd j.for_below.0)
        (λ x falling down j. upper_interest_refused cmp matching total equal_is_same node.rows z.face.number z.face rows found lives spent id mode options e r x rest falling down room refused other j)
    after_refused_step spent (message.InterestFinal id) rest r is refused other =
        drops (message.InterestFinal id) rest is (λ y rising up j. absurd j.for_below.0)
        (λ x falling down j. upper_final_refused cmp matching total equal_is_same node.rows z.face.number z.face rows found lives spent id r x rest falling refused j)
    after_refused_step spent (message.DeclareSubscriber id e i) rest r is refused other = drops (message.DeclareSubscriber id e i) rest is (λ y rising up j. ignores (message.DeclareSubscriber id e i) y rising rest refl j) (λ x falling down j. absurd j.for_above.0)
    after_refused_step spent (message.DeclareQueryable id e info i) rest r is refused other = drops (message.DeclareQueryable id e info i) rest is (λ y rising up j. ignores (message.DeclareQueryable id e info i) y rising rest refl j) (λ x falling down j. absurd j.for_above.0)

  -- ---- the call of a step's line

  pub record StepIs (back : Bool) (l : Link) (m : Message K) : Type 0 where
    pub z : FaceAt K
    pub z_is : face_numbered s (speaking_end l back) ≡ Some z
    pub node : Node K
    pub at_j : nth z.gateway s.gateways ≡ Some node
    pub found : find_face z.face.number node.rows ≡ Some z.face
    pub call_is : call_of_step s back (Some l) ≡ (let at : Option (CallAt K) = elim (call_of_message 0 m) [ None ↦ None | Some call ↦ Some (record { gateway = z.gateway; rows = node.rows; call = with_call_face z.face.number call }) ] in at)

  pub step_is : (back : Bool) (l : Link) (m : Message K) (rest : List (Message K)) → are_joined s (speaking_end l back) (sending_end l back) ≡ true → waiting_of s (sending_end l back) ≡ m ∷ rest → StepIs back l m
  step_is back l m rest joined oldest_is =
      let z = (agree.links.meet (speaking_end l back) (sending_end l back) joined).one in
      let z_is = (agree.links.meet (speaking_end l back) (sending_end l back) joined).one_is in
      let at_ = is_there s (speaking_end l back) z z_is in
      record {
        z = z;
        z_is = z_is;
        node = at_.node;
        at_j = at_.node_is;
        found = ap (find_face z.face.number) at_.rows_are ∙ at_.face_is;
        call_is =
            ap (λ (o : Option (Message K)). (let at : Option (CallAt K) = elim o [ None ↦ None | Some x ↦ elim (call_of_message 0 x) [ None ↦ None | Some call ↦ call_at_place s call (nth (speaking_end l back) s.faces) ] ] in at)) (ap first_of oldest_is)
            ∙ ap (λ (o : Option Place). (let at : Option (CallAt K) = elim (call_of_message 0 m) [ None ↦ None | Some call ↦ call_at_place s call o ] in at)) at_.place_is
            ∙ by_call at_.place at_.gateway_is at_.number_is at_.node at_.node_is (call_of_message 0 m);
      }
    where
      by_call : (place : Place) → place.gateway ≡ (agree.links.meet (speaking_end l back) (sending_end l back) joined).one.gateway → place.face ≡ (agree.links.meet (speaking_end l back) (sending_end l back) joined).one.face.number → (node : Node K) → nth (agree.links.meet (speaking_end l back) (sending_end l back) joined).one.gateway s.gateways ≡ Some node → (o : Option (PlainCall K))
          → (let at : Option (CallAt K) = elim o [ None ↦ None | Some call ↦ call_at s place.gateway (with_call_face place.face call) ] in at)
          ≡ (let at : Option (CallAt K) = elim o [ None ↦ None | Some call ↦ Some (record { gateway = (agree.links.meet (speaking_end l back) (sending_end l back) joined).one.gateway; rows = node.rows; call = with_call_face (agree.links.meet (speaking_end l back) (sending_end l back) joined).one.face.number call }) ] in at)
      by_call place gateway_ face_ node node_is None = refl
      by_call place gateway_ face_ node node_is (Some call) =
          ap (λ f. call_at s place.gateway (with_call_face f call)) face_
          ∙ ap (λ g. call_at s g (with_call_face (agree.links.meet (speaking_end l back) (sending_end l back) joined).one.face.number call)) gateway_
          ∙ ap (λ (o : Option (Node K)). (let at : Option (CallAt K) = elim o [ None ↦ None | Some x ↦ Some (record { gateway = (agree.links.meet (speaking_end l back) (sending_end l back) joined).one.gateway; rows = x.rows; call = with_call_face (agree.links.meet (speaking_end l back) (sending_end l back) joined).one.face.number call }) ] in at)) node_is

  pub some_oldest : (n : ℕ) (l : Link) (back : Bool) → is_some (oldest s l back) ≡ true → (m : Message K) × (rest : List (Message K)) × (waiting_of s (sending_end l back) ≡ m ∷ rest)
  some_oldest n l back there = by_list (waiting_of s (sending_end l back)) refl there
    where
      by_list : (ms : List (Message K)) → waiting_of s (sending_end l back) ≡ ms → is_some (first_of ms) ≡ true → (m : Message K) × (rest : List (Message K)) × (waiting_of s (sending_end l back) ≡ m ∷ rest)
      by_list [] is h = never refl (sym h)
      by_list (m ∷ rest) is h = (m, rest, is)

  not_not : {b : Bool} → not b ≡ false → b ≡ true
  not_not {b} h = by_test b (λ e. e) (λ e. let t : not b ≡ true = ap not e in never t h)

  -- an accepted step
  after_taken : (spent : Bool) (n : ℕ) (back : Bool) (o : Option Link) → nth n s.links ≡ o → is_some_and o (λ l. l.is_open) ≡ true → is_some_and o (λ l. is_some (oldest s l back)) ≡ true → first_cause (causes_of_call cmp matching spent (call_of_step s back o)) ≡ None
      → AllAgree (after_call (let t : Fabric K = elim o [ None ↦ s | Some l ↦ record s { waiting = taken (sending_end l back) s.waiting } ] in t) (call_of_step s back o))
  after_taken spent n back None at_ open_ there accepted = never open_ refl
  after_taken spent n back (Some l) at_ open_ there accepted =
      let joined = joined_ends n l back at_ open_ in
      let old = some_oldest n l back there in
      let is = step_is back l old.0 old.1 joined old.2 in
      subst (λ at. AllAgree (after_call (record s { waiting = taken (sending_end l back) s.waiting }) at)) (sym is.call_is)
      (after_step (sending_end l back) (speaking_end l back) joined is.z is.z_is is.node is.at_j is.found spent old.0 old.1 old.2 (subst (λ at. first_cause (causes_of_call cmp matching spent at) ≡ None) is.call_is accepted))

  -- a step that is refused by its call
  after_dropped : (spent : Bool) (n : ℕ) (back : Bool) (r : Refusal) (o : Option Link) → nth n s.links ≡ o → is_some_and o (λ l. l.is_open) ≡ true → is_some_and o (λ l. is_some (oldest s l back)) ≡ true → first_cause (causes_of_call cmp matching spent (call_of_step s back o)) ≡ Some r → r ≢ refusal.IdsSpent
      → AllAgree (let t : Fabric K = elim o [ None ↦ s | Some l ↦ record s { waiting = taken (sending_end l back) s.waiting } ] in t)
  after_dropped spent n back r None at_ open_ there refused other = agree.joints
  after_dropped spent n back r (Some l) at_ open_ there refused other =
      let joined = joined_ends n l back at_ open_ in
      let old = some_oldest n l back there in
      let is = step_is back l old.0 old.1 joined old.2 in
      after_refused_step (sending_end l back) (speaking_end l back) joined is.z is.z_is is.node is.at_j is.found spent old.0 old.1 r old.2 (subst (λ at. first_cause (causes_of_call cmp matching spent at) ≡ Some r) is.call_is refused) other

  -- ---- lines

  skip_to : (b : Bool) (cause : Refusal) (causes : Causes) (r : Refusal) → first_cause ((b, cause) ∷ causes) ≡ Some r → ((b ≡ true) × (r ≡ cause)) ⊎ ((b ≡ false) × (first_cause causes ≡ Some r))
  unfolding first_cause
  skip_to true cause causes r h = let is : cause ≡ r = cc in inl (refl, sym is)
  skip_to false cause causes r h = inr (refl, h)

  refused_step : (spent : Bool) (n : ℕ) (back : Bool) (r : Refusal) → first_cause (line_causes cmp matching spent (Step n back) s) ≡ Some r → r ≢ refusal.IdsSpent → AllAgree (after_refusal cmp matching (Step n back) r s)
  unfolding line_causes call_of
  refused_step spent n back r refused other =
      of_cond AllAgree (nat_lt 3 (number_of r)) (without_message n back s) s
      (λ far.
      ⊎_elim (λ first. never (ap (λ x. nat_lt 3 (number_of x)) (sym first.1) ∙ far) refl)
      (λ two.
      ⊎_elim (λ first. never (ap (λ x. nat_lt 3 (number_of x)) (sym first.1) ∙ far) refl)
      (λ three. after_dropped spent n back r (nth n s.links) refl (not_not two.0) (not_not three.0) three.1 other)
      (skip_to _ refusal.EmptyLink _ r two.1))
      (skip_to _ refusal.UnknownLink _ r refused))
      (λ _. agree.joints)

  accepted_line : (spent : Bool) (line : PlainLine K) → is_call_or_step line ≡ true → first_cause (line_causes cmp matching spent line s) ≡ None
      → AllAgree (with_waiting (sorted_by_face (said_by_line cmp matching line s)) (after_hearing cmp (sorted_by_face (said_by_line cmp matching line s)) (altered_by_line cmp matching line s)))
  unfolding line_causes call_of said_by_line altered_by_line
  accepted_line spent (Step n back) leaves accepted =
      let one = no_cause _ _ _ accepted in
      let two = no_cause _ _ _ one.1 in
      after_taken spent n back (nth n s.links) refl (not_not one.0) (not_not two.0) two.1
  accepted_line spent (Speak call) leaves accepted = after_speech spent call accepted
  accepted_line spent (Moment n now) leaves accepted = after_gateway_call spent n (Expire now) refl refl (no_cause _ _ _ accepted).1
  accepted_line spent (SetTreesAt n region t) leaves accepted = after_gateway_call spent n (SetTrees region (table_at s n t)) refl refl (no_cause _ _ _ accepted).1
  accepted_line spent (Gateway mode zid regions south name timeout refused) leaves accepted = never leaves refl
  accepted_line spent (Session n first) leaves accepted = never leaves refl
  accepted_line spent (FaceLine n mode zid region bound first) leaves accepted = never leaves refl
  accepted_line spent (LinkLine one two first back) leaves accepted = never leaves refl
  accepted_line spent (Unlink link) leaves accepted = never leaves refl

  refused_line : (spent : Bool) (line : PlainLine K) (r : Refusal) → is_call_or_step line ≡ true → first_cause (line_causes cmp matching spent line s) ≡ Some r → r ≢ refusal.IdsSpent → AllAgree (after_refusal cmp matching line r s)
  refused_line spent (Step n back) r leaves refused other = refused_step spent n back r refused other
  refused_line spent (Speak call) r leaves refused other = agree.joints
  refused_line spent (Moment n now) r leaves refused other = agree.joints
  refused_line spent (SetTreesAt n region t) r leaves refused other = agree.joints
  refused_line spent (Gateway mode zid regions south name timeout pairs) r leaves refused other = agree.joints
  refused_line spent (Session n first) r leaves refused other = agree.joints
  refused_line spent (FaceLine n mode zid region bound first) r leaves refused other = agree.joints
  refused_line spent (LinkLine one two first back) r leaves refused other = agree.joints
  refused_line spent (Unlink link) r leaves refused other = agree.joints

  -- A line that opens and closes no link, no gateway and no face but a plain one's closing, leaves joints that agree.
  pub agree_after_line : (line : PlainLine K) → is_call_or_step line ≡ true → entry_of cmp matching line s ≢ Err refusal.IdsSpent → AllAgree (fabric_after cmp matching line (entry_of cmp matching line s) s)
  unfolding fabric_after entry_of
  agree_after_line line leaves other = cases (first_cause (line_causes cmp matching (line_spends_ids cmp matching line s) line s)) refl other
    where
      spent : Bool
      spent = line_spends_ids cmp matching line s

      cases : (o : Option Refusal) → first_cause (line_causes cmp matching spent line s) ≡ o → entry_by cmp matching o (sorted_by_face (said_by_line cmp matching line s)) ≢ Err refusal.IdsSpent → AllAgree (fabric_after cmp matching line (entry_by cmp matching o (sorted_by_face (said_by_line cmp matching line s))) s)
      cases None accepted other_ = accepted_line spent line leaves accepted
      cases (Some r) refused other_ = refused_line spent line r leaves refused (λ is. other_ (ap (λ (x : Refusal). (let e : PlainEntry K = Err x in e)) is))
