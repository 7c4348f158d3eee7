-- Steps take the oldest message of a direction of a link: what is true of joints stays true.
use Rattle.std.proofs.Common.{◌≡◌, ℕ, Bool, true, false, if◌then◌else◌, ◌||◌, ◌==◌, not, List, [], ◌∷◌, map, Option, Some, None, option_map, refl, sym, ap, ◌∙◌, subst, eq-eqb, eqb-true, ne_eqb}
use Rattle.std.specs.Cmp.{IsTotalOrder}
use Rattle.std.specs.declared.cmp.Ordering.{Ordering}
use Rattle.zt_region.specs.Region.{is_north}
use Rattle.zt_protocol.specs.Plain.{PlainCall}
use Rattle.zt_protocol.specs.declared.entries.Sent.{Sent}
use Rattle.zt_protocol.specs.declared.messages.Message.{Message}
use Rattle.zt_model.specs.Fabric.{Fabric, Node, call_face}
use Rattle.zt_model.specs.Hearing.{messages_for}
use Rattle.zt_model.specs.Linking.{waiting_of}
use Rattle.zt_model.specs.Parts.{find_face}
use Rattle.zt_model.specs.Lists.{at_id, has_id, nth, rest_of}
use Rattle.zt_model.specs.Refusals.{call_causes, first_cause}
use Rattle.zt_model.specs.Rows.{ById, Face}
use Rattle.zt_model.specs.Says.{altered, said}
use Rattle.zt_model.specs.Transcript.{FaceAt, face_numbered}
use Rattle.zt_laws.specs.Order.{FabricIsInOrder}
use Rattle.zt_laws.specs.Sound.{CallHasFirstIds, opens_face}
use Rattle.zt_laws.proofs.Gateways.{PrintsSends}
use Rattle.zt_laws.proofs.Hearing.{heard_all-region}
use Rattle.zt_laws.proofs.Lists.{by_test, never}
use Rattle.zt_theorem_tree_invariant.specs.Facts.{JointAgrees, TreesAgree}
use Rattle.zt_theorem_tree_invariant.specs.Joints.{EachJoint, are_joined}
use Rattle.zt_theorem_tree_invariant.proofs.Effects.{Hears}
use Rattle.zt_theorem_tree_invariant.proofs.Lines.{hears_call, same_number, tree_rows}
use Rattle.zt_theorem_tree_invariant.proofs.Members.{is_there}
use Rattle.zt_theorem_tree_invariant.proofs.Quiet.{joined_back}
use Rattle.zt_theorem_tree_invariant.proofs.Saying.{SaidWell}
use Rattle.zt_theorem_tree_invariant.proofs.Speaks.{lower_like, upper_like}
use Rattle.zt_theorem_tree_invariant.proofs.Tracking.{thin}
use Rattle.zt_theorem_tree_invariant.proofs.Turning.{TurnsTo, joint_stays, joint_turns, queue, quietly, turned, turns_here}

-- ---- queues

-- what waits, but the oldest message for a face
abbrev pub taken : {K : Type 0} → ℕ → ById (List (Message K)) → ById (List (Message K))
taken q w = map (λ row. if q == row.0 then (row.0, rest_of row.1) else row) w

at_taken : {K : Type 0} (q : ℕ) (w : ById (List (Message K))) → at_id q (taken q w) ≡ option_map rest_of (at_id q w)
at_taken q [] = refl
at_taken {K} q (row ∷ w) = go (at_taken q w) (q == row.0) refl
  where
    go : at_id q (taken q w) ≡ option_map rest_of (at_id q w) → (b : Bool) → (q == row.0) ≡ b → at_id q ((if b then (row.0, rest_of row.1) else row) ∷ taken q w) ≡ option_map rest_of (if b then Some row.1 else at_id q w)
    go more true e = ap (λ c. if c then Some (rest_of row.1) else at_id q (taken q w)) e
    go more false e = ap (λ c. if c then Some row.1 else at_id q (taken q w)) e ∙ more

at_still : {K : Type 0} (q k : ℕ) (w : ById (List (Message K))) → (q == k) ≡ false → at_id k (taken q w) ≡ at_id k w
at_still q k [] apart = refl
at_still {K} q k (row ∷ w) apart = go (at_still q k w apart) (q == row.0) refl
  where
    go : at_id k (taken q w) ≡ at_id k w → (b : Bool) → (q == row.0) ≡ b → at_id k ((if b then (row.0, rest_of row.1) else row) ∷ taken q w) ≡ at_id k (row ∷ w)
    go more true e =
        let miss : (k == row.0) ≡ false = by_test (k == row.0) (λ own. never (eq-eqb q k (eqb-true q row.0 e ∙ sym (eqb-true k row.0 own))) apart) (λ h. h) in
        ap (λ c. if c then Some (rest_of row.1) else at_id k (taken q w)) miss ∙ more ∙ sym (ap (λ c. if c then Some row.1 else at_id k w) miss)
    go more false e = ap (λ o. if k == row.0 then Some row.1 else o) more

has_taken_same : {K : Type 0} (q k : ℕ) (w : ById (List (Message K))) → has_id k (taken q w) ≡ has_id k w
has_taken_same q k [] = refl
has_taken_same {K} q k (row ∷ w) = go (has_taken_same q k w) (q == row.0)
  where
    go : has_id k (taken q w) ≡ has_id k w → (b : Bool) → has_id k ((if b then (row.0, rest_of row.1) else row) ∷ taken q w) ≡ has_id k (row ∷ w)
    go more true = ap (λ c. (k == row.0) || c) more
    go more false = ap (λ c. (k == row.0) || c) more

queue_taken : {K : Type 0} (q : ℕ) (w : ById (List (Message K))) → queue (taken q w) q ≡ rest_of (queue w q)
queue_taken {K} q w = ap (λ (o : Option (List (Message K))). (let ms : List (Message K) = elim o [ None ↦ [] | Some xs ↦ xs ] in ms)) (at_taken q w) ∙ cases (at_id q w)
  where
    cases : (o : Option (List (Message K))) → (let ms : List (Message K) = elim (option_map rest_of o) [ None ↦ [] | Some xs ↦ xs ] in ms) ≡ rest_of (let ms : List (Message K) = elim o [ None ↦ [] | Some xs ↦ xs ] in ms)
    cases None = refl
    cases (Some xs) = refl

queue_still : {K : Type 0} (q k : ℕ) (w : ById (List (Message K))) → (q == k) ≡ false → queue (taken q w) k ≡ queue w k
queue_still {K} q k w apart = ap (λ (o : Option (List (Message K))). (let ms : List (Message K) = elim o [ None ↦ [] | Some xs ↦ xs ] in ms)) (at_still q k w apart)

pub has_taken : {K : Type 0} (q k : ℕ) (w : ById (List (Message K))) → has_id k w ≡ true → has_id k (taken q w) ≡ true
has_taken q k w there = has_taken_same q k w ∙ there

module _ {K : Type 0} (cmp : K → K → Ordering) (matching : K → K → Bool) (total : IsTotalOrder cmp) (s : Fabric K) (fine : FabricIsInOrder cmp matching s) (agree : TreesAgree cmp matching s)
    (q0 q1 : ℕ) (joined : are_joined s q1 q0 ≡ true) (m : Message K) (rest : List (Message K)) (oldest_is : waiting_of s q0 ≡ m ∷ rest) where
  the_one : {A : Type 0} {u v : A} → Some u ≡ Some v → u ≡ v
  the_one h = cc

  not_itself : {A : Type 0} (b : Bool) → b ≡ not b → A
  not_itself true h = absurd (cc)
  not_itself false h = absurd (cc)

  -- the ends of a link are two faces
  apart_ends : (a b : ℕ) → are_joined s a b ≡ true → (b == a) ≡ false
  apart_ends a b link_ =
      ne_eqb b a
      (λ is.
      let ends = agree.links.meet a b link_ in
      let same_ : ends.two ≡ ends.one = the_one (sym ends.two_is ∙ ap (face_numbered s) is ∙ ends.one_is) in
      not_itself (is_north ends.one.face.region) (ap (λ (z : FaceAt K). is_north z.face.region) (sym same_) ∙ ends.one_leads_up))

  -- a face that is joined to one end is the other
  partner : (a b : ℕ) → are_joined s a b ≡ true → a ≡ q1 → b ≡ q0
  partner a b link_ is = agree.links.once q1 b q0 (subst (λ k. are_joined s k b ≡ true) is link_) joined

  stranger : (a b : ℕ) → are_joined s a b ≡ true → (b == q1) ≡ false → (q0 == a) ≡ false
  stranger a b link_ apart = ne_eqb q0 a (λ is. never (eq-eqb b q1 (agree.links.once a b q1 link_ (subst (λ k. are_joined s k q1 ≡ true) is (joined_back s q1 q0 joined)))) apart)

  -- ---- a message that comes to nothing

  abbrev dropped : Fabric K
  dropped = record s { waiting = taken q0 s.waiting }

  pub step_drops : ((z y : FaceAt K) (rising : List (Message K)) → face_numbered s q1 ≡ Some z → is_north z.face.region ≡ true → JointAgrees cmp z.face y.face rising (m ∷ rest) → JointAgrees cmp z.face y.face rising rest)
      → ((x z : FaceAt K) (falling : List (Message K)) → face_numbered s q1 ≡ Some z → is_north z.face.region ≡ false → JointAgrees cmp x.face z.face (m ∷ rest) falling → JointAgrees cmp x.face z.face rest falling)
      → EachJoint (JointAgrees cmp) dropped
  unfolding face_numbered
  step_drops low high = λ a b x y link_ x_is y_is up.
      let j0 = agree.joints a b x y link_ x_is y_is up in
      let ends = agree.links.meet a b link_ in
      let own_x : ends.one ≡ x = the_one (sym ends.one_is ∙ x_is) in
      let own_y : ends.two ≡ y = the_one (sym ends.two_is ∙ y_is) in
      let down : is_north y.face.region ≡ false = ap (λ (z : FaceAt K). is_north z.face.region) (sym own_y) ∙ ends.one_leads_up ∙ ap (λ (z : FaceAt K). not (is_north z.face.region)) own_x ∙ ap not up in
      by_test (a == q1)
      (λ here.
      let a_is : a ≡ q1 = eqb-true a q1 here in
      let b_is : b ≡ q0 = partner a b link_ a_is in
      let still : queue (taken q0 s.waiting) a ≡ waiting_of s a = queue_still q0 a s.waiting (ap (λ k. k == a) (sym b_is) ∙ apart_ends a b link_) in
      let rest_ : queue (taken q0 s.waiting) b ≡ rest = ap (queue (taken q0 s.waiting)) b_is ∙ queue_taken q0 s.waiting ∙ ap rest_of oldest_is in
      let all_ : waiting_of s b ≡ m ∷ rest = ap (waiting_of s) b_is ∙ oldest_is in
      subst (λ ms. JointAgrees cmp x.face y.face ms (queue (taken q0 s.waiting) b)) (sym still)
      (subst (λ ms. JointAgrees cmp x.face y.face (waiting_of s a) ms) (sym rest_)
      (low x y (waiting_of s a) (ap (face_numbered s) (sym a_is) ∙ x_is) up (subst (λ ms. JointAgrees cmp x.face y.face (waiting_of s a) ms) all_ j0))))
      (λ other_a.
      by_test (b == q1)
      (λ here.
      let b_is : b ≡ q1 = eqb-true b q1 here in
      let a_is : a ≡ q0 = partner b a (joined_back s a b link_) b_is in
      let still : queue (taken q0 s.waiting) b ≡ waiting_of s b = queue_still q0 b s.waiting (ap (λ k. k == b) (sym a_is) ∙ apart_ends b a (joined_back s a b link_)) in
      let rest_ : queue (taken q0 s.waiting) a ≡ rest = ap (queue (taken q0 s.waiting)) a_is ∙ queue_taken q0 s.waiting ∙ ap rest_of oldest_is in
      let all_ : waiting_of s a ≡ m ∷ rest = ap (waiting_of s) a_is ∙ oldest_is in
      subst (λ ms. JointAgrees cmp x.face y.face (queue (taken q0 s.waiting) a) ms) (sym still)
      (subst (λ ms. JointAgrees cmp x.face y.face ms (waiting_of s b)) (sym rest_)
      (high x y (waiting_of s b) (ap (face_numbered s) (sym b_is) ∙ y_is) down (subst (λ ms. JointAgrees cmp x.face y.face ms (waiting_of s b)) all_ j0))))
      (λ other_b.
      let still_a : queue (taken q0 s.waiting) a ≡ waiting_of s a = queue_still q0 a s.waiting (stranger a b link_ other_b) in
      let still_b : queue (taken q0 s.waiting) b ≡ waiting_of s b = queue_still q0 b s.waiting (stranger b a (joined_back s a b link_) other_a) in
      subst (λ ms. JointAgrees cmp x.face y.face ms (queue (taken q0 s.waiting) b)) (sym still_a) (subst (λ ms. JointAgrees cmp x.face y.face (waiting_of s a) ms) (sym still_b) j0)))

  -- ---- a message whose call is accepted

  module _ (j : ℕ) (node : Node K) (at_j : nth j s.gateways ≡ Some node) (c : PlainCall K) (real : CallHasFirstIds c) (still : opens_face c ≡ false) (ms : List (Sent K)) (prints : PrintsSends s.faces j (said cmp matching c node.rows) ms)
      (spent : Bool) (accepted : first_cause (call_causes cmp matching spent c node.rows) ≡ None) (z : FaceAt K) (z_is : face_numbered s q1 ≡ Some z) (at_z : z.gateway ≡ j) (names : call_face c ≡ Some z.face.number) where
    abbrev stepped : Fabric K
    stepped = turned cmp matching total s fine j node at_j c real ms (taken q0 s.waiting) prints

    found_here : (k : ℕ) (u : FaceAt K) → face_numbered s k ≡ Some u → u.gateway ≡ j → find_face u.face.number node.rows ≡ Some u.face
    found_here k u found here =
        let at_ = is_there s k u found in
        let e : Some at_.node ≡ Some node = sym at_.node_is ∙ ap (λ g. nth g s.gateways) here ∙ at_j in
        let n : at_.node ≡ node = the_one e in
        ap (λ (x : Node K). find_face u.face.number x.rows) (sym n) ∙ ap (find_face u.face.number) at_.rows_are ∙ at_.face_is

    -- another face hears it
    hears_step : (k : ℕ) (u : FaceAt K) → (k == q1) ≡ false → face_numbered s k ≡ Some u → u.gateway ≡ j → Hears cmp matching c node.rows u.face.number u.face
    hears_step k u apart found here =
        hears_call cmp matching spent c node.rows u.face.number u.face (tree_rows cmp matching s j node fine agree at_j) accepted still
        (λ n n_is is.
        let both : Some n ≡ Some z.face.number = sym n_is ∙ names in
        let number_ : u.face.number ≡ z.face.number = sym is ∙ the_one both in
        let at_ = is_there s q1 z z_is in
        let same_ : k ≡ q1 = same_number cmp matching total s fine agree q1 k at_.place u at_.place_is found (here ∙ sym at_z ∙ sym at_.gateway_is) (number_ ∙ sym at_.number_is) at_.node (ap (λ g. nth g s.gateways) at_.gateway_is ∙ at_.node_is) in
        never (eq-eqb k q1 same_) apart)
        (found_here k u found here)

    -- what the call makes of the face that speaks, and what it is sent
    pub record Spoken (P : Face K → Type 0) : Type 0 where
      pub after : Face K
      pub altered_is : find_face z.face.number (altered cmp matching c node.rows) ≡ Some after
      pub region : after.region ≡ z.face.region
      pub well : SaidWell cmp (is_north z.face.region) (messages_for z.face.number (said cmp matching c node.rows)) after.told after.asks
      pub agrees : P after

    spoken_turns : (P : Face K → Type 0) → Spoken P → (k : ℕ) (u : FaceAt K) → k ≡ q1 → face_numbered s k ≡ Some u → has_id k s.waiting ≡ true → (t : TurnsTo cmp s stepped (taken q0 s.waiting) k u) × (P t.after)
    spoken_turns P spoken k u is found there =
        let same_ : u ≡ z = the_one (sym found ∙ ap (face_numbered s) is ∙ z_is) in
        let number_ : u.face.number ≡ z.face.number = ap (λ (v : FaceAt K). v.face.number) same_ in
        let region_ : u.face.region ≡ z.face.region = ap (λ (v : FaceAt K). v.face.region) same_ in
        let to = turns_here cmp matching total s fine j node at_j c real ms (taken q0 s.waiting) prints k u spoken.after found (ap (λ (v : FaceAt K). v.gateway) same_ ∙ at_z) (has_taken q0 k s.waiting there)
        (ap (λ n. find_face n (altered cmp matching c node.rows)) number_ ∙ spoken.altered_is)
        (spoken.region ∙ sym region_)
        (subst (λ r. SaidWell cmp (is_north r) (messages_for u.face.number (said cmp matching c node.rows)) spoken.after.told spoken.after.asks) (sym region_)
        (subst (λ n. SaidWell cmp (is_north z.face.region) (messages_for n (said cmp matching c node.rows)) spoken.after.told spoken.after.asks) (sym number_) spoken.well)) in
        (to.0, subst P (sym to.1) spoken.agrees)

    pub step_keeps : ((y : Face K) (rising : List (Message K)) → is_north z.face.region ≡ true → JointAgrees cmp z.face y rising (m ∷ rest) → Spoken (λ h. JointAgrees cmp h y rising rest))
        → ((x : Face K) (falling : List (Message K)) → is_north z.face.region ≡ false → JointAgrees cmp x z.face (m ∷ rest) falling → Spoken (λ h. JointAgrees cmp x h rest falling))
        → EachJoint (JointAgrees cmp) stepped
    step_keeps low high = λ a b x2 y2 link_ x2_is y2_is up2.
        let w = taken q0 s.waiting in
        let ends = agree.links.meet a b link_ in
        let back = joined_back s a b link_ in
        let quiet = λ (k o : ℕ) (u : FaceAt K) (found : face_numbered s k ≡ Some u) (link : are_joined s k o ≡ true) (apart : (k == q1) ≡ false).
        quietly cmp matching total s fine j node at_j c real ms w prints k u found (has_taken q0 k s.waiting (agree.links.wait k o link)) (λ here. hears_step k u apart found here) in
        by_test (a == q1)
        (λ here.
        let a_is : a ≡ q1 = eqb-true a q1 here in
        let b_is : b ≡ q0 = partner a b link_ a_is in
        let one_is : ends.one ≡ z = the_one (sym ends.one_is ∙ ap (face_numbered s) a_is ∙ z_is) in
        let apart_b : (b == q1) ≡ false = ap (λ k. b == k) (sym a_is) ∙ apart_ends a b link_ in
        let qy = quiet b a ends.two ends.two_is back apart_b in
        let still_a : queue w a ≡ waiting_of s a = queue_still q0 a s.waiting (ap (λ k. k == a) (sym b_is) ∙ apart_ends a b link_) in
        let rest_b : queue w b ≡ rest = ap (queue w) b_is ∙ queue_taken q0 s.waiting ∙ ap rest_of oldest_is in
        let all_b : waiting_of s b ≡ m ∷ rest = ap (waiting_of s) b_is ∙ oldest_is in
        by_test (is_north z.face.region)
        (λ up.
        let up_one : is_north ends.one.face.region ≡ true = ap (λ (v : FaceAt K). is_north v.face.region) one_is ∙ up in
        let down : is_north ends.two.face.region ≡ false = ends.one_leads_up ∙ ap not up_one in
        let j0 = agree.joints a b ends.one ends.two link_ ends.one_is ends.two_is up_one in
        let j1 : JointAgrees cmp z.face ends.two.face (waiting_of s a) (m ∷ rest) = subst (λ xs. JointAgrees cmp z.face ends.two.face (waiting_of s a) xs) all_b (subst (λ (v : FaceAt K). JointAgrees cmp v.face ends.two.face (waiting_of s a) (waiting_of s b)) one_is j0) in
        let tx = spoken_turns (λ h. JointAgrees cmp h ends.two.face (waiting_of s a) rest) (low ends.two.face (waiting_of s a) up j1) a ends.one a_is ends.one_is (agree.links.wait a b link_) in
        joint_turns cmp matching total s fine j node at_j c real ms w prints a b ends.one ends.two x2 y2 tx.0 qy.turns x2_is y2_is up_one down
        (subst (λ xs. JointAgrees cmp tx.0.after qy.turns.after xs (queue w b)) (sym still_a)
        (subst (λ xs. JointAgrees cmp tx.0.after qy.turns.after (waiting_of s a) xs) (sym rest_b)
        (upper_like cmp tx.0.after ends.two.face qy.turns.after (waiting_of s a) rest qy.unmoved.live qy.unmoved.told qy.unmoved.next qy.unmoved.held qy.unmoved.asks tx.1))))
        (λ down.
        let down_one : is_north ends.one.face.region ≡ false = ap (λ (v : FaceAt K). is_north v.face.region) one_is ∙ down in
        let up_two : is_north ends.two.face.region ≡ true = ends.one_leads_up ∙ ap not down_one in
        let j0 = agree.joints b a ends.two ends.one back ends.two_is ends.one_is up_two in
        let j1 : JointAgrees cmp ends.two.face z.face (m ∷ rest) (waiting_of s a) = subst (λ xs. JointAgrees cmp ends.two.face z.face xs (waiting_of s a)) all_b (subst (λ (v : FaceAt K). JointAgrees cmp ends.two.face v.face (waiting_of s b) (waiting_of s a)) one_is j0) in
        let tx = spoken_turns (λ h. JointAgrees cmp ends.two.face h rest (waiting_of s a)) (high ends.two.face (waiting_of s a) down j1) a ends.one a_is ends.one_is (agree.links.wait a b link_) in
        let region_ : is_north x2.face.region ≡ false = ap (λ (f : Face K). is_north f.region) (tx.0.heard_is x2 x2_is) ∙ ap is_north (heard_all-region cmp tx.0.now tx.0.says tx.0.after) ∙ ap is_north tx.0.region ∙ down_one in
        never up2 region_))
        (λ other_a.
        let qx = quiet a b ends.one ends.one_is link_ other_a in
        let up_one : is_north ends.one.face.region ≡ true = ap is_north (sym qx.turns.region) ∙ ap is_north (sym (heard_all-region cmp qx.turns.now qx.turns.says qx.turns.after)) ∙ ap (λ (f : Face K). is_north f.region) (sym (qx.turns.heard_is x2 x2_is)) ∙ up2 in
        let down_two : is_north ends.two.face.region ≡ false = ends.one_leads_up ∙ ap not up_one in
        let j0 = agree.joints a b ends.one ends.two link_ ends.one_is ends.two_is up_one in
        by_test (b == q1)
        (λ here.
        let b_is : b ≡ q1 = eqb-true b q1 here in
        let a_is : a ≡ q0 = partner b a back b_is in
        let two_is : ends.two ≡ z = the_one (sym ends.two_is ∙ ap (face_numbered s) b_is ∙ z_is) in
        let down : is_north z.face.region ≡ false = ap (λ (v : FaceAt K). is_north v.face.region) (sym two_is) ∙ down_two in
        let still_b : queue w b ≡ waiting_of s b = queue_still q0 b s.waiting (ap (λ k. k == b) (sym a_is) ∙ apart_ends b a back) in
        let rest_a : queue w a ≡ rest = ap (queue w) a_is ∙ queue_taken q0 s.waiting ∙ ap rest_of oldest_is in
        let all_a : waiting_of s a ≡ m ∷ rest = ap (waiting_of s) a_is ∙ oldest_is in
        let j1 : JointAgrees cmp ends.one.face z.face (m ∷ rest) (waiting_of s b) = subst (λ xs. JointAgrees cmp ends.one.face z.face xs (waiting_of s b)) all_a (subst (λ (v : FaceAt K). JointAgrees cmp ends.one.face v.face (waiting_of s a) (waiting_of s b)) two_is j0) in
        let ty = spoken_turns (λ h. JointAgrees cmp ends.one.face h rest (waiting_of s b)) (high ends.one.face (waiting_of s b) down j1) b ends.two b_is ends.two_is (agree.links.wait b a back) in
        joint_turns cmp matching total s fine j node at_j c real ms w prints a b ends.one ends.two x2 y2 qx.turns ty.0 x2_is y2_is up_one down_two
        (subst (λ xs. JointAgrees cmp qx.turns.after ty.0.after (queue w a) xs) (sym still_b)
        (subst (λ xs. JointAgrees cmp qx.turns.after ty.0.after xs (waiting_of s b)) (sym rest_a)
        (lower_like cmp ends.one.face qx.turns.after ty.0.after rest (waiting_of s b) qx.unmoved.live qx.unmoved.told qx.unmoved.next qx.unmoved.locals (λ P all. thin P ends.one.face qx.turns.after qx.unmoved all) ty.1))))
        (λ other_b.
        let qy = quiet b a ends.two ends.two_is back other_b in
        let still_a : queue w a ≡ waiting_of s a = queue_still q0 a s.waiting (stranger a b link_ other_b) in
        let still_b : queue w b ≡ waiting_of s b = queue_still q0 b s.waiting (stranger b a back other_a) in
        joint_stays cmp matching total s fine j node at_j c real ms w prints a b ends.one ends.two x2 y2 qx qy x2_is y2_is up_one down_two
        (subst (λ xs. JointAgrees cmp ends.one.face ends.two.face xs (queue w b)) (sym still_a) (subst (λ xs. JointAgrees cmp ends.one.face ends.two.face (waiting_of s a) xs) (sym still_b) j0))))
