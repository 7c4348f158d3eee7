-- A message that leaves its link and comes to nothing: tokens are carried on, and asks are followed on.
use Rattle.std.proofs.Common.{◌≡◌, ◌≢◌, ◌⊎◌, inl, inr, ℕ, ◌≤◌, max, Bool, true, false, ◌==◌, not, List, [], ◌∷◌, Some, None, refl, sym, ap, ◌∙◌, subst, eqb-true, ⊎_elim}
use Rattle.std.proofs.lemmas.Bool.{and_parts}
use Rattle.std.specs.Cmp.{IsTotalOrder}
use Rattle.std.specs.declared.cmp.Ordering.{Ordering}
use Rattle.std.specs.declared.cmp.Ordering.TheVariants.{Equal}
use Rattle.zt_region.specs.Region.{is_north}
use Rattle.zt_protocol.specs.Interest.{has_tokens}
use Rattle.zt_protocol.specs.declared.errors.Refusal.{Refusal}
use Rattle.zt_protocol.specs.declared.errors.Refusal.TheVariants as refusal
use Rattle.zt_protocol.specs.declared.messages.Message.{Message}
use Rattle.zt_protocol.specs.declared.messages.Message.TheVariants as message
use Rattle.zt_model.specs.Fabric.{Fabric, Node, causes_of_call}
use Rattle.zt_model.specs.Linking.{call_of_message, waiting_of}
use Rattle.zt_model.specs.Lists.{at_id, has_id, nth, rest_of, same}
use Rattle.zt_model.specs.Parts.{find_face}
use Rattle.zt_model.specs.Refusals.{first_cause, is_illegal_current}
use Rattle.zt_model.specs.Rows.{ById, Face, InterestRow}
use Rattle.zt_model.specs.Transcript.{Each, FaceAt, face_numbered}
use Rattle.zt_model.specs.TreePromises.{IsMember}
use Rattle.zt_laws.specs.Order.{FabricIsInOrder, HasRowsInOrder}
use Rattle.zt_laws.specs.Sound.{RiseFrom}
use Rattle.zt_laws.proofs.Hearing.{find_each}
use Rattle.zt_laws.proofs.LinesOrder.{gateway_in_order}
use Rattle.zt_laws.proofs.Lists.{by_test}
use Rattle.zt_theorem_tree_invariant.specs.Facts.{AreClear, FitsFalling, FitsModes, InterestsRise, IsTreeGateway, JointAgrees, TreesAgree, top_of}
use Rattle.zt_theorem_tree_invariant.specs.Joints.{are_joined}
use Rattle.zt_theorem_tree_invariant.proofs.Lines.{tree_rows}
use Rattle.zt_theorem_tree_invariant.proofs.Members.{each_nth}
use Rattle.zt_theorem_tree_invariant.proofs.Quiet.{joined_back}
use Rattle.zt_theorem_tree_invariant.proofs.Stepping.{taken}
use Rattle.zt_theorem_tree_all_that_stays.specs.Steady.{AnswersFirst, FinalIsBelow, IsNoFinal, LeavesRow, is_answer}
use Rattle.zt_theorem_tree_all_that_stays.specs.Ways.{IsCarried, IsCarriedUp, IsFollowed, IsServedBy, LeadsUpTo}
use Rattle.zt_theorem_tree_all_that_stays.proofs.Queues.{member_cases}
use Rattle.zt_theorem_tree_all_that_stays.proofs.Refusing.{answer_only_spent, interest_only_spent}
use Rattle.zt_theorem_tree_all_that_stays.proofs.Speaking.{call_there}
use Rattle.zt_theorem_tree_all_that_stays.proofs.Taken.{queue_still, queue_taken}

-- the row of an id
at_fits : {A : Type 0} (P : ℕ × A → Type 0) (id : ℕ) (v : A) (rows : ById A) → at_id id rows ≡ Some v → Each P rows → (n : ℕ) × ((n ≡ id) × P (n, v))
at_fits P id v [] at_ all = cc
at_fits P id v (row ∷ rows) at_ all =
    by_test (id == row.0)
    (λ here. let e : Some row.1 ≡ Some v = rw here at at_ in let is : row.1 ≡ v = cc in (row.0, (sym (eqb-true id row.0 here), subst (λ x. P (row.0, x)) is all.0)))
    (λ here. at_fits P id v rows (rw here at at_) all.1)

module _ {K : Type 0} (cmp : K → K → Ordering) (matching : K → K → Bool) (total : IsTotalOrder cmp) (equal_is_same : (a b : K) → cmp a b ≡ Equal → a ≡ b) (e : K) (i : InterestRow K) (tokens : has_tokens i.options ≡ true) (legal : is_illegal_current i.mode i.options ≡ false) (s : Fabric K) (fine : FabricIsInOrder cmp matching s) (agree : TreesAgree cmp matching s)
    (q0 q1 : ℕ) (joined : are_joined s q1 q0 ≡ true) (z : FaceAt K) (z_is : face_numbered s q1 ≡ Some z) (node : Node K) (at_j : nth z.gateway s.gateways ≡ Some node) (found : find_face z.face.number node.rows ≡ Some z.face) (m : Message K) (rest : List (Message K)) (old : waiting_of s q0 ≡ m ∷ rest)
    (why : (call_of_message 0 m ≡ None) ⊎ ((spent : Bool) × (r : Refusal) × (first_cause (causes_of_call cmp matching spent (call_there cmp matching total equal_is_same s fine agree z node m)) ≡ Some r) × (r ≢ refusal.IdsSpent))) where
  abbrev d : Fabric K
  d = record s { waiting = taken q0 s.waiting }

  the_same : {A : Type 0} {u v : A} → Some u ≡ Some v → u ≡ v
  the_same h = cc

  left_at : q0 ≡ q0 → waiting_of d q0 ≡ rest
  left_at same_ = queue_taken q0 s.waiting ∙ ap rest_of old

  -- what waits for a face, or all but the first of it
  by_queue : (P : List (Message K) → Type 0) (k : ℕ) → (q0 ≡ k → waiting_of s k ≡ m ∷ rest → P rest) → P (waiting_of s k) → P (waiting_of d k)
  by_queue P k first same_ =
      by_test (q0 == k)
      (λ here.
      let is : q0 ≡ k = eqb-true q0 k here in
      subst P (sym (ap (waiting_of d) (sym is) ∙ left_at refl)) (first is (ap (waiting_of s) (sym is) ∙ old)))
      (λ apart. subst P (sym (queue_still q0 k s.waiting apart)) same_)

  each_left : (P : Message K → Type 0) (k : ℕ) → Each P (waiting_of s k) → Each P (waiting_of d k)
  each_left P k all = by_queue (Each P) k (λ is old_k. (subst (Each P) old_k all).1) all

  -- ---- tokens and ways

  carried_left : (k a b : ℕ) → IsCarried cmp matching e s k a b → IsCarried cmp matching e d k a b
  unfolding face_numbered
  carried_left k a b c = record {
    own = c.own;
    lower = c.lower;
    upper = c.upper;
    above = record { own_is = c.above.own_is; lower_is = c.above.lower_is; upper_is = c.above.upper_is; down = c.above.down; up = c.above.up; joined = c.above.joined; beside = c.above.beside };
    id = c.id;
    real = c.real;
    told = c.told;
    live = c.live;
    rising = each_left (LeavesRow cmp c.id e) a c.rising;
  }

  pub carried_dropped : (way : List (ℕ × ℕ)) (k top : ℕ) → IsCarriedUp cmp matching e s k way top → IsCarriedUp cmp matching e d k way top
  unfolding face_numbered
  carried_dropped [] k top up = up
  carried_dropped (step ∷ way) k top up = (carried_left k step.0 step.1 up.0, carried_dropped way step.1 top up.1)

  pub leads_dropped : (way : List (ℕ × ℕ)) (k top : ℕ) → LeadsUpTo s k way top → LeadsUpTo d k way top
  unfolding face_numbered
  leads_dropped [] k top up = up
  leads_dropped (step ∷ way) k top up = (
    record {
      own = up.0.own;
      lower = up.0.lower;
      upper = up.0.upper;
      above = record { own_is = up.0.above.own_is; lower_is = up.0.above.lower_is; upper_is = up.0.above.upper_is; down = up.0.above.down; up = up.0.above.up; joined = up.0.above.joined; beside = up.0.above.beside };
      finals = each_left (FinalIsBelow up.0.lower.face.next) step.1 up.0.finals;
    },
    leads_dropped way step.1 top up.1,
  )

  -- ---- asks

  -- the message isn't the interest of an ask that is followed
  not_interest : (a b : ℕ) (lower upper : FaceAt K) → face_numbered s a ≡ Some lower → face_numbered s b ≡ Some upper → is_north lower.face.region ≡ true → is_north upper.face.region ≡ false → are_joined s a b ≡ true → (pending : ℕ) → q0 ≡ a → waiting_of s a ≡ m ∷ rest → m ≡ message.Interest pending i.mode i.options i.expr → ⊥
  not_interest a b lower upper lower_is upper_is up down link pending is old_a m_is =
      let joint = agree.joints a b lower upper link lower_is upper_is up in
      let b_is : q1 ≡ b = agree.links.once a q1 b (subst (λ x. are_joined s x q1 ≡ true) is (joined_back s q1 q0 joined)) link in
      let same_ : z ≡ upper = the_same (sym z_is ∙ ap (face_numbered s) b_is ∙ upper_is) in
      let low = max (top_of upper.face.held) (top_of upper.face.asks) in
      let rises : InterestsRise low (message.Interest pending i.mode i.options i.expr ∷ rest) lower.face.next = subst (λ ms. InterestsRise low ms lower.face.next) (old_a ∙ ap (λ x. x ∷ rest) m_is) joint.ids_rise in
      let le : max (top_of z.face.held) (top_of z.face.asks) ≤ pending = subst (λ (u : FaceAt K). max (top_of u.face.held) (top_of u.face.asks) ≤ pending) (sym same_) rises.0 in
      let z_down : is_north z.face.region ≡ false = ap (λ (u : FaceAt K). is_north u.face.region) same_ ∙ down in
      cases m_is z_down le why
    where
      cases : m ≡ message.Interest pending i.mode i.options i.expr → is_north z.face.region ≡ false → max (top_of z.face.held) (top_of z.face.asks) ≤ pending
          → (call_of_message 0 m ≡ None) ⊎ ((spent : Bool) × (r : Refusal) × (first_cause (causes_of_call cmp matching spent (call_there cmp matching total equal_is_same s fine agree z node m)) ≡ Some r) × (r ≢ refusal.IdsSpent)) → ⊥
      cases m_is_ z_down le (inl none_) = let bad : call_of_message 0 (message.Interest pending i.mode i.options i.expr) ≡ None = ap (call_of_message 0) (sym m_is_) ∙ none_ in cc
      cases m_is_ z_down le (inr h) =
          let refused : first_cause (causes_of_call cmp matching h.0 (call_there cmp matching total equal_is_same s fine agree z node (message.Interest pending i.mode i.options i.expr))) ≡ Some h.1 = ap (λ x. first_cause (causes_of_call cmp matching h.0 (call_there cmp matching total equal_is_same s fine agree z node x))) (sym m_is_) ∙ h.2 in
          let room = (each_nth (λ (x : Node K). IsTreeGateway cmp matching x.rows) z.gateway s.gateways node agree.gateways at_j).dictionary in
          h.3 (interest_only_spent cmp matching total equal_is_same z.face.number node.rows z.face (tree_rows cmp matching s z.gateway node fine agree at_j) found h.0 pending i h.1 z_down room tokens legal le refused)

  -- nor an answer to it
  not_answer : (a b : ℕ) (lower upper : FaceAt K) → face_numbered s a ≡ Some lower → face_numbered s b ≡ Some upper → is_north lower.face.region ≡ true → are_joined s a b ≡ true → (pending : ℕ) → has_id pending lower.face.pendings ≡ true → q0 ≡ b → waiting_of s b ≡ m ∷ rest → is_answer cmp pending e m ≡ true → ⊥
  not_answer a b lower upper lower_is upper_is up link pending stands is old_b answer =
      let joint = agree.joints a b lower upper link lower_is upper_is up in
      let a_is : q1 ≡ a = agree.links.once b q1 a (subst (λ x. are_joined s x q1 ≡ true) is (joined_back s q1 q0 joined)) (joined_back s a b link) in
      let same_ : z ≡ lower = the_same (sym z_is ∙ ap (face_numbered s) a_is ∙ lower_is) in
      cases (subst (λ (u : FaceAt K). JointAgrees cmp u.face upper.face (waiting_of s a) (waiting_of s b)) (sym same_) joint) (ap (λ (u : FaceAt K). is_north u.face.region) same_ ∙ up) (ap (λ (u : FaceAt K). has_id pending u.face.pendings) same_ ∙ stands) m old_b answer why
    where
      lives : RiseFrom (λ row. row.0) 0 z.face.live
      lives = (find_each HasRowsInOrder (λ (h : Face K). z.face.number == h.number) node.rows.faces z.face (gateway_in_order cmp matching s z.gateway node at_j fine).rows.lists.rows found).live

      cases : JointAgrees cmp z.face upper.face (waiting_of s a) (waiting_of s b) → is_north z.face.region ≡ true → has_id pending z.face.pendings ≡ true → (n : Message K) → waiting_of s b ≡ n ∷ rest → is_answer cmp pending e n ≡ true
          → (call_of_message 0 n ≡ None) ⊎ ((spent : Bool) × (r : Refusal) × (first_cause (causes_of_call cmp matching spent (call_there cmp matching total equal_is_same s fine agree z node n)) ≡ Some r) × (r ≢ refusal.IdsSpent)) → ⊥
      cases joint z_up z_stands (message.DeclareToken x y (Some q) tree_node) old_n answer_ (inl none_) = cc
      cases joint z_up z_stands (message.DeclareToken x y (Some q) tree_node) old_n answer_ (inr h) =
          let q_is : pending ≡ q = eqb-true pending q (and_parts (pending == q) (same cmp e y) answer_).0 in
          let clear = (subst (λ ms. AreClear cmp ms z.face.live) old_n joint.clear_below).0 in
          h.3 (answer_only_spent cmp matching total equal_is_same z.face.number node.rows z.face (tree_rows cmp matching s z.gateway node fine agree at_j) found h.0 x tree_node q y h.1 z_up (ap (λ k. has_id k z.face.pendings) (sym q_is) ∙ z_stands) lives clear
          (λ row at_.
          let fits = at_fits (FitsModes upper.face (waiting_of s a) (waiting_of s b)) q row z.face.pendings at_ joint.modes in
          (subst (Each (FitsFalling (fits.0, row))) old_n fits.1.1.falls).0 fits.1.0) h.2)
      cases joint z_up z_stands (message.DeclareToken x y None tree_node) old_n answer_ why_ = cc
      cases joint z_up z_stands (message.UndeclareToken x y tree_node) old_n answer_ why_ = cc
      cases joint z_up z_stands (message.DeclareFinal x) old_n answer_ why_ = cc
      cases joint z_up z_stands (message.Interest x mode options y) old_n answer_ why_ = cc
      cases joint z_up z_stands (message.InterestFinal x) old_n answer_ why_ = cc
      cases joint z_up z_stands (message.DeclareSubscriber n y x) old_n answer_ why_ = cc
      cases joint z_up z_stands (message.DeclareQueryable n y info x) old_n answer_ why_ = cc

  pub followed_dropped : (way : List (ℕ × ℕ)) (k id : ℕ) → IsFollowed cmp matching e i s way k id → IsFollowed cmp matching e i d way k id
  unfolding face_numbered
  followed_dropped [] k id f = absurd f
  followed_dropped (step ∷ way) k id f = record {
    own = f.own;
    lower = f.lower;
    upper = f.upper;
    above = record { own_is = f.above.own_is; lower_is = f.above.lower_is; upper_is = f.above.upper_is; down = f.above.down; up = f.above.up; joined = f.above.joined; beside = f.above.beside };
    ask = f.ask;
    ask_is = f.ask_is;
    interest = f.interest;
    unanswered = f.unanswered;
    pending = f.pending;
    pendings = f.pendings;
    stands = f.stands;
    sent = f.sent;
    served = served_left f.served (λ asks. followed_dropped way step.1 f.pending asks);
  }
    where
      upper_down : is_north f.upper.face.region ≡ false
      upper_down =
          let ends = agree.links.meet step.0 step.1 f.above.joined in
          let one : ends.one ≡ f.lower = the_same (sym ends.one_is ∙ f.above.lower_is) in
          let two : ends.two ≡ f.upper = the_same (sym ends.two_is ∙ f.above.upper_is) in
          ap (λ (u : FaceAt K). is_north u.face.region) (sym two) ∙ ends.one_leads_up ∙ ap (λ (u : FaceAt K). not (is_north u.face.region)) one ∙ ap not f.above.up

      rises_left : IsMember (message.Interest f.pending i.mode i.options i.expr) (waiting_of s step.0) → IsMember (message.Interest f.pending i.mode i.options i.expr) (waiting_of d step.0)
      rises_left member =
          by_queue (IsMember (message.Interest f.pending i.mode i.options i.expr)) step.0
          (λ is old_a.
          ⊎_elim (λ first. absurd (not_interest step.0 step.1 f.lower f.upper f.above.lower_is f.above.upper_is f.above.up upper_down f.above.joined f.pending is old_a (sym first))) (λ later. later) (member_cases (message.Interest f.pending i.mode i.options i.expr) m rest (subst (IsMember (message.Interest f.pending i.mode i.options i.expr)) old_a member))) member

      falls_left : AnswersFirst cmp f.pending e (waiting_of s step.1) → AnswersFirst cmp f.pending e (waiting_of d step.1)
      falls_left first =
          by_queue (AnswersFirst cmp f.pending e) step.1
          (λ is old_b.
          ⊎_elim (λ here. absurd (not_answer step.0 step.1 f.lower f.upper f.above.lower_is f.above.upper_is f.above.up f.above.joined f.pending f.stands is old_b here)) (λ later. later.1) (subst (AnswersFirst cmp f.pending e) old_b first)) first

      served_left : IsServedBy cmp matching e i s step.0 step.1 f.pending (λ p. IsFollowed cmp matching e i s way step.1 p) → (IsFollowed cmp matching e i s way step.1 f.pending → IsFollowed cmp matching e i d way step.1 f.pending) → IsServedBy cmp matching e i d step.0 step.1 f.pending (λ p. IsFollowed cmp matching e i d way step.1 p)
      served_left (inl rises) more = inl (rises_left rises.0, each_left (IsNoFinal f.pending) step.1 rises.1)
      served_left (inr (inl first)) more = inr (inl (falls_left first))
      served_left (inr (inr asks)) more = inr (inr (more asks.0, each_left (IsNoFinal f.pending) step.1 asks.1))
