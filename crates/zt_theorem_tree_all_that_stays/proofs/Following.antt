-- An ask that is followed up its way is followed through a call, or is answered by it before any final.
use Rattle.std.proofs.Common.{◌≡◌, ◌≢◌, ◌⊎◌, inl, inr, ℕ, ◌≤◌, ◌<◌, ◌+◌, max, Bool, true, false, ◌&&◌, ◌==◌, not, List, [], ◌∷◌, ◌++◌, Option, Some, None, refl, sym, ap, ◌∙◌, subst, arith, eqb-true, eq-eqb, ne_eqb, ⊎_elim}
use Rattle.std.proofs.lemmas.Bool.{and_from, and_parts, or_left, or_right}
use Rattle.std.specs.Cmp.{IsTotalOrder}
use Rattle.std.specs.List.{list_any}
use Rattle.std.specs.declared.cmp.Ordering.{Ordering}
use Rattle.std.specs.declared.cmp.Ordering.TheVariants.{Equal}
use Rattle.zt_region.specs.Region.{is_north}
use Rattle.zt_protocol.specs.Interest.{has_tokens, is_current, is_future}
use Rattle.zt_protocol.specs.declared.interests.InterestMode.{InterestMode}
use Rattle.zt_protocol.specs.declared.interests.InterestOptions.{InterestOptions}
use Rattle.zt_protocol.specs.Plain.{PlainCall, NewSession, NewTransport, DeclareToken, UndeclareToken, Interest, InterestFinal, DeclareFinal, CloseFace, Expire, SetTrees, SetEntities}
use Rattle.zt_protocol.specs.declared.entries.Sent.{Sent}
use Rattle.zt_protocol.specs.declared.messages.Message.{Message}
use Rattle.zt_protocol.specs.declared.messages.Message.TheVariants as message
use Rattle.zt_model.specs.Fabric.{Fabric, Node, call_face, printed_for}
use Rattle.zt_model.specs.Hearing.{heard, heard_all, messages_for, put_if}
use Rattle.zt_model.specs.Linking.{call_of_message, waiting_of}
use Rattle.zt_model.specs.Lists.{at_id, has_id, is_among, is_some_and, nth, same}
use Rattle.zt_model.specs.Parts.{find_face}
use Rattle.zt_model.specs.Refusals.{call_causes, first_cause, is_interest_id_in_use}
use Rattle.zt_model.specs.Routing.{asks_same}
use Rattle.zt_model.specs.Rows.{Ask, ById, Face, InterestRow, Rows}
use Rattle.zt_model.specs.Says.{altered, said}
use Rattle.zt_model.specs.Telling.{was_sent_as}
use Rattle.zt_model.specs.Transcript.{Each, FaceAt, face_numbered}
use Rattle.zt_model.specs.TreePromises.{IsMember}
use Rattle.zt_model.specs.Wants.{asks_token, is_about}
use Rattle.zt_laws.specs.Order.{FabricIsInOrder, HasRowsInOrder}
use Rattle.zt_laws.specs.Sound.{CallHasFirstIds, RiseFrom, opens_face, rows_after_call}
use Rattle.zt_laws.proofs.Calls.{no_cause, not_on_face}
use Rattle.zt_laws.proofs.Gateways.{PrintsSends}
use Rattle.zt_laws.proofs.Hearing.{find_each, heard_all-region}
use Rattle.zt_laws.proofs.Keys.{same_is}
use Rattle.zt_laws.proofs.LinesOrder.{gateway_in_order}
use Rattle.zt_laws.proofs.Lists.{by_test, each_append, each_weaker, never}
use Rattle.zt_theorem_soundness.proofs.ById.{at_has, at_put_other, at_without_other, each_at}
use Rattle.zt_theorem_tree_invariant.specs.Facts.{InterestsRise, TreesAgree, top_of}
use Rattle.zt_theorem_tree_invariant.specs.Joints.{are_joined}
use Rattle.zt_theorem_tree_invariant.proofs.Lines.{tree_rows}
use Rattle.zt_theorem_tree_invariant.proofs.Quiet.{joined_back}
use Rattle.zt_theorem_tree_invariant.proofs.Saying.{all_asks, asks_after, find_heard_at}
use Rattle.zt_theorem_tree_invariant.proofs.Standing.{After, LeavesOpen, closes_face, still_there}
use Rattle.zt_theorem_tree_invariant.proofs.Turning.{queue}
use Rattle.zt_theorem_tree_knowledge.proofs.Inside.{asks_itself}
use Rattle.zt_theorem_tree_all_that_stays.specs.Steady.{AnswersFirst, IsNoFinal, LeavesInterest, is_answer}
use Rattle.zt_theorem_tree_all_that_stays.specs.Ways.{AsksAbove, IsAbove, IsServedBy}
use Rattle.zt_theorem_tree_all_that_stays.proofs.Answers.{answers_ask, answers_later, answers_more, some_answer, stands_on}
use Rattle.zt_theorem_tree_all_that_stays.proofs.Carrying.{expires}
use Rattle.zt_theorem_tree_all_that_stays.proofs.Ends.{IsUp, SentUp, leaves_interest}
use Rattle.zt_theorem_tree_all_that_stays.proofs.Ends as ends_
use Rattle.zt_theorem_tree_all_that_stays.proofs.Finals.{AsksServed, IsServed, Serves, Spares, leaves_asks}
use Rattle.zt_theorem_tree_all_that_stays.proofs.Leading.{asks_free, finals_none}
use Rattle.zt_theorem_tree_all_that_stays.proofs.Parts.{To, sent_to}
use Rattle.zt_theorem_tree_all_that_stays.proofs.Queues.{member_cases, member_front, member_rises}
use Rattle.zt_theorem_tree_all_that_stays.proofs.Stays.{is_left}
use Rattle.zt_theorem_tree_all_that_stays.proofs.Views.{IsSpoken, IsUnspoken, Speaks, any_of, elsewhere, leaves_open, own_of, printed_elsewhere, printed_here, rows_before, rows_then, same_place, still_elsewhere, still_open, still_waits, then_, waits_then}

-- ---- rows

locals_heard : {K : Type 0} (cmp : K → K → Ordering) (id : ℕ) (i : InterestRow K) (now : ℕ) (m : Message K) (f : Face K) → at_id id f.locals ≡ Some i → LeavesInterest id m → at_id id (heard cmp now m f).locals ≡ Some i
locals_heard cmp id i now (message.DeclareToken k x j node) f at_ leaves = at_
locals_heard cmp id i now (message.UndeclareToken k x node) f at_ leaves = at_
locals_heard cmp id i now (message.DeclareFinal k) f at_ leaves = at_
locals_heard {K} cmp id i now (message.Interest k mode options x) f at_ leaves = cases (is_future mode)
  where
    cases : (b : Bool) → at_id id (put_if b k (record { mode = mode; options = options; expr = x }) f.locals) ≡ Some i
    cases true = at_put_other id k (record { mode = mode; options = options; expr = x }) f.locals leaves ∙ at_
    cases false = at_
locals_heard cmp id i now (message.InterestFinal k) f at_ leaves = at_without_other id k f.locals (by_test (k == id) (λ is. never (eq-eqb id k (sym (eqb-true k id is))) leaves) (λ h. h)) ∙ at_
locals_heard cmp id i now (message.DeclareSubscriber n x j) f at_ leaves = at_
locals_heard cmp id i now (message.DeclareQueryable n x info j) f at_ leaves = at_

pub locals_stay : {K : Type 0} (cmp : K → K → Ordering) (id : ℕ) (i : InterestRow K) (now : ℕ) (ms : List (Message K)) (f : Face K) → at_id id f.locals ≡ Some i → Each (LeavesInterest id) ms → at_id id (heard_all cmp now ms f).locals ≡ Some i
unfolding heard_all
locals_stay cmp id i now [] f at_ leaves = at_
locals_stay cmp id i now (m ∷ ms) f at_ leaves = locals_stay cmp id i now ms (heard cmp now m f) (locals_heard cmp id i now m f at_ leaves.0) leaves.1

at_below : {A : Type 0} (id next : ℕ) (v : A) (rows : ById A) → at_id id rows ≡ Some v → Each (λ row. row.0 < next) rows → id < next
at_below id next v [] at_ below = cc
at_below id next v (row ∷ rows) at_ below =
    by_test (id == row.0)
    (λ here. let is : id ≡ row.0 = eqb-true id row.0 here in let less : row.0 < next = below.0 in omega arith)
    (λ here. at_below id next v rows (rw here at at_) below.1)

-- all rows under an id are the one found there
all_at : {A : Type 0} (P : A → Type 0) (id : ℕ) (v : A) (rows : ById A) → RiseFrom (λ row. row.0) 0 rows → at_id id rows ≡ Some v → P v → Each (λ row. (id == row.0) ≡ true → P row.1) rows
all_at P id v rows rises at_ own =
    each_weaker (λ row. at_id row.0 rows ≡ Some row.1) (λ row. (id == row.0) ≡ true → P row.1)
    (λ row found here. let same_ : Some v ≡ Some row.1 = sym at_ ∙ ap (λ n. at_id n rows) (eqb-true id row.0 here) ∙ found in let is : v ≡ row.1 = cc in subst P is own) rows (each_at 0 rows rises)

answer_no_final : {K : Type 0} (cmp : K → K → Ordering) (id : ℕ) (e : K) (m : Message K) → is_answer cmp id e m ≡ true → IsNoFinal id m
answer_no_final cmp id e (message.DeclareToken k x j node) is = tt
answer_no_final cmp id e (message.UndeclareToken k x node) is = tt
answer_no_final cmp id e (message.DeclareFinal k) is = cc
answer_no_final cmp id e (message.Interest k mode options x) is = tt
answer_no_final cmp id e (message.InterestFinal k) is = tt
answer_no_final cmp id e (message.DeclareSubscriber n x j) is = tt
answer_no_final cmp id e (message.DeclareQueryable n x info j) is = tt

-- the message that a call is
final_call : {K : Type 0} (n k p id : ℕ) (m : Message K) → call_of_message n m ≡ Some (DeclareFinal p k) → IsNoFinal id m → (id == k) ≡ false
final_call {K} n k p id (message.DeclareFinal x) is none_ = let same_ : (let d : PlainCall K = DeclareFinal n x in d) ≡ (let d : PlainCall K = DeclareFinal p k in d) = cc in let k_is : x ≡ k = cc in ap (λ y. id == y) (sym k_is) ∙ none_
final_call n k p id (message.DeclareToken t x j node) is none_ = cc
final_call n k p id (message.UndeclareToken t x node) is none_ = cc
final_call n k p id (message.Interest t mode options x) is none_ = cc
final_call n k p id (message.InterestFinal t) is none_ = cc
final_call n k p id (message.DeclareSubscriber t x j) is none_ = cc
final_call n k p id (message.DeclareQueryable t x info j) is none_ = cc

module _ {K : Type 0} (cmp : K → K → Ordering) (matching : K → K → Bool) (total : IsTotalOrder cmp) (equal_is_same : (a b : K) → cmp a b ≡ Equal → a ≡ b) (e : K) (i : InterestRow K) (about : is_about matching i.expr e ≡ true) (tokens : has_tokens i.options ≡ true)
    (s : Fabric K) (fine : FabricIsInOrder cmp matching s) (agree : TreesAgree cmp matching s) (holds : (k : ℕ) (z : FaceAt K) (id : ℕ) (ask : Ask K) → face_numbered s k ≡ Some z → at_id id z.face.asks ≡ Some ask → is_future ask.interest.mode ≡ true → at_id id z.face.held ≡ Some ask.interest)
    (j : ℕ) (node : Node K) (at_j : nth j s.gateways ≡ Some node) (c : PlainCall K) (real : CallHasFirstIds c) (still : opens_face c ≡ false) (timeless : expires c ≡ false) (spent : Bool) (accepted : first_cause (call_causes cmp matching spent c node.rows) ≡ None)
    (ms : List (Sent K)) (w : ById (List (Message K))) (prints : PrintsSends s.faces j (said cmp matching c node.rows) ms) (waits : (k : ℕ) → has_id k s.waiting ≡ true → has_id k w ≡ true) (speaks : Speaks cmp matching total s fine j node at_j c real ms w prints) where
  abbrev t : Fabric K
  t = then_ cmp matching total s fine j node at_j c real ms w prints

  abbrev g : Rows K
  g = node.rows

  the_same : {A : Type 0} {u v : A} → Some u ≡ Some v → u ≡ v
  the_same h = cc

  abbrev open_ : (k b : ℕ) (z : FaceAt K) → face_numbered s k ≡ Some z → are_joined s k b ≡ true → z.gateway ≡ j → LeavesOpen c z.face.number
  open_ = leaves_open cmp matching total s fine j node at_j c real ms w prints speaks

  -- the rows of a face of the gateway are in order
  rows_of : (n : ℕ) (f : Face K) → find_face n g ≡ Some f → HasRowsInOrder f
  rows_of n f found = find_each HasRowsInOrder (λ (h : Face K). n == h.number) g.faces f (gateway_in_order cmp matching s j node at_j fine).rows.lists.rows found

  -- an id that an ask or a held interest has isn't in use for another
  in_use : (n k : ℕ) (mode : InterestMode) (options : InterestOptions) (x : Option K) (f : Face K) → c ≡ Interest n k mode options x → find_face n g ≡ Some f → is_interest_id_in_use k mode f ≡ false
  unfolding call_causes
  in_use n k mode options x f is found =
      let accepted_ : first_cause (call_causes cmp matching spent (Interest n k mode options x) g) ≡ None = subst (λ d. first_cause (call_causes cmp matching spent d g) ≡ None) is accepted in
      let one = no_cause _ _ _ accepted_ in
      let two = no_cause _ _ _ one.1 in
      let three = no_cause _ _ _ two.1 in
      let four = no_cause _ _ _ three.1 in
      let five = no_cause _ _ _ four.1 in
      not_on_face n g (is_interest_id_in_use k mode) f found five.0

  -- ---- one step of the way

  -- the ask after the call, and that no final of it was sent
  pub record AskThen (k id pending number : ℕ) : Type 0 where
    pub own : FaceAt K
    pub own_is : face_numbered t k ≡ Some own
    pub down : is_north own.face.region ≡ false
    pub ask : Ask K
    pub ask_is : at_id id own.face.asks ≡ Some ask
    pub interest : ask.interest ≡ i
    pub unanswered : is_among cmp e ask.answered ≡ false
    pub pendings : ask.pendings ≡ (number, pending) ∷ []
    pub none_ : Each (IsNoFinal id) (printed_for k ms)

  module _ (k id a b : ℕ) (Asks : ℕ → Type 0) (f : AsksAbove cmp matching e i s k id a b Asks) (opens_k : f.own.gateway ≡ j → LeavesOpen c f.own.face.number) (held_k : f.own.gateway ≡ j → c ≡ InterestFinal f.own.face.number id → is_future i.mode ≡ false) where
    abbrev above : IsAbove s k a b f.own f.lower f.upper
    above = f.above

    abbrev own : FaceAt K
    own = f.own

    abbrev lower : FaceAt K
    lower = f.lower

    back : are_joined s b a ≡ true
    back = joined_back s a b above.joined

    abbrev lower_then : After cmp matching total s fine agree j node at_j c real still open_ spent accepted ms w prints a lower
    lower_then = still_there cmp matching total s fine agree j node at_j c real still open_ spent accepted ms w prints a b lower above.lower_is above.joined

    not_final_first : (m : Message K) (rest : List (Message K)) → waiting_of s b ≡ m ∷ rest → IsNoFinal f.pending m
    not_final_first m rest is = cases f.served
      where
        by_first : AnswersFirst cmp f.pending e (m ∷ rest) → IsNoFinal f.pending m
        by_first (inl here) = answer_no_final cmp f.pending e m here
        by_first (inr later) = later.0

        cases : IsServedBy cmp matching e i s a b f.pending Asks → IsNoFinal f.pending m
        cases (inl rises) = (subst (Each (IsNoFinal f.pending)) is rises.1).0
        cases (inr (inl first)) = by_first (subst (AnswersFirst cmp f.pending e) is first)
        cases (inr (inr asks)) = (subst (Each (IsNoFinal f.pending)) is asks.1).0

    -- ---- the ask, at its gateway

    module _ (here : own.gateway ≡ j) where
      low_here : lower.gateway ≡ j
      low_here = above.beside ∙ here

      abbrev p : ℕ
      p = own.face.number

      abbrev n0 : ℕ
      n0 = lower.face.number

      found_own : find_face p g ≡ Some own.face
      found_own = rows_before cmp matching total s fine j node at_j c real ms w prints k own above.own_is here

      found_low : find_face n0 g ≡ Some lower.face
      found_low = rows_before cmp matching total s fine j node at_j c real ms w prints a lower above.lower_is low_here

      ends_pending : (n x : ℕ) → c ≡ DeclareFinal n x → (n == n0) ≡ true → (x == f.pending) ≡ true → ⊥
      ends_pending n x is at_n at_x = cases (speaks a b lower above.lower_is above.joined)
        where
          cases : IsUnspoken cmp matching total s fine j node at_j c real ms w prints b lower ⊎ IsSpoken cmp matching total s fine j node at_j c real ms w prints b lower → ⊥
          cases (inl un) = un.unnamed low_here n (ap call_face is) (eqb-true n n0 at_n)
          cases (inr sp) = never (eq-eqb f.pending x (sym (eqb-true x f.pending at_x))) (final_call n0 x n f.pending sp.message (sp.says ∙ ap Some is) (not_final_first sp.message (queue w b) sp.oldest))

      spares : (d : PlainCall K) → c ≡ d → Spares cmp matching id n0 f.pending (is_future i.mode) true p d
      spares (DeclareToken n x y tree_node interest) is = tt
      spares (UndeclareToken n x given tree_node) is = tt
      spares (Interest n x mode options y) is = λ at_p same_.
          by_test (is_current mode)
          (λ current_.
          let found : find_face n g ≡ Some own.face = ap (λ m. find_face m g) (eqb-true n p at_p) ∙ found_own in
          let there : has_id x own.face.asks ≡ true = ap (λ m. has_id m own.face.asks) (sym (eqb-true id x same_)) ∙ at_has id own.face.asks f.ask f.ask_is in
          never (or_right (is_future mode && has_id x own.face.held) (is_current mode && has_id x own.face.asks) (and_from (is_current mode) (has_id x own.face.asks) current_ there)) (in_use n x mode options y own.face is found))
          (λ other. other)
      spares (InterestFinal n x) is = λ at_p same_. held_k here (is ∙ ap (λ m. (let d : PlainCall K = InterestFinal m x in d)) (eqb-true n p at_p) ∙ ap (λ m. (let d : PlainCall K = InterestFinal p m in d)) (sym (eqb-true id x same_)))
      spares (DeclareFinal n x) is = by_test ((n == n0) && (x == f.pending)) (λ both. let parts = and_parts (n == n0) (x == f.pending) both in absurd (ends_pending n x is parts.0 parts.1)) (λ other. other)
      spares (CloseFace n) is = (ne_eqb n p (λ same_. opens_k here (ap closes_face is) n (ap call_face is) same_), ne_eqb n n0 (λ same_. open_ a b lower above.lower_is above.joined low_here (ap closes_face is) n (ap call_face is) same_))
      spares (SetTrees region table) is = tt
      spares (SetEntities n subscribers queryables) is = tt
      spares (NewSession first) is = never (ap opens_face is) still
      spares (NewTransport zid whatami region bound first) is = never (ap opens_face is) still
      spares (Expire now) is = never (ap expires is) timeless

      serves : Serves cmp matching id n0 f.pending (is_future i.mode) true p g
      serves = record {
        asks =
            own_of (AsksServed cmp matching id n0 f.pending (is_future i.mode) true) p g own.face (tree_rows cmp matching s j node fine agree at_j).rises found_own
            (all_at (IsServed cmp matching id n0 f.pending (is_future i.mode) true) id f.ask own.face.asks (rows_of p own.face found_own).asks f.ask_is (record { stands = refl; pendings = f.pendings; mode = ap (λ (r : InterestRow K). is_future r.mode) f.interest }));
        stands = λ _. ap (λ o. is_some_and o (λ h. has_id f.pending h.pendings)) found_low ∙ f.stands;
      }

      kept : Each (To p (IsNoFinal id)) (said cmp matching c g) × Serves cmp matching id n0 f.pending (is_future i.mode) true p (rows_after_call cmp matching c g)
      kept = leaves_asks cmp matching id n0 f.pending (is_future i.mode) true p c g (tree_rows cmp matching s j node fine agree at_j) serves (spares c refl)

      printed_k : printed_for k ms ≡ messages_for p (said cmp matching c g)
      printed_k = printed_here cmp matching total s fine j node at_j c real ms w prints k own above.own_is here

      none_said : Each (IsNoFinal id) (messages_for p (said cmp matching c g))
      none_said = sent_to p (IsNoFinal id) p (said cmp matching c g) (eq-eqb p p refl) kept.0

      -- the ask stands on, or was answered
      own_here : AnswersFirst cmp id e (printed_for k ms) ⊎ AskThen k id f.pending n0
      own_here =
          let left = is_left cmp matching total spent c g p own.face (tree_rows cmp matching s j node fine agree at_j) accepted still (opens_k here) found_own in
          let said_ = messages_for p (said cmp matching c g) in
          let h = heard_all cmp (altered cmp matching c g).moment said_ left.after in
          let found_h : find_face p (rows_after_call cmp matching c g) ≡ Some h = find_heard_at cmp (said cmp matching c g) (altered cmp matching c g) p left.after left.altered_is in
          let y = still_open cmp matching total s fine j node at_j c real ms w prints k own h above.own_is here found_h in
          let down : is_north y.0.face.region ≡ false = ap (λ (u : Face K). is_north u.region) y.2 ∙ ap is_north (heard_all-region cmp (altered cmp matching c g).moment said_ left.after ∙ left.region) ∙ above.down in
          let asks_are : y.0.face.asks ≡ asks_after cmp said_ left.after.asks = ap (λ (u : Face K). u.asks) y.2 ∙ all_asks cmp (altered cmp matching c g).moment said_ left.after in
          ⊎_elim
          (λ first. inl (subst (AnswersFirst cmp id e) (sym printed_k) first))
          (λ on. inr (record {
            own = y.0;
            own_is = y.1;
            down = down;
            ask = on.ask;
            ask_is = ap (at_id id) asks_are ∙ on.ask_is;
            interest = on.interest ∙ f.interest;
            unanswered = on.unanswered;
            pendings = on.pendings ∙ f.pendings;
            none_ = subst (Each (IsNoFinal id)) (sym printed_k) none_said;
          }))
          (stands_on cmp id e said_ left.after.asks f.ask (left.ask id f.ask f.ask_is) none_said f.unanswered)

      -- a token that is spoken for the pending answers it
      answered_here : (x tree_node : ℕ) → c ≡ DeclareToken n0 x e tree_node (Some f.pending) → AnswersFirst cmp id e (printed_for k ms)
      answered_here x tree_node is =
          let rows = tree_rows cmp matching s j node fine agree at_j in
          let sent : was_sent_as n0 f.pending f.ask ≡ true = ap (list_any (λ q. (n0 == q.0) && (f.pending == q.1))) f.pendings ∙ or_left ((n0 == n0) && (f.pending == f.pending)) false (and_from (n0 == n0) (f.pending == f.pending) (eq-eqb n0 n0 refl) (eq-eqb f.pending f.pending refl)) in
          let asks : asks_token matching f.ask.interest e ≡ true = ap (λ (r : InterestRow K). asks_token matching r e) f.interest ∙ and_from (has_tokens i.options) (is_about matching i.expr e) tokens about in
          let some = answers_ask cmp matching total n0 x tree_node f.pending p id e g lower.face own.face f.ask rows found_low f.stands found_own f.ask_is sent asks f.unanswered in
          let some_ : list_any (is_answer cmp id e) (messages_for p (said cmp matching c g)) ≡ true = ap (λ d. list_any (is_answer cmp id e) (messages_for p (said cmp matching d g))) is ∙ some in
          subst (AnswersFirst cmp id e) (sym printed_k) (some_answer cmp id e (messages_for p (said cmp matching c g)) none_said some_)

      -- the pending stands on
      found_low_then : find_face n0 (rows_after_call cmp matching c g) ≡ Some lower_then.face.face
      found_low_then =
          let place = same_place cmp matching total s fine j node at_j c real ms w prints a lower lower_then.face above.lower_is lower_then.is in
          ap (λ n. find_face n (rows_after_call cmp matching c g)) (sym place.1) ∙ rows_then cmp matching total s fine j node at_j c real ms w prints a lower_then.face lower_then.is (place.0 ∙ low_here)

      stands_here : has_id f.pending lower_then.face.face.pendings ≡ true
      stands_here = ap (λ o. is_some_and o (λ h. has_id f.pending h.pendings)) (sym found_low_then) ∙ kept.1.stands refl

      -- and its interest isn't ended
      module _ (later : is_future i.mode ≡ true) where
        held_is : at_id id own.face.held ≡ Some i
        held_is = holds k own id f.ask above.own_is f.ask_is (ap (λ (r : InterestRow K). is_future r.mode) f.interest ∙ later) ∙ ap Some f.interest

        is_up : IsUp cmp matching total equal_is_same f.pending i n0 p id g
        is_up =
            let joint = agree.joints a b lower f.upper above.joined above.lower_is above.upper_is above.up in
            record {
              sent =
                  own_of (SentUp cmp matching total equal_is_same f.pending i) n0 g lower.face (tree_rows cmp matching s j node fine agree at_j).rises found_low (record {
                    only = all_at (λ r. r ≡ i) f.pending i lower.face.locals (rows_of n0 lower.face found_low).locals (f.sent later) refl;
                    next = at_below f.pending lower.face.next i lower.face.locals (f.sent later) joint.locals_below;
                  });
              held =
                  any_of (λ h. not (is_north h.region) && is_some_and (at_id id h.held) (asks_same cmp matching i)) p g.faces own.face found_own
                  (and_from (not (is_north own.face.region)) (is_some_and (at_id id own.face.held) (asks_same cmp matching i)) (ap not above.down) (ap (λ o. is_some_and o (asks_same cmp matching i)) held_is ∙ asks_itself cmp matching total equal_is_same i));
            }

        spares_up : (d : PlainCall K) → c ≡ d → ends_.Spares cmp matching total equal_is_same f.pending i n0 p id d
        spares_up (DeclareToken n x y tree_node interest) is = tt
        spares_up (UndeclareToken n x given tree_node) is = tt
        spares_up (Interest n x mode options y) is = λ at_p same_.
            by_test (is_future mode)
            (λ future.
            let found : find_face n g ≡ Some own.face = ap (λ m. find_face m g) (eqb-true n p at_p) ∙ found_own in
            let there : has_id x own.face.held ≡ true = ap (λ m. has_id m own.face.held) (sym (eqb-true id x same_)) ∙ at_has id own.face.held i held_is in
            never (or_left (is_future mode && has_id x own.face.held) (is_current mode && has_id x own.face.asks) (and_from (is_future mode) (has_id x own.face.held) future there)) (in_use n x mode options y own.face is found))
            (λ other. other)
        spares_up (InterestFinal n x) is =
            by_test ((n == p) && (x == id))
            (λ both.
            let parts = and_parts (n == p) (x == id) both in
            never later (held_k here (is ∙ ap (λ m. (let d : PlainCall K = InterestFinal m x in d)) (eqb-true n p parts.0) ∙ ap (λ m. (let d : PlainCall K = InterestFinal p m in d)) (eqb-true x id parts.1))))
            (λ other. other)
        spares_up (DeclareFinal n x) is = tt
        spares_up (CloseFace n) is = ne_eqb n p (λ same_. opens_k here (ap closes_face is) n (ap call_face is) same_)
        spares_up (SetTrees region table) is = tt
        spares_up (SetEntities n subscribers queryables) is = tt
        spares_up (NewSession first) is = never (ap opens_face is) still
        spares_up (NewTransport zid whatami region bound first) is = never (ap opens_face is) still
        spares_up (Expire now) is = never (ap expires is) timeless

        sent_here : at_id f.pending lower_then.face.face.locals ≡ Some i
        sent_here =
            let rows = tree_rows cmp matching s j node fine agree at_j in
            let left = is_left cmp matching total spent c g n0 lower.face rows accepted still (open_ a b lower above.lower_is above.joined low_here) found_low in
            let said_ = messages_for n0 (said cmp matching c g) in
            let leaves = leaves_interest cmp matching total equal_is_same f.pending i n0 p id c g rows is_up (spares_up c refl) in
            let h = heard_all cmp (altered cmp matching c g).moment said_ left.after in
            let found_h : find_face n0 (rows_after_call cmp matching c g) ≡ Some h = find_heard_at cmp (said cmp matching c g) (altered cmp matching c g) n0 left.after left.altered_is in
            let is : h ≡ lower_then.face.face = the_same (sym found_h ∙ found_low_then) in
            ap (λ (u : Face K). at_id f.pending u.locals) (sym is)
            ∙ locals_stay cmp f.pending i (altered cmp matching c g).moment said_ left.after (ap (at_id f.pending) left.locals ∙ f.sent later) (sent_to n0 (LeavesInterest f.pending) n0 (said cmp matching c g) (eq-eqb n0 n0 refl) leaves.0)

    -- ---- the ask, whatever gateway is called

    abbrev still_at : own.gateway ≢ j → lower.gateway ≢ j
    still_at apart = λ is. apart (sym above.beside ∙ is)

    own_apart : own.gateway ≢ j → AskThen k id f.pending lower.face.number
    own_apart apart =
        let y = still_elsewhere cmp matching total s fine j node at_j c real ms w prints k own above.own_is apart in
        record {
          own = y.0;
          own_is = y.1;
          down = ap (λ (u : Face K). is_north u.region) y.2 ∙ above.down;
          ask = f.ask;
          ask_is = ap (λ (u : Face K). at_id id u.asks) y.2 ∙ f.ask_is;
          interest = f.interest;
          unanswered = f.unanswered;
          pendings = f.pendings;
          none_ = subst (Each (IsNoFinal id)) (sym (printed_elsewhere cmp matching total s fine j node at_j c real ms w prints k own above.own_is apart)) tt;
        }

    low_apart : own.gateway ≢ j → lower_then.face.face ≡ lower.face
    low_apart apart = elsewhere cmp matching total s fine j node at_j c real ms w prints a lower lower_then.face above.lower_is lower_then.is (still_at apart)

    pub own_then : AnswersFirst cmp id e (printed_for k ms) ⊎ AskThen k id f.pending lower.face.number
    own_then = by_test (own.gateway == j) (λ same_. own_here (eqb-true own.gateway j same_)) (λ other. inr (own_apart (λ is. never (eq-eqb own.gateway j is) other)))

    pub stands_then : has_id f.pending lower_then.face.face.pendings ≡ true
    stands_then = by_test (own.gateway == j) (λ same_. stands_here (eqb-true own.gateway j same_)) (λ other. ap (λ (u : Face K). has_id f.pending u.pendings) (low_apart (λ is. never (eq-eqb own.gateway j is) other)) ∙ f.stands)

    pub sent_then : is_future i.mode ≡ true → at_id f.pending lower_then.face.face.locals ≡ Some i
    sent_then later = by_test (own.gateway == j) (λ same_. sent_here (eqb-true own.gateway j same_) later) (λ other. ap (λ (u : Face K). at_id f.pending u.locals) (low_apart (λ is. never (eq-eqb own.gateway j is) other)) ∙ f.sent later)

    -- ---- what serves the pending

    -- what the face above is sent, and what becomes of its ask
    abbrev pub Above : (ℕ → Type 0) → Type 0
    Above AsksThen = (AsksThen f.pending × Each (IsNoFinal f.pending) (printed_for b ms)) ⊎ AnswersFirst cmp f.pending e (printed_for b ms)

    -- the call is the answer
    abbrev pub IsAnswerSpoken : Type 0
    IsAnswerSpoken = (own.gateway ≡ j) × ((x : ℕ) × (tree_node : ℕ) × (c ≡ DeclareToken lower.face.number x e tree_node (Some f.pending)))

    abbrev waits_a : waiting_of t a ≡ queue w a ++ printed_for a ms
    waits_a = waits_then cmp matching total s fine j node at_j c real ms w prints a (waits a (agree.links.wait a b above.joined))

    abbrev waits_b : waiting_of t b ≡ queue w b ++ printed_for b ms
    waits_b = waits_then cmp matching total s fine j node at_j c real ms w prints b (waits b (agree.links.wait b a back))

    answer_spoken : (m : Message K) → is_answer cmp f.pending e m ≡ true → call_of_message lower.face.number m ≡ Some c → (x : ℕ) × (tree_node : ℕ) × (c ≡ DeclareToken lower.face.number x e tree_node (Some f.pending))
    answer_spoken (message.DeclareToken x y (Some q) tree_node) is says =
        let both = and_parts (f.pending == q) (same cmp e y) is in
        let e_is : e ≡ y = same_is cmp total equal_is_same e y both.1 in
        let q_is : f.pending ≡ q = eqb-true f.pending q both.0 in
        let same_ : DeclareToken lower.face.number x y tree_node (Some q) ≡ c = the_same says in
        (x, tree_node, sym same_ ∙ ap (λ z. DeclareToken lower.face.number x z tree_node (Some q)) (sym e_is) ∙ ap (λ z. DeclareToken lower.face.number x e tree_node (Some z)) (sym q_is))
    answer_spoken (message.DeclareToken x y None tree_node) is says = cc
    answer_spoken (message.UndeclareToken x y tree_node) is says = cc
    answer_spoken (message.DeclareFinal x) is says = cc
    answer_spoken (message.Interest x mode options y) is says = cc
    answer_spoken (message.InterestFinal x) is says = cc
    answer_spoken (message.DeclareSubscriber n y x) is says = cc
    answer_spoken (message.DeclareQueryable n y info x) is says = cc

    module _ (AsksThen : ℕ → Type 0) (follows : Asks f.pending → Above AsksThen) (anew : IsMember (message.Interest f.pending i.mode i.options i.expr) (waiting_of s a) → f.upper.gateway ≡ j → c ≡ Interest f.upper.face.number f.pending i.mode i.options i.expr → Above AsksThen) where
      abbrev Serves_ : Type 0
      Serves_ = IsServedBy cmp matching e i t a b f.pending AsksThen

      from_above : Above AsksThen → Each (IsNoFinal f.pending) (queue w b) → Serves_
      from_above (inl asks) none_ = inr (inr (asks.0, subst (Each (IsNoFinal f.pending)) (sym waits_b) (each_append (IsNoFinal f.pending) (queue w b) (printed_for b ms) none_ asks.1)))
      from_above (inr first) none_ = inr (inl (subst (AnswersFirst cmp f.pending e) (sym waits_b) (answers_later cmp f.pending e (queue w b) (printed_for b ms) none_ first)))

      none_left : Each (IsNoFinal f.pending) (waiting_of s b) → Each (IsNoFinal f.pending) (queue w b)
      none_left none_ = still_waits cmp matching total s fine j node at_j c real ms w prints (IsNoFinal f.pending) b lower (speaks a b lower above.lower_is above.joined) none_

      -- an interest that still rises has no ask above, so no final of it is said there
      none_above : IsMember (message.Interest f.pending i.mode i.options i.expr) (waiting_of s a) → ((mode : InterestMode) (options : InterestOptions) (x : Option K) → f.upper.gateway ≡ j → c ≡ Interest f.upper.face.number f.pending mode options x → ⊥) → Each (IsNoFinal f.pending) (printed_for b ms)
      none_above member other =
          by_test (f.upper.gateway == j)
          (λ same_.
          let up_here : f.upper.gateway ≡ j = eqb-true f.upper.gateway j same_ in
          let joint = agree.joints a b lower f.upper above.joined above.lower_is above.upper_is above.up in
          let low = max (top_of f.upper.face.held) (top_of f.upper.face.asks) in
          let le : low ≤ f.pending = member_rises low f.pending i.mode i.options i.expr (waiting_of s a) lower.face.next joint.ids_rise member in
          let found = rows_before cmp matching total s fine j node at_j c real ms w prints b f.upper above.upper_is up_here in
          subst (Each (IsNoFinal f.pending)) (sym (printed_here cmp matching total s fine j node at_j c real ms w prints b f.upper above.upper_is up_here))
          (finals_none cmp matching total equal_is_same s fine agree j node at_j c real still timeless spent accepted ms w prints waits speaks f.upper.face.number f.pending f.upper.face found (open_ b a f.upper above.upper_is back up_here)
          (asks_free low f.pending f.upper.face.asks (omega arith) le) (λ mode options x is. other mode options x up_here is)))
          (λ apart. subst (Each (IsNoFinal f.pending)) (sym (printed_elsewhere cmp matching total s fine j node at_j c real ms w prints b f.upper above.upper_is (λ is. never (eq-eqb f.upper.gateway j is) apart))) tt)

      still_rises : IsMember (message.Interest f.pending i.mode i.options i.expr) (queue w a) → Each (IsNoFinal f.pending) (queue w b) → Each (IsNoFinal f.pending) (printed_for b ms) → Serves_
      still_rises member none_ said_none =
          inl (subst (IsMember (message.Interest f.pending i.mode i.options i.expr)) (sym waits_a) (member_front (message.Interest f.pending i.mode i.options i.expr) (queue w a) (printed_for a ms) member), subst (Each (IsNoFinal f.pending)) (sym waits_b) (each_append (IsNoFinal f.pending) (queue w b) (printed_for b ms) none_ said_none))

      rising : IsMember (message.Interest f.pending i.mode i.options i.expr) (waiting_of s a) → Each (IsNoFinal f.pending) (waiting_of s b) → Serves_
      rising member none_ = cases (speaks b a f.upper above.upper_is back)
        where
          not_asked : (n x : ℕ) (m : Message K) (rest : List (Message K)) (mode : InterestMode) (options : InterestOptions) (y : Option K) (low high : ℕ) → IsMember (message.Interest f.pending i.mode i.options i.expr) rest → InterestsRise low (m ∷ rest) high → call_of_message n m ≡ Some (Interest x f.pending mode options y) → ⊥
          not_asked n x (message.Interest k2 mode2 options2 y2) rest mode options y low high later rises is =
              let same_ : Interest n k2 mode2 options2 y2 ≡ Interest x f.pending mode options y = the_same is in
              let k_is : k2 ≡ f.pending = cc in
              let more : k2 + 1 ≤ f.pending = member_rises (k2 + 1) f.pending i.mode i.options i.expr rest high rises.1 later in
              omega arith
          not_asked n x (message.DeclareToken k2 y2 q tree_node) rest mode options y low high later rises is = cc
          not_asked n x (message.UndeclareToken k2 y2 tree_node) rest mode options y low high later rises is = cc
          not_asked n x (message.DeclareFinal k2) rest mode options y low high later rises is = cc
          not_asked n x (message.InterestFinal k2) rest mode options y low high later rises is = cc
          not_asked n x (message.DeclareSubscriber n2 y2 q) rest mode options y low high later rises is = cc
          not_asked n x (message.DeclareQueryable n2 y2 info q) rest mode options y low high later rises is = cc

          cases : IsUnspoken cmp matching total s fine j node at_j c real ms w prints a f.upper ⊎ IsSpoken cmp matching total s fine j node at_j c real ms w prints a f.upper → Serves_
          cases (inl un) = still_rises (subst (IsMember (message.Interest f.pending i.mode i.options i.expr)) (sym un.queue_is) member) (none_left none_) (none_above member (λ mode options x up_here is. un.unnamed up_here f.upper.face.number (ap call_face is) refl))
          cases (inr sp) =
              ⊎_elim
              (λ first. from_above (anew member sp.here (the_same (sym sp.says ∙ ap (call_of_message f.upper.face.number) (sym first)))) (none_left none_))
              (λ later.
              let joint = agree.joints a b lower f.upper above.joined above.lower_is above.upper_is above.up in
              let low = max (top_of f.upper.face.held) (top_of f.upper.face.asks) in
              let rises : InterestsRise low (sp.message ∷ queue w a) lower.face.next = subst (λ ms2. InterestsRise low ms2 lower.face.next) sp.oldest joint.ids_rise in
              still_rises later (none_left none_) (none_above member (λ mode options x up_here is. not_asked f.upper.face.number f.upper.face.number sp.message (queue w a) mode options x low lower.face.next later rises (sp.says ∙ ap Some is))))
              (member_cases (message.Interest f.pending i.mode i.options i.expr) sp.message (queue w a) (subst (IsMember (message.Interest f.pending i.mode i.options i.expr)) sp.oldest member))

      falling : AnswersFirst cmp f.pending e (waiting_of s b) → Serves_ ⊎ IsAnswerSpoken
      falling first = cases (speaks a b lower above.lower_is above.joined)
        where
          on : AnswersFirst cmp f.pending e (queue w b) → Serves_ ⊎ IsAnswerSpoken
          on left = inl (inr (inl (subst (AnswersFirst cmp f.pending e) (sym waits_b) (answers_more cmp f.pending e (queue w b) (printed_for b ms) left))))

          spoken : (m : Message K) → lower.gateway ≡ j → call_of_message lower.face.number m ≡ Some c → AnswersFirst cmp f.pending e (m ∷ queue w b) → Serves_ ⊎ IsAnswerSpoken
          spoken m at_low says (inl here) = inr (sym above.beside ∙ at_low, answer_spoken m here says)
          spoken m at_low says (inr later) = on later.1

          cases : IsUnspoken cmp matching total s fine j node at_j c real ms w prints b lower ⊎ IsSpoken cmp matching total s fine j node at_j c real ms w prints b lower → Serves_ ⊎ IsAnswerSpoken
          cases (inl un) = on (subst (AnswersFirst cmp f.pending e) (sym un.queue_is) first)
          cases (inr sp) = spoken sp.message sp.here sp.says (subst (AnswersFirst cmp f.pending e) sp.oldest first)

      served_then : Serves_ ⊎ IsAnswerSpoken
      served_then = cases f.served
        where
          cases : IsServedBy cmp matching e i s a b f.pending Asks → Serves_ ⊎ IsAnswerSpoken
          cases (inl rises) = inl (rising rises.0 rises.1)
          cases (inr (inl first)) = falling first
          cases (inr (inr asks)) = inl (from_above (follows asks.0) (none_left asks.1))

      -- the ask is followed on, and no final of it was sent, or it is answered
      pub step_follows : (AsksAbove cmp matching e i t k id a b AsksThen × Each (IsNoFinal id) (printed_for k ms)) ⊎ AnswersFirst cmp id e (printed_for k ms)
      step_follows =
          ⊎_elim
          (λ served.
          ⊎_elim (λ first. inr first)
          (λ on.
          let upper_then = still_there cmp matching total s fine agree j node at_j c real still open_ spent accepted ms w prints b a f.upper above.upper_is back in
          let place = same_place cmp matching total s fine j node at_j c real ms w prints k own on.own above.own_is on.own_is in
          let place_low = same_place cmp matching total s fine j node at_j c real ms w prints a lower lower_then.face above.lower_is lower_then.is in
          inl (
            record {
              own = on.own;
              lower = lower_then.face;
              upper = upper_then.face;
              above = record { own_is = on.own_is; lower_is = lower_then.is; upper_is = upper_then.is; down = on.down; up = ap is_north lower_then.region ∙ above.up; joined = above.joined; beside = lower_then.gateway ∙ above.beside ∙ sym place.0 };
              ask = on.ask;
              ask_is = on.ask_is;
              interest = on.interest;
              unanswered = on.unanswered;
              pending = f.pending;
              pendings = on.pendings ∙ ap (λ n. (n, f.pending) ∷ []) (sym place_low.1);
              stands = stands_then;
              sent = sent_then;
              served = served;
            },
            on.none_,
          ))
          own_then)
          (λ answer. inr (answered_here answer.0 answer.1.0 answer.1.1 answer.1.2))
          served_then
