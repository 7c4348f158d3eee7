-- An interest that reaches the next gateway makes an ask there: it is answered at once where the expression is live, and
-- else followed on.
use Rattle.std.proofs.Common.{◌≡◌, ◌⊎◌, inl, inr, ℕ, ◌≤◌, Bool, true, false, ◌&&◌, ◌==◌, not, List, [], ◌∷◌, ◌++◌, length, filter, Some, None, refl, sym, ap, ◌∙◌, subst, arith, ne_eqb, ⊎_elim}
use Rattle.std.proofs.lemmas.Bool.{and_from, or_left}
use Rattle.std.specs.Cmp.{IsTotalOrder}
use Rattle.std.specs.List.{list_any}
use Rattle.std.specs.declared.cmp.Ordering.{Ordering}
use Rattle.std.specs.declared.cmp.Ordering.TheVariants.{Equal}
use Rattle.zt_region.specs.declared.region.Region.{Region}
use Rattle.zt_region.specs.declared.region.WhatAmI.TheVariants.{Client}
use Rattle.zt_region.specs.Region.{is_north, region_eq}
use Rattle.zt_protocol.specs.Interest.{has_tokens, is_current, is_future}
use Rattle.zt_protocol.specs.Plain.{PlainCall, Interest}
use Rattle.zt_protocol.specs.declared.entries.Sent.{Sent}
use Rattle.zt_protocol.specs.declared.interests.InterestOptions.{InterestOptions}
use Rattle.zt_protocol.specs.declared.messages.Message.{Message}
use Rattle.zt_protocol.specs.declared.messages.Message.TheVariants as message
use Rattle.zt_model.specs.Fabric.{Fabric, Node, printed_for}
use Rattle.zt_model.specs.Hat.{hat_of}
use Rattle.zt_model.specs.Hearing.{heard, heard_all, messages_for, put_if}
use Rattle.zt_model.specs.Linking.{waiting_of}
use Rattle.zt_model.specs.Lists.{at_id, has_id, is_among, nth, same}
use Rattle.zt_model.specs.Parts.{find_face}
use Rattle.zt_model.specs.Refusals.{call_causes, first_cause}
use Rattle.zt_model.specs.Routing.{asked_as, sent_as}
use Rattle.zt_model.specs.Rows.{Ask, ById, Face, InterestRow, Rows}
use Rattle.zt_model.specs.Says.{altered, answered_expressions, row_of, said}
use Rattle.zt_model.specs.Transcript.{Each, FaceAt, face_numbered}
use Rattle.zt_model.specs.TreePromises.{Here, IsMember, There}
use Rattle.zt_model.specs.Visible.{is_visible, rows_of_face, routed_rows, shows, visible_expressions}
use Rattle.zt_model.specs.Wants.{is_about, kept_options}
use Rattle.zt_laws.specs.Order.{FabricIsInOrder}
use Rattle.zt_laws.specs.Sound.{CallHasFirstIds, opens_face, rows_after_call}
use Rattle.zt_laws.proofs.Gateways.{PrintsSends}
use Rattle.zt_laws.proofs.Hearing.{find_each, heard_all-region}
use Rattle.zt_laws.proofs.Keys.{among-filter}
use Rattle.zt_laws.proofs.Lists.{any-map, any_weaker, each_append, each_weaker, never}
use Rattle.zt_laws.proofs.Visible.{among-visible_expressions, any_live_rows}
use Rattle.zt_theorem_soundness.proofs.ById.{at_has, at_put}
use Rattle.zt_theorem_tree_invariant.specs.Facts.{IsTreeFace, IsTreeGateway, LeadsDown, TreesAgree}
use Rattle.zt_theorem_tree_invariant.specs.Joints.{are_joined}
use Rattle.zt_theorem_tree_invariant.proofs.Climbing.{any_found}
use Rattle.zt_theorem_tree_invariant.proofs.Effects.{own_interest}
use Rattle.zt_theorem_tree_invariant.proofs.Lines.{tree_rows}
use Rattle.zt_theorem_tree_invariant.proofs.Members.{each_nth}
use Rattle.zt_theorem_tree_invariant.proofs.Quiet.{joined_back}
use Rattle.zt_theorem_tree_invariant.proofs.Saying.{TreeRows, all_asks, asks_after, find_heard_at}
use Rattle.zt_theorem_tree_invariant.proofs.Standing.{After, LeavesOpen, still_there}
use Rattle.zt_theorem_tree_invariant.proofs.Turning.{queue}
use Rattle.zt_theorem_tree_all_that_stays.specs.Steady.{AnswersFirst, FinalIsBelow, IsNoFinal}
use Rattle.zt_theorem_tree_all_that_stays.specs.Ways.{AsksAbove, IsAbove, IsStepUp, LivesAt}
use Rattle.zt_theorem_tree_all_that_stays.proofs.Answers.{stands_on}
use Rattle.zt_theorem_tree_all_that_stays.proofs.Asking.{goes_up, sent_ask_stays, sent_up, visible_is_answered}
use Rattle.zt_theorem_tree_all_that_stays.proofs.Carrying.{expires}
use Rattle.zt_theorem_tree_all_that_stays.proofs.Leading.{new_finals}
use Rattle.zt_theorem_tree_all_that_stays.proofs.Queues.{member_back}
use Rattle.zt_theorem_tree_all_that_stays.proofs.Stays.{is_left}
use Rattle.zt_theorem_tree_all_that_stays.proofs.Views.{Speaks, leaves_open, printed_here, rows_before, rows_then, same_place, still_open, still_waits, then_, waits_then}

pub member_is : {A : Type 0} (P : A → Type 0) (x : A) (xs : List A) → IsMember x xs → Each P xs → P x
member_is P x [] is all = elim is [ ]
member_is P x (y ∷ xs) (Here zs) all = all.0
member_is P x (y ∷ xs) (There z zs more) all = member_is P x xs more all.1

no_final_of : {K : Type 0} (next : ℕ) (m : Message K) → FinalIsBelow next m → IsNoFinal next m
no_final_of next (message.DeclareFinal k) less = ne_eqb next k (λ is. omega arith)
no_final_of next (message.DeclareToken k x j node) less = tt
no_final_of next (message.UndeclareToken k x node) less = tt
no_final_of next (message.Interest k mode options x) less = tt
no_final_of next (message.InterestFinal k) less = tt
no_final_of next (message.DeclareSubscriber n x j) less = tt
no_final_of next (message.DeclareQueryable n x info j) less = tt

module _ {K : Type 0} (cmp : K → K → Ordering) (matching : K → K → Bool) (total : IsTotalOrder cmp) (equal_is_same : (a b : K) → cmp a b ≡ Equal → a ≡ b) (e : K) (i : InterestRow K) (about : is_about matching i.expr e ≡ true) (tokens : has_tokens i.options ≡ true) (current : is_current i.mode ≡ true)
    (s : Fabric K) (fine : FabricIsInOrder cmp matching s) (agree : TreesAgree cmp matching s) (j : ℕ) (node : Node K) (at_j : nth j s.gateways ≡ Some node) (c : PlainCall K) (real : CallHasFirstIds c) (still : opens_face c ≡ false) (timeless : expires c ≡ false) (spent : Bool)
    (accepted : first_cause (call_causes cmp matching spent c node.rows) ≡ None) (ms : List (Sent K)) (w : ById (List (Message K))) (prints : PrintsSends s.faces j (said cmp matching c node.rows) ms) (waits : (k : ℕ) → has_id k s.waiting ≡ true → has_id k w ≡ true) (speaks : Speaks cmp matching total s fine j node at_j c real ms w prints) where
  abbrev t : Fabric K
  t = then_ cmp matching total s fine j node at_j c real ms w prints

  abbrev g : Rows K
  g = node.rows

  the_same : {A : Type 0} {u v : A} → Some u ≡ Some v → u ≡ v
  the_same h = cc

  abbrev open_ : (k b : ℕ) (z : FaceAt K) → face_numbered s k ≡ Some z → are_joined s k b ≡ true → z.gateway ≡ j → LeavesOpen c z.face.number
  open_ = leaves_open cmp matching total s fine j node at_j c real ms w prints speaks

  -- the face keeps the interest as it was sent
  pub row_is : (u : Face K) → u.mode ≡ Client → kept_options Client i.options ≡ i.options → row_of cmp matching u i.mode i.options i.expr ≡ i
  row_is u mode_ kept = ap (λ o. (let r : InterestRow K = record { mode = i.mode; options = o; expr = i.expr } in r)) (ap (λ m. kept_options m i.options) mode_ ∙ kept)

  module _ (b : ℕ) (u : FaceAt K) (u_is : face_numbered s b ≡ Some u) (down : is_north u.face.region ≡ false) (here : u.gateway ≡ j) (id : ℕ) (options : InterestOptions) (asks : c ≡ Interest u.face.number id i.mode options i.expr) (own_row : row_of cmp matching u.face i.mode options i.expr ≡ i) where
    abbrev n : ℕ
    n = u.face.number

    found : find_face n g ≡ Some u.face
    found = rows_before cmp matching total s fine j node at_j c real ms w prints b u u_is here

    abbrev rows : TreeRows cmp g
    rows = tree_rows cmp matching s j node fine agree at_j

    leads_down : LeadsDown g.mode u.face
    leads_down = (find_each (IsTreeFace g.mode) (λ (h : Face K). n == h.number) g.faces u.face rows.faces found).down down

    printed_b : printed_for b ms ≡ messages_for n (said cmp matching c g)
    printed_b = printed_here cmp matching total s fine j node at_j c real ms w prints b u u_is here

    -- ---- where the expression is live

    module _ (q : ℕ) (lives : LivesAt cmp matching e s q) (beside : lives.own.gateway ≡ j) where
      seen : is_visible cmp g u.face.region e ≡ true
      unfolding is_visible
      seen =
          let test = λ (row : Region × K). same cmp e row.1 && shows g.mode u.face.region row.0 in
          let found_q = rows_before cmp matching total s fine j node at_j c real ms w prints q lives.own lives.own_is beside in
          let all_shown : (r : Region) → shows g.mode u.face.region r ≡ true = λ r. or_left (hat_of g.mode u.face.region).shares_tokens (not (region_eq r u.face.region)) leads_down.shares in
          any_live_rows test g g.faces
          ∙ or_left (list_any (λ f. list_any test (rows_of_face f)) g.faces) (list_any test (routed_rows g))
          (any_found (λ (h : Face K). lives.own.face.number == h.number) (λ f. list_any test (rows_of_face f)) g.faces lives.own.face found_q
          (any-map test (λ row. (lives.own.face.region, row.1)) lives.own.face.live
          ∙ any_weaker (λ row. same cmp e row.1) (λ row. same cmp e row.1 && shows g.mode u.face.region lives.own.face.region) (λ row same_. and_from (same cmp e row.1) (shows g.mode u.face.region lives.own.face.region) same_ (all_shown lives.own.face.region)) lives.own.face.live lives.live))

      among : is_among cmp e (answered_expressions cmp matching g i u.face) ≡ true
      unfolding answered_expressions
      among =
          rw (current, tokens)
          (among-filter cmp total equal_is_same (is_about matching i.expr) e (visible_expressions cmp g u.face.region) ∙ ap (λ x. is_about matching i.expr e && x) (among-visible_expressions cmp total g u.face.region e ∙ seen) ∙ and_from (is_about matching i.expr e) true about refl)

      pub new_is_answered : AnswersFirst cmp id e (printed_for b ms)
      new_is_answered =
          let first = visible_is_answered cmp matching n id i.mode options i.expr g u.face rows found e (ap (λ r. is_among cmp e (answered_expressions cmp matching g r u.face)) own_row ∙ among) in
          subst (AnswersFirst cmp id e) (sym (printed_b ∙ ap (λ d. messages_for n (said cmp matching d g)) asks)) first

  -- ---- where it goes further up

  module _ (b a2 b2 : ℕ) (step : IsStepUp s b a2 b2) (here : step.own.gateway ≡ j) (id : ℕ) (options : InterestOptions) (asks : c ≡ Interest step.own.face.number id i.mode options i.expr) (u_row : row_of cmp matching step.own.face i.mode options i.expr ≡ i) where
    abbrev above : IsAbove s b a2 b2 step.own step.lower step.upper
    above = step.above

    abbrev u : FaceAt K
    u = step.own

    abbrev low : FaceAt K
    low = step.lower

    abbrev nu : ℕ
    nu = u.face.number

    abbrev n2 : ℕ
    n2 = low.face.number

    abbrev rows2 : TreeRows cmp g
    rows2 = tree_rows cmp matching s j node fine agree at_j

    low_here : low.gateway ≡ j
    low_here = above.beside ∙ here

    found_u : find_face nu g ≡ Some u.face
    found_u = rows_before cmp matching total s fine j node at_j c real ms w prints b u above.own_is here

    found_low : find_face n2 g ≡ Some low.face
    found_low = rows_before cmp matching total s fine j node at_j c real ms w prints a2 low above.lower_is low_here

    back : are_joined s b2 a2 ≡ true
    back = joined_back s a2 b2 above.joined

    client : g.mode ≡ Client
    client = ((find_each (IsTreeFace g.mode) (λ (h : Face K). n2 == h.number) g.faces low.face rows2.faces found_low).up above.up).own

    few : length (filter (λ h. is_north h.region) g.faces) ≤ 1
    few = (each_nth (λ (x : Node K). IsTreeGateway cmp matching x.rows) j s.gateways node agree.gateways at_j).one_north

    sent : sent_as g u.face.region i.mode ≡ (n2, low.face.next) ∷ []
    sent = sent_up cmp matching nu id i.mode options i.expr g u.face rows2 found_u n2 low.face found_low above.up few client above.down

    apart : (n2 == nu) ≡ false
    apart =
        ne_eqb n2 nu
        (λ is.
        let same_ : low.face ≡ u.face = the_same (sym found_low ∙ ap (λ k. find_face k g) is ∙ found_u) in
        never (ap (λ (h : Face K). is_north h.region) (sym same_) ∙ above.up) above.down)

    said_c : (k : ℕ) → messages_for k (said cmp matching c g) ≡ messages_for k (said cmp matching (Interest nu id i.mode options i.expr) g)
    said_c k = ap (λ d. messages_for k (said cmp matching d g)) asks

    goes : messages_for n2 (said cmp matching c g) ≡ message.Interest low.face.next i.mode i.options i.expr ∷ []
    goes =
        said_c n2 ∙ goes_up cmp matching nu id i.mode options i.expr g u.face rows2 found_u n2 low.face found_low above.up few client above.down apart
        ∙ ap (λ (r : InterestRow K). message.Interest low.face.next i.mode r.options i.expr ∷ []) u_row

    none_said : Each (IsNoFinal id) (messages_for nu (said cmp matching c g))
    none_said = subst (Each (IsNoFinal id)) (sym (said_c nu)) (sent_ask_stays cmp matching nu id i.mode options i.expr g u.face rows2 found_u (n2, low.face.next) current sent)

    printed_u : printed_for b ms ≡ messages_for nu (said cmp matching c g)
    printed_u = printed_here cmp matching total s fine j node at_j c real ms w prints b u above.own_is here

    -- ---- the face to the north after the call

    abbrev lower_then : After cmp matching total s fine agree j node at_j c real still open_ spent accepted ms w prints a2 low
    lower_then = still_there cmp matching total s fine agree j node at_j c real still open_ spent accepted ms w prints a2 b2 low above.lower_is above.joined

    lower_is : (f : Face K) × ((now : ℕ) × (heard cmp now (message.Interest low.face.next i.mode i.options i.expr) f ≡ lower_then.face.face))
    unfolding heard_all
    lower_is =
        let left = is_left cmp matching total spent c g n2 low.face rows2 accepted still (open_ a2 b2 low above.lower_is above.joined low_here) found_low in
        let now = (altered cmp matching c g).moment in
        let h = heard_all cmp now (messages_for n2 (said cmp matching c g)) left.after in
        let found_h : find_face n2 (rows_after_call cmp matching c g) ≡ Some h = find_heard_at cmp (said cmp matching c g) (altered cmp matching c g) n2 left.after left.altered_is in
        let place = same_place cmp matching total s fine j node at_j c real ms w prints a2 low lower_then.face above.lower_is lower_then.is in
        let then_low : find_face n2 (rows_after_call cmp matching c g) ≡ Some lower_then.face.face = ap (λ k. find_face k (rows_after_call cmp matching c g)) (sym place.1) ∙ rows_then cmp matching total s fine j node at_j c real ms w prints a2 lower_then.face lower_then.is (place.0 ∙ low_here) in
        let is : h ≡ lower_then.face.face = the_same (sym found_h ∙ then_low) in
        (left.after, (now, ap (λ msgs. heard_all cmp now msgs left.after) (sym goes) ∙ is))

    stands_up : has_id low.face.next lower_then.face.face.pendings ≡ true
    stands_up =
        ap (λ (h : Face K). has_id low.face.next h.pendings) (sym lower_is.1.1)
        ∙ (rw current (at_has low.face.next (put_if true low.face.next (record { mode = i.mode; since = lower_is.1.0 }) lower_is.0.pendings) (record { mode = i.mode; since = lower_is.1.0 }) (at_put low.face.next (record { mode = i.mode; since = lower_is.1.0 }) lower_is.0.pendings)))

    sent_up_then : is_future i.mode ≡ true → at_id low.face.next lower_then.face.face.locals ≡ Some i
    sent_up_then later = ap (λ (h : Face K). at_id low.face.next h.locals) (sym lower_is.1.1) ∙ (rw later (at_put low.face.next i lower_is.0.locals))

    -- ---- the new ask

    pub new_is_followed : (AsksThen : ℕ → Type 0) → (AsksAbove cmp matching e i t b id a2 b2 AsksThen × Each (IsNoFinal id) (printed_for b ms)) ⊎ AnswersFirst cmp id e (printed_for b ms)
    new_is_followed AsksThen =
        let acts = own_interest cmp matching nu id i.mode options i.expr g u.face rows2 found_u above.down in
        let after = asked_as (sent_as g u.face.region i.mode) id (row_of cmp matching u.face i.mode options i.expr) u.face in
        let new : Ask K = record { interest = row_of cmp matching u.face i.mode options i.expr; pendings = sent_as g u.face.region i.mode; answered = [] } in
        let said_ = messages_for nu (said cmp matching c g) in
        let altered_is : find_face nu (altered cmp matching c g) ≡ Some after = ap (λ d. find_face nu (altered cmp matching d g)) asks ∙ acts.altered_is in
        let now = (altered cmp matching c g).moment in
        let h = heard_all cmp now said_ after in
        let found_h : find_face nu (rows_after_call cmp matching c g) ≡ Some h = find_heard_at cmp (said cmp matching c g) (altered cmp matching c g) nu after altered_is in
        let y = still_open cmp matching total s fine j node at_j c real ms w prints b u h above.own_is here found_h in
        let at_new : at_id id after.asks ≡ Some new = rw current (at_put id new u.face.asks) in
        let asks_are : y.0.face.asks ≡ asks_after cmp said_ after.asks = ap (λ (k : Face K). k.asks) y.2 ∙ all_asks cmp now said_ after in
        let upper_then = still_there cmp matching total s fine agree j node at_j c real still open_ spent accepted ms w prints b2 a2 step.upper above.upper_is back in
        let place = same_place cmp matching total s fine j node at_j c real ms w prints b u y.0 above.own_is y.1 in
        let place_low = same_place cmp matching total s fine j node at_j c real ms w prints a2 low lower_then.face above.lower_is lower_then.is in
        let waits_a : waiting_of t a2 ≡ queue w a2 ++ printed_for a2 ms = waits_then cmp matching total s fine j node at_j c real ms w prints a2 (waits a2 (agree.links.wait a2 b2 above.joined)) in
        let waits_b : waiting_of t b2 ≡ queue w b2 ++ printed_for b2 ms = waits_then cmp matching total s fine j node at_j c real ms w prints b2 (waits b2 (agree.links.wait b2 a2 back)) in
        let m : Message K = message.Interest low.face.next i.mode i.options i.expr in
        let printed_a : printed_for a2 ms ≡ m ∷ [] = printed_here cmp matching total s fine j node at_j c real ms w prints a2 low above.lower_is low_here ∙ goes in
        let member : IsMember m (waiting_of t a2) = subst (IsMember m) (sym waits_a) (member_back m (queue w a2) (printed_for a2 ms) (subst (IsMember m) (sym printed_a) (Here []))) in
        let none_old : Each (IsNoFinal low.face.next) (queue w b2) =
        each_weaker (FinalIsBelow low.face.next) (IsNoFinal low.face.next) (no_final_of low.face.next) (queue w b2) (still_waits cmp matching total s fine j node at_j c real ms w prints (FinalIsBelow low.face.next) b2 low (speaks a2 b2 low above.lower_is above.joined) step.finals) in
        let none_new : Each (IsNoFinal low.face.next) (printed_for b2 ms) = new_finals cmp matching total equal_is_same s fine agree j node at_j c real still timeless spent accepted ms w prints waits speaks b a2 b2 step low.face.next (omega arith) in
        ⊎_elim
        (λ first. inr (subst (AnswersFirst cmp id e) (sym printed_u) first))
        (λ on.
        inl (
          record {
            own = y.0;
            lower = lower_then.face;
            upper = upper_then.face;
            above =
                record {
                  own_is = y.1;
                  lower_is = lower_then.is;
                  upper_is = upper_then.is;
                  down = ap (λ (k : Face K). is_north k.region) y.2 ∙ ap is_north (heard_all-region cmp now said_ after) ∙ above.down;
                  up = ap is_north lower_then.region ∙ above.up;
                  joined = above.joined;
                  beside = lower_then.gateway ∙ above.beside ∙ sym place.0;
                };
            ask = on.ask;
            ask_is = ap (at_id id) asks_are ∙ on.ask_is;
            interest = on.interest ∙ u_row;
            unanswered = on.unanswered;
            pending = low.face.next;
            pendings = on.pendings ∙ sent ∙ ap (λ k. (k, low.face.next) ∷ []) (sym place_low.1);
            stands = stands_up;
            sent = sent_up_then;
            served = inl (member, subst (Each (IsNoFinal low.face.next)) (sym waits_b) (each_append (IsNoFinal low.face.next) (queue w b2) (printed_for b2 ms) none_old none_new));
          },
          subst (Each (IsNoFinal id)) (sym printed_u) none_said,
        ))
        (stands_on cmp id e said_ after.asks new at_new none_said refl)
