-- An ask that is pursued is pursued on through each call and step that doesn't disturb it, or is answered, or its face is
-- closed; and what is closed stays closed and is sent nothing.
use Rattle.std.proofs.Common.{◌≡◌, ◌≢◌, ◌⊎◌, inl, inr, ℕ, Bool, true, false, ◌&&◌, ◌==◌, not, List, [], ◌∷◌, Option, Some, None, refl, sym, ap, ◌∙◌, subst, eqb-true, eq-eqb, ⊎_elim}
use Rattle.std.proofs.lemmas.Bool.{and_parts, or_cases, or_left, or_right}
use Rattle.std.specs.Cmp.{IsTotalOrder}
use Rattle.std.specs.List.{list_any}
use Rattle.std.specs.declared.cmp.Ordering.{Ordering}
use Rattle.std.specs.declared.cmp.Ordering.TheVariants.{Equal}
use Rattle.zt_region.specs.Region.{is_north}
use Rattle.zt_protocol.specs.Interest.{has_tokens, is_current, is_future}
use Rattle.zt_protocol.specs.Plain.{PlainCall, NewSession, NewTransport, DeclareToken, UndeclareToken, Interest, InterestFinal, DeclareFinal, CloseFace, Expire, SetTrees, SetEntities}
use Rattle.zt_protocol.specs.declared.entries.Sent.{Sent}
use Rattle.zt_protocol.specs.declared.messages.Message.{Message}
use Rattle.zt_protocol.specs.declared.messages.Message.TheVariants as message
use Rattle.zt_model.specs.Fabric.{Fabric, Node, Place, call_face, number_from, printed_for}
use Rattle.zt_model.specs.Hearing.{messages_for}
use Rattle.zt_model.specs.Linking.{call_of_message, is_end_of}
use Rattle.zt_model.specs.Lists.{at_id, nth, same}
use Rattle.zt_model.specs.Parts.{find_face}
use Rattle.zt_model.specs.Refusals.{is_illegal_current}
use Rattle.zt_model.specs.Rows.{Ask, Face, InterestRow}
use Rattle.zt_model.specs.Says.{said}
use Rattle.zt_model.specs.Transcript.{Each, FaceAt, face_numbered}
use Rattle.zt_model.specs.TreePromises.{is_plain_number}
use Rattle.zt_model.specs.Wants.{is_about}
use Rattle.zt_laws.specs.Order.{FabricIsInOrder}
use Rattle.zt_laws.specs.Sound.{is_placed, rows_after_call}
use Rattle.zt_laws.proofs.Entries.{nth-at_nth}
use Rattle.zt_laws.proofs.Gateways.{prints_sorted}
use Rattle.zt_laws.proofs.LinesOrder.{calls_nothing, gateway_in_order}
use Rattle.zt_laws.proofs.Lists.{any_weaker, by_test, never}
use Rattle.zt_laws.proofs.Numbered.{nth_real}
use Rattle.zt_laws.proofs.Places.{nth_placed, number_of_nth}
use Rattle.zt_theorem_tree_invariant.specs.Facts.{TreesAgree}
use Rattle.zt_theorem_tree_invariant.specs.Joints.{are_joined, joins}
use Rattle.zt_theorem_tree_invariant.proofs.Lasting.{printed_by, turned_by}
use Rattle.zt_theorem_tree_invariant.proofs.Lines.{same_number, tree_rows}
use Rattle.zt_theorem_tree_invariant.proofs.Members.{is_there, numbered}
use Rattle.zt_theorem_tree_invariant.proofs.Standing.{LeavesOpen, was_there}
use Rattle.zt_theorem_tree_invariant.proofs.Turning.{nth_other}
use Rattle.zt_theorem_tree_all_that_stays.specs.Steady.{AnswersFirst, IsNoFinal}
use Rattle.zt_theorem_tree_all_that_stays.specs.Ways.{IsCarriedUp, IsClosedAt, IsFollowed, IsPursued, LivesAt}
use Rattle.zt_theorem_tree_all_that_stays.proofs.Absent.{absent_of, absent_said, closed_said, sent_none}
use Rattle.zt_theorem_tree_all_that_stays.proofs.Carrying.{carried_up, expires}
use Rattle.zt_theorem_tree_all_that_stays.proofs.Dropping.{carried_dropped, followed_dropped, leads_dropped}
use Rattle.zt_theorem_tree_all_that_stays.proofs.Followed.{followed_then}
use Rattle.zt_theorem_tree_all_that_stays.proofs.Leading.{leads_then}
use Rattle.zt_theorem_tree_all_that_stays.proofs.Speaking.{IsStepCall, LeftByDropped, LeftBySpoken}
use Rattle.zt_theorem_tree_all_that_stays.proofs.Views.{closed_is_gone, leaves_open, printed_here}

unnumbered : {K : Type 0} (t : Fabric K) (k : ℕ) (p : Place) (node : Node K) → nth k t.faces ≡ Some p → nth p.gateway t.gateways ≡ Some node → find_face p.face node.rows ≡ None → face_numbered t k ≡ None
unfolding face_numbered
unnumbered {K} t k p node at_ there gone =
    let at_face = λ (o : Option (Face K)). (let found : Option (FaceAt K) = elim o [ None ↦ None | Some h ↦ Some (record { gateway = p.gateway; rows = node.rows; face = h }) ] in found) in
    let at_node = λ (o : Option (Node K)). (let found : Option (FaceAt K) = elim o [ None ↦ None | Some x ↦ elim (find_face p.face x.rows) [ None ↦ None | Some h ↦ Some (record { gateway = p.gateway; rows = x.rows; face = h }) ] ] in found) in
    let at_place = λ (o : Option Place). (let found : Option (FaceAt K) = elim o [ None ↦ None | Some q ↦ elim (nth q.gateway t.gateways) [ None ↦ None | Some x ↦ elim (find_face q.face x.rows) [ None ↦ None | Some h ↦ Some (record { gateway = q.gateway; rows = x.rows; face = h }) ] ] ] in found) in
    ap at_place at_ ∙ ap at_node there ∙ ap at_face gone

pub closed_unnumbered : {K : Type 0} (t : Fabric K) (k : ℕ) → IsClosedAt t k → face_numbered t k ≡ None
closed_unnumbered t k c = unnumbered t k c.place c.node c.place_is c.node_is c.gone

-- an end of an open link isn't plain
pub linked_not_plain : {K : Type 0} (s : Fabric K) (a b : ℕ) → are_joined s a b ≡ true → is_plain_number s a ≡ true → ⊥
linked_not_plain s a b joined plain =
    let ends : list_any (is_end_of a) s.links ≡ true = any_weaker (λ link. link.is_open && joins a b link) (is_end_of a)
    (λ link h.
    let parts = and_parts link.is_open (joins a b link) h in
    ⊎_elim (λ one. or_left (a == link.one) (a == link.two) (and_parts (a == link.one) (b == link.two) one).0) (λ two. or_right (a == link.one) (a == link.two) (and_parts (a == link.two) (b == link.one) two).0) (or_cases ((a == link.one) && (b == link.two)) ((a == link.two) && (b == link.one)) parts.1))
    s.links joined in
    never plain (ap not ends)

module _ {K : Type 0} (cmp : K → K → Ordering) (matching : K → K → Bool) (total : IsTotalOrder cmp) (equal_is_same : (a b : K) → cmp a b ≡ Equal → a ≡ b) (s : Fabric K) (fine : FabricIsInOrder cmp matching s) (agree : TreesAgree cmp matching s) where
  the_same : {A : Type 0} {u v : A} → Some u ≡ Some v → u ≡ v
  the_same h = cc

  -- what a face speaks lets no time go on, and names the face
  step_timeless : (n : ℕ) (m : Message K) (c : PlainCall K) → call_of_message n m ≡ Some c → expires c ≡ false
  step_timeless n (message.DeclareToken id e i node_) c is = let same_ : DeclareToken n id e node_ i ≡ c = the_same is in ap expires (sym same_)
  step_timeless n (message.UndeclareToken id e node_) c is = let same_ : UndeclareToken n id e node_ ≡ c = the_same is in ap expires (sym same_)
  step_timeless n (message.DeclareFinal id) c is = let same_ : DeclareFinal n id ≡ c = the_same is in ap expires (sym same_)
  step_timeless n (message.Interest id mode options e) c is = let same_ : Interest n id mode options e ≡ c = the_same is in ap expires (sym same_)
  step_timeless n (message.InterestFinal id) c is = let same_ : InterestFinal n id ≡ c = the_same is in ap expires (sym same_)
  step_timeless n (message.DeclareSubscriber number e i) c is = cc
  step_timeless n (message.DeclareQueryable number e info i) c is = cc

  step_names : (n : ℕ) (m : Message K) (c : PlainCall K) → call_of_message n m ≡ Some c → call_face c ≡ Some n
  step_names n (message.DeclareToken id e i node_) c is = let same_ : DeclareToken n id e node_ i ≡ c = the_same is in ap call_face (sym same_)
  step_names n (message.UndeclareToken id e node_) c is = let same_ : UndeclareToken n id e node_ ≡ c = the_same is in ap call_face (sym same_)
  step_names n (message.DeclareFinal id) c is = let same_ : DeclareFinal n id ≡ c = the_same is in ap call_face (sym same_)
  step_names n (message.Interest id mode options e) c is = let same_ : Interest n id mode options e ≡ c = the_same is in ap call_face (sym same_)
  step_names n (message.InterestFinal id) c is = let same_ : InterestFinal n id ≡ c = the_same is in ap call_face (sym same_)
  step_names n (message.DeclareSubscriber number e i) c is = cc
  step_names n (message.DeclareQueryable number e info i) c is = cc

  -- a plain face makes no step
  not_stepping : (j : ℕ) (node : Node K) (c : PlainCall K) (k : ℕ) (z : FaceAt K) → nth j s.gateways ≡ Some node → face_numbered s k ≡ Some z → z.gateway ≡ j → is_plain_number s k ≡ true → call_face c ≡ Some z.face.number → IsStepCall cmp matching total equal_is_same s fine agree j c → ⊥
  not_stepping j node c k z at_j z_is here plain names step =
      let both : Some step.at.face.number ≡ Some z.face.number = sym (step_names step.at.face.number step.message c step.says) ∙ names in
      let number_ : step.at.face.number ≡ z.face.number = the_same both in
      let at_ = is_there s step.speaker step.at step.at_is in
      let same_ : k ≡ step.speaker = same_number cmp matching total s fine agree step.speaker k at_.place z at_.place_is z_is (here ∙ sym step.here ∙ sym at_.gateway_is) (sym number_ ∙ sym at_.number_is) node (ap (λ g. nth g s.gateways) (at_.gateway_is ∙ step.here) ∙ at_j) in
      linked_not_plain s k step.other (subst (λ x. are_joined s x step.other ≡ true) (sym same_) step.joined) plain

  -- ---- a face that was closed

  module _ (k : ℕ) (closed : IsClosedAt s k) where
    abbrev pub StaysClosed : List (Sent K) → Fabric K → Type 0
    StaysClosed ms t = IsClosedAt t k × (printed_for k ms ≡ [])

    pub closed_calls : LeftBySpoken cmp matching total equal_is_same s fine agree (λ j c. expires c ≡ false) (Unit {0}) StaysClosed
    closed_calls = λ spent j node c w waits at_j still accepted speaks how.
        let timeless : expires c ≡ false = ⊎_elim (λ h. h) (λ step. step_timeless step.1.at.face.number step.1.message c step.1.says) how in
        let real = calls_nothing cmp matching total c still in
        let ms = printed_by cmp matching total equal_is_same s fine agree j node c in
        let prints = prints_sorted s.faces j (said cmp matching c node.rows) in
        let t = turned_by cmp matching total equal_is_same s fine agree j node c w at_j still in
        let p = closed.place in
        let order = gateway_in_order cmp matching s p.gateway closed.node closed.node_is fine in
        let number_ : number_from 1 p.gateway p.face s.faces ≡ k = number_of_nth k s.faces p order.places_rise closed.place_is in
        let placed = nth_placed k s.faces p closed.place_is in
        let change = λ (x : Node K). record x { rows = rows_after_call cmp matching c x.rows } in
        by_test (p.gateway == j)
        (λ same_.
        let here : p.gateway ≡ j = eqb-true p.gateway j same_ in
        let node_same : closed.node ≡ node = the_same (sym closed.node_is ∙ ap (λ g. nth g s.gateways) here ∙ at_j) in
        let gone : find_face p.face node.rows ≡ None = ap (λ (x : Node K). find_face p.face x.rows) (sym node_same) ∙ closed.gone in
        let says : messages_for p.face (said cmp matching c node.rows) ≡ [] = sent_none cmp matching p.face (said cmp matching c node.rows) (absent_said cmp matching p.face c node.rows (tree_rows cmp matching s j node fine agree at_j) still timeless (absent_of cmp matching p.face node.rows.faces gone)) in (
          record {
            place = p;
            node = change node;
            place_is = closed.place_is;
            node_is = ap (λ i. nth i t.gateways) here ∙ nth-at_nth j change s.gateways node at_j;
            gone = by_found (find_face p.face (rows_after_call cmp matching c node.rows)) refl
                (λ h is.
                let now_ = numbered t k p (change node) h closed.place_is (ap (λ i. nth i t.gateways) here ∙ nth-at_nth j change s.gateways node at_j) is in
                let before = was_there cmp matching total s fine agree j node at_j c real still (leaves_open cmp matching total s fine j node at_j c real ms w prints speaks) spent accepted ms w prints k (record { gateway = p.gateway; rows = (change node).rows; face = h }) now_ in
                none_some (sym (closed_unnumbered s k closed) ∙ before.1));
          },
          ap (λ n. printed_for n ms) (sym number_) ∙ ap (λ g. printed_for (number_from 1 g p.face s.faces) ms) here ∙ prints.own p.face (ap (λ g. is_placed g p.face s.faces) (sym here) ∙ placed) ∙ says,
        ))
        (λ other.
        let apart : p.gateway ≢ j = λ is. never (eq-eqb p.gateway j is) other in (
          record { place = p; node = closed.node; place_is = closed.place_is; node_is = nth_other p.gateway j change s.gateways closed.node (nth_real j s.gateways node at_j) apart closed.node_is; gone = closed.gone },
          ap (λ n. printed_for n ms) (sym number_) ∙ prints.other p.gateway p.face apart placed,
        ))
      where
        none_some : {A B : Type 0} {x : A} → None ≡ Some x → B
        none_some h = cc

        by_found : {A : Type 0} (o : Option A) → o ≡ o → ((h : A) → o ≡ Some h → o ≡ None) → o ≡ None
        by_found None is h = refl
        by_found (Some x) is h = h x refl

    pub closed_dropped : LeftByDropped cmp matching total equal_is_same s fine agree StaysClosed
    unfolding printed_for
    closed_dropped = λ q0 q1 joined z z_is node at_j found m rest old why. (record { place = closed.place; node = closed.node; place_is = closed.place_is; node_is = closed.node_is; gone = closed.gone }, refl)

  -- ---- an ask that is pursued

  module _ (e : K) (i : InterestRow K) (about : is_about matching i.expr e ≡ true) (tokens : has_tokens i.options ≡ true) (current : is_current i.mode ≡ true) (legal : is_illegal_current i.mode i.options ≡ false)
      (holds : (k : ℕ) (z : FaceAt K) (id : ℕ) (ask : Ask K) → face_numbered s k ≡ Some z → at_id id z.face.asks ≡ Some ask → is_future ask.interest.mode ≡ true → at_id id z.face.held ≡ Some ask.interest)
      (k id q : ℕ) (way up : List (ℕ × ℕ)) (top : ℕ) (plain : is_plain_number s k ≡ true) (pursued : IsPursued cmp matching e i s k id q way up top) where
    -- it is pursued on and sent no final, or is answered first, or its face is closed
    abbrev pub Outcome : List (Sent K) → Fabric K → Type 0
    Outcome ms t = (IsPursued cmp matching e i t k id q way up top × Each (IsNoFinal id) (printed_for k ms)) ⊎ (AnswersFirst cmp id e (printed_for k ms) ⊎ (IsClosedAt t k × (printed_for k ms ≡ [])))

    -- where the expression is still live then
    abbrev pub GoesOn : List (Sent K) → Fabric K → Type 0
    GoesOn ms t = FabricIsInOrder cmp matching t → LivesAt cmp matching e t q → Outcome ms t

    -- the call lets no time go on, and doesn't end the ask by its interest
    pub record IsCalm (j : ℕ) (c : PlainCall K) : Type 0 where
      pub timeless : expires c ≡ false
      pub held : (z : FaceAt K) → face_numbered s k ≡ Some z → z.gateway ≡ j → c ≡ InterestFinal z.face.number id → is_future i.mode ≡ false

    first_face : (way2 : List (ℕ × ℕ)) (u : Fabric K) → IsFollowed cmp matching e i u way2 k id → (z : FaceAt K) × ((face_numbered u k ≡ Some z) × (is_north z.face.region ≡ false))
    first_face [] u f = absurd f
    first_face (step ∷ way2) u f = (f.own, (f.above.own_is, f.above.down))

    -- the face at the gateway to which the expression is carried
    end_lives : (up2 : List (ℕ × ℕ)) (n : ℕ) → IsCarriedUp cmp matching e s n up2 top → LivesAt cmp matching e s n → (m : ℕ) × ((l : LivesAt cmp matching e s m) × (l.own.gateway ≡ top))
    end_lives [] n u lives = let same_ : u.0 ≡ lives.own = the_same (sym u.1 ∙ lives.own_is) in (n, (lives, ap (λ (z : FaceAt K). z.gateway) (sym same_) ∙ u.2))
    end_lives (step ∷ up2) n u lives =
        let c = u.0 in
        let ends = agree.links.meet step.0 step.1 c.above.joined in
        let one : ends.one ≡ c.lower = the_same (sym ends.one_is ∙ c.above.lower_is) in
        let two : ends.two ≡ c.upper = the_same (sym ends.two_is ∙ c.above.upper_is) in
        end_lives up2 step.1 u.1 (record {
          own = c.upper;
          own_is = c.above.upper_is;
          down = ap (λ (z : FaceAt K). is_north z.face.region) (sym two) ∙ ends.one_leads_up ∙ ap (λ (z : FaceAt K). not (is_north z.face.region)) one ∙ ap not c.above.up;
          live = any_weaker (λ row. (c.id == row.0) && same cmp e row.1) (λ row. same cmp e row.1) (λ row both. (and_parts (c.id == row.0) (same cmp e row.1) both).1) c.upper.face.live c.live;
        })

    -- the call closes the face, or leaves it open
    closes_or_not : (j : ℕ) (c : PlainCall K) (z : FaceAt K) → ((z.gateway ≡ j) × (c ≡ CloseFace z.face.number)) ⊎ (z.gateway ≡ j → LeavesOpen c z.face.number)
    closes_or_not j (CloseFace n) z =
        by_test (z.gateway == j)
        (λ here.
        by_test (n == z.face.number)
        (λ own. inl (eqb-true z.gateway j here, ap CloseFace (eqb-true n z.face.number own)))
        (λ other. inr (λ _ closes m m_is is. let m_n : Some n ≡ Some m = m_is in let n_is : n ≡ m = the_same m_n in never (eq-eqb n z.face.number (n_is ∙ is)) other)))
        (λ apart. inr (λ is. never (eq-eqb z.gateway j is) apart))
    closes_or_not j (NewSession first) z = inr (λ here closes. never closes refl)
    closes_or_not j (NewTransport zid whatami region bound first) z = inr (λ here closes. never closes refl)
    closes_or_not j (DeclareToken n x y node_ interest) z = inr (λ here closes. never closes refl)
    closes_or_not j (UndeclareToken n x given node_) z = inr (λ here closes. never closes refl)
    closes_or_not j (Interest n x mode options y) z = inr (λ here closes. never closes refl)
    closes_or_not j (InterestFinal n x) z = inr (λ here closes. never closes refl)
    closes_or_not j (DeclareFinal n x) z = inr (λ here closes. never closes refl)
    closes_or_not j (Expire now) z = inr (λ here closes. never closes refl)
    closes_or_not j (SetTrees region t) z = inr (λ here closes. never closes refl)
    closes_or_not j (SetEntities n subscribers queryables) z = inr (λ here closes. never closes refl)

    pub pursued_calls : LeftBySpoken cmp matching total equal_is_same s fine agree IsCalm (Unit {0}) GoesOn
    pursued_calls = λ spent j node c w waits at_j still accepted speaks how order lives_then.
        let real = calls_nothing cmp matching total c still in
        let ms = printed_by cmp matching total equal_is_same s fine agree j node c in
        let prints = prints_sorted s.faces j (said cmp matching c node.rows) in
        let t = turned_by cmp matching total equal_is_same s fine agree j node c w at_j still in
        let own = first_face way s pursued.followed in
        let z = own.0 in
        let z_is = own.1.0 in
        let timeless : expires c ≡ false = ⊎_elim (λ calm. calm.timeless) (λ step. step_timeless step.1.at.face.number step.1.message c step.1.says) how in
        let held : z.gateway ≡ j → c ≡ InterestFinal z.face.number id → is_future i.mode ≡ false = λ here is.
        ⊎_elim (λ calm. calm.held z z_is here is) (λ step. absurd (not_stepping j node c k z at_j z_is here plain (ap call_face is) step.1)) how in
        ⊎_elim
        (λ closes.
        let here = closes.0 in
        let th = is_there s k z z_is in
        let change = λ (x : Node K). record x { rows = rows_after_call cmp matching c x.rows } in
        let place_here : th.place.gateway ≡ j = th.gateway_is ∙ here in
        let gone : find_face th.place.face (rows_after_call cmp matching c node.rows) ≡ None = ap (λ n. find_face n (rows_after_call cmp matching c node.rows)) th.number_is ∙ ap (λ d. find_face z.face.number (rows_after_call cmp matching d node.rows)) closes.1 ∙ closed_is_gone cmp matching z.face.number node.rows in
        let none_ : messages_for z.face.number (said cmp matching c node.rows) ≡ [] = ap (λ d. messages_for z.face.number (said cmp matching d node.rows)) closes.1 ∙ sent_none cmp matching z.face.number (said cmp matching (CloseFace z.face.number) node.rows) (closed_said cmp matching z.face.number node.rows) in
        inr (inr (
          record { place = th.place; node = change node; place_is = th.place_is; node_is = ap (λ n. nth n t.gateways) place_here ∙ nth-at_nth j change s.gateways node at_j; gone = gone },
          printed_here cmp matching total s fine j node at_j c real ms w prints k z z_is here ∙ none_,
        )))
        (λ opens.
        let top_lives = end_lives up q pursued.carried pursued.lives in
        let on = followed_then cmp matching total equal_is_same e i about tokens current s fine agree holds top top_lives.0 top_lives.1.0 top_lives.1.1 j node at_j c real still timeless spent accepted ms w prints waits speaks way k id z z_is opens held pursued.leads pursued.followed in
        ⊎_elim
        (λ both.
        let y = first_face way t both.0 in
        inl (
          record {
            carried = carried_up cmp matching total equal_is_same e s fine agree j node at_j c real still timeless spent accepted ms w prints waits speaks order up q top pursued.carried pursued.lives lives_then;
            lives = lives_then;
            leads = leads_then cmp matching total equal_is_same s fine agree j node at_j c real still timeless spent accepted ms w prints waits speaks way k top y.0 pursued.leads y.1.0 y.1.1;
            followed = both.0;
          },
          both.1,
        ))
        (λ first. inr (inl first))
        on)
        (closes_or_not j c z)

    pub pursued_dropped : LeftByDropped cmp matching total equal_is_same s fine agree GoesOn
    unfolding printed_for
    pursued_dropped = λ q0 q1 joined z z_is node at_j found m rest old why order lives_then.
        inl (
          record {
            carried = carried_dropped cmp matching total equal_is_same e i tokens legal s fine agree q0 q1 joined z z_is node at_j found m rest old why up q top pursued.carried;
            lives = lives_then;
            leads = leads_dropped cmp matching total equal_is_same e i tokens legal s fine agree q0 q1 joined z z_is node at_j found m rest old why way k top pursued.leads;
            followed = followed_dropped cmp matching total equal_is_same e i tokens legal s fine agree q0 q1 joined z z_is node at_j found m rest old why way k id pursued.followed;
          },
          tt,
        )
