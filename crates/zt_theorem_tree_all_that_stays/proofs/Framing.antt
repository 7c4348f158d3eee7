-- Lines that make a gateway, a face or a link: an ask is pursued on, and what is closed stays closed.
use Rattle.std.proofs.Common.{◌≡◌, inl, inr, ℕ, Bool, true, ◌==◌, List, [], ◌∷◌, ◌++◌, Some, refl, sym, ap, ◌∙◌, subst, append-nil, eqb-true, eq-eqb}
use Rattle.std.specs.Cmp.{IsTotalOrder}
use Rattle.std.specs.declared.cmp.Ordering.{Ordering}
use Rattle.std.specs.declared.cmp.Ordering.TheVariants.{Equal}
use Rattle.zt_region.specs.Region.{is_north}
use Rattle.zt_protocol.specs.Plain.{PlainCall}
use Rattle.zt_protocol.specs.declared.entries.Sent.{Sent}
use Rattle.zt_protocol.specs.declared.messages.Message.TheVariants as message
use Rattle.zt_model.specs.Fabric.{Fabric, next_face, Node, Place, printed_for, with_gateway, with_place}
use Rattle.zt_model.specs.Linking.{waiting_of}
use Rattle.zt_model.specs.Lists.{at_id, has_id, nth}
use Rattle.zt_model.specs.Parts.{find_face}
use Rattle.zt_model.specs.Rows.{Face, InterestRow}
use Rattle.zt_model.specs.Says.{said}
use Rattle.zt_model.specs.Transcript.{Each, FaceAt, face_numbered}
use Rattle.zt_model.specs.TreePromises.{IsMember, is_plain_number}
use Rattle.zt_laws.specs.Order.{FabricIsInOrder}
use Rattle.zt_laws.specs.Sound.{opens_face, rows_after_call}
use Rattle.zt_laws.proofs.Entries.{nth-at_nth}
use Rattle.zt_laws.proofs.Gateways.{PrintsSends}
use Rattle.zt_laws.proofs.Lists.{by_test, never}
use Rattle.zt_laws.proofs.Numbered.{nth_real}
use Rattle.zt_theorem_tree_invariant.specs.Facts.{TreesAgree}
use Rattle.zt_theorem_tree_invariant.specs.Joints.{are_joined}
use Rattle.zt_theorem_tree_invariant.proofs.Making.{nth_front, seen}
use Rattle.zt_theorem_tree_invariant.proofs.Making as making
use Rattle.zt_theorem_tree_invariant.proofs.Members.{is_there, numbered}
use Rattle.zt_theorem_tree_invariant.proofs.Quiet.{joined_back}
use Rattle.zt_theorem_tree_invariant.proofs.Turning.{nth_other, queue, queue_added}
use Rattle.zt_theorem_tree_all_that_stays.specs.Steady.{AnswersFirst, FinalIsBelow, IsNoFinal, IsTold, LeavesRow, has_row}
use Rattle.zt_theorem_tree_all_that_stays.specs.Ways.{IsAbove, IsCarriedUp, IsClosedAt, IsFollowed, IsPursued, IsServedBy, LeadsUpTo, LivesAt}
use Rattle.zt_theorem_tree_all_that_stays.proofs.Opening.{none_stays, opened_prints_none, within}

-- faces, what waits for them and links stay, and nothing is printed for faces that were made
pub record IsFrame {K : Type 0} (s t : Fabric K) (ms : List (Sent K)) : Type 0 where
  pub faces : (k : ℕ) (z : FaceAt K) → face_numbered s k ≡ Some z → (u : FaceAt K) × ((face_numbered t k ≡ Some u) × ((u.face ≡ z.face) × (u.gateway ≡ z.gateway)))
  pub waits : (k : ℕ) (z : FaceAt K) → face_numbered s k ≡ Some z → has_id k s.waiting ≡ true → waiting_of t k ≡ waiting_of s k
  pub joined : (a b : ℕ) → are_joined s a b ≡ true → are_joined t a b ≡ true
  pub prints : (k : ℕ) (p : Place) (node : Node K) → nth k s.faces ≡ Some p → nth p.gateway s.gateways ≡ Some node → printed_for k ms ≡ []
  pub closed : (k : ℕ) → IsClosedAt s k → IsClosedAt t k
  pub plain : (k : ℕ) (p : Place) → nth k s.faces ≡ Some p → is_plain_number s k ≡ true → is_plain_number t k ≡ true

module _ {K : Type 0} (cmp : K → K → Ordering) (matching : K → K → Bool) (e : K) (i : InterestRow K) (s t : Fabric K) (agree : TreesAgree cmp matching s) (ms : List (Sent K)) (frame : IsFrame s t ms) where
  module _ (k a b : ℕ) (own lower upper : FaceAt K) (above : IsAbove s k a b own lower upper) where
    abbrev own_t : FaceAt K
    own_t = (frame.faces k own above.own_is).0

    abbrev lower_t : FaceAt K
    lower_t = (frame.faces a lower above.lower_is).0

    abbrev upper_t : FaceAt K
    upper_t = (frame.faces b upper above.upper_is).0

    own_face : own_t.face ≡ own.face
    own_face = (frame.faces k own above.own_is).1.1.0

    lower_face : lower_t.face ≡ lower.face
    lower_face = (frame.faces a lower above.lower_is).1.1.0

    upper_face : upper_t.face ≡ upper.face
    upper_face = (frame.faces b upper above.upper_is).1.1.0

    above_t : IsAbove t k a b own_t lower_t upper_t
    above_t = record {
      own_is = (frame.faces k own above.own_is).1.0;
      lower_is = (frame.faces a lower above.lower_is).1.0;
      upper_is = (frame.faces b upper above.upper_is).1.0;
      down = ap (λ (f : Face K). is_north f.region) own_face ∙ above.down;
      up = ap (λ (f : Face K). is_north f.region) lower_face ∙ above.up;
      joined = frame.joined a b above.joined;
      beside = (frame.faces a lower above.lower_is).1.1.1 ∙ above.beside ∙ sym (frame.faces k own above.own_is).1.1.1;
    }

    rises_same : waiting_of t a ≡ waiting_of s a
    rises_same = frame.waits a lower above.lower_is (agree.links.wait a b above.joined)

    falls_same : waiting_of t b ≡ waiting_of s b
    falls_same = frame.waits b upper above.upper_is (agree.links.wait b a (joined_back s a b above.joined))

  carried_framed : (way : List (ℕ × ℕ)) (k top : ℕ) → IsCarriedUp cmp matching e s k way top → IsCarriedUp cmp matching e t k way top
  carried_framed [] k top up = let u = frame.faces k up.0 up.1 in (u.0, u.1.0, u.1.1.1 ∙ up.2)
  carried_framed (step ∷ way) k top up =
      let c = up.0 in
      let a = step.0 in
      let b = step.1 in (
        record {
          own = own_t k a b c.own c.lower c.upper c.above;
          lower = lower_t k a b c.own c.lower c.upper c.above;
          upper = upper_t k a b c.own c.lower c.upper c.above;
          above = above_t k a b c.own c.lower c.upper c.above;
          id = c.id;
          real = c.real;
          told = subst (IsTold cmp c.id e) (sym (lower_face k a b c.own c.lower c.upper c.above)) c.told;
          live = ap (λ (f : Face K). has_row cmp c.id e f.live) (upper_face k a b c.own c.lower c.upper c.above) ∙ c.live;
          rising = subst (Each (LeavesRow cmp c.id e)) (sym (rises_same k a b c.own c.lower c.upper c.above)) c.rising;
        },
        carried_framed way b top up.1,
      )

  leads_framed : (way : List (ℕ × ℕ)) (k top : ℕ) → LeadsUpTo s k way top → LeadsUpTo t k way top
  leads_framed [] k top up = let u = frame.faces k up.0 up.1 in (u.0, u.1.0, u.1.1.1 ∙ up.2)
  leads_framed (step ∷ way) k top up =
      let c = up.0 in
      let a = step.0 in
      let b = step.1 in (
        record {
          own = own_t k a b c.own c.lower c.upper c.above;
          lower = lower_t k a b c.own c.lower c.upper c.above;
          upper = upper_t k a b c.own c.lower c.upper c.above;
          above = above_t k a b c.own c.lower c.upper c.above;
          finals = subst (λ (f : Face K). Each (FinalIsBelow f.next) (waiting_of t b)) (sym (lower_face k a b c.own c.lower c.upper c.above)) (subst (Each (FinalIsBelow c.lower.face.next)) (sym (falls_same k a b c.own c.lower c.upper c.above)) c.finals);
        },
        leads_framed way b top up.1,
      )

  followed_framed : (way : List (ℕ × ℕ)) (k id : ℕ) → IsFollowed cmp matching e i s way k id → IsFollowed cmp matching e i t way k id
  followed_framed [] k id f = absurd f
  followed_framed (step ∷ way) k id f = record {
    own = own_t k step.0 step.1 f.own f.lower f.upper f.above;
    lower = lower_t k step.0 step.1 f.own f.lower f.upper f.above;
    upper = upper_t k step.0 step.1 f.own f.lower f.upper f.above;
    above = above_t k step.0 step.1 f.own f.lower f.upper f.above;
    ask = f.ask;
    ask_is = ap (λ (h : Face K). at_id id h.asks) (own_face k step.0 step.1 f.own f.lower f.upper f.above) ∙ f.ask_is;
    interest = f.interest;
    unanswered = f.unanswered;
    pending = f.pending;
    pendings = f.pendings ∙ ap (λ (h : Face K). (h.number, f.pending) ∷ []) (sym (lower_face k step.0 step.1 f.own f.lower f.upper f.above));
    stands = ap (λ (h : Face K). has_id f.pending h.pendings) (lower_face k step.0 step.1 f.own f.lower f.upper f.above) ∙ f.stands;
    sent = λ later. ap (λ (h : Face K). at_id f.pending h.locals) (lower_face k step.0 step.1 f.own f.lower f.upper f.above) ∙ f.sent later;
    served = served_framed f.served (λ asks. followed_framed way step.1 f.pending asks);
  }
    where
      served_framed : IsServedBy cmp matching e i s step.0 step.1 f.pending (λ p. IsFollowed cmp matching e i s way step.1 p) → (IsFollowed cmp matching e i s way step.1 f.pending → IsFollowed cmp matching e i t way step.1 f.pending) → IsServedBy cmp matching e i t step.0 step.1 f.pending (λ p. IsFollowed cmp matching e i t way step.1 p)
      served_framed (inl rises) more = inl (subst (IsMember (message.Interest f.pending i.mode i.options i.expr)) (sym (rises_same k step.0 step.1 f.own f.lower f.upper f.above)) rises.0, subst (Each (IsNoFinal f.pending)) (sym (falls_same k step.0 step.1 f.own f.lower f.upper f.above)) rises.1)
      served_framed (inr (inl first)) more = inr (inl (subst (AnswersFirst cmp f.pending e) (sym (falls_same k step.0 step.1 f.own f.lower f.upper f.above)) first))
      served_framed (inr (inr asks)) more = inr (inr (more asks.0, subst (Each (IsNoFinal f.pending)) (sym (falls_same k step.0 step.1 f.own f.lower f.upper f.above)) asks.1))

  pub pursued_framed : (k id q : ℕ) (way up : List (ℕ × ℕ)) (top : ℕ) → IsPursued cmp matching e i s k id q way up top → LivesAt cmp matching e t q → IsPursued cmp matching e i t k id q way up top
  pursued_framed k id q way up top pursued lives = record { carried = carried_framed up q top pursued.carried; lives = lives; leads = leads_framed way k top pursued.leads; followed = followed_framed way k id pursued.followed }

module _ {K : Type 0} (cmp : K → K → Ordering) (matching : K → K → Bool) (total : IsTotalOrder cmp) (equal_is_same : (a b : K) → cmp a b ≡ Equal → a ≡ b) (s : Fabric K) (fine : FabricIsInOrder cmp matching s) (agree : TreesAgree cmp matching s) where
  the_same : {A : Type 0} {u v : A} → Some u ≡ Some v → u ≡ v
  the_same h = cc

  -- ---- nothing changes, or a gateway is made

  pub frame_itself : IsFrame s s []
  unfolding printed_for
  frame_itself = record { faces = λ k z found. (z, (found, (refl, refl))); waits = λ k z found there. refl; joined = λ a b h. h; prints = λ k p node at_ there. refl; closed = λ k c. c; plain = λ k p at_ h. h }

  pub frame_gateway : (node : Node K) → IsFrame s (with_gateway node s) []
  unfolding printed_for
  frame_gateway node = record {
    faces = λ k z found.
        let at_ = is_there s k z found in (
          record { gateway = at_.place.gateway; rows = at_.node.rows; face = z.face },
          (
            numbered (with_gateway node s) k at_.place at_.node z.face at_.place_is (ap (λ g. nth g (s.gateways ++ node ∷ [])) at_.gateway_is ∙ nth_front z.gateway s.gateways (node ∷ []) at_.node at_.node_is)
                (ap (λ n. find_face n at_.node.rows) at_.number_is ∙ ap (find_face z.face.number) at_.rows_are ∙ at_.face_is),
            (refl, at_.gateway_is),
          ),
        );
    waits = λ k z found there. refl;
    joined = λ a b h. h;
    prints = λ k p x at_ there. refl;
    closed = λ k c. record { place = c.place; node = c.node; place_is = c.place_is; node_is = nth_front c.place.gateway s.gateways (node ∷ []) c.node c.node_is; gone = c.gone };
    plain = λ k p at_ h. h;
  }

  -- ---- a face is opened

  pub frame_opened : (n : ℕ) (node : Node K) (at_n : nth n s.gateways ≡ Some node) (c : PlainCall K) (opens : opens_face c ≡ true) (ms : List (Sent K)) (prints : PrintsSends (with_place n s).faces n (said cmp matching c node.rows) ms) → IsFrame s (making.then_ cmp matching total s fine agree n node at_n c opens ms prints) ms
  frame_opened n node at_n c opens ms prints =
      let t = making.then_ cmp matching total s fine agree n node at_n c opens ms prints in
      let new_ : Place = record { gateway = n; face = next_face (nth n s.gateways) } in
      let change = λ (x : Node K). record x { rows = rows_after_call cmp matching c x.rows } in
      let none_ = λ (k : ℕ) (p : Place) (x : Node K) (at_ : nth k s.faces ≡ Some p) (there : nth p.gateway s.gateways ≡ Some x). opened_prints_none cmp matching s fine n node at_n c opens new_ ms prints k p at_ x there in
      record {
        faces = λ k z found. let u = seen cmp matching total s fine agree n node at_n c opens ms prints k z found in (u.0, (u.1.0, (u.1.1, u.1.2)));
        waits = λ k z found there.
            let at_ = is_there s k z found in
            queue_added s.waiting ms k there ∙ ap (λ xs. queue s.waiting k ++ xs) (none_ k at_.place at_.node at_.place_is (ap (λ g. nth g s.gateways) at_.gateway_is ∙ at_.node_is)) ∙ append-nil (queue s.waiting k);
        joined = λ a b h. h;
        plain = λ k p at_ h. h;
        prints = none_;
        closed = λ k cl.
            by_test (cl.place.gateway == n)
            (λ same_.
            let here : cl.place.gateway ≡ n = eqb-true cl.place.gateway n same_ in
            let node_same : cl.node ≡ node = the_same (sym cl.node_is ∙ ap (λ g. nth g s.gateways) here ∙ at_n) in
            record {
              place = cl.place;
              node = change node;
              place_is = nth_front k s.faces (new_ ∷ []) cl.place cl.place_is;
              node_is = ap (λ g. nth g t.gateways) here ∙ nth-at_nth n change s.gateways node at_n;
              gone = none_stays cmp matching c node.rows opens cl.place.face (within cmp matching s fine n node at_n c opens new_ ms prints k cl.place cl.place_is cl.node cl.node_is here) (ap (λ (x : Node K). find_face cl.place.face x.rows) (sym node_same) ∙ cl.gone);
            })
            (λ apart.
            record {
              place = cl.place;
              node = cl.node;
              place_is = nth_front k s.faces (new_ ∷ []) cl.place cl.place_is;
              node_is = nth_other cl.place.gateway n change s.gateways cl.node (nth_real n s.gateways node at_n) (λ is. never (eq-eqb cl.place.gateway n is) apart) cl.node_is;
              gone = cl.gone;
            });
      }
