-- An ask is followed up the whole of its way through a call, or is answered by it before any final.
use Rattle.std.proofs.Common.{◌≡◌, ◌⊎◌, inl, inr, ℕ, ◌<◌, max, Bool, true, false, ◌==◌, not, List, [], ◌∷◌, Some, None, refl, sym, ap, ◌∙◌, subst, arith}
use Rattle.std.specs.Cmp.{IsTotalOrder}
use Rattle.std.specs.declared.cmp.Ordering.{Ordering}
use Rattle.std.specs.declared.cmp.Ordering.TheVariants.{Equal}
use Rattle.zt_region.specs.declared.region.WhatAmI.TheVariants.{Client}
use Rattle.zt_region.specs.Region.{is_north}
use Rattle.zt_protocol.specs.Interest.{has_tokens, is_current, is_future}
use Rattle.zt_protocol.specs.Plain.{PlainCall, Interest, InterestFinal}
use Rattle.zt_protocol.specs.declared.entries.Sent.{Sent}
use Rattle.zt_protocol.specs.declared.messages.Message.{Message}
use Rattle.zt_protocol.specs.declared.messages.Message.TheVariants as message
use Rattle.zt_model.specs.Fabric.{Fabric, Node, call_face, printed_for}
use Rattle.zt_model.specs.Linking.{call_of_message, waiting_of}
use Rattle.zt_model.specs.Lists.{at_id, has_id, nth}
use Rattle.zt_model.specs.Refusals.{call_causes, first_cause}
use Rattle.zt_model.specs.Rows.{Ask, ById, Face, InterestRow}
use Rattle.zt_model.specs.Says.{row_of, said}
use Rattle.zt_model.specs.Transcript.{Each, FaceAt, face_numbered}
use Rattle.zt_model.specs.TreePromises.{IsMember}
use Rattle.zt_model.specs.Wants.{is_about, kept_options}
use Rattle.zt_laws.specs.Order.{FabricIsInOrder}
use Rattle.zt_laws.specs.Sound.{CallHasFirstIds, opens_face}
use Rattle.zt_laws.proofs.Gateways.{PrintsSends}
use Rattle.zt_laws.proofs.Hearing.{find_each}
use Rattle.zt_laws.proofs.Lists.{by_test}
use Rattle.zt_theorem_tree_invariant.specs.Facts.{InterestsRise, IsForAbove, IsTreeFace, TreesAgree, interests_after, token_interests, top_of}
use Rattle.zt_theorem_tree_invariant.specs.Joints.{are_joined}
use Rattle.zt_theorem_tree_invariant.proofs.Lines.{tree_rows}
use Rattle.zt_theorem_tree_invariant.proofs.Quiet.{joined_back}
use Rattle.zt_theorem_tree_invariant.proofs.Standing.{LeavesOpen}
use Rattle.zt_theorem_tree_invariant.proofs.Turning.{queue}
use Rattle.zt_theorem_tree_all_that_stays.specs.Steady.{AnswersFirst, IsNoFinal}
use Rattle.zt_theorem_tree_all_that_stays.specs.Ways.{IsFollowed, LeadsUpTo, LivesAt}
use Rattle.zt_theorem_tree_all_that_stays.proofs.Anew.{member_is, new_is_answered, new_is_followed, row_is}
use Rattle.zt_theorem_tree_all_that_stays.proofs.Carrying.{expires}
use Rattle.zt_theorem_tree_all_that_stays.proofs.Following.{step_follows}
use Rattle.zt_theorem_tree_all_that_stays.proofs.Queues.{not_ended, top_above}
use Rattle.zt_theorem_tree_all_that_stays.proofs.Views.{IsSpoken, IsUnspoken, Speaks, leaves_open, rows_before, then_}

module _ {K : Type 0} (cmp : K → K → Ordering) (matching : K → K → Bool) (total : IsTotalOrder cmp) (equal_is_same : (a b : K) → cmp a b ≡ Equal → a ≡ b) (e : K) (i : InterestRow K) (about : is_about matching i.expr e ≡ true) (tokens : has_tokens i.options ≡ true) (current : is_current i.mode ≡ true)
    (s : Fabric K) (fine : FabricIsInOrder cmp matching s) (agree : TreesAgree cmp matching s) (holds : (k : ℕ) (z : FaceAt K) (id : ℕ) (ask : Ask K) → face_numbered s k ≡ Some z → at_id id z.face.asks ≡ Some ask → is_future ask.interest.mode ≡ true → at_id id z.face.held ≡ Some ask.interest)
    (top q : ℕ) (lives : LivesAt cmp matching e s q) (at_top : lives.own.gateway ≡ top)
    (j : ℕ) (node : Node K) (at_j : nth j s.gateways ≡ Some node) (c : PlainCall K) (real : CallHasFirstIds c) (still : opens_face c ≡ false) (timeless : expires c ≡ false) (spent : Bool) (accepted : first_cause (call_causes cmp matching spent c node.rows) ≡ None)
    (ms : List (Sent K)) (w : ById (List (Message K))) (prints : PrintsSends s.faces j (said cmp matching c node.rows) ms) (waits : (k : ℕ) → has_id k s.waiting ≡ true → has_id k w ≡ true) (speaks : Speaks cmp matching total s fine j node at_j c real ms w prints) where
  abbrev t : Fabric K
  t = then_ cmp matching total s fine j node at_j c real ms w prints

  the_same : {A : Type 0} {u v : A} → Some u ≡ Some v → u ≡ v
  the_same h = cc

  abbrev open_ : (k b : ℕ) (z : FaceAt K) → face_numbered s k ≡ Some z → are_joined s k b ≡ true → z.gateway ≡ j → LeavesOpen c z.face.number
  open_ = leaves_open cmp matching total s fine j node at_j c real ms w prints speaks

  -- the message of an interest's end
  end_call : (n p k : ℕ) (m : Message K) → call_of_message n m ≡ Some (InterestFinal p k) → m ≡ message.InterestFinal k
  end_call n p k (message.InterestFinal x) is = let same_ : (let d : PlainCall K = InterestFinal n x in d) ≡ InterestFinal p k = the_same is in let k_is : x ≡ k = cc in ap (λ y. message.InterestFinal y) k_is
  end_call n p k (message.DeclareToken x y l node_) is = cc
  end_call n p k (message.UndeclareToken x y node_) is = cc
  end_call n p k (message.DeclareFinal x) is = cc
  end_call n p k (message.Interest x mode options y) is = cc
  end_call n p k (message.DeclareSubscriber x y l) is = cc
  end_call n p k (message.DeclareQueryable x y info l) is = cc

  -- what is asked above isn't ended by what rises
  no_end : (a b : ℕ) (lower upper : FaceAt K) → face_numbered s a ≡ Some lower → face_numbered s b ≡ Some upper → is_north lower.face.region ≡ true → are_joined s a b ≡ true → (pending : ℕ) (ask : Ask K) → at_id pending upper.face.asks ≡ Some ask → at_id pending lower.face.locals ≡ Some i
      → upper.gateway ≡ j → c ≡ InterestFinal upper.face.number pending → ⊥
  no_end a b lower upper lower_is upper_is up joined pending ask at_ask at_local here is = cases (speaks b a upper upper_is (joined_back s a b joined))
    where
      cases : IsUnspoken cmp matching total s fine j node at_j c real ms w prints a upper ⊎ IsSpoken cmp matching total s fine j node at_j c real ms w prints a upper → ⊥
      cases (inl un) = un.unnamed here upper.face.number (ap call_face is) refl
      cases (inr sp) =
          let joint = agree.joints a b lower upper joined lower_is upper_is up in
          let m_is : sp.message ≡ message.InterestFinal pending = end_call upper.face.number upper.face.number pending sp.message (sp.says ∙ ap Some is) in
          let old : waiting_of s a ≡ message.InterestFinal pending ∷ queue w a = sp.oldest ∙ ap (λ m. m ∷ queue w a) m_is in
          let low = max (top_of upper.face.held) (top_of upper.face.asks) in
          let less : pending < low = (let less_ = top_above pending ask upper.face.asks at_ask in omega arith) in
          not_ended pending low lower.face.next i (queue w a) (token_interests upper.face.held) lower.face.locals less (subst (λ ms2. InterestsRise low ms2 lower.face.next) old joint.ids_rise)
          (ap (λ ms2. interests_after ms2 (token_interests upper.face.held)) (sym old) ∙ joint.interests_above) tokens at_local

  -- what becomes of the ask, and what its face is sent
  abbrev pub Then : List (ℕ × ℕ) → ℕ → ℕ → Type 0
  Then way k id = (IsFollowed cmp matching e i t way k id × Each (IsNoFinal id) (printed_for k ms)) ⊎ AnswersFirst cmp id e (printed_for k ms)

  ask_there : (way : List (ℕ × ℕ)) (k id : ℕ) (z : FaceAt K) → IsFollowed cmp matching e i s way k id → face_numbered s k ≡ Some z → (ask : Ask K) × (at_id id z.face.asks ≡ Some ask)
  ask_there [] k id z f z_is = absurd f
  ask_there (step ∷ way) k id z f z_is = let same_ : f.own ≡ z = the_same (sym f.above.own_is ∙ z_is) in (f.ask, ap (λ (u : FaceAt K). at_id id u.face.asks) (sym same_) ∙ f.ask_is)

  kept_options_of : (a b : ℕ) (lower upper : FaceAt K) → face_numbered s a ≡ Some lower → face_numbered s b ≡ Some upper → is_north lower.face.region ≡ true → are_joined s a b ≡ true → (pending : ℕ) → IsMember (message.Interest pending i.mode i.options i.expr) (waiting_of s a) → kept_options Client i.options ≡ i.options
  kept_options_of a b lower upper lower_is upper_is up joined pending member = member_is IsForAbove (message.Interest pending i.mode i.options i.expr) (waiting_of s a) member (agree.joints a b lower upper joined lower_is upper_is up).for_above

  -- a face that leads down keeps the interest as it was sent
  own_row : (b : ℕ) (u : FaceAt K) → face_numbered s b ≡ Some u → is_north u.face.region ≡ false → u.gateway ≡ j → kept_options Client i.options ≡ i.options → row_of cmp matching u.face i.mode i.options i.expr ≡ i
  own_row b u u_is down here kept =
      let found = rows_before cmp matching total s fine j node at_j c real ms w prints b u u_is here in
      let leads = (find_each (IsTreeFace node.rows.mode) (λ (h : Face K). u.face.number == h.number) node.rows.faces u.face (tree_rows cmp matching s j node fine agree at_j).faces found).down down in
      row_is cmp matching total equal_is_same e i about tokens current s fine agree j node at_j c real still timeless spent accepted ms w prints waits speaks u.face leads.mode kept

  -- a new ask above
  anew : (way : List (ℕ × ℕ)) (b : ℕ) (u : FaceAt K) → face_numbered s b ≡ Some u → is_north u.face.region ≡ false → u.gateway ≡ j → LeadsUpTo s b way top → (pending : ℕ) → c ≡ Interest u.face.number pending i.mode i.options i.expr → kept_options Client i.options ≡ i.options → Then way b pending
  anew [] b u u_is down here up pending is kept =
      let same_ : up.0 ≡ u = the_same (sym up.1 ∙ u_is) in
      let beside : lives.own.gateway ≡ j = at_top ∙ sym up.2 ∙ ap (λ (z : FaceAt K). z.gateway) same_ ∙ here in
      inr (new_is_answered cmp matching total equal_is_same e i about tokens current s fine agree j node at_j c real still timeless spent accepted ms w prints waits speaks b u u_is down here pending i.options is (own_row b u u_is down here kept) q lives beside)
  anew (step ∷ way) b u u_is down here up pending is kept =
      let same_ : up.0.own ≡ u = the_same (sym up.0.above.own_is ∙ u_is) in
      let here_ : up.0.own.gateway ≡ j = ap (λ (z : FaceAt K). z.gateway) same_ ∙ here in
      let is_ : c ≡ Interest up.0.own.face.number pending i.mode i.options i.expr = is ∙ ap (λ (z : FaceAt K). (let d : PlainCall K = Interest z.face.number pending i.mode i.options i.expr in d)) (sym same_) in
      new_is_followed cmp matching total equal_is_same e i about tokens current s fine agree j node at_j c real still timeless spent accepted ms w prints waits speaks b step.0 step.1 up.0 here_ pending i.options is_ (ap (λ (z : FaceAt K). row_of cmp matching z.face i.mode i.options i.expr) same_ ∙ own_row b u u_is down here kept) (λ p. IsFollowed cmp matching e i t way step.1 p)

  pub followed_then : (way : List (ℕ × ℕ)) (k id : ℕ) (z : FaceAt K) → face_numbered s k ≡ Some z → (z.gateway ≡ j → LeavesOpen c z.face.number) → (z.gateway ≡ j → c ≡ InterestFinal z.face.number id → is_future i.mode ≡ false) → LeadsUpTo s k way top → IsFollowed cmp matching e i s way k id → Then way k id
  followed_then [] k id z z_is opens held up f = absurd f
  followed_then (step ∷ way) k id z z_is opens held up f =
      let same_ : f.own ≡ z = the_same (sym f.above.own_is ∙ z_is) in
      let a = step.0 in
      let b = step.1 in
      let upper_down_ : is_north f.upper.face.region ≡ false = upper_down_of a b f.lower f.upper f.above.lower_is f.above.upper_is f.above.up f.above.joined in
      step_follows cmp matching total equal_is_same e i about tokens s fine agree holds j node at_j c real still timeless spent accepted ms w prints waits speaks k id a b (λ p. IsFollowed cmp matching e i s way b p) f
      (λ here. subst (λ (u : FaceAt K). LeavesOpen c u.face.number) (sym same_) (opens (ap (λ (u : FaceAt K). u.gateway) (sym same_) ∙ here)))
      (λ here is. held (ap (λ (u : FaceAt K). u.gateway) (sym same_) ∙ here) (is ∙ ap (λ (u : FaceAt K). (let d : PlainCall K = InterestFinal u.face.number id in d)) same_))
      (λ p. IsFollowed cmp matching e i t way b p)
      (λ asks.
      let ask = ask_there way b f.pending f.upper asks f.above.upper_is in
      followed_then way b f.pending f.upper f.above.upper_is (open_ b a f.upper f.above.upper_is (joined_back s a b f.above.joined))
      (λ here is. by_mode (λ later. no_end a b f.lower f.upper f.above.lower_is f.above.upper_is f.above.up f.above.joined f.pending ask.0 ask.1 (f.sent later) here is)) up.1 asks)
      (λ member here is. anew way b f.upper f.above.upper_is upper_down_ here up.1 f.pending is (kept_options_of a b f.lower f.upper f.above.lower_is f.above.upper_is f.above.up f.above.joined f.pending member))
    where
      by_mode : (is_future i.mode ≡ true → ⊥) → is_future i.mode ≡ false
      by_mode no_ = by_test (is_future i.mode) (λ later. absurd (no_ later)) (λ h. h)

      upper_down_of : (a b : ℕ) (lower upper : FaceAt K) → face_numbered s a ≡ Some lower → face_numbered s b ≡ Some upper → is_north lower.face.region ≡ true → are_joined s a b ≡ true → is_north upper.face.region ≡ false
      upper_down_of a b lower upper lower_is upper_is up_ joined =
          let ends = agree.links.meet a b joined in
          let one : ends.one ≡ lower = the_same (sym ends.one_is ∙ lower_is) in
          let two : ends.two ≡ upper = the_same (sym ends.two_is ∙ upper_is) in
          ap (λ (u : FaceAt K). is_north u.face.region) (sym two) ∙ ends.one_leads_up ∙ ap (λ (u : FaceAt K). not (is_north u.face.region)) one ∙ ap not up_
