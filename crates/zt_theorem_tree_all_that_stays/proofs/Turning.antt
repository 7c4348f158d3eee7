-- One turn of an ask that is pursued: it is answered, or pursued on and sent no final, unless its face is closed.
use Rattle.std.proofs.Common.{◌≡◌, ◌≢◌, ◌⊎◌, inl, inr, ℕ, Bool, true, false, List, [], ◌∷◌, Some, Err, sym, ap, ◌∙◌, subst, ⊎_elim}
use Rattle.std.specs.Cmp.{IsTotalOrder}
use Rattle.std.specs.declared.cmp.Ordering.{Ordering}
use Rattle.std.specs.declared.cmp.Ordering.TheVariants.{Equal}
use Rattle.zt_protocol.specs.Interest.{is_current, is_future, has_tokens}
use Rattle.zt_protocol.specs.Plain.{PlainLine}
use Rattle.zt_protocol.specs.declared.entries.Sent.{Sent}
use Rattle.zt_protocol.specs.declared.errors.Refusal.TheVariants as refusal
use Rattle.zt_model.specs.Fabric.{Fabric, entry_of, fabric_after, printed_for}
use Rattle.zt_model.specs.Lists.{at_id, nth}
use Rattle.zt_model.specs.Refusals.{is_illegal_current}
use Rattle.zt_model.specs.Rows.{Ask, InterestRow}
use Rattle.zt_model.specs.Transcript.{Each, FaceAt, face_numbered, messages_of}
use Rattle.zt_model.specs.TreePromises.{disturbs, is_plain_number}
use Rattle.zt_model.specs.Wants.{is_about}
use Rattle.zt_laws.specs.Order.{FabricIsInOrder}
use Rattle.zt_laws.specs.Sound.{HasFirstIds}
use Rattle.zt_theorem_tree_invariant.specs.Facts.{TreesAgree}
use Rattle.zt_theorem_tree_invariant.specs.Trees.{FacesFormTrees}
use Rattle.zt_theorem_tree_invariant.proofs.Members.{is_there}
use Rattle.zt_theorem_tree_all_that_stays.specs.Steady.{AnswersFirst, IsNoFinal}
use Rattle.zt_theorem_tree_all_that_stays.specs.Ways.{IsClosedAt, IsPursued, LivesAt}
use Rattle.zt_theorem_tree_all_that_stays.proofs.Every.{IsCalmCall, every_line}
use Rattle.zt_theorem_tree_all_that_stays.proofs.Framing.{IsFrame, pursued_framed}
use Rattle.zt_theorem_tree_all_that_stays.proofs.Pursuing.{closed_calls, closed_dropped, pursued_calls, pursued_dropped}
use Rattle.zt_theorem_tree_all_that_stays.proofs.Speaking.{LeftByDropped, LeftBySpoken}

module _ {K : Type 0} (cmp : K → K → Ordering) (matching : K → K → Bool) (total : IsTotalOrder cmp) (equal_is_same : (a b : K) → cmp a b ≡ Equal → a ≡ b) (e : K) (i : InterestRow K) (k id q : ℕ) (way up : List (ℕ × ℕ)) (top : ℕ) where
  -- the ask is pursued from a plain face, or its face is closed
  abbrev pub Stands : Fabric K → Type 0
  Stands s = ((is_plain_number s k ≡ true) × IsPursued cmp matching e i s k id q way up top) ⊎ IsClosedAt s k

  -- it is answered, or stands on and is sent no final
  abbrev pub Turned : List (Sent K) → Fabric K → Type 0
  Turned ms t = AnswersFirst cmp id e (printed_for k ms) ⊎ (Stands t × Each (IsNoFinal id) (printed_for k ms))

  -- where the expression is live after the turn
  abbrev pub Turns : List (Sent K) → Fabric K → Type 0
  Turns ms t = FabricIsInOrder cmp matching t → LivesAt cmp matching e t q → Turned ms t

  module _ (about : is_about matching i.expr e ≡ true) (tokens : has_tokens i.options ≡ true) (current : is_current i.mode ≡ true) (legal : is_illegal_current i.mode i.options ≡ false) (s : Fabric K) (fine : FabricIsInOrder cmp matching s) (agree : TreesAgree cmp matching s)
      (holds : (k : ℕ) (z : FaceAt K) (id : ℕ) (ask : Ask K) → face_numbered s k ≡ Some z → at_id id z.face.asks ≡ Some ask → is_future ask.interest.mode ≡ true → at_id id z.face.held ≡ Some ask.interest) where
    abbrev Entry : PlainLine K → List (Sent K)
    Entry line = messages_of (entry_of cmp matching line s)

    abbrev After : PlainLine K → Fabric K
    After line = fabric_after cmp matching line (entry_of cmp matching line s) s

    -- ---- a closed face

    module _ (closed : IsClosedAt s k) where
      abbrev Shut : List (Sent K) → Fabric K → Type 0
      Shut ms t = IsClosedAt t k × (printed_for k ms ≡ [])

      shut_calls : LeftBySpoken cmp matching total equal_is_same s fine agree (IsCalmCall cmp matching total equal_is_same s fine agree i k id) (Unit {0}) Shut
      shut_calls = λ spent j node c w waits at_j still accepted speaks how. closed_calls cmp matching total equal_is_same s fine agree k closed spent j node c w waits at_j still accepted speaks (⊎_elim (λ calm. inl calm.timeless) (λ step. inr step) how)

      shut_framed : (t : Fabric K) (ms : List (Sent K)) → IsFrame s t ms → Shut ms t
      shut_framed t ms frame = (frame.closed k closed, frame.prints k closed.place closed.node closed.place_is closed.node_is)

      shut_turn : (line : PlainLine K) → HasFirstIds line → entry_of cmp matching line s ≢ Err refusal.IdsSpent → FacesFormTrees (After line) → ((before after : Fabric K) → disturbs cmp matching k id i (record { line = line; entry = entry_of cmp matching line s; before = before; after = after }) ≡ false) → Turned (Entry line) (After line)
      shut_turn line real other trees calm =
          let shut = every_line cmp matching total equal_is_same s fine agree i k id Shut (closed_dropped cmp matching total equal_is_same s fine agree k closed) shut_calls shut_framed line real other trees calm in
          inr (inr shut.0, subst (Each (IsNoFinal id)) (sym shut.1) tt)

    -- ---- a plain face

    module _ (plain : is_plain_number s k ≡ true) (pursued : IsPursued cmp matching e i s k id q way up top) where
      going_dropped : LeftByDropped cmp matching total equal_is_same s fine agree Turns
      going_dropped = λ q0 q1 joined z z_is node at_j found m rest old why order lives.
          ⊎_elim (λ on. inr (inl (plain, on.0), on.1)) (λ more. ⊎_elim (λ first. inl first) (λ shut. inr (inr shut.0, subst (Each (IsNoFinal id)) (sym shut.1) tt)) more)
          (pursued_dropped cmp matching total equal_is_same s fine agree e i about tokens current legal holds k id q way up top plain pursued q0 q1 joined z z_is node at_j found m rest old why order lives)

      going_calls : LeftBySpoken cmp matching total equal_is_same s fine agree (IsCalmCall cmp matching total equal_is_same s fine agree i k id) (Unit {0}) Turns
      going_calls = λ spent j node c w waits at_j still accepted speaks how order lives.
          ⊎_elim (λ on. inr (inl (plain, on.0), on.1)) (λ more. ⊎_elim (λ first. inl first) (λ shut. inr (inr shut.0, subst (Each (IsNoFinal id)) (sym shut.1) tt)) more)
          (pursued_calls cmp matching total equal_is_same s fine agree e i about tokens current legal holds k id q way up top plain pursued spent j node c w waits at_j still accepted speaks (⊎_elim (λ calm. inl (record { timeless = calm.timeless; held = calm.held })) (λ step. inr step) how) order lives)

      own_face : (way2 : List (ℕ × ℕ)) → IsPursued cmp matching e i s k id q way2 up top → (z : FaceAt K) × (face_numbered s k ≡ Some z)
      own_face [] p = (p.leads.0, p.leads.1)
      own_face (step ∷ way2) p = (p.leads.0.own, p.leads.0.above.own_is)

      going_framed : (t : Fabric K) (ms : List (Sent K)) → IsFrame s t ms → Turns ms t
      going_framed t ms frame = λ order lives.
          let own = own_face way pursued in
          let th = is_there s k own.0 own.1 in
          let none_ = frame.prints k th.place th.node th.place_is (ap (λ g. nth g s.gateways) th.gateway_is ∙ th.node_is) in
          inr (inl (frame.plain k th.place th.place_is plain, pursued_framed cmp matching e i s t agree ms frame k id q way up top pursued lives), subst (Each (IsNoFinal id)) (sym none_) tt)

      going_turn : (line : PlainLine K) → HasFirstIds line → entry_of cmp matching line s ≢ Err refusal.IdsSpent → FacesFormTrees (After line) → ((before after : Fabric K) → disturbs cmp matching k id i (record { line = line; entry = entry_of cmp matching line s; before = before; after = after }) ≡ false) → Turns (Entry line) (After line)
      going_turn line real other trees calm = every_line cmp matching total equal_is_same s fine agree i k id Turns going_dropped going_calls going_framed line real other trees calm

    -- ---- either

    pub one_turn : Stands s → (line : PlainLine K) → HasFirstIds line → entry_of cmp matching line s ≢ Err refusal.IdsSpent → FacesFormTrees (After line)
        → ((before after : Fabric K) → disturbs cmp matching k id i (record { line = line; entry = entry_of cmp matching line s; before = before; after = after }) ≡ false) → Turns (Entry line) (After line)
    one_turn stands line real other trees calm =
        ⊎_elim (λ p. going_turn p.0 p.1 line real other trees calm) (λ closed order lives. shut_turn closed line real other trees calm) stands
