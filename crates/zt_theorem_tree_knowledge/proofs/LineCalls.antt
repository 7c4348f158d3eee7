-- Calls and steps keep all that is true of trees.
use Rattle.std.proofs.Common.{◌≡◌, ◌≢◌, inl, ℕ, ◌-◌, Bool, true, false, ◌==◌, List, [], ◌∷◌, Some, None, Err, is_none, refl, sym, ap, ◌∙◌, subst}
use Rattle.std.specs.Cmp.{IsTotalOrder}
use Rattle.std.specs.declared.cmp.Ordering.{Ordering}
use Rattle.std.specs.declared.cmp.Ordering.TheVariants.{Equal}
use Rattle.zt_protocol.specs.Plain.{CloseFace, PlainCall, PlainLine}
use Rattle.zt_protocol.specs.declared.errors.Refusal.TheVariants as refusal
use Rattle.zt_model.specs.Fabric.{Fabric, Node, at_nth, entry_of, fabric_after}
use Rattle.zt_model.specs.Lists.{nth}
use Rattle.zt_model.specs.Parts.{find_face}
use Rattle.zt_model.specs.Refusals.{call_causes, first_cause}
use Rattle.zt_model.specs.Rows.{Face}
use Rattle.zt_model.specs.Says.{said}
use Rattle.zt_model.specs.Transcript.{Each, FaceAt, face_numbered}
use Rattle.zt_laws.specs.Order.{FabricIsInOrder}
use Rattle.zt_laws.specs.Sound.{rows_after_call}
use Rattle.zt_laws.proofs.Gateways.{PrintsSends, prints_sorted}
use Rattle.zt_laws.proofs.Lists.{by_test}
use Rattle.zt_laws.proofs.LinesOrder.{calls_nothing, gateway_in_order}
use Rattle.zt_theorem_tree_invariant.specs.Facts.{IsTreeGateway, TreesAgree}
use Rattle.zt_theorem_tree_invariant.specs.Joints.{are_joined, is_call_or_step}
use Rattle.zt_theorem_tree_invariant.proofs.Lasting.{AnyCall, LeftByCalls, Waits, any_line, printed_by, stand_after, stand_calls, trees_after_line, turned_by}
use Rattle.zt_theorem_tree_invariant.proofs.Lines.{hears_call, kept_called, tree_rows}
use Rattle.zt_theorem_tree_invariant.proofs.Members.{each_nth, is_there}
use Rattle.zt_theorem_tree_invariant.proofs.Standing.{LeavesOpen, was_there}
use Rattle.zt_theorem_tree_knowledge.proofs.Calls.{tree_after_call}

pub the_one : {A : Type 0} {u v : A} → Some u ≡ Some v → u ≡ v
the_one h = cc

pub each_at_nth : {A : Type 0} (P : A → Type 0) (n : ℕ) (change : A → A) (xs : List A) (x : A) → nth n xs ≡ Some x → P (change x) → Each P xs → Each P (at_nth n change xs)
each_at_nth P n change [] x at_ own all = tt
each_at_nth P n change (y ∷ ys) x at_ own all =
    by_test (n == 1)
    (λ here. let e : Some y ≡ Some x = rw here at at_ in let is : y ≡ x = cc in rw here (subst (λ z. P (change z)) (sym is) own, all.1))
    (λ here. rw here (all.0, each_at_nth P (n - 1) change ys x (rw here at at_) own all.1))

module _ {K : Type 0} (cmp : K → K → Ordering) (matching : K → K → Bool) (total : IsTotalOrder cmp) (equal_is_same : (a b : K) → cmp a b ≡ Equal → a ≡ b) (s : Fabric K) (fine : FabricIsInOrder cmp matching s) (agree : TreesAgree cmp matching s) where
  abbrev pub Gateways : Fabric K → Type 0
  Gateways t = Each (λ (node : Node K). IsTreeGateway cmp matching node.rows) t.gateways

  gateways_calls : LeftByCalls cmp matching total equal_is_same s fine agree (AnyCall cmp matching total equal_is_same s fine agree) (λ ms t. Gateways t)
  gateways_calls = λ spent j node c w waits at_j still open_ accepted _ _.
      each_at_nth (λ (x : Node K). IsTreeGateway cmp matching x.rows) j (λ x. record x { rows = rows_after_call cmp matching c x.rows }) s.gateways node at_j
      (tree_after_call cmp matching total equal_is_same spent c node.rows still accepted (gateway_in_order cmp matching s j node at_j fine).rows (each_nth (λ (x : Node K). IsTreeGateway cmp matching x.rows) j s.gateways node agree.gateways at_j))
      agree.gateways

  -- A call or a step keeps all of it.
  pub trees_after_call : (line : PlainLine K) → is_call_or_step line ≡ true → entry_of cmp matching line s ≢ Err refusal.IdsSpent → TreesAgree cmp matching (fabric_after cmp matching line (entry_of cmp matching line s) s)
  trees_after_call line leaves other =
      trees_after_line cmp matching total equal_is_same s fine agree line leaves other
      (stand_after cmp matching total equal_is_same s fine agree (AnyCall cmp matching total equal_is_same s fine agree) (λ ms t. Gateways t) agree.gateways (λ w waits _. agree.gateways) gateways_calls line (any_line cmp matching total equal_is_same s fine agree line) leaves)

  module _ (j k : ℕ) (node : Node K) (f : Face K) (at_j : nth j s.gateways ≡ Some node) (found : find_face k node.rows ≡ Some f) (apart : (a b : ℕ) (z : FaceAt K) → face_numbered s a ≡ Some z → are_joined s a b ≡ true → z.gateway ≡ j → k ≢ z.face.number) where
    abbrev closing : PlainCall K
    closing = CloseFace k

    abbrev pub after_closed : Fabric K
    after_closed = turned_by cmp matching total equal_is_same s fine agree j node (CloseFace k) s.waiting at_j refl

    accepted : first_cause (call_causes cmp matching false closing node.rows) ≡ None
    unfolding first_cause call_causes
    accepted = ap (λ o. first_cause ((is_none o, refusal.UnknownFace) ∷ [])) found

    leaves : (a b : ℕ) (z : FaceAt K) → face_numbered s a ≡ Some z → are_joined s a b ≡ true → z.gateway ≡ j → LeavesOpen closing z.face.number
    leaves a b z at_a joined here = λ closes n n_is same_. let is : k ≡ n = the_one n_is in apart a b z at_a joined here (is ∙ same_)

    waits : Waits cmp matching total equal_is_same s fine agree s.waiting
    waits = (λ n h. h, agree.links.rows)

    prints : PrintsSends s.faces j (said cmp matching closing node.rows) (printed_by cmp matching total equal_is_same s fine agree j node closing)
    prints = prints_sorted s.faces j (said cmp matching closing node.rows)

    -- A face that ends no open link is closed, and all of it is kept.
    pub trees_after_closing : TreesAgree cmp matching after_closed
    trees_after_closing =
        let stand = stand_calls cmp matching total equal_is_same s fine agree false j node closing s.waiting waits at_j refl leaves accepted tt (inl refl) in
        record {
          gateways = gateways_calls false j node closing s.waiting waits at_j refl leaves accepted tt (inl refl);
          joints =
              kept_called cmp matching total s fine agree j node closing (printed_by cmp matching total equal_is_same s fine agree j node closing) at_j (calls_nothing cmp matching total closing refl) prints
              (λ a b z at_a joined here.
              let at_ = is_there s a z at_a in
              let e : Some at_.node ≡ Some node = sym at_.node_is ∙ ap (λ g. nth g s.gateways) here ∙ at_j in
              let n : at_.node ≡ node = cc in
              hears_call cmp matching false closing node.rows z.face.number z.face (tree_rows cmp matching s j node fine agree at_j) accepted refl (leaves a b z at_a joined here refl)
              (ap (λ (x : Node K). find_face z.face.number x.rows) (sym n) ∙ ap (find_face z.face.number) at_.rows_are ∙ at_.face_is));
          links = stand.0;
          forest = stand.1;
        }

    -- a face that is open then was open before
    pub open_before : (a : ℕ) (x : FaceAt K) → face_numbered after_closed a ≡ Some x → (z : FaceAt K) × (face_numbered s a ≡ Some z)
    open_before a x there = was_there cmp matching total s fine agree j node at_j closing (calls_nothing cmp matching total closing refl) refl leaves false accepted (printed_by cmp matching total equal_is_same s fine agree j node closing) s.waiting prints a x there
