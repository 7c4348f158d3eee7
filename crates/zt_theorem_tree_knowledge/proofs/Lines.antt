-- Every line of a script of trees keeps all that is true of trees.
use Rattle.std.proofs.Common.{◌≡◌, ◌≢◌, ℕ, Bool, true, Option, Some, None, Err, refl, sym, subst}
use Rattle.std.specs.Cmp.{IsTotalOrder}
use Rattle.std.specs.declared.cmp.Ordering.{Ordering}
use Rattle.std.specs.declared.cmp.Ordering.TheVariants.{Equal}
use Rattle.zt_protocol.specs.Plain.{PlainLine, Gateway, Session, Face as FaceLine, Link as LinkLine, Unlink, Step, Speak, Moment, SetTreesAt}
use Rattle.zt_protocol.specs.declared.errors.Refusal.{Refusal}
use Rattle.zt_protocol.specs.declared.errors.Refusal.TheVariants as refusal
use Rattle.zt_model.specs.Fabric.{Fabric, Link, after_hearing, after_refusal, altered_by_line, line_causes, entry_by, entry_of, fabric_after, is_open_link, line_causes, line_spends_ids, said_by_line, sorted_by_face, with_waiting}
use Rattle.zt_model.specs.Lists.{is_some_and, nth}
use Rattle.zt_model.specs.Refusals.{first_cause}
use Rattle.zt_laws.specs.Order.{FabricIsInOrder}
use Rattle.zt_laws.specs.Sound.{HasFirstIds}
use Rattle.zt_laws.proofs.Calls.{no_cause}
use Rattle.zt_laws.proofs.Lists.{never}
use Rattle.zt_theorem_tree_invariant.specs.Facts.{TreesAgree}
use Rattle.zt_theorem_tree_invariant.specs.Trees.{FacesFormTrees}
use Rattle.zt_theorem_tree_knowledge.proofs.LineCalls.{trees_after_call}
use Rattle.zt_theorem_tree_knowledge.proofs.Linking.{after_link}
use Rattle.zt_theorem_tree_knowledge.proofs.Plain.{after_face, after_gateway, after_session, not_false}
use Rattle.zt_theorem_tree_knowledge.proofs.Unlinked.{trees_after_unlink}
use Rattle.zt_theorem_tree_knowledge.proofs.Premise.{FacesMayFormTrees, may_by_faces}

module _ {K : Type 0} (cmp : K → K → Ordering) (matching : K → K → Bool) (total : IsTotalOrder cmp) (equal_is_same : (a b : K) → cmp a b ≡ Equal → a ≡ b) (s : Fabric K) (fine : FabricIsInOrder cmp matching s) (agree : TreesAgree cmp matching s) where
  abbrev Then : PlainLine K → Fabric K
  Then line = with_waiting (sorted_by_face (said_by_line cmp matching line s)) (after_hearing cmp (sorted_by_face (said_by_line cmp matching line s)) (altered_by_line cmp matching line s))

  abbrev After : PlainLine K → Fabric K
  After line = fabric_after cmp matching line (entry_of cmp matching line s) s

  -- a line that is refused leaves the fabric as it is, and one that is accepted is known
  by_entry : (line : PlainLine K) → ((r : Refusal) → after_refusal cmp matching line r s ≡ s) → (first_cause (line_causes cmp matching (line_spends_ids cmp matching line s) line s) ≡ None → FacesMayFormTrees (Then line) → TreesAgree cmp matching (Then line)) → FacesMayFormTrees (After line) → TreesAgree cmp matching (After line)
  unfolding fabric_after entry_of
  by_entry line still accepted_ trees = cases (first_cause (line_causes cmp matching (line_spends_ids cmp matching line s) line s)) refl trees
    where
      entry : Option Refusal → Fabric K
      entry o = fabric_after cmp matching line (entry_by cmp matching o (sorted_by_face (said_by_line cmp matching line s))) s

      cases : (o : Option Refusal) → first_cause (line_causes cmp matching (line_spends_ids cmp matching line s) line s) ≡ o → FacesMayFormTrees (entry o) → TreesAgree cmp matching (entry o)
      cases None accepted trees_ = accepted_ accepted trees_
      cases (Some r) refused trees_ = subst (TreesAgree cmp matching) (sym (still r)) agree

  unlink_link : (n : ℕ) → is_open_link s n ≡ true → (l : Link) × (nth n s.links ≡ Some l) × (l.is_open ≡ true)
  unlink_link n opens = cases (nth n s.links) refl opens
    where
      cases : (o : Option Link) → nth n s.links ≡ o → is_some_and o (λ link. link.is_open) ≡ true → (l : Link) × (nth n s.links ≡ Some l) × (l.is_open ≡ true)
      cases None at_ opens_ = never opens_ refl
      cases (Some l) at_ opens_ = (l, at_, opens_)

  unlinks : (spent : Bool) (n : ℕ) → first_cause (line_causes cmp matching spent (Unlink n) s) ≡ None → TreesAgree cmp matching (Then (Unlink n))
  unfolding line_causes
  unlinks spent n accepted = let link = unlink_link n (not_false _ (no_cause _ _ _ accepted).0) in trees_after_unlink cmp matching total equal_is_same s fine agree n link.0 link.1 link.2

  pub trees_after_any : (line : PlainLine K) → HasFirstIds line → entry_of cmp matching line s ≢ Err refusal.IdsSpent → FacesMayFormTrees (After line) → TreesAgree cmp matching (After line)
  trees_after_any (Step n back) real other trees = trees_after_call cmp matching total equal_is_same s fine agree (Step n back) refl other
  trees_after_any (Speak call) real other trees = trees_after_call cmp matching total equal_is_same s fine agree (Speak call) refl other
  trees_after_any (Moment n now) real other trees = trees_after_call cmp matching total equal_is_same s fine agree (Moment n now) refl other
  trees_after_any (SetTreesAt n region t) real other trees = trees_after_call cmp matching total equal_is_same s fine agree (SetTreesAt n region t) refl other
  trees_after_any (Gateway mode zid regions south name timeout refused) real other trees = by_entry (Gateway mode zid regions south name timeout refused) (λ r. refl) (λ accepted _. after_gateway cmp matching total equal_is_same s fine agree mode zid regions south name timeout refused) trees
  trees_after_any (Session n first) real other trees = by_entry (Session n first) (λ r. refl) (λ accepted _. after_session cmp matching total equal_is_same s fine agree (line_spends_ids cmp matching (Session n first) s) n first accepted) trees
  trees_after_any (FaceLine n mode zid region bound first) real other trees =
      by_entry (FaceLine n mode zid region bound first) (λ r. refl) (λ accepted now_. after_face cmp matching total equal_is_same s fine agree (line_spends_ids cmp matching (FaceLine n mode zid region bound first) s) n mode zid region bound first accepted now_) trees
  trees_after_any (LinkLine one two first back) real other trees =
      by_entry (LinkLine one two first back) (λ r. refl) (λ accepted now_. after_link cmp matching total equal_is_same s fine agree one two first back real.0 real.1 (line_spends_ids cmp matching (LinkLine one two first back) s) accepted now_) trees
  trees_after_any (Unlink n) real other trees = by_entry (Unlink n) (λ r. refl) (λ accepted _. unlinks (line_spends_ids cmp matching (Unlink n) s) n accepted) trees

  pub trees_after_each : (line : PlainLine K) → HasFirstIds line → entry_of cmp matching line s ≢ Err refusal.IdsSpent → FacesFormTrees (After line) → TreesAgree cmp matching (After line)
  trees_after_each line real other trees = trees_after_any line real other (may_by_faces (After line) trees)
