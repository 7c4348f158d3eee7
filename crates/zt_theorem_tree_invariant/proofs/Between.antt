-- Every line but those that open and close links: all joints agree after it.
use Rattle.std.proofs.Common.{◌≡◌, ◌≢◌, ℕ, Bool, true, List, Option, Some, None, Err, refl}
use Rattle.std.specs.Cmp.{IsTotalOrder}
use Rattle.std.specs.declared.cmp.Ordering.{Ordering}
use Rattle.std.specs.declared.cmp.Ordering.TheVariants.{Equal}
use Rattle.zt_region.specs.declared.region.Bound.{Bound}
use Rattle.zt_region.specs.declared.region.Region.{Region}
use Rattle.zt_region.specs.declared.region.WhatAmI.{WhatAmI}
use Rattle.zt_region.specs.declared.region.Zid.{Zid}
use Rattle.zt_region.specs.South.{PlainSouth}
use Rattle.zt_protocol.specs.Plain.{PlainLine, Gateway, Session, Face as FaceLine, Link as LinkLine, Unlink, Step, Speak, Moment, SetTreesAt}
use Rattle.zt_protocol.specs.declared.errors.Refusal.{Refusal}
use Rattle.zt_protocol.specs.declared.errors.Refusal.TheVariants as refusal
use Rattle.zt_model.specs.Fabric.{Fabric, entry_by, entry_of, fabric_after, line_causes, line_spends_ids, said_by_line, sorted_by_face}
use Rattle.zt_model.specs.Refusals.{first_cause}
use Rattle.zt_laws.specs.Order.{FabricIsInOrder}
use Rattle.zt_laws.proofs.Lists.{never}
use Rattle.zt_theorem_tree_invariant.specs.Facts.{JointAgrees, TreesAgree}
use Rattle.zt_theorem_tree_invariant.specs.Joints.{EachJoint, changes_no_link}
use Rattle.zt_theorem_tree_invariant.proofs.After.{agree_after_line}
use Rattle.zt_theorem_tree_invariant.proofs.Making.{face_agrees, gateway_agrees, session_agrees}

module _ {K : Type 0} (cmp : K → K → Ordering) (matching : K → K → Bool) (total : IsTotalOrder cmp) (equal_is_same : (a b : K) → cmp a b ≡ Equal → a ≡ b) (s : Fabric K) (fine : FabricIsInOrder cmp matching s) (agree : TreesAgree cmp matching s) where
  abbrev Then : PlainLine K → Fabric K
  Then line = fabric_after cmp matching line (entry_of cmp matching line s) s

  gateway_line : (mode : WhatAmI) (zid : Zid) (regions : List Region) (south : PlainSouth) (name : Option (List ℕ)) (timeout : ℕ) (refused : List (Region × Region)) → EachJoint (JointAgrees cmp) (Then (Gateway mode zid regions south name timeout refused))
  unfolding fabric_after entry_of
  gateway_line mode zid regions south name timeout refused = cases (first_cause (line_causes cmp matching (line_spends_ids cmp matching (Gateway mode zid regions south name timeout refused) s) (Gateway mode zid regions south name timeout refused) s))
    where
      cases : (o : Option Refusal) → EachJoint (JointAgrees cmp) (fabric_after cmp matching (Gateway mode zid regions south name timeout refused) (entry_by cmp matching o (sorted_by_face (said_by_line cmp matching (Gateway mode zid regions south name timeout refused) s))) s)
      cases None = gateway_agrees cmp matching total s fine agree true mode zid regions south name timeout refused
      cases (Some r) = agree.joints

  session_line : (n first : ℕ) → EachJoint (JointAgrees cmp) (Then (Session n first))
  unfolding fabric_after entry_of
  session_line n first = cases (first_cause (line_causes cmp matching (line_spends_ids cmp matching (Session n first) s) (Session n first) s)) refl
    where
      cases : (o : Option Refusal) → first_cause (line_causes cmp matching (line_spends_ids cmp matching (Session n first) s) (Session n first) s) ≡ o
          → EachJoint (JointAgrees cmp) (fabric_after cmp matching (Session n first) (entry_by cmp matching o (sorted_by_face (said_by_line cmp matching (Session n first) s))) s)
      cases None accepted = session_agrees cmp matching total s fine agree (line_spends_ids cmp matching (Session n first) s) n first accepted
      cases (Some r) refused = agree.joints

  face_line : (n : ℕ) (mode : WhatAmI) (zid : Zid) (region : Region) (bound : Bound) (first : ℕ) → EachJoint (JointAgrees cmp) (Then (FaceLine n mode zid region bound first))
  unfolding fabric_after entry_of
  face_line n mode zid region bound first = cases (first_cause (line_causes cmp matching (line_spends_ids cmp matching (FaceLine n mode zid region bound first) s) (FaceLine n mode zid region bound first) s))
    where
      cases : (o : Option Refusal) → EachJoint (JointAgrees cmp) (fabric_after cmp matching (FaceLine n mode zid region bound first) (entry_by cmp matching o (sorted_by_face (said_by_line cmp matching (FaceLine n mode zid region bound first) s))) s)
      cases None = face_agrees cmp matching total s fine agree true n mode zid region bound first
      cases (Some r) = agree.joints

  pub agree_between_links : (line : PlainLine K) → changes_no_link line ≡ true → entry_of cmp matching line s ≢ Err refusal.IdsSpent → EachJoint (JointAgrees cmp) (Then line)
  agree_between_links (Step n back) still other = agree_after_line cmp matching total equal_is_same s fine agree (Step n back) refl other
  agree_between_links (Speak call) still other = agree_after_line cmp matching total equal_is_same s fine agree (Speak call) refl other
  agree_between_links (Moment n now) still other = agree_after_line cmp matching total equal_is_same s fine agree (Moment n now) refl other
  agree_between_links (SetTreesAt n region t) still other = agree_after_line cmp matching total equal_is_same s fine agree (SetTreesAt n region t) refl other
  agree_between_links (Gateway mode zid regions south name timeout refused) still other = gateway_line mode zid regions south name timeout refused
  agree_between_links (Session n first) still other = session_line n first
  agree_between_links (FaceLine n mode zid region bound first) still other = face_line n mode zid region bound first
  agree_between_links (LinkLine one two first back) still other = never still refl
  agree_between_links (Unlink link) still other = never still refl
