-- What a fabric of trees comes to where nothing but steps comes.
use Rattle.std.specs.Prelude.{◌≡◌, ◌≢◌, ℕ, Bool, true, false, List, [], ◌∷◌, Some, Err}
use Rattle.std.specs.List.{list_all}
use Rattle.std.specs.declared.cmp.Ordering.{Ordering}
use Rattle.zt_protocol.specs.Plain.{PlainLine, Step}
use Rattle.zt_protocol.specs.declared.errors.Refusal.TheVariants.{IdsSpent}
use Rattle.zt_model.specs.Fabric.{Fabric, entries_from, entry_of, fabric_after}
use Rattle.zt_model.specs.Transcript.{Each, FaceAt, face_numbered}
use Rattle.zt_model.specs.TreePromises.{KnowsItsTree, are_links_empty, is_plain_number}
use Rattle.zt_theorem_soundness.specs.Lines.{EachGatewayIs}
use Rattle.zt_theorem_soundness.specs.Sound.{IsSound}
use Rattle.zt_theorem_tree_invariant.specs.Facts.{TreesAgree}
use Rattle.zt_theorem_tree_rest.specs.Steps.{QueuesStand, is_step, takes_message}

module _ {K : Type 0} (cmp : K → K → Ordering) (matching : K → K → Bool) where
  -- the fabric after the lines of a script
  abbrev pub fabric_after_all : List (PlainLine K) → Fabric K → Fabric K
  fabric_after_all [] s = s
  fabric_after_all (line ∷ lines) s = fabric_after_all lines (fabric_after cmp matching line (entry_of cmp matching line s) s)

  -- The lines are steps, each takes a message, accepted or refused, and none is refused for want of ids.
  pub record StepsFollow (lines : List (PlainLine K)) (s : Fabric K) : Type 0 where
    pub steps : list_all is_step lines ≡ true
    pub taken : list_all takes_message (entries_from cmp matching lines s) ≡ true
    pub ids : Each (λ entry. entry ≢ Err IdsSpent) (entries_from cmp matching lines s)

  -- no step takes a message any more
  abbrev pub NoneFollows : Fabric K → Type 0
  NoneFollows s = (link : ℕ) (back : Bool) → takes_message (entry_of cmp matching (Step link back) s) ≡ false

  -- What a fabric of trees has after each line: its gateways are sound, its trees agree, and messages wait for ends of
  -- open links alone.
  pub record TreesStand (s : Fabric K) : Type 0 where
    pub sound : EachGatewayIs cmp matching (IsSound cmp matching) s
    pub agree : TreesAgree cmp matching s
    pub queues : QueuesStand s

  -- each open plain face keeps, of what is owed to it, exactly what is live at plain faces of its gateway's tree
  abbrev pub AllKnowTheirTrees : Fabric K → Type 0
  AllKnowTheirTrees s = (n : ℕ) (x : FaceAt K) → face_numbered s n ≡ Some x → is_plain_number s n ≡ true → KnowsItsTree cmp matching s x.gateway x.face

  -- nothing waits, and all know
  pub record IsAtRest (s : Fabric K) : Type 0 where
    pub empty_links : are_links_empty s ≡ true
    pub know : AllKnowTheirTrees s
