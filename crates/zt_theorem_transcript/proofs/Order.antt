-- What an entry of the machine prints stands in order of face.
use Rattle.std.proofs.Common.{Bool, List, Option, Some, None}
use Rattle.std.specs.Cmp.{IsTotalOrder}
use Rattle.std.specs.declared.cmp.Ordering.{Ordering}
use Rattle.zt_protocol.specs.Plain.{PlainLine}
use Rattle.zt_protocol.specs.declared.errors.Refusal.{Refusal}
use Rattle.zt_model.specs.Fabric.{Fabric, entries_from, entry_by, entry_of, line_causes, line_spends_ids, said_by_line, sorted_by_face}
use Rattle.zt_model.specs.Promises.{turns_from}
use Rattle.zt_model.specs.Refusals.{first_cause}
use Rattle.zt_model.specs.Transcript.{Each, StandInOrderOfFace, messages_of}
use Rattle.zt_laws.specs.Order.{FabricIsInOrder}
use Rattle.zt_laws.specs.Shown.{as_shown}
use Rattle.zt_laws.specs.Sound.{HasFirstIds}
use Rattle.zt_laws.proofs.ShownLines.{turns_have}
use Rattle.zt_laws.proofs.Sorting.{sorted_stands, stand_in_order}

module _ {K : Type 0} (cmp : K → K → Ordering) (matching : K → K → Bool) where
  pub entry_in_order : (line : PlainLine K) (s : Fabric K) → StandInOrderOfFace (messages_of (entry_of cmp matching line s))
  unfolding entry_of
  entry_in_order line s = cases (first_cause (line_causes cmp matching (line_spends_ids cmp matching line s) line s))
    where
      cases : (o : Option Refusal) → (let ms = sorted_by_face (said_by_line cmp matching line s) in StandInOrderOfFace (messages_of (entry_by cmp matching o ms)))
      cases None = let ms = sorted_by_face (said_by_line cmp matching line s) in stand_in_order ms (sorted_stands (said_by_line cmp matching line s))
      cases (Some r) = tt

  pub entries_in_order : IsTotalOrder cmp → (lines : List (PlainLine K)) (s : Fabric K) → Each HasFirstIds lines → FabricIsInOrder cmp matching s
      → Each (λ t. StandInOrderOfFace (messages_of t.entry)) (turns_from cmp matching lines (entries_from cmp matching lines s) (as_shown s))
  entries_in_order total lines s real fine =
      turns_have cmp matching total (λ t. StandInOrderOfFace (messages_of t.entry)) (λ X. Unit {0}) (λ line X first ordered holds. (entry_in_order line X, tt)) lines s real fine tt
