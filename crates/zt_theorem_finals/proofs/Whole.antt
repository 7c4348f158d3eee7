-- Each turn of a transcript sends the finals that are promised.
use Rattle.std.proofs.Common.{◌≡◌, Bool, List}
use Rattle.std.specs.Cmp.{IsTotalOrder}
use Rattle.std.specs.declared.cmp.Ordering.{Ordering}
use Rattle.std.specs.declared.cmp.Ordering.TheVariants.{Equal}
use Rattle.zt_protocol.specs.Plain.{PlainLine}
use Rattle.zt_model.specs.Fabric.{Fabric, empty_fabric, entries_from}
use Rattle.zt_model.specs.Promises.{EachFace, FinishesAsks, IsFinalOfSome, NothingFollowsFinals, SendsFinals, Turn, printed, printed_to, turns_from}
use Rattle.zt_model.specs.Transcript.{Each}
use Rattle.zt_laws.specs.Shown.{as_shown}
use Rattle.zt_laws.specs.Sound.{HasFirstIds}
use Rattle.zt_laws.proofs.LinesOrder.{in_order_empty}
use Rattle.zt_laws.proofs.Lists.{each_both}
use Rattle.zt_theorem_soundness.specs.Lines.{EachGatewayIs}
use Rattle.zt_theorem_finals.specs.Open.{AsksAreOpen}
use Rattle.zt_theorem_finals.proofs.Last.{turns_end_with_finals}
use Rattle.zt_theorem_finals.proofs.Turns.{turns_finish}
use Rattle.zt_theorem_finals.proofs.Named.{turns_name_asks}

module _ {K : Type 0} (cmp : K → K → Ordering) (matching : K → K → Bool) (total : IsTotalOrder cmp) (equal_is_same : (a b : K) → cmp a b ≡ Equal → a ≡ b) (lines : List (PlainLine K)) (real : Each HasFirstIds lines) where
  abbrev turns_of : Fabric K → List (Turn K)
  turns_of s = turns_from cmp matching lines (entries_from cmp matching lines s) (as_shown s)

  -- from any fabric on whose asks are open
  pub turns_send : (s : Fabric K) → EachGatewayIs cmp matching (AsksAreOpen cmp matching) s → Each (SendsFinals cmp matching) (turns_of s)
  turns_send s is =
      each_both (FinishesAsks cmp matching) (λ t. Each (λ m. IsFinalOfSome cmp matching t m.face m.message) (printed t) × EachFace (λ n g f. NothingFollowsFinals (printed_to t n f)) t.after) (SendsFinals cmp matching)
      (λ t asks both. record { asks = asks; no_others = both.0; come_last = both.1 }) (turns_of s) (turns_finish cmp matching total equal_is_same lines s real is)
      (each_both (λ t. Each (λ m. IsFinalOfSome cmp matching t m.face m.message) (printed t)) (λ t. EachFace (λ n g f. NothingFollowsFinals (printed_to t n f)) t.after) (λ t. Each (λ m. IsFinalOfSome cmp matching t m.face m.message) (printed t) × EachFace (λ n g f. NothingFollowsFinals (printed_to t n f)) t.after)
      (λ t named last. (named, last)) (turns_of s) (turns_name_asks cmp matching total lines s real is.order) (turns_end_with_finals cmp matching total lines s real is.order))

  -- from the empty one
  pub turns_send_first : Each (SendsFinals cmp matching) (turns_from cmp matching lines (entries_from cmp matching lines empty_fabric) empty_fabric)
  turns_send_first = turns_send empty_fabric (record { order = in_order_empty cmp matching; gateways = tt })
