use Rattle.std.proofs.Common.{◌≡◌, ◌==◌, ◌&&◌, drop}
use Rattle.std.specs.List.{list_any}
use Rattle.zt_model.specs.Telling.{was_sent_as}
use Rattle.zt_check_asks.proofs.asks.was_sent_as.Given as goal

-- none so far is the one
abbrev pub invariant-loop-pending : goal.invariant-loop-pending
invariant-loop-pending g l =
    list_any (λ p. (l.face == p.0) && (l.id == p.1)) (drop l.pending-index l.pending-items)
    ≡ was_sent_as l.face l.id l.ask
