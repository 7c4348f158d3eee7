use Rattle.std.proofs.Common.{◌≡◌, drop}
use Rattle.zt_model.specs.Lists.{has_id}
use Rattle.zt_check_finals.proofs.finals.has_ask.Given as goal

-- none so far has the id
abbrev pub invariant-loop-row : goal.invariant-loop-row
invariant-loop-row g l =
    has_id l.id (drop l.row-index l.row-items)
    ≡ has_id l.id l.face.asks
