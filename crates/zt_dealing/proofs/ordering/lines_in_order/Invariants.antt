use Rattle.std.proofs.Common.{map, take}
use Rattle.zt_shared.specs.Recorded.{journalled}
use Rattle.zt_dealing.proofs.LineLemmas.{AreTaken}
use Rattle.zt_dealing.proofs.ordering.lines_in_order.Given as goal

-- the entries so far have their lines
abbrev pub invariant-loop-entry : goal.invariant-loop-entry
invariant-loop-entry g l = AreTaken (map (λ queue. queue.items) l.queues) l.taken.items (map journalled (take l.entry-index l.entries)) l.lines.items
