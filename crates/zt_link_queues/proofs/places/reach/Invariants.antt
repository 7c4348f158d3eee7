use Rattle.std.proofs.Common.{◌≡◌, ℕ, ◌+◌, ◌-◌, length}
use Rattle.zt_link_queues.specs.Found.{faces_at}
use Rattle.zt_link_queues.proofs.places.reach.Given as goal

-- no face is lost
abbrev pub invariant-loop-alloc : goal.invariant-loop-alloc
invariant-loop-alloc l = (q : ℕ) → faces_at q l.numbers.items ≡ faces_at q l.fn.numbers.items

abbrev pub decreases-loop-alloc : goal.decreases-loop-alloc
decreases-loop-alloc l = l.gateway + 1 - length l.numbers.items
