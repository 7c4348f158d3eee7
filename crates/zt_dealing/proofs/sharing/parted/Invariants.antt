use Rattle.std.proofs.Common.{◌≡◌, map}
use Rattle.zt_dealing.proofs.sharing.parted.Given as goal

-- what was done so far is parted
abbrev pub invariant-loop-done : goal.invariant-loop-done
invariant-loop-done g l = record {
  passes : l.passes.items ≡ map (λ done. done.pass) l.yielded;
  queues : map (λ queue. queue.items) l.queues.items ≡ map (λ done. done.lines.items) l.yielded;
}
