use Rattle.std.proofs.Common.{◌≡◌, ◌++◌, drop, take}
use Rattle.zt_liveliness.specs.Queues.{oldest_answer, without_answer}
use Rattle.zt_liveliness.proofs.queues.place_of_answer.Given as goal

-- the message is none of those so far
abbrev pub invariant-loop-place : goal.invariant-loop-place
invariant-loop-place g l = record {
  oldest : oldest_answer l.session l.id l.waiting ≡ oldest_answer l.session l.id (drop l.place l.waiting);
  left : without_answer l.session l.id l.waiting ≡ take l.place l.waiting ++ without_answer l.session l.id (drop l.place l.waiting);
}
