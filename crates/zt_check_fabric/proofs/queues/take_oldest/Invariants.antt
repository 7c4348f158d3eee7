use Rattle.std.proofs.Common.{◌≡◌, ◌++◌, drop, length, map, take}
use Rattle.zt_check_fabric.specs.Waiting.{row_taken}
use Rattle.zt_check_fabric.proofs.queues.take_oldest.Given as goal

-- those so far are changed
abbrev pub invariant-loop-place : goal.invariant-loop-place
invariant-loop-place g l = record {
  changed : l.waiting.items ≡ map (row_taken l.face) (take l.place l.fn.waiting.items) ++ drop l.place l.fn.waiting.items;
  same_length : length l.waiting.items ≡ length l.fn.waiting.items;
}
