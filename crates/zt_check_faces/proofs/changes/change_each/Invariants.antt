use Rattle.std.proofs.Common.{◌≡◌, ◌++◌, drop, length, map, take}
use Rattle.zt_check_faces.proofs.changes.change_each.Given as goal

-- those so far are changed
abbrev pub invariant-loop-place : goal.invariant-loop-place
invariant-loop-place g l = record {
  changed : l.members.items ≡ map (g.C.Change.changed l.change) (take l.place l.fn.members.items) ++ drop l.place l.fn.members.items;
  same_length : length l.members.items ≡ length l.fn.members.items;
}
