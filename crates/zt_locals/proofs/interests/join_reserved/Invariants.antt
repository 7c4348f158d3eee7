use Rattle.std.proofs.Common.{◌≡◌, ◌+◌, ◌≤◌, drop, length, vec_len, vec_capacity}
use Rattle.zt_locals.specs.Interests.{joined}
use Rattle.zt_locals.proofs.interests.join_reserved.Given as goal

-- those passed are in, and there is room for those left
abbrev pub invariant-loop-id : goal.invariant-loop-id
invariant-loop-id l = record {
  joins : joined l.ids.items (drop l.id-index l.more) ≡ joined l.initial.ids.items l.more;
  room : vec_len l.ids + length l.more ≤ vec_capacity l.ids + l.id-index;
}
