use Rattle.std.proofs.Common.{◌≡◌, ◌≤◌, drop, length}
use Rattle.zt_model.specs.Sourced.{zids_of}
use Rattle.zt_gateway.proofs.sourced.zids_of.Given as goal

-- those of the rows passed, from the last on, are in their places
abbrev pub invariant-loop-left : goal.invariant-loop-left
invariant-loop-left g l = record {
  within : l.left ≤ length l.rows;
  placed : l.zids.items ≡ zids_of g.K.Ord.cmp l.kind l.expr (drop l.left l.rows);
}

abbrev pub decreases-loop-left : goal.decreases-loop-left
decreases-loop-left g l = l.left
