use Rattle.std.proofs.Common.{◌≡◌, ◌≤◌, drop, length, map}
use Rattle.zt_model.specs.Lists.{in_key_order}
use Rattle.zt_gateway.proofs.sourced.expressions.Given as goal

-- those of the rows passed, from the last on, are in their places
abbrev pub invariant-loop-left : goal.invariant-loop-left
invariant-loop-left g l = record {
  within : l.left ≤ length l.rows;
  placed : l.exprs.items ≡ in_key_order g.K.Ord.cmp (map (λ row. row.expr) (drop l.left l.rows));
}

abbrev pub decreases-loop-left : goal.decreases-loop-left
decreases-loop-left g l = l.left
