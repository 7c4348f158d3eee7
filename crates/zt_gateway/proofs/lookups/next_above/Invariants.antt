use Rattle.std.proofs.Common.{◌≡◌, ◌≤◌, drop, length, map, option_copied}
use Rattle.zt_gateway.specs.Lookups.{next_above}
use Rattle.zt_rows.specs.Places.{rows_in}
use Rattle.zt_gateway.proofs.lookups.next_above.Given as goal

-- what was passed from the last place back gives the best so far
abbrev pub invariant-loop-left : goal.invariant-loop-left
invariant-loop-left g l = record {
  within : l.left ≤ length l.places;
  nearest : option_copied l.best ≡ next_above g.K.Ord.cmp (option_copied l.after) (map (λ row. row.1) (rows_in (drop l.left l.places)));
}

abbrev pub decreases-loop-left : goal.decreases-loop-left
decreases-loop-left g l = l.left
