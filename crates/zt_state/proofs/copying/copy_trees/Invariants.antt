use Rattle.std.proofs.Common.{◌≡◌, ◌++◌}
use Rattle.zt_state.proofs.copying.copy_trees.Given as goal

-- those so far and those left are all
abbrev pub invariant-loop-region : goal.invariant-loop-region
invariant-loop-region l = l.copies.entries ++ l.region-iterator ≡ l.trees.entries
