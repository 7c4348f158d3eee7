use Rattle.std.proofs.Common.{◌≡◌, ◌++◌}
use Rattle.zt_link_state.proofs.sources.copy_set.Given as goal

-- those so far and those left are all
abbrev pub invariant-loop-key : goal.invariant-loop-key
invariant-loop-key g l = l.copy.keys ++ l.key-iterator ≡ l.keys.keys
