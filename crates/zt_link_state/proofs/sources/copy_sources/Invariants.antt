use Rattle.std.proofs.Common.{◌≡◌, ◌++◌}
use Rattle.zt_link_state.proofs.sources.copy_sources.Given as goal

-- those so far and those left are all
abbrev pub invariant-loop-origin : goal.invariant-loop-origin
invariant-loop-origin g l = l.copy.entries ++ l.origin-iterator ≡ l.sources.entries
