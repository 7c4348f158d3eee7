use Rattle.std.proofs.Common.{◌-◌, length}
use Rattle.zt_check_trace.proofs.PartsLemmas.{IsPassed}
use Rattle.zt_check_trace.proofs.parts.cut.Given as goal

-- the lines before the place are whole, and none of them is the one
abbrev pub invariant-loop-line : goal.invariant-loop-line
invariant-loop-line l = IsPassed l.input l.start

abbrev pub decreases-loop-line : goal.decreases-loop-line
decreases-loop-line l = length l.input - l.start
