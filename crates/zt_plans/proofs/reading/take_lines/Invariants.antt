use Rattle.std.proofs.Common.{◌≡◌, ◌+◌, ◌≤◌, length}
use Rattle.zt_streams.specs.Lines.{whole_lines, rest_of}
use Rattle.zt_plans.proofs.ReadLemmas.{Partly}
use Rattle.zt_plans.proofs.reading.take_lines.Given as goal

-- the lines before those that are left were read, and each took a byte at least
abbrev pub invariant-loop-line : goal.invariant-loop-line
invariant-loop-line g l = record {
  partly : Partly g.K.Key.reading (whole_lines l.fn.feeder) (whole_lines l.feeder) l.reading;
  rest : rest_of l.feeder ≡ rest_of l.fn.feeder;
  lines : l.reading.lines + length l.feeder ≤ length l.fn.feeder;
}

abbrev pub decreases-loop-line : goal.decreases-loop-line
decreases-loop-line g l = length l.feeder
