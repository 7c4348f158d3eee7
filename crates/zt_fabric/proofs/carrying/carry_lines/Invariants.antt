use Rattle.std.proofs.Common.{◌≡◌, ◌+◌, ◌≤◌, length, string_bytes}
use Rattle.zt_streams.specs.Lines.{whole_lines, rest_of}
use Rattle.zt_fabric.specs.Carrying.{IsInRange}
use Rattle.zt_fabric.proofs.CarryLemmas.{Partly}
use Rattle.zt_fabric.proofs.carrying.carry_lines.Given as goal

-- the lines before those that are left were carried out, and each took a byte at least
abbrev pub invariant-loop-line : goal.invariant-loop-line
invariant-loop-line g l = record {
  partly : Partly g.K.Ord.cmp g.K.Key.matching g.K.Key.reading g.K.Key.printed (whole_lines l.fn.feeder) (whole_lines l.feeder)
      l.fn.run.fabric l.fn.run.report (string_bytes l.fn.run.text) l.run.fabric l.run.report (string_bytes l.run.text);
  rest : rest_of l.feeder ≡ rest_of l.fn.feeder;
  lines : l.run.report.lines + length l.feeder ≤ l.fn.run.report.lines + length l.fn.feeder;
  range : IsInRange l.run.report;
}

abbrev pub decreases-loop-line : goal.decreases-loop-line
decreases-loop-line g l = length l.feeder
