use Rattle.std.proofs.Common.{◌≡◌, ◌++◌, length, map}
use Rattle.zt_streams.specs.Lines.{whole_lines, rest_of}
use Rattle.zt_streams.proofs.pieces.take_lines.Given as goal

-- the lines taken and those that are left are those of the beginning
abbrev pub invariant-loop-line : goal.invariant-loop-line
invariant-loop-line l = record {
  lines : map (λ line. line.items) l.lines.items ++ whole_lines l.feeder ≡ map (λ line. line.items) l.fn.lines.items ++ whole_lines l.fn.feeder;
  rest : rest_of l.feeder ≡ rest_of l.fn.feeder;
}

abbrev pub decreases-loop-line : goal.decreases-loop-line
decreases-loop-line l = length l.feeder
