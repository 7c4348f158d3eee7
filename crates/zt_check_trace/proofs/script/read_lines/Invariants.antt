use Rattle.std.proofs.Common.{length, map}
use Rattle.zt_protocol.specs.Plain.{plain_line}
use Rattle.zt_streams.specs.Lines.{lines_of}
use Rattle.zt_check_trace.proofs.ScriptLemmas.{IsUnderway}
use Rattle.zt_check_trace.proofs.script.read_lines.Given as goal

-- the first lines were read, and the others are left
abbrev pub invariant-loop-text : goal.invariant-loop-text
invariant-loop-text g l = IsUnderway g.K.Key.reading (lines_of l.fn.script) (map plain_line l.lines.items) l.rest

abbrev pub decreases-loop-text : goal.decreases-loop-text
decreases-loop-text g l = length l.rest
