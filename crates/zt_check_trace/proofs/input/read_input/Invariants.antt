use Rattle.std.proofs.Common.{◌≡◌, ◌+◌, ◌-◌, ◌≤◌, vec_len}
use Rattle.std.specs.Io.KnownBytes.{Consumes}
use Rattle.zt_check_trace.proofs.input.read_input.Given as goal

-- what was read is all that the source lost, and there was room for it
abbrev pub invariant-loop-count : goal.invariant-loop-count
invariant-loop-count g l =
    let left = g.S.Source.left in
    let faults = g.S.Source.faults in
    record {
      room : vec_len l.bytes ≤ 16777216;
      read : Consumes (left l.fn.source) (left l.source) l.bytes.items;
      calm : faults l.source ≡ faults l.fn.source;
      reads : g.S.Source.reads l.source ≤ g.S.Source.reads l.fn.source + vec_len l.bytes;
    }

abbrev pub decreases-loop-count : goal.decreases-loop-count
decreases-loop-count g l = 16777216 - vec_len l.bytes
