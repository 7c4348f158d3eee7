use Rattle.std.proofs.Common.{◌≡◌, length, ◌-◌, ◌≤◌, take}
use Rattle.std.specs.Io.KnownBytes.{Appends}
use Rattle.zt_streams.proofs.outside.write_all.Given as goal

-- the bytes before `done` were added, and the count is as it was
abbrev pub invariant-loop-done : goal.invariant-loop-done
invariant-loop-done g l =
    let written = g.T.Sink.written in
    let faults = g.T.Sink.faults in
    record {
      within : l.done ≤ length l.bytes;
      added : Appends (written l.fn.sink) (written l.sink) (take l.done l.bytes);
      calm : faults l.sink ≡ faults l.fn.sink;
    }

abbrev pub decreases-loop-done : goal.decreases-loop-done
decreases-loop-done g l = length l.bytes - l.done
