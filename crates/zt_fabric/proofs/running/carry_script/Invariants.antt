use Rattle.std.proofs.Common.{◌≡◌, ◌+◌, ◌≤◌, [], length, string_bytes}
use Rattle.zt_fabric.specs.Carrying.{IsInRange}
use Rattle.zt_fabric.proofs.RunLemmas.{SoFar}
use Rattle.zt_fabric.proofs.running.carry_script.Given as goal

-- what was read so far was carried out, but for the unfinished line, and the text of the entries was written
abbrev pub invariant-loop-reads : goal.invariant-loop-reads
invariant-loop-reads g l =
    let left = g.S.Source.left in
    let written = g.T.Sink.written in
    record {
      so_far : SoFar g.K.Ord.cmp g.K.Key.matching g.K.Key.reading g.K.Key.printed (left l.fn.source) (written l.fn.sink) (left l.source) (written l.sink)
          l.run.fabric l.run.report l.feeder l.total;
      empty : string_bytes l.run.text ≡ [];
      within : l.total ≤ 1048576;
      reads : l.reads ≤ l.total;
      read_so_far : g.S.Source.reads l.source ≤ g.S.Source.reads l.fn.source + l.reads;
      lines : l.run.report.lines + length l.feeder ≤ l.total;
      range : IsInRange l.run.report;
      read_faults : g.S.Source.faults l.source ≡ g.S.Source.faults l.fn.source;
      write_faults : g.T.Sink.faults l.sink ≡ g.T.Sink.faults l.fn.sink;
    }
