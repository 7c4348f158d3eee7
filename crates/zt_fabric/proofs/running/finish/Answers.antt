use Rattle.std.proofs.Common.{string_bytes, inr, refl}
use Rattle.zt_streams.specs.Lines.{last_line, rest_of}
use Rattle.zt_streams.specs.Streams.{AppendsPart, HasRisen}
use Rattle.zt_text.specs.Text.{report_text}
use Rattle.zt_fabric.proofs.CarryLemmas.{ends-in-part, on_err, printed_alone}
use Rattle.zt_fabric.proofs.running.finish.Goals as goal

pub returns-then-is_err-2-clause-err : goal.returns-then-is_err-2-clause-err
returns-then-is_err-2-clause-err g c =
    let run = c.args.run.now in
    let after = c.carry_end.new.run in
    let written = g.T.Sink.written in
    let faults = g.T.Sink.faults in
    let failed = c.if-is_err-2.ensures.value in
    inr (
      refl,
      ends-in-part g.K.Ord.cmp g.K.Key.matching g.K.Key.reading g.K.Key.printed (last_line (rest_of c.args.feeder.now)) run.fabric after.fabric run.report after.report
          (written c.args.sink.now) (written c.carry_end.new.sink) (written c.flush.new.sink) (string_bytes c.write_report.new.out)
          (faults c.args.sink.now) (faults c.carry_end.new.sink) (faults c.flush.new.sink)
          c.in_default.ensures.ok
          (printed_alone c.write_report.result (string_bytes c.write_report.new.out) (string_bytes after.text) (report_text after.report) c.if-is_err.ensures.value c.write_report.ensures c.in_default.ensures.empty)
          (on_err c.flush.result (AppendsPart (written c.carry_end.new.sink) (written c.flush.new.sink) (string_bytes c.write_report.new.out)) failed c.flush.ensures.part)
          c.carry_end.ensures.count
          (on_err c.flush.result (HasRisen (faults c.carry_end.new.sink) (faults c.flush.new.sink)) failed c.flush.ensures.fault),
    )
