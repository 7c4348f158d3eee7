use Rattle.std.proofs.Common.{Err, ℕ, ◌-◌, ◌≡◌, length, take, refl, sym, ap, subst, ◌∙◌, arith}
use Rattle.std.proofs.lemmas.List.{length-take}
use Rattle.std.specs.Io.KnownBytes.{Consumes}
use Rattle.zt_streams.specs.Lines.{whole_lines}
use Rattle.zt_streams.proofs.LineLemmas.{whole_lines-rest_of}
use Rattle.zt_protocol.specs.declared.entries.Report.{Report}
use Rattle.zt_protocol.specs.declared.errors.RunError.TheVariants as errors
use Rattle.zt_fabric.specs.Carrying.{no_totals}
use Rattle.zt_fabric.specs.Transcripts.{streams}
use Rattle.zt_fabric.proofs.CompleteLemmas.{complete}
use Rattle.zt_fabric.proofs.Right.{right_of_lines}
use Rattle.zt_fabric.proofs.RunLemmas.{SoFar, fed-front, so_far-next, so_far-end, so_far-start, stopped, finished, too_long, read_failed}
use Rattle.zt_fabric.proofs.running.carry_script.Goals as goal

pub loop-reads-init : goal.loop-reads-init
loop-reads-init g c =
    let left = g.S.Source.left c.args.source.now in
    let written = g.T.Sink.written c.args.sink.now in
    let fabric = c.args.run.now.fabric in
    let feeder = c.new-feeder.result in
    let none : c.args.run.now.report ≡ no_totals = c.requires.no_totals in
    let lines = ap (λ (r : Report). r.lines) none in
    record {
      so_far = subst (λ (r : Report). SoFar g.K.Ord.cmp g.K.Key.matching g.K.Key.reading g.K.Key.printed left written left written fabric r feeder 0) (sym none)
          (so_far-start g.K.Ord.cmp g.K.Key.matching g.K.Key.reading g.K.Key.printed left written fabric feeder c.requires.no_gateways c.new-feeder.ensures);
      empty = c.requires.no_text;
      within = omega arith;
      reads = omega arith;
      read_so_far = omega arith;
      lines = omega (arith, lines, ap length c.new-feeder.ensures);
      range = record { messages_fit = omega (arith, ap (λ (r : Report). r.messages) none); refusals_fit = omega (arith, ap (λ (r : Report). r.refusals) none) };
      read_faults = refl;
      write_faults = refl;
    }

pub returns-in_default-clause-answers : goal.returns-in_default-clause-answers
returns-in_default-clause-answers g c =
    read_failed g.K.Ord.cmp g.K.Key.matching g.K.Key.reading g.K.Key.printed
    (right_of_lines g.K.Ord.cmp g.K.Key.matching g.met.K.Ord.total g.met.K.Key.laws.equal_is_same)
    (g.S.Source.left c.args.source.now) (g.T.Sink.written c.args.sink.now) (g.S.Source.left c.loop-reads.source) (g.T.Sink.written c.loop-reads.sink) (g.S.Source.left c.read.new.self)
    c.loop-reads.run.fabric c.loop-reads.run.report c.loop-reads.feeder c.loop-reads.total
    (g.S.Source.faults c.args.source.now) (g.S.Source.faults c.loop-reads.source) (g.S.Source.faults c.read.new.self) (g.T.Sink.faults c.args.sink.now) (g.T.Sink.faults c.loop-reads.sink)
    c.loop-reads.invariant.so_far c.in_default.ensures.kept c.loop-reads.invariant.within (omega (arith, c.loop-reads.invariant.read_faults)) c.in_default.ensures.fault

pub finish-requires-clause-whole : goal.finish-requires-clause-whole
finish-requires-clause-whole g c =
    ap whole_lines c.loop-reads.invariant.so_far.kept_is ∙ whole_lines-rest_of c.loop-reads.invariant.so_far.read

pub returns-then-count-eq0-clause-answers : goal.returns-then-count-eq0-clause-answers
returns-then-count-eq0-clause-answers g c =
    finished g.K.Ord.cmp g.K.Key.matching g.K.Key.reading g.K.Key.printed
    (right_of_lines g.K.Ord.cmp g.K.Key.matching g.met.K.Ord.total g.met.K.Key.laws.equal_is_same)
    (g.S.Source.left c.args.source.now) (g.T.Sink.written c.args.sink.now) (g.S.Source.left c.read.new.self) (g.T.Sink.written c.loop-reads.sink) (g.T.Sink.written c.finish.new.sink)
    c.loop-reads.run.fabric c.loop-reads.run.report c.loop-reads.feeder c.loop-reads.total
    (g.S.Source.faults c.args.source.now) (g.S.Source.faults c.read.new.self) (g.T.Sink.faults c.args.sink.now) (g.T.Sink.faults c.loop-reads.sink) (g.T.Sink.faults c.finish.new.sink) c.finish.result
    (so_far-end g.K.Ord.cmp g.K.Key.matching g.K.Key.reading g.K.Key.printed
    (g.S.Source.left c.args.source.now) (g.T.Sink.written c.args.sink.now) (g.S.Source.left c.loop-reads.source) (g.T.Sink.written c.loop-reads.sink) (g.S.Source.left c.read.new.self)
    c.loop-reads.run.fabric c.loop-reads.run.report c.loop-reads.feeder c.loop-reads.total (take c.in-Ok.count c.read.new.buf)
    c.loop-reads.invariant.so_far c.in-Ok.ensures.given (ap (λ n. take n c.read.new.buf) c.if-count-eq0.true))
    (c.in-Ok.ensures.end c.if-count-eq0.true) c.loop-reads.invariant.within (omega (arith, c.loop-reads.invariant.write_faults)) c.finish.ensures.ok c.finish.ensures.err

pub returns-in-Err-clause-answers : goal.returns-in-Err-clause-answers
returns-in-Err-clause-answers g c =
    let so_far = c.loop-reads.invariant.so_far in
    let n = c.min-in-loop-reads.result in
    stopped g.K.Ord.cmp g.K.Key.matching g.K.Key.reading g.K.Key.printed
    (right_of_lines g.K.Ord.cmp g.K.Key.matching g.met.K.Ord.total g.met.K.Key.laws.equal_is_same)
    (g.S.Source.left c.args.source.now) (g.T.Sink.written c.args.sink.now) (g.S.Source.left c.loop-reads.source) (g.T.Sink.written c.loop-reads.sink) (g.S.Source.left c.read.new.self) (g.T.Sink.written c.carry_piece.new.sink)
    c.loop-reads.run.fabric c.loop-reads.run.report c.loop-reads.feeder c.loop-reads.total
    (g.S.Source.faults c.args.source.now) (g.S.Source.faults c.read.new.self) (g.T.Sink.faults c.args.sink.now) (g.T.Sink.faults c.loop-reads.sink) (g.T.Sink.faults c.carry_piece.new.sink)
    c.in-Err.error (take c.in-Ok.count c.read.new.buf) (take n c.read.new.buf)
    so_far c.in-Ok.ensures.given (omega (arith, c.loop-reads.invariant.within, c.min.ensures, c.read.auto.buf, length-take c.min.result c.loop-reads.piece, c.in-Ok.ensures.fits, length-take c.in-Ok.count c.read.new.buf))
    (fed-front so_far.read c.read.new.buf c.in-Ok.count (1048576 - c.loop-reads.total) 1048576 n (omega (arith, so_far.size, c.loop-reads.invariant.within)) (omega (arith, so_far.size)) c.min-in-loop-reads.ensures)
    c.in-Err.ensures.err (omega (arith, c.loop-reads.invariant.write_faults))

pub returns-then-count-room-clause-answers : goal.returns-then-count-room-clause-answers
returns-then-count-room-clause-answers g c =
    let so_far = c.loop-reads.invariant.so_far in
    let n = c.min-in-loop-reads.result in
    too_long g.K.Ord.cmp g.K.Key.matching g.K.Key.reading g.K.Key.printed
    (right_of_lines g.K.Ord.cmp g.K.Key.matching g.met.K.Ord.total g.met.K.Key.laws.equal_is_same)
    (g.S.Source.left c.args.source.now) (g.T.Sink.written c.args.sink.now) (g.S.Source.left c.loop-reads.source) (g.T.Sink.written c.loop-reads.sink) (g.S.Source.left c.read.new.self) (g.T.Sink.written c.carry_piece.new.sink)
    c.loop-reads.run.fabric c.carry_piece.new.run.fabric c.loop-reads.run.report c.carry_piece.new.run.report c.loop-reads.feeder c.loop-reads.total
    (g.S.Source.faults c.args.source.now) (g.S.Source.faults c.read.new.self) (g.T.Sink.faults c.args.sink.now) (g.T.Sink.faults c.carry_piece.new.sink)
    (take c.in-Ok.count c.read.new.buf) (take n c.read.new.buf)
    so_far c.in-Ok.ensures.given (omega (arith, c.loop-reads.invariant.within, c.min.ensures, c.read.auto.buf, length-take c.min.result c.loop-reads.piece, c.in-Ok.ensures.fits, length-take c.in-Ok.count c.read.new.buf))
    (fed-front so_far.read c.read.new.buf c.in-Ok.count (1048576 - c.loop-reads.total) 1048576 n (omega (arith, so_far.size, c.loop-reads.invariant.within)) (omega (arith, so_far.size)) c.min-in-loop-reads.ensures)
    (omega (arith, c.if-count-room.true, c.loop-reads.invariant.within, length-take c.in-Ok.count c.read.new.buf, c.in-Ok.ensures.fits))
    c.in_default-carry_piece.ensures.ok

pub loop-reads-preserved : goal.loop-reads-preserved
loop-reads-preserved g c =
    let so_far = c.loop-reads.invariant.so_far in
    let n = c.min-in-loop-reads.result in
    let same : c.in-Ok.count ≡ n = omega (arith, c.min-in-loop-reads.ensures, c.if-count-room.false) in
    let P : ℕ → Type 0 = λ k. Consumes (g.S.Source.left c.loop-reads.source) (g.S.Source.left c.read.new.self) (take k c.read.new.buf) in
    let size : length (take n c.read.new.buf) ≡ c.in-Ok.count = omega (arith, same, length-take n c.read.new.buf, c.in-Ok.ensures.fits) in
    record {
      so_far = so_far-next g.K.Ord.cmp g.K.Key.matching g.K.Key.reading g.K.Key.printed
          (g.S.Source.left c.args.source.now) (g.T.Sink.written c.args.sink.now) (g.S.Source.left c.loop-reads.source) (g.T.Sink.written c.loop-reads.sink) (g.S.Source.left c.read.new.self) (g.T.Sink.written c.carry_piece.new.sink)
          c.loop-reads.run.fabric c.carry_piece.new.run.fabric c.loop-reads.run.report c.carry_piece.new.run.report c.loop-reads.feeder c.carry_piece.new.feeder c.loop-reads.total c.in-Ok.count
          (take n c.read.new.buf) so_far (subst P same c.in-Ok.ensures.given) size c.in_default-carry_piece.ensures.ok c.in_default-carry_piece.ensures.rest;
      empty = c.in_default-carry_piece.ensures.empty;
      within = omega (arith, c.if-count-room.false, c.loop-reads.invariant.within);
      reads = omega (arith, c.if-prove.false);
      read_so_far = omega (arith, c.loop-reads.invariant.read_so_far, c.read.ensures.once);
      lines = omega (arith, c.in_default-carry_piece.ensures.lines, c.loop-reads.invariant.lines, size);
      range = c.in_default-carry_piece.ensures.range;
      read_faults = c.in-Ok.ensures.calm ∙ c.loop-reads.invariant.read_faults;
      write_faults = c.in_default-carry_piece.ensures.calm ∙ c.loop-reads.invariant.write_faults;
    }

pub returns-in_default-clause-complete : goal.returns-in_default-clause-complete
returns-in_default-clause-complete g c =
    complete g.K.Key.reading g.K.Ord.cmp g.K.Key.matching g.K.Key.printed
    (streams (g.S.Source.left c.args.source.now) (g.S.Source.faults c.args.source.now) (g.T.Sink.written c.args.sink.now) (g.T.Sink.faults c.args.sink.now))
    (streams (g.S.Source.left c.read.new.self) (g.S.Source.faults c.read.new.self) (g.T.Sink.written c.loop-reads.sink) (g.T.Sink.faults c.loop-reads.sink))
    (Err errors.ReadFault) (returns-in_default-clause-answers g c)

pub returns-then-count-eq0-clause-complete : goal.returns-then-count-eq0-clause-complete
returns-then-count-eq0-clause-complete g c =
    complete g.K.Key.reading g.K.Ord.cmp g.K.Key.matching g.K.Key.printed
    (streams (g.S.Source.left c.args.source.now) (g.S.Source.faults c.args.source.now) (g.T.Sink.written c.args.sink.now) (g.T.Sink.faults c.args.sink.now))
    (streams (g.S.Source.left c.read.new.self) (g.S.Source.faults c.read.new.self) (g.T.Sink.written c.finish.new.sink) (g.T.Sink.faults c.finish.new.sink))
    c.finish.result (returns-then-count-eq0-clause-answers g c)

pub returns-in-Err-clause-complete : goal.returns-in-Err-clause-complete
returns-in-Err-clause-complete g c =
    complete g.K.Key.reading g.K.Ord.cmp g.K.Key.matching g.K.Key.printed
    (streams (g.S.Source.left c.args.source.now) (g.S.Source.faults c.args.source.now) (g.T.Sink.written c.args.sink.now) (g.T.Sink.faults c.args.sink.now))
    (streams (g.S.Source.left c.read.new.self) (g.S.Source.faults c.read.new.self) (g.T.Sink.written c.carry_piece.new.sink) (g.T.Sink.faults c.carry_piece.new.sink))
    (Err c.in-Err.error) (returns-in-Err-clause-answers g c)

pub returns-then-count-room-clause-complete : goal.returns-then-count-room-clause-complete
returns-then-count-room-clause-complete g c =
    complete g.K.Key.reading g.K.Ord.cmp g.K.Key.matching g.K.Key.printed
    (streams (g.S.Source.left c.args.source.now) (g.S.Source.faults c.args.source.now) (g.T.Sink.written c.args.sink.now) (g.T.Sink.faults c.args.sink.now))
    (streams (g.S.Source.left c.read.new.self) (g.S.Source.faults c.read.new.self) (g.T.Sink.written c.carry_piece.new.sink) (g.T.Sink.faults c.carry_piece.new.sink))
    (Err errors.TooLong) (returns-then-count-room-clause-answers g c)

pub returns-in_default-clause-faults : goal.returns-in_default-clause-faults
returns-in_default-clause-faults g c = record {
  source_is_calm = λ other. absurd (other refl);
  sink_is_calm = λ other. c.loop-reads.invariant.write_faults;
  source_counts = omega (arith, c.loop-reads.invariant.read_faults, c.read.ensures.count);
  sink_counts = omega (arith, c.loop-reads.invariant.write_faults);
}

pub returns-then-count-eq0-clause-faults : goal.returns-then-count-eq0-clause-faults
returns-then-count-eq0-clause-faults g c = record {
  source_is_calm = λ other. c.in-Ok.ensures.calm ∙ c.loop-reads.invariant.read_faults;
  sink_is_calm = λ other. c.finish.ensures.calm other ∙ c.loop-reads.invariant.write_faults;
  source_counts = omega (arith, c.loop-reads.invariant.read_faults, c.read.ensures.count);
  sink_counts = omega (arith, c.loop-reads.invariant.write_faults, c.finish.ensures.count);
}

pub returns-in-Err-clause-faults : goal.returns-in-Err-clause-faults
returns-in-Err-clause-faults g c = record {
  source_is_calm = λ other. c.in-Ok.ensures.calm ∙ c.loop-reads.invariant.read_faults;
  sink_is_calm = λ other. c.in-Err.ensures.unfailed (λ e. other (ap Err e)) ∙ c.loop-reads.invariant.write_faults;
  source_counts = omega (arith, c.loop-reads.invariant.read_faults, c.read.ensures.count);
  sink_counts = omega (arith, c.loop-reads.invariant.write_faults, c.carry_piece.ensures.count);
}

pub returns-then-count-room-clause-faults : goal.returns-then-count-room-clause-faults
returns-then-count-room-clause-faults g c = record {
  source_is_calm = λ other. c.in-Ok.ensures.calm ∙ c.loop-reads.invariant.read_faults;
  sink_is_calm = λ other. c.in_default-carry_piece.ensures.calm ∙ c.loop-reads.invariant.write_faults;
  source_counts = omega (arith, c.loop-reads.invariant.read_faults, c.read.ensures.count);
  sink_counts = omega (arith, c.loop-reads.invariant.write_faults, c.carry_piece.ensures.count);
}
