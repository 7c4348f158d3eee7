use Rattle.std.proofs.Common.{ℕ, List, Err, string_bytes, subst}
use Rattle.std.specs.Io.KnownBytes.{Appends}
use Rattle.zt_streams.specs.Streams.{AppendsPart}
use Rattle.zt_fabric.specs.Transcripts.{streams}
use Rattle.zt_workers.proofs.CompleteLemmas.{complete}
use Rattle.zt_workers.proofs.DriveLemmas.{stopped, written_in_part, written_whole}
use Rattle.zt_workers.proofs.driving.drive.Goals as goal

pub returns-in-Err-clause-answers : goal.returns-in-Err-clause-answers
returns-in-Err-clause-answers g c =
    let left = g.S.Source.left in
    let written = g.T.Sink.written in
    stopped g.K.Key.reading g.K.Ord.cmp g.K.Key.matching g.K.Key.printed c.args.workers (left c.args.source.now) (left c.read_script.new.source) (written c.args.sink.now)
    (g.S.Source.faults c.args.source.now) (g.S.Source.faults c.read_script.new.source) (g.T.Sink.faults c.args.sink.now) (g.T.Sink.faults c.args.sink.now)
    c.in-Ok.script.bytes.items c.in-Ok.script.longer c.in-Err.error c.in-Ok.ensures.taken c.in-Ok.ensures.end c.in-Err.ensures.err

pub returns-in-Err-clause-complete : goal.returns-in-Err-clause-complete
returns-in-Err-clause-complete g c =
    complete g.K.Key.reading g.K.Ord.cmp g.K.Key.matching g.K.Key.printed c.args.workers
    (streams (g.S.Source.left c.args.source.now) (g.S.Source.faults c.args.source.now) (g.T.Sink.written c.args.sink.now) (g.T.Sink.faults c.args.sink.now))
    (streams (g.S.Source.left c.read_script.new.source) (g.S.Source.faults c.read_script.new.source) (g.T.Sink.written c.args.sink.now) (g.T.Sink.faults c.args.sink.now))
    (Err c.in-Err.error) (returns-in-Err-clause-answers g c)

pub returns-in-Ok-write_all-clause-answers : goal.returns-in-Ok-write_all-clause-answers
returns-in-Ok-write_all-clause-answers g c =
    let left = g.S.Source.left in
    let written = g.T.Sink.written in
    written_whole g.K.Key.reading g.K.Ord.cmp g.K.Key.matching g.K.Key.printed c.args.workers (left c.args.source.now) (left c.read_script.new.source) (written c.args.sink.now) (written c.write_all.new.sink)
    (g.S.Source.faults c.args.source.now) (g.S.Source.faults c.read_script.new.source) (g.T.Sink.faults c.args.sink.now) (g.T.Sink.faults c.write_all.new.sink)
    c.in-Ok.script.bytes.items (string_bytes c.in-Ok-transcript.printed.0) c.in-Ok.script.longer c.in-Ok-transcript.printed.1
    c.in-Ok.ensures.taken c.in-Ok.ensures.end c.in-Ok-transcript.ensures.ok
    (subst (λ (t : List ℕ). Appends (written c.args.sink.now) (written c.write_all.new.sink) t) c.as_bytes.ensures.value c.in-Ok-write_all.ensures.ok)

pub returns-clause-answers : goal.returns-clause-answers
returns-clause-answers g c =
    let left = g.S.Source.left in
    let written = g.T.Sink.written in
    written_in_part g.K.Key.reading g.K.Ord.cmp g.K.Key.matching g.K.Key.printed c.args.workers (left c.args.source.now) (left c.read_script.new.source) (written c.args.sink.now) (written c.write_all.new.sink)
    (g.S.Source.faults c.args.source.now) (g.S.Source.faults c.read_script.new.source) (g.T.Sink.faults c.args.sink.now) (g.T.Sink.faults c.write_all.new.sink)
    c.in-Ok.script.bytes.items (string_bytes c.in-Ok-transcript.printed.0) c.in-Ok.script.longer c.in-Ok-transcript.printed.1
    c.in-Ok.ensures.taken c.in-Ok.ensures.end c.in-Ok-transcript.ensures.ok
    (subst (λ (t : List ℕ). AppendsPart (written c.args.sink.now) (written c.write_all.new.sink) t) c.as_bytes.ensures.value c.in-Err-write_all.ensures.part)
    c.in-Err-write_all.ensures.fault
