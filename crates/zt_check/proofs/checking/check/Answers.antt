use Rattle.std.proofs.Common.{ℕ, List, subst, ◌∙◌}
use Rattle.std.specs.Io.KnownBytes.{Appends}
use Rattle.zt_streams.specs.Streams.{AppendsPart}
use Rattle.zt_check.specs.Judging.{IsJudged}
use Rattle.zt_check.proofs.CheckingLemmas.{answers_error, on_err, on_ok, whole_input}
use Rattle.zt_check.proofs.checking.check.Goals as goal

pub returns-in-Err-clause-answers : goal.returns-in-Err-clause-answers
returns-in-Err-clause-answers g c =
    answers_error g.K.Ord.cmp g.K.Key.matching g.K.Key.reading g.K.Key.printed (g.S.Source.left c.args.source.now) (g.S.Source.left c.read_input.new.source) (g.T.Sink.written c.args.sink.now) c.in-Ok.input.bytes.items c.deref.result.now
    c.in-Err.error (whole_input _ _ c.in-Ok.input.bytes.items c.in-Ok.input.longer c.in-Ok.ensures.taken c.if-input.false (c.in-Ok.ensures.end c.if-input.false)) c.deref.ensures.value c.in-Err.ensures

pub returns-then-is_err-clause-answers : goal.returns-then-is_err-clause-answers
returns-then-is_err-clause-answers g c =
    let old = g.T.Sink.written c.args.sink.now in
    let new = g.T.Sink.written c.write_all.new.sink in
    let verdict = c.in-Ok-judge.verdict in (
      verdict,
      (
        c.in-Ok.input.bytes.items,
        whole_input _ _ c.in-Ok.input.bytes.items c.in-Ok.input.longer c.in-Ok.ensures.taken c.if-input.false (c.in-Ok.ensures.end c.if-input.false),
        subst (λ (input : List ℕ). IsJudged g.K.Ord.cmp g.K.Key.matching g.K.Key.reading g.K.Key.printed input verdict) c.deref.ensures.value c.in-Ok-judge.ensures,
      ),
      subst (λ (text : List ℕ). AppendsPart old new text) (c.as_bytes.ensures.value ∙ c.in-Ok-print_verdict.ensures)
          (on_err c.write_all.result (AppendsPart old new c.as_bytes.result.now) c.if-is_err.ensures.value c.write_all.ensures.part),
    )

pub returns-clause-answers : goal.returns-clause-answers
returns-clause-answers g c =
    let old = g.T.Sink.written c.args.sink.now in
    let new = g.T.Sink.written c.write_all.new.sink in
    let verdict = c.in-Ok-judge.verdict in (
      (
        c.in-Ok.input.bytes.items,
        whole_input _ _ c.in-Ok.input.bytes.items c.in-Ok.input.longer c.in-Ok.ensures.taken c.if-input.false (c.in-Ok.ensures.end c.if-input.false),
        subst (λ (input : List ℕ). IsJudged g.K.Ord.cmp g.K.Key.matching g.K.Key.reading g.K.Key.printed input verdict) c.deref.ensures.value c.in-Ok-judge.ensures,
      ),
      subst (λ (text : List ℕ). Appends old new text) (c.as_bytes.ensures.value ∙ c.in-Ok-print_verdict.ensures)
          (on_ok c.write_all.result (Appends old new c.as_bytes.result.now) c.if-is_err.ensures.value c.write_all.ensures.ok),
    )
