use Rattle.std.proofs.Common.{List, ℕ, subst}
use Rattle.std.specs.Io.KnownBytes.{Appends}
use Rattle.std.specs.Prelude.{Ok, string_bytes}
use Rattle.zt_streams.specs.Streams.{AppendsPart}
use Rattle.zt_check.proofs.CheckingLemmas.{on_err, on_ok, whole_input}
use Rattle.zt_check.specs.Judging.{JudgesInput}
use Rattle.zt_explaining.proofs.ExplainingLemmas.{explaining_error}
use Rattle.zt_explaining.proofs.explaining.explain_input.Goals as goal

pub returns-in-Err-clause-answers : goal.returns-in-Err-clause-answers
returns-in-Err-clause-answers g c =
    explaining_error g.K.Ord.cmp g.K.Key.matching g.K.Key.reading g.K.Key.printed (g.S.Source.left c.args.source.now) (g.S.Source.left c.read_input.new.source) (g.T.Sink.written c.args.sink.now) c.in-Ok.input.bytes.items c.deref.result.now
    c.in-Err.error (whole_input _ _ c.in-Ok.input.bytes.items c.in-Ok.input.longer c.in-Ok.ensures.taken c.if-input.false (c.in-Ok.ensures.end c.if-input.false)) c.deref.ensures.value c.in-Err.ensures.judged

pub returns-then-is_err-clause-answers : goal.returns-then-is_err-clause-answers
returns-then-is_err-clause-answers g c =
    let old = g.T.Sink.written c.args.sink.now in
    let new = g.T.Sink.written c.write_all.new.sink in
    let told = c.in-Ok-explained.told in (
      told.0,
      string_bytes told.1,
      record {
        input = c.in-Ok.input.bytes.items;
        whole = whole_input _ _ c.in-Ok.input.bytes.items c.in-Ok.input.longer c.in-Ok.ensures.taken c.if-input.false (c.in-Ok.ensures.end c.if-input.false);
        judged = subst (λ (input : List ℕ). JudgesInput g.K.Ord.cmp g.K.Key.matching g.K.Key.reading g.K.Key.printed input (Ok told.0)) c.deref.ensures.value c.in-Ok-explained.ensures.judged;
        tells = c.in-Ok-explained.ensures.told;
      },
      subst (λ (text : List ℕ). AppendsPart old new text) c.as_bytes.ensures.value
          (on_err c.write_all.result (AppendsPart old new c.as_bytes.result.now) c.if-is_err.ensures.value c.write_all.ensures.part),
    )

pub returns-clause-answers : goal.returns-clause-answers
returns-clause-answers g c =
    let old = g.T.Sink.written c.args.sink.now in
    let new = g.T.Sink.written c.write_all.new.sink in
    let told = c.in-Ok-explained.told in (
      string_bytes told.1,
      record {
        input = c.in-Ok.input.bytes.items;
        whole = whole_input _ _ c.in-Ok.input.bytes.items c.in-Ok.input.longer c.in-Ok.ensures.taken c.if-input.false (c.in-Ok.ensures.end c.if-input.false);
        judged = subst (λ (input : List ℕ). JudgesInput g.K.Ord.cmp g.K.Key.matching g.K.Key.reading g.K.Key.printed input (Ok told.0)) c.deref.ensures.value c.in-Ok-explained.ensures.judged;
        tells = c.in-Ok-explained.ensures.told;
      },
      subst (λ (text : List ℕ). Appends old new text) c.as_bytes.ensures.value
          (on_ok c.write_all.result (Appends old new c.as_bytes.result.now) c.if-is_err.ensures.value c.write_all.ensures.ok),
    )
