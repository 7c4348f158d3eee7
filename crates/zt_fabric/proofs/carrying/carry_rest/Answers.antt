use Rattle.std.proofs.Common.{List, ℕ, [], Some, None, string_bytes, sym, ap, subst}
use Rattle.zt_streams.specs.Lines.{TakesRest, last_line, rest_of}
use Rattle.zt_fabric.specs.Carrying.{Carries}
use Rattle.zt_fabric.proofs.CarryLemmas.{carries-none, only_line, partly-none, partly-stops}
use Rattle.zt_fabric.proofs.carrying.carry_rest.Goals as goal

pub returns-in_default-clause-ok : goal.returns-in_default-clause-ok
returns-in_default-clause-ok g c =
    let taken : TakesRest c.args.feeder.now None c.finish.follows.lender-at-none = rw c.in_default.is at c.finish.follows.holds-at-none in
    let run = c.args.run.now in
    subst (λ (ls : List (List ℕ)). Carries g.K.Ord.cmp g.K.Key.matching g.K.Key.reading g.K.Key.printed ls run.fabric run.report (string_bytes run.text) run.fabric run.report (string_bytes run.text))
    (sym (ap last_line taken.0)) (carries-none g.K.Ord.cmp g.K.Key.matching g.K.Key.reading g.K.Key.printed run.fabric run.report (string_bytes run.text))

pub returns-clause-ok : goal.returns-clause-ok
returns-clause-ok g c =
    let line = c.in-Some.line.now in
    let taken : TakesRest c.args.feeder.now (Some line) c.finish.follows.lender-at-none = rw c.in-Some.is at c.finish.follows.holds-at-none in
    let run = c.args.run.now in
    let after = c.carry_line.new.run in
    subst (λ (ls : List (List ℕ)). Carries g.K.Ord.cmp g.K.Key.matching g.K.Key.reading g.K.Key.printed ls run.fabric run.report (string_bytes run.text) after.fabric after.report (string_bytes after.text))
    (sym (only_line c.args.feeder.now line c.finish.follows.lender-at-none taken)) c.in_default-carry_line.ensures.ok

pub returns-in-Err-clause-err : goal.returns-in-Err-clause-err
returns-in-Err-clause-err g c =
    let line = c.in-Some.line.now in
    let taken : TakesRest c.args.feeder.now (Some line) c.finish.follows.lender-at-none = rw c.in-Some.is at c.finish.follows.holds-at-none in
    let run = c.args.run.now in
    let all = last_line (rest_of c.args.feeder.now) in
    partly-stops g.K.Ord.cmp g.K.Key.matching g.K.Key.reading g.K.Key.printed all all line [] run.fabric run.fabric run.report run.report
    (string_bytes run.text) (string_bytes run.text) (string_bytes c.carry_line.new.run.text) c.in-Err.error
    (partly-none g.K.Ord.cmp g.K.Key.matching g.K.Key.reading g.K.Key.printed all run.fabric run.report (string_bytes run.text))
    (only_line c.args.feeder.now line c.finish.follows.lender-at-none taken) c.in-Err.ensures.err c.in-Err.ensures.kept
