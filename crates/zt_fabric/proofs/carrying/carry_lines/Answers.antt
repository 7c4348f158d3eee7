use Rattle.std.proofs.Common.{◌∷◌, Some, None, length, length-append, string_bytes, refl, sym, ap, ◌∙◌, arith}
use Rattle.zt_streams.specs.Lines.{TakesLine, whole_lines}
use Rattle.zt_streams.proofs.LineLemmas.{whole_lines-given, rest_of-given, rest-left}
use Rattle.zt_fabric.proofs.CarryLemmas.{partly-none, partly-next, partly-all, partly-stops}
use Rattle.zt_fabric.proofs.carrying.carry_lines.Goals as goal

pub loop-line-init : goal.loop-line-init
loop-line-init g c = record {
  partly = partly-none g.K.Ord.cmp g.K.Key.matching g.K.Key.reading g.K.Key.printed (whole_lines c.args.feeder.now) c.args.run.now.fabric c.args.run.now.report (string_bytes c.args.run.now.text);
  rest = refl;
  lines = omega arith;
  range = c.requires.range;
}

pub loop-line-preserved : goal.loop-line-preserved
loop-line-preserved g c =
    let line = c.in-Some.line.now in
    let new = c.next_line.follows.lender-at-none in
    let taken : TakesLine c.loop-line.feeder (Some line) new = rw c.in-Some.is at c.next_line.follows.holds-at-none in
    record {
      partly = partly-next g.K.Ord.cmp g.K.Key.matching g.K.Key.reading g.K.Key.printed (whole_lines c.args.feeder.now) (whole_lines c.loop-line.feeder) line (whole_lines new)
          c.args.run.now.fabric c.loop-line.run.fabric c.carry_line.new.run.fabric c.args.run.now.report c.loop-line.run.report c.carry_line.new.run.report
          (string_bytes c.args.run.now.text) (string_bytes c.loop-line.run.text) (string_bytes c.carry_line.new.run.text)
          c.loop-line.invariant.partly (whole_lines-given c.loop-line.feeder line new taken) c.in_default-carry_line.ensures.ok;
      rest = sym (rest_of-given c.loop-line.feeder line new taken) ∙ c.loop-line.invariant.rest;
      lines = omega (arith, c.loop-line.invariant.lines, c.in_default-carry_line.ensures.lines, ap length taken.1, length-append line (10 ∷ new));
      range = c.in_default-carry_line.ensures.range;
    }

pub returns-in-Err-clause-err : goal.returns-in-Err-clause-err
returns-in-Err-clause-err g c =
    let line = c.in-Some.line.now in
    let new = c.next_line.follows.lender-at-none in
    let taken : TakesLine c.loop-line.feeder (Some line) new = rw c.in-Some.is at c.next_line.follows.holds-at-none in
    partly-stops g.K.Ord.cmp g.K.Key.matching g.K.Key.reading g.K.Key.printed (whole_lines c.args.feeder.now) (whole_lines c.loop-line.feeder) line (whole_lines new)
    c.args.run.now.fabric c.loop-line.run.fabric c.args.run.now.report c.loop-line.run.report
    (string_bytes c.args.run.now.text) (string_bytes c.loop-line.run.text) (string_bytes c.carry_line.new.run.text) c.in-Err.error
    c.loop-line.invariant.partly (whole_lines-given c.loop-line.feeder line new taken) c.in-Err.ensures.err c.in-Err.ensures.kept

pub returns-clause-ok : goal.returns-clause-ok
returns-clause-ok g c =
    let taken : TakesLine c.loop-line.feeder None c.next_line.follows.lender-at-none = rw c.in_default.is at c.next_line.follows.holds-at-none in
    partly-all g.K.Ord.cmp g.K.Key.matching g.K.Key.reading g.K.Key.printed (whole_lines c.args.feeder.now) (whole_lines c.loop-line.feeder)
    c.args.run.now.fabric c.loop-line.run.fabric c.args.run.now.report c.loop-line.run.report (string_bytes c.args.run.now.text) (string_bytes c.loop-line.run.text)
    c.loop-line.invariant.partly taken.0

pub returns-clause-rest : goal.returns-clause-rest
returns-clause-rest g c =
    let taken : TakesLine c.loop-line.feeder None c.next_line.follows.lender-at-none = rw c.in_default.is at c.next_line.follows.holds-at-none in
    rest-left c.loop-line.feeder _ c.args.feeder.now taken c.loop-line.invariant.rest
