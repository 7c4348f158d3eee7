use Rattle.std.proofs.Common.{◌∷◌, Some, None, length, length-append, refl, sym, ap, ◌∙◌, arith}
use Rattle.zt_streams.specs.Lines.{TakesLine, whole_lines}
use Rattle.zt_streams.proofs.LineLemmas.{whole_lines-given, rest_of-given, rest-left}
use Rattle.zt_plans.proofs.ReadLemmas.{partly_all, partly_next, partly_none, partly_stops}
use Rattle.zt_plans.proofs.reading.take_lines.Goals as goal

pub loop-line-init : goal.loop-line-init
loop-line-init g c = record {
  partly = partly_none g.K.Key.reading (whole_lines c.args.feeder.now) _ refl refl;
  rest = refl;
  lines = omega arith;
}

pub loop-line-preserved : goal.loop-line-preserved
loop-line-preserved g c =
    let line = c.in-Some.line.now in
    let new = c.next_line.follows.lender-at-none in
    let taken : TakesLine c.loop-line.feeder (Some line) new = rw c.in-Some.is at c.next_line.follows.holds-at-none in
    record {
      partly = partly_next g.K.Key.reading (whole_lines c.args.feeder.now) (whole_lines c.loop-line.feeder) (whole_lines new) line c.loop-line.reading c.take_line.new.reading
          c.loop-line.invariant.partly (whole_lines-given c.loop-line.feeder line new taken) c.in_default-take_line.ensures.ok;
      rest = sym (rest_of-given c.loop-line.feeder line new taken) ∙ c.loop-line.invariant.rest;
      lines = omega (arith, c.loop-line.invariant.lines, c.in_default-take_line.ensures.ok.more, ap length taken.1, length-append line (10 ∷ new));
    }

pub returns-in-Err-clause-err : goal.returns-in-Err-clause-err
returns-in-Err-clause-err g c =
    let line = c.in-Some.line.now in
    let new = c.next_line.follows.lender-at-none in
    let taken : TakesLine c.loop-line.feeder (Some line) new = rw c.in-Some.is at c.next_line.follows.holds-at-none in
    partly_stops g.K.Key.reading (whole_lines c.args.feeder.now) (whole_lines c.loop-line.feeder) (whole_lines new) line c.loop-line.reading c.in-Err.error
    c.loop-line.invariant.partly (whole_lines-given c.loop-line.feeder line new taken) c.in-Err.ensures.err

pub returns-clause-ok : goal.returns-clause-ok
returns-clause-ok g c =
    let taken : TakesLine c.loop-line.feeder None c.next_line.follows.lender-at-none = rw c.in_default.is at c.next_line.follows.holds-at-none in
    partly_all g.K.Key.reading (whole_lines c.args.feeder.now) (whole_lines c.loop-line.feeder) c.loop-line.reading c.loop-line.invariant.partly taken.0

pub returns-clause-rest : goal.returns-clause-rest
returns-clause-rest g c =
    let taken : TakesLine c.loop-line.feeder None c.next_line.follows.lender-at-none = rw c.in_default.is at c.next_line.follows.holds-at-none in
    rest-left c.loop-line.feeder _ c.args.feeder.now taken c.loop-line.invariant.rest
