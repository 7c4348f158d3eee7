use Rattle.std.proofs.Common.{Some, None, sym, ◌∙◌}
use Rattle.zt_streams.specs.Lines.{TakesLine}
use Rattle.zt_streams.proofs.LineLemmas.{lines-taken, rest_of-given, rest-left}
use Rattle.zt_streams.proofs.pieces.take_lines.Goals as goal

pub loop-line-preserved : goal.loop-line-preserved
loop-line-preserved c =
    let line = c.in-Some.line.now in
    let taken : TakesLine c.loop-line.feeder (Some line) c.next_line.follows.lender-at-none = rw c.in-Some.is at c.next_line.follows.holds-at-none in
    let copied = c.in_ok-to_vec.ensures.items_if_clones_equal (λ _ _ same. same) in
    record {
      lines = rw c.in_ok-push.ensures.items (lines-taken _ c.loop-line.lines.items c.in_ok-to_vec.field-0 line c.loop-line.feeder _ _ copied taken c.loop-line.invariant.lines);
      rest = sym (rest_of-given c.loop-line.feeder line _ taken) ∙ c.loop-line.invariant.rest;
    }

pub returns-clause-rest : goal.returns-clause-rest
returns-clause-rest c =
    let taken : TakesLine c.loop-line.feeder None c.next_line.follows.lender-at-none = rw c.in_default.is at c.next_line.follows.holds-at-none in
    rest-left c.loop-line.feeder _ c.args.feeder.now taken c.loop-line.invariant.rest
