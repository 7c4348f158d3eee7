use Rattle.std.proofs.Common.{Some}
use Rattle.zt_streams.specs.Lines.{TakesRest}
use Rattle.zt_streams.proofs.LineLemmas.{line-finished}
use Rattle.zt_streams.proofs.pieces.take_rest.Goals as goal

pub returns : goal.returns
returns c =
    let rest = c.in-Some.rest.now in
    let taken : TakesRest c.args.feeder.now (Some rest) c.finish.follows.lender-at-none = rw c.in-Some.is at c.finish.follows.holds-at-none in
    let copied = c.in_ok-to_vec.ensures.items_if_clones_equal (λ _ _ same. same) in
    rw c.in_ok-push.ensures.items (line-finished _ c.args.lines.now.items c.in_ok-to_vec.field-0 rest c.args.feeder.now _ copied taken)
