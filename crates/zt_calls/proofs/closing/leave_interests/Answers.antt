use Rattle.std.proofs.Common.{◌∙◌}
use Rattle.zt_calls.specs.Leaving.{leaving_interest}
use Rattle.zt_calls.proofs.Doing.{leads_over-all, leads_over-done, leads_over-more}
use Rattle.zt_calls.proofs.closing.leave_interests.Goals as goal

pub loop-id-init : goal.loop-id-init
loop-id-init g c =
    leads_over-all g.K.Ord.cmp g.K.Key.matching (leaving_interest g.K.Ord.cmp g.K.Key.matching c.args.face) c.args.held.now c.into_iter-id-iterator.result c.args.g.now c.args.speech.now
    (c.into_iter-id-iterator.ensures.into_iter_gives ∙ c.iter-id-items.ensures.rest)

pub loop-id-preserved : goal.loop-id-preserved
loop-id-preserved g c =
    leads_over-more g.K.Ord.cmp g.K.Key.matching (leaving_interest g.K.Ord.cmp g.K.Key.matching c.args.face) c.args.held.now c.loop-id.id-iterator c.next.new.self (c.in-Some.id.now, c.in-Some.interest.now) c.args.g.now c.loop-id.g c.finalise.new.g c.args.speech.now c.loop-id.speech c.finalise.new.speech
    c.in-Some.ensures.steps c.loop-id.invariant c.in_ok-finalise.ensures

pub returns : goal.returns
returns g c =
    leads_over-done g.K.Ord.cmp g.K.Key.matching (leaving_interest g.K.Ord.cmp g.K.Key.matching c.args.face) c.args.held.now c.loop-id.id-iterator c.args.g.now c.loop-id.g c.args.speech.now c.loop-id.speech c.in-None.ensures.steps.0 c.loop-id.invariant
