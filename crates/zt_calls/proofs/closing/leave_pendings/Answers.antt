use Rattle.std.proofs.Common.{◌∙◌}
use Rattle.zt_calls.specs.Leaving.{leaving_pending}
use Rattle.zt_calls.proofs.Doing.{leads_over-all, leads_over-done, leads_over-more}
use Rattle.zt_calls.proofs.closing.leave_pendings.Goals as goal

pub loop-id-init : goal.loop-id-init
loop-id-init g c =
    leads_over-all g.K.Ord.cmp g.K.Key.matching (leaving_pending c.args.face) c.args.pendings.now c.into_iter-id-iterator.result c.args.g.now c.args.speech.now
    (c.into_iter-id-iterator.ensures.into_iter_gives ∙ c.iter-id-items.ensures.rest)

pub loop-id-preserved : goal.loop-id-preserved
loop-id-preserved g c =
    leads_over-more g.K.Ord.cmp g.K.Key.matching (leaving_pending c.args.face) c.args.pendings.now c.loop-id.id-iterator c.next.new.self (c.in-Some.id.now, c.in-Some.field-0-1.now) c.args.g.now c.loop-id.g c.end_pending.new.g c.args.speech.now c.loop-id.speech c.end_pending.new.speech
    c.in-Some.ensures.steps c.loop-id.invariant c.in_ok-end_pending.ensures

pub returns : goal.returns
returns g c =
    leads_over-done g.K.Ord.cmp g.K.Key.matching (leaving_pending c.args.face) c.args.pendings.now c.loop-id.id-iterator c.args.g.now c.loop-id.g c.args.speech.now c.loop-id.speech c.in-None.ensures.steps.0 c.loop-id.invariant
