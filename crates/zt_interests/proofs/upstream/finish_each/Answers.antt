use Rattle.zt_model.specs.Routing.{finish_to}
use Rattle.zt_state.proofs.Walks.{to_each_done, to_each_more}
use Rattle.zt_interests.proofs.upstream.finish_each.Goals as goal

pub loop-f-preserved : goal.loop-f-preserved
loop-f-preserved g c =
    let rule = finish_to c.args.g.now c.args.face c.args.id in
    to_each_more rule _ _ c.in-Some.f.now c.loop-f.sends.items c.finish_to.new.sends.items _ c.in-Some.ensures.steps c.loop-f.invariant c.in_ok-finish_to.ensures

pub returns : goal.returns
returns g c =
    let rule = finish_to c.args.g.now c.args.face c.args.id in
    to_each_done rule _ c.loop-f.sends.items _ c.in-None.ensures.steps.0 c.loop-f.invariant
