use Rattle.zt_model.specs.Wants.{is_about}
use Rattle.zt_entities.proofs.ByFace.{found_all, found_more}
use Rattle.zt_entities.proofs.found.matching_subscribers.Goals as goal

pub loop-other-preserved : goal.loop-other-preserved
loop-other-preserved g c =
    found_more c.args.g.now c.args.f.now (is_about g.K.Key.matching c.args.interest.now.expr) (λ x. x.subscribers) _ _ c.in-Some.other.now
    c.loop-other.found.items _ _ c.in-Some.ensures.steps c.loop-other.invariant c.in_ok-add_subscribers_of.ensures

pub returns : goal.returns
returns g c =
    found_all c.args.g.now c.args.f.now (is_about g.K.Key.matching c.args.interest.now.expr) (λ x. x.subscribers) c.args.g.now.faces _ c.loop-other.found.items c.in-None.ensures.steps.0 c.loop-other.invariant
