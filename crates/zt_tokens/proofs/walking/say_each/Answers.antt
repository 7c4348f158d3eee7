use Rattle.zt_state.proofs.Walks.{to_each_done, to_each_more}
use Rattle.zt_tokens.proofs.walking.say_each.Goals as goal

pub loop-f-preserved : goal.loop-f-preserved
loop-f-preserved g c =
    let rule = g.R.FaceRule.given c.args.rule.now c.args.g.now in
    to_each_more rule _ _ c.in-Some.f.now c.loop-f.sends.items _ _ c.in-Some.ensures.steps c.loop-f.invariant c.in_ok-say.ensures

pub returns : goal.returns
returns g c =
    let rule = g.R.FaceRule.given c.args.rule.now c.args.g.now in
    to_each_done rule _ c.loop-f.sends.items _ c.in-None.ensures.steps.0 c.loop-f.invariant
