use Rattle.std.proofs.Common.{map}
use Rattle.zt_model.specs.Routing.{interests_from}
use Rattle.zt_interests.proofs.Numbered.{interests_done, interests_more}
use Rattle.zt_interests.proofs.opening.send_interests.Goals as goal

pub loop-interest-preserved : goal.loop-interest-preserved
loop-interest-preserved g c =
    let all = map (λ m. (c.args.face, m)) (interests_from c.args.first c.args.interests.now) in
    interests_more c.args.face c.loop-interest.next c.in_ok-next.next c.args.interests.now c.loop-interest.interest-index c.interest-item.result c.loop-interest.sends.items c.send_interest.new.sends.items all c.loop-interest-test.true c.interest-item.is c.in_ok-next.ensures c.loop-interest.invariant c.in_ok-send_interest.ensures

pub returns : goal.returns
returns g c =
    let all = map (λ m. (c.args.face, m)) (interests_from c.args.first c.args.interests.now) in
    interests_done c.args.face c.loop-interest.next c.args.interests.now c.loop-interest.interest-index c.loop-interest.sends.items all c.loop-interest-test.false c.loop-interest.invariant
