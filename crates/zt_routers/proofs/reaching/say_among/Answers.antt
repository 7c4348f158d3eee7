use Rattle.std.proofs.Common.{◌∙◌, ap, flat_map}
use Rattle.std.proofs.lemmas.Result.{IfOk-weaker}
use Rattle.zt_tokens.specs.Walks.{given_at, sent_to}
use Rattle.zt_routers.proofs.Passed.{said_among}
use Rattle.zt_routers.proofs.reaching.say_among.Goals as goal

pub returns : goal.returns
returns g c =
    let rule = g.R.FaceRule.given c.args.rule.now c.args.g.now in
    let faces = c.args.g.now.faces in
    IfOk-weaker c.say_at.result _ _
    (λ sends given.
    given
    ∙ ap (flat_map (given_at (sent_to rule) faces)) c.deref.ensures.value
    ∙ said_among rule faces c.args.numbers.items _ c.north-north.ensures.rising c.put_in_order.ensures.in_order c.put_in_order.ensures.kept c.requires)
    c.say_at.ensures
