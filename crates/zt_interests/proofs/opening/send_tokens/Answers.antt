use Rattle.std.proofs.Common.{map}
use Rattle.zt_model.specs.Routing.{tokens_from}
use Rattle.zt_interests.proofs.Numbered.{tokens_done, tokens_more}
use Rattle.zt_interests.proofs.opening.send_tokens.Goals as goal

pub loop-expr-preserved : goal.loop-expr-preserved
loop-expr-preserved g c =
    let all = map (λ m. (c.args.face, m)) (tokens_from c.args.first c.args.exprs.now) in
    tokens_more c.args.face c.loop-expr.next c.in_ok-next.next c.args.exprs.now c.loop-expr.expr-index c.expr-item.result c.loop-expr.sends.items c.send_token.new.sends.items all c.loop-expr-test.true c.expr-item.is c.in_ok-next.ensures c.loop-expr.invariant c.in_ok-send_token.ensures

pub returns : goal.returns
returns g c =
    let all = map (λ m. (c.args.face, m)) (tokens_from c.args.first c.args.exprs.now) in
    tokens_done c.args.face c.loop-expr.next c.args.exprs.now c.loop-expr.expr-index c.loop-expr.sends.items all c.loop-expr-test.false c.loop-expr.invariant
