use Rattle.std.proofs.Common.{◌≤◌, length, arith}
use Rattle.zt_tokens.proofs.Answers.{answers_done, answers_more}
use Rattle.zt_tokens.proofs.answering.answer_all.Goals as goal

pub loop-expr-preserved : goal.loop-expr-preserved
loop-expr-preserved g c =
    let f = c.args.f.now in
    let known = c.told_for-known in
    answers_more g.K.Ord.cmp g.K.Key.matching c.args.face c.loop-expr.next c.in_ok-next.next f.told known.result c.args.mode c.args.id c.args.exprs.now c.loop-expr.expr-index c.expr-item.result c.loop-expr.sends.items _ _
    c.loop-expr-test.true c.expr-item.is (rw c.requires at known.ensures) c.loop-expr.invariant (c.in_ok-answer_one.ensures) (c.in_ok-next.ensures)

pub returns : goal.returns
returns g c =
    let f = c.args.f.now in
    let past : length c.args.exprs.now ≤ c.loop-expr.expr-index = omega arith in
    answers_done g.K.Ord.cmp g.K.Key.matching c.args.face c.loop-expr.next f.told c.args.mode c.args.id c.args.exprs.now c.loop-expr.expr-index c.loop-expr.sends.items _ past c.loop-expr.invariant
