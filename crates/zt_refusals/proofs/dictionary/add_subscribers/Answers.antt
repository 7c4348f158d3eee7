use Rattle.std.proofs.Common.{◌<◌, ◌≤◌, arith, length}
use Rattle.std.proofs.lemmas.List.{drop_all}
use Rattle.zt_refusals.proofs.Numbering.{numbered_done, numbered_more}
use Rattle.zt_refusals.proofs.dictionary.add_subscribers.Goals as goal

pub loop-expr-preserved : goal.loop-expr-preserved
loop-expr-preserved g c =
    let exprs = c.args.subscribers.now in
    let i = c.loop-expr.expr-index in
    let within : i < length exprs = omega arith in
    numbered_more g.K.Ord.cmp exprs i c.expr-item.result _ _ _ within c.expr-item.is c.in_ok-add_unnumbered.ensures c.loop-expr.invariant

pub returns : goal.returns
returns g c =
    let exprs = c.args.subscribers.now in
    let i = c.loop-expr.expr-index in
    let past : length exprs ≤ i = omega arith in
    numbered_done g.K.Ord.cmp _ _ _ (drop_all i exprs past) c.loop-expr.invariant
