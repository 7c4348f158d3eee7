use Rattle.std.proofs.Common.{◌<◌, ◌≤◌, arith, length}
use Rattle.std.proofs.lemmas.List.{drop_all}
use Rattle.zt_check_causes.proofs.Numbered.{all_numbered, more_numbered}
use Rattle.zt_check_causes.proofs.dictionary.add_subscribers.Goals as goal

pub loop-expr-preserved : goal.loop-expr-preserved
loop-expr-preserved g c =
    let exprs = c.args.subscribers.now in
    let i = c.loop-expr.expr-index in
    let within : i < length exprs = omega arith in
    more_numbered g.K.Ord.cmp exprs i c.expr-item.result _ _ _ within c.expr-item.is c.in_ok-add_new.ensures c.loop-expr.invariant

pub returns : goal.returns
returns g c =
    let exprs = c.args.subscribers.now in
    let i = c.loop-expr.expr-index in
    let past : length exprs ≤ i = omega arith in
    all_numbered g.K.Ord.cmp _ _ _ (drop_all i exprs past) c.loop-expr.invariant
