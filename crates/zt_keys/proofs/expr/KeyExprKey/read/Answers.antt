use Rattle.std.proofs.Common.{◌≡◌, true, ap, ◌∙◌}
use Rattle.std.specs.Arc.{arc_value}
use Rattle.std.proofs.lemmas.Result.{err_from_is_err_and}
use Rattle.zt_keys.specs.Expression.{is_expression}
use Rattle.zt_keys.specs.Laws.{valid_from, reading_gives, reading_refuses}
use Rattle.zt_keys.proofs.expr.KeyExprKey.read.Goals as goal

pub returns-in_err-check : goal.returns-in_err-check
returns-in_err-check c =
    let p = err_from_is_err_and c.from_residual.result c.from_residual.ensures.1 in
    rw (p.1, p.2) (record { value = λ _. reading_refuses _ _ c.in_err-check.ensures; text = tt; refused = λ _. c.in_err-check.ensures })

pub invariant_of-result : goal.invariant_of-result
invariant_of-result c =
    let kept : arc_value c.in_ok-shared.shared ≡ c.args.text.now = c.in_ok-shared.ensures.ok ∙ c.in_ok-new.ensures in
    let valid : is_expression (arc_value c.in_ok-shared.shared) ≡ true = ap is_expression kept ∙ valid_from c.args.text.now c.utf8.text c.in_ok-check.ensures in
    (valid, tt)

pub returns-clause-value : goal.returns-clause-value
returns-clause-value c = reading_gives c.args.text.now _ (valid_from c.args.text.now c.utf8.text c.in_ok-check.ensures) (c.in_ok-shared.ensures.ok ∙ c.in_ok-new.ensures)
