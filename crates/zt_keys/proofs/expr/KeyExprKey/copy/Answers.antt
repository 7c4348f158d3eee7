use Rattle.std.proofs.Common.{ap, ◌∙◌}
use Rattle.zt_keys.specs.Expression.{bytes_of, same_expression}
use Rattle.zt_keys.proofs.expr.KeyExprKey.copy.Goals as goal

pub returns : goal.returns
returns c = same_expression _ _ (c.in_ok-shared.ensures.cases ∙ ap bytes_of c.self.view_is)
