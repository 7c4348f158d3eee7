use Rattle.std.proofs.Common.{◌∙◌}
use Rattle.zt_keys.proofs.Texts.{text-numbered}
use Rattle.zt_keys.proofs.expr.KeyExprKey.numbers.Goals as goal

pub returns : goal.returns
returns c = c.in_ok-numbers.ensures ∙ text-numbered c.args.self.now _ (c.as_bytes.ensures.value ∙ c.text.ensures)
