use Rattle.std.proofs.Common.{ap, not, sym, ◌∙◌}
use Rattle.zt_tokens.proofs.Gone.{gone}
use Rattle.zt_tokens.proofs.forgetting.is_gone.Goals as goal

pub returns : goal.returns
returns g c = λ none. gone g.K.Ord.cmp c.args.g.now c.args.expr.now (ap not (sym c.is_visible.ensures) ∙ none)
