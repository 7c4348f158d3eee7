use Rattle.std.proofs.Common.{ap, not, sym, ◌∙◌}
use Rattle.zt_token_index.specs.Seekers.{in_others, in_tokens}
use Rattle.zt_token_index.proofs.Held.{removed, unremoved}
use Rattle.zt_token_index.proofs.interests.remove_held.Goals as goal

pub returns-then-is_in_tokens-clause-tokens : goal.returns-then-is_in_tokens-clause-tokens
returns-then-is_in_tokens-clause-tokens g c =
    removed in_tokens g.K.Ord.cmp g.met.K.Ord.total c.args.face c.args.id c.args.interest.now c.args.tokens.now _ (sym c.is_in_tokens.ensures ∙ c.if-is_in_tokens.true) (rw c.expr.ensures at c.remove.ensures)

pub returns-then-is_in_tokens-clause-others : goal.returns-then-is_in_tokens-clause-others
returns-then-is_in_tokens-clause-others g c =
    unremoved in_others g.K.Ord.cmp g.met.K.Ord.total c.args.face c.args.id c.args.interest.now c.args.others.now (ap not (sym c.is_in_tokens.ensures ∙ c.if-is_in_tokens.true))

pub returns-else-is_in_tokens-clause-tokens : goal.returns-else-is_in_tokens-clause-tokens
returns-else-is_in_tokens-clause-tokens g c =
    unremoved in_tokens g.K.Ord.cmp g.met.K.Ord.total c.args.face c.args.id c.args.interest.now c.args.tokens.now (sym c.is_in_tokens.ensures ∙ c.if-is_in_tokens.false)

pub returns-else-is_in_tokens-clause-others : goal.returns-else-is_in_tokens-clause-others
returns-else-is_in_tokens-clause-others g c =
    removed in_others g.K.Ord.cmp g.met.K.Ord.total c.args.face c.args.id c.args.interest.now c.args.others.now _ (ap not (sym c.is_in_tokens.ensures ∙ c.if-is_in_tokens.false)) (rw c.expr-else-is_in_tokens.ensures at c.remove-else-is_in_tokens.ensures)
