use Rattle.std.proofs.Common.{◌∙◌}
use Rattle.zt_keys.proofs.Agree.{not-matching}
use Rattle.zt_keys.proofs.Texts.{texts-matching, answer-member}
use Rattle.zt_keys.proofs.expr.KeyExprKey.matches.Goals as goal

pub returns-then-may_match-clause-value : goal.returns-then-may_match-clause-value
returns-then-may_match-clause-value c =
    c.texts_match.ensures
    ∙ texts-matching c.args.self.now c.args.other.now _ _ (c.as_bytes.ensures.value ∙ c.text.ensures) (c.as_bytes-then-may_match.ensures.value ∙ c.text-then-may_match.ensures)

pub returns-then-may_match-clause-member : goal.returns-then-may_match-clause-member
returns-then-may_match-clause-member c =
    answer-member c.args.self.now c.args.other.now _
    (c.texts_match.ensures
    ∙ texts-matching c.args.self.now c.args.other.now _ _ (c.as_bytes.ensures.value ∙ c.text.ensures) (c.as_bytes-then-may_match.ensures.value ∙ c.text-then-may_match.ensures))

pub returns-else-may_match-clause-member : goal.returns-else-may_match-clause-member
returns-else-may_match-clause-member c = answer-member c.args.self.now c.args.other.now _ (not-matching _ _ c.may_match.ensures c.if-may_match.false)
