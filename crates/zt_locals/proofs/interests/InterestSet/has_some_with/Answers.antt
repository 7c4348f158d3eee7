use Rattle.std.proofs.Common.{not, ap, sym, ◌∙◌}
use Rattle.zt_locals.proofs.Joined.{joined_some, joined_none}
use Rattle.zt_locals.proofs.interests.InterestSet.has_some_with.Goals as goal

pub returns-then-not-is_empty : goal.returns-then-not-is_empty
returns-then-not-is_empty c = ap not (sym (joined_some c.args.self.now c.args.more.now (sym c.is_empty.ensures ∙ c.if-not-is_empty.true)))

pub returns : goal.returns
returns c = ap not (c.is_none.ensures ∙ sym (joined_none c.args.self.now c.args.more.now (sym c.is_empty.ensures ∙ c.if-not-is_empty.false)))
