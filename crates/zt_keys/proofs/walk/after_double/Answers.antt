use Rattle.std.proofs.Common.{sym, ◌∙◌}
use Rattle.zt_keys.proofs.Pieces.{after-double, after-other}
use Rattle.zt_keys.proofs.walk.after_double.Goals as goal

pub returns-then-is_double-clause-rest : goal.returns-then-is_double-clause-rest
returns-then-is_double-clause-rest c = after-double _ _ _ c.next_chunk.ensures.chunk (sym c.is_double.ensures ∙ c.if-is_double.true)

pub returns-else-is_double-clause-rest : goal.returns-else-is_double-clause-rest
returns-else-is_double-clause-rest c = after-other _ _ _ c.next_chunk.ensures.chunk (sym c.is_double.ensures ∙ c.if-is_double.false)
