use Rattle.std.proofs.Common.{sym, ◌∙◌}
use Rattle.zt_keys.proofs.Pieces.{strip-first, strip-second, strip-fail}
use Rattle.zt_keys.proofs.walk.walk.Goals as goal
use Rattle.zt_keys.proofs.walk.walk.Goals.{then-is_double-via-then-is_double, then-is_double-via-else-is_double+then-is_double-2}

pub returns-then-is_double-clause-rest : goal.returns-then-is_double-clause-rest
returns-then-is_double-clause-rest c =
    elim c.then-is_double.branch [
      | then-is_double-via-then-is_double w ↦ strip-first _ _ _ _ _ _ c.next_chunk.ensures.chunk c.next_chunk-in-loop-x.ensures.chunk (sym c.is_double.ensures ∙ w.if-is_double.true) ∙ c.loop-x.invariant.rest
      | then-is_double-via-else-is_double+then-is_double-2 w ↦ strip-second _ _ _ _ _ _ c.next_chunk.ensures.chunk c.next_chunk-in-loop-x.ensures.chunk (sym w.is_double-else-is_double.ensures ∙ w.if-is_double-2.true) ∙ c.loop-x.invariant.rest
    ]

pub returns-then-not-meets-clause-rest : goal.returns-then-not-meets-clause-rest
returns-then-not-meets-clause-rest c =
    strip-fail _ _ _ _ _ _ c.next_chunk.ensures.chunk c.next_chunk-in-loop-x.ensures.chunk (sym c.is_double.ensures ∙ c.if-is_double.false) (sym c.is_double-else-is_double.ensures ∙ c.if-is_double-2.false) (sym c.meets.ensures ∙ c.if-not-meets.true)
    ∙ c.loop-x.invariant.rest
