use Rattle.std.proofs.Common.{sym, ◌∙◌, arith}
use Rattle.zt_keys.proofs.Pieces.{width-marked, width-next}
use Rattle.zt_keys.proofs.walk.segment_len.Goals as goal

pub returns-then-is_marked : goal.returns-then-is_marked
returns-then-is_marked c =
    let h = width-marked _ _ _ c.next_chunk.ensures.chunk (sym c.is_marked.ensures ∙ c.if-is_marked.true) in
    let g = c.loop-rest.invariant.counted in
    omega (arith, h, g)

pub loop-rest-preserved : goal.loop-rest-preserved
loop-rest-preserved c =
    let h = width-next _ _ _ c.next_chunk.ensures.chunk (sym c.is_marked.ensures ∙ c.if-is_marked.false) in
    let g = c.loop-rest.invariant.counted in
    record { counted = omega (arith, h, g); bound = omega arith }
