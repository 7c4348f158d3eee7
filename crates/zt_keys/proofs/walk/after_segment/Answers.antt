use Rattle.std.proofs.Common.{sym, ◌∙◌, arith}
use Rattle.zt_keys.proofs.Pieces.{segment-marked, segment-next}
use Rattle.zt_keys.proofs.walk.after_segment.Goals as goal

pub returns-then-is_marked-clause-rest : goal.returns-then-is_marked-clause-rest
returns-then-is_marked-clause-rest c =
    segment-marked _ _ _ c.next_chunk.ensures.chunk (sym c.is_marked.ensures ∙ c.if-is_marked.true) ∙ c.loop-chunk.invariant.segment

pub loop-chunk-preserved : goal.loop-chunk-preserved
loop-chunk-preserved c =
    record {
      segment = segment-next _ _ _ c.next_chunk.ensures.chunk (sym c.is_marked.ensures ∙ c.if-is_marked.false) ∙ c.loop-chunk.invariant.segment;
      shorter = omega arith;
    }
