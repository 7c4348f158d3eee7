use Rattle.std.proofs.Common.{sym, ◌∙◌, arith}
use Rattle.zt_keys.proofs.Pieces.{find-marked, find-next}
use Rattle.zt_keys.proofs.walk.find_place.Goals as goal

pub returns-then-is_marked-clause-rest : goal.returns-then-is_marked-clause-rest
returns-then-is_marked-clause-rest c =
    find-marked _ _ c.walk-found.result _ _ c.walk-found.ensures.rest (sym c.is_some.ensures ∙ c.if-is_some.false) c.next_chunk.ensures.chunk (sym c.is_marked.ensures ∙ c.if-is_marked.true)
    ∙ c.loop-found.invariant.place

pub loop-found-preserved : goal.loop-found-preserved
loop-found-preserved c =
    record {
      place =
          find-next _ _ c.walk-found.result _ _ c.walk-found.ensures.rest (sym c.is_some.ensures ∙ c.if-is_some.false) c.next_chunk.ensures.chunk (sym c.is_marked.ensures ∙ c.if-is_marked.false)
          ∙ c.loop-found.invariant.place;
      shorter = omega arith;
    }
