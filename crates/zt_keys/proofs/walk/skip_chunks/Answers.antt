use Rattle.std.proofs.Common.{sym, ◌∙◌, arith}
use Rattle.std.proofs.lemmas.Bool.{eqb-true}
use Rattle.zt_keys.proofs.Pieces.{drop-nothing, drop-next, walked-nothing}
use Rattle.zt_keys.proofs.walk.skip_chunks.Goals as goal

pub returns-then-is_empty-clause-rest : goal.returns-then-is_empty-clause-rest
returns-then-is_empty-clause-rest c =
    let nothing = walked-nothing c.loop.rest.now (eqb-true _ _ (sym c.is_empty.ensures ∙ c.if-is_empty.true)) in
    nothing ∙ drop-nothing _ c.loop.counter c.args.count (sym nothing ∙ c.loop.invariant.rest) c.loop.auto.counter-end

pub loop-preserved : goal.loop-preserved
loop-preserved c = record { rest = drop-next _ _ c.loop.counter _ _ c.loop.invariant.rest c.next_chunk.ensures.chunk; shorter = omega arith }
