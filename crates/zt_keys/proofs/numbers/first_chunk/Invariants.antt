use Rattle.zt_keys.proofs.Folds.{Begins}
use Rattle.zt_keys.proofs.numbers.first_chunk.Given as goal

abbrev pub invariant-loop-place : goal.invariant-loop-place
invariant-loop-place l = Begins l.text l.place
