use Rattle.zt_keys.proofs.Folds.{BeginsTwo}
use Rattle.zt_keys.proofs.numbers.first_two.Given as goal

abbrev pub invariant-loop-place : goal.invariant-loop-place
invariant-loop-place l = BeginsTwo l.text l.place l.in_second
