use Rattle.std.proofs.Common.{◌≡◌, Ok, map}
use Rattle.zt_dealing.proofs.working.collected.Given as goal

-- the results so far were good
abbrev pub invariant-loop-result : goal.invariant-loop-result
invariant-loop-result g l = l.yielded ≡ map (λ done. Ok done) l.all.items
