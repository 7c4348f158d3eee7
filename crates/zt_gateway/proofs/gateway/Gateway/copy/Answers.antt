use Rattle.std.proofs.Common.{subst, sym}
use Rattle.zt_theorem_soundness.specs.Sound.{IsSound}
use Rattle.zt_gateway.proofs.gateway.Gateway.copy.Goals as goal

pub invariant_of-result : goal.invariant_of-result
invariant_of-result g c = subst (IsSound g.K.Ord.cmp g.K.Key.matching) (sym c.in_ok-kept.ensures) c.self.invariant
