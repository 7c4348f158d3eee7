use Rattle.std.proofs.Common.{refl}
use Rattle.zt_shared_value.specs.Rule.{first_part}
use Rattle.zt_shared_value.proofs.pass.Pass.first.Goals as goal

pub invariant_of-result : goal.invariant_of-result
invariant_of-result g c = let r = c.requires in ((first_part r.0, (r.1, (refl, (refl, (refl, refl))))), tt)
