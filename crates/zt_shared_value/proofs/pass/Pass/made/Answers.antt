use Rattle.std.proofs.Common.{refl}
use Rattle.zt_shared_value.specs.Plays.{part_made}
use Rattle.zt_shared_value.proofs.pass.Pass.made.Goals as goal

pub invariant_of-result : goal.invariant_of-result
invariant_of-result g c = let r = c.requires.alone in ((part_made c.args.number r.0, (r.1, (refl, (r.2, (refl, refl))))), tt)
