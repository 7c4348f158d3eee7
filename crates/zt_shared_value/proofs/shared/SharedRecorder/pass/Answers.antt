use Rattle.std.proofs.Common.{◌≡◌, ap, ◌∙◌, arith}
use Rattle.zt_shared_value.proofs.shared.SharedRecorder.pass.Goals as goal

pub returns-clause-spent : goal.returns-clause-spent
returns-clause-spent g c = let top : c.loop-known.known ≡ 4294967295 = omega arith in
    c.loop-known.invariant.0 ∙ ap (λ n. record c.args.pass.now { known = n }) top
