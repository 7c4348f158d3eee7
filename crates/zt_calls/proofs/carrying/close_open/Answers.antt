use Rattle.std.proofs.Common.{◌≡◌, ℕ, subst}
use Rattle.zt_calls.proofs.Doing.{does-alter, does-both}
use Rattle.zt_model.specs.Closing.{without_face}
use Rattle.zt_calls.proofs.carrying.close_open.Goals as goal

pub returns : goal.returns
returns g c =
    let closed = subst (λ (k : ℕ). c.close.new.self ≡ without_face k c.leave_unless.new.g) c.number.ensures c.close.ensures in
    does-both c.in_ok-leave_unless.ensures (does-alter (without_face c.args.f.now.number) closed)
