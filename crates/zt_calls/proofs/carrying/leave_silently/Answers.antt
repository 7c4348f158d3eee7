use Rattle.std.proofs.Common.{ℕ, Some, subst}
use Rattle.zt_calls.proofs.Doing.{does-sparing}
use Rattle.zt_calls.specs.Does.{Does}
use Rattle.zt_model.specs.Closing.{leaving}
use Rattle.zt_calls.proofs.carrying.leave_silently.Goals as goal

pub returns : goal.returns
returns g c =
    let cmp = g.K.Ord.cmp in
    let matching = g.K.Key.matching in
    let f = c.args.f.now in
    let rows = c.args.g.now in
    let s = c.args.speech.now in
    let parts = leaving cmp matching f.number f in
    let left = subst (λ (n : ℕ). Does cmp matching parts rows c.leave.new.g (record s { spared = Some n }) c.leave.new.speech) c.number.ensures c.in_ok-leave.ensures in
    does-sparing cmp matching f.number parts rows c.leave.new.g s c.leave.new.speech c.requires left
