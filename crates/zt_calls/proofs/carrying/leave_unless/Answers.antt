use Rattle.std.proofs.Common.{Bool, OnOk, subst, sym}
use Rattle.zt_calls.specs.Does.{Does}
use Rattle.zt_calls.proofs.Doing.{does-nothing}
use Rattle.zt_calls.specs.Speaking.{leaving_unless}
use Rattle.zt_calls.proofs.carrying.leave_unless.Goals as goal

pub returns-then-is_routed : goal.returns-then-is_routed
returns-then-is_routed g c =
    let f = c.args.f.now in
    subst (λ (b : Bool). Does g.K.Ord.cmp g.K.Key.matching (leaving_unless g.K.Ord.cmp g.K.Key.matching b f.number f) c.args.g.now c.args.g.now c.args.speech.now c.args.speech.now) (sym c.if-is_routed.true)
    (does-nothing g.K.Ord.cmp g.K.Key.matching c.args.g.now c.args.speech.now)

pub returns-else-is_routed : goal.returns-else-is_routed
returns-else-is_routed g c =
    let f = c.args.f.now in
    subst (λ (b : Bool). OnOk c.leave_silently.result (Does g.K.Ord.cmp g.K.Key.matching (leaving_unless g.K.Ord.cmp g.K.Key.matching b f.number f) c.args.g.now c.leave_silently.new.g c.args.speech.now c.leave_silently.new.speech)) (sym c.if-is_routed.false)
    c.leave_silently.ensures
