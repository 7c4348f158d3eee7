use Rattle.std.proofs.Common.{arith, ◌∙◌}
use Rattle.std.proofs.lemmas.List.{take_all}
use Rattle.zt_gateway.specs.Running.{by_face}
use Rattle.zt_liveliness.proofs.Walks.{take_more}
use Rattle.zt_liveliness.proofs.carrying.copies_of.Goals as goal

pub loop-place-preserved : goal.loop-place-preserved
loop-place-preserved g c =
    grind (arith, take_more (by_face c.args.prepared.now.said) c.loop-place.place (c.in-Some.face, c.in-Some.message.now) c.in-Some.ensures, c.loop-place.invariant, c.in_ok-push-in-Some.ensures.items, c.in_ok-copy-in-Some.ensures)

pub returns : goal.returns
returns g c = c.loop-place.invariant ∙ take_all c.loop-place.place (by_face c.args.prepared.now.said) (omega (arith, c.loop-place-test.false, c.loop-place.auto.place-end, c.sends-place-end.ensures))
