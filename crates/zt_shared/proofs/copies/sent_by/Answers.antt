use Rattle.std.proofs.Common.{ap, map, ◌∙◌, arith}
use Rattle.std.proofs.lemmas.List.{take_all}
use Rattle.zt_gateway.specs.Running.{by_face, sent_alone}
use Rattle.zt_shared.proofs.Entering.{take_more}
use Rattle.zt_shared.proofs.copies.sent_by.Goals as goal

pub loop-place-preserved : goal.loop-place-preserved
loop-place-preserved g c =
    grind (arith, take_more sent_alone (by_face c.args.prepared.now.said) c.loop-place.place (c.in-Some.face, c.in-Some.message.now) c.in-Some.ensures, c.loop-place.invariant, c.in_ok-push-in-Some.ensures.items, c.in_ok-copy-in-Some.ensures)

pub returns : goal.returns
returns g c = c.loop-place.invariant ∙ ap (map sent_alone) (take_all c.loop-place.place (by_face c.args.prepared.now.said) (omega (arith, c.loop-place-test.false, c.loop-place.auto.place-end, c.sends-place-end.ensures)))
