use Rattle.std.proofs.Common.{arith, ◌∙◌}
use Rattle.std.proofs.Math.ListN.{length-set}
use Rattle.zt_check_faces.proofs.Placed.{mapped_more}
use Rattle.zt_check_faces.proofs.changes.change_each.Goals as goal

pub loop-place-preserved : goal.loop-place-preserved
loop-place-preserved g c = record {
  changed =
      mapped_more (g.C.Change.changed c.args.change.now) c.loop-place.members.items c.args.members.now.items c.loop-place.place c.index_mut.result.now c.change.new.member c.loop-place.invariant.changed
      (omega (arith, c.loop-place-test.true, c.len-place-end.ensures)) c.index_mut.ensures.value c.in_ok-change.ensures;
  same_length = length-set c.loop-place.members.items c.loop-place.place c.change.new.member ∙ c.loop-place.invariant.same_length;
}
