use Rattle.std.proofs.Common.{arith, ◌∙◌}
use Rattle.std.proofs.Math.ListN.{length-set}
use Rattle.zt_check_faces.proofs.Placed.{mapped_more}
use Rattle.zt_check_fabric.specs.Waiting.{row_taken}
use Rattle.zt_check_fabric.proofs.queues.take_oldest.Goals as goal

pub loop-place-preserved : goal.loop-place-preserved
loop-place-preserved g c = record {
  changed =
      mapped_more (row_taken c.args.face) c.loop-place.waiting.items c.args.waiting.now.items c.loop-place.place c.index_mut.result.now c.take_from.new.row c.loop-place.invariant.changed
      (omega (arith, c.loop-place-test.true, c.len-place-end.ensures)) c.index_mut.ensures.value c.take_from.ensures;
  same_length = length-set c.loop-place.waiting.items c.loop-place.place c.take_from.new.row ∙ c.loop-place.invariant.same_length;
}
