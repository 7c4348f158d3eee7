use Rattle.std.proofs.Common.{arith, ◌∙◌}
use Rattle.std.proofs.lemmas.Grind.{common_steps}
use Rattle.zt_streams.proofs.StreamLemmas.{Appends-next}
use Rattle.zt_streams.proofs.outside.write_all.Goals as goal

pub loop-done-preserved : goal.loop-done-preserved
loop-done-preserved g c = record {
  within = grind (arith, common_steps);
  added = Appends-next _ _ _ _ _ c.args.bytes.now c.loop-done.invariant.added c.in_ok-done.ensures.added;
  calm = c.in_ok-done.ensures.calm ∙ c.loop-done.invariant.calm;
}
