use Rattle.std.proofs.Common.{string_bytes}
use Rattle.zt_fabric.specs.Making.{coming_lines}
use Rattle.zt_fabric.proofs.MakeLemmas.{text-next}
use Rattle.zt_fabric.proofs.making.put_all_coming.Goals as goal

pub loop-before-preserved : goal.loop-before-preserved
loop-before-preserved c =
    text-next coming_lines c.loop-before.before (string_bytes c.args.out.now) (string_bytes c.loop-before.out) (string_bytes c.put_coming.new.out) c.loop-before.invariant c.in_ok-put_coming.ensures
