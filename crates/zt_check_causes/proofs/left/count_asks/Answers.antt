use Rattle.std.proofs.Common.{ap, arith, length}
use Rattle.zt_check_causes.proofs.Counting.{sum_more}
use Rattle.zt_check_causes.proofs.left.count_asks.Goals as goal

pub loop-face-preserved : goal.loop-face-preserved
loop-face-preserved g c = record {
  counted =
      sum_more (λ f. length f.asks) c.args.faces.now c.loop-face.face-index c.face-item.result c.loop-face.count _ c.loop-face-test.true c.face-item.is (ap length c.asks.ensures) c.loop-face.invariant.counted;
  few = omega (arith, c.loop-face.invariant.few);
}
