use Rattle.std.proofs.Common.{eq-eqb, arith}
use Rattle.std.proofs.lemmas.Bool.{ne_eqb}
use Rattle.zt_keys.proofs.Common.{alike-more, alike-slash}
use Rattle.zt_keys.proofs.walk.common_len.Goals as goal
use Rattle.zt_keys.proofs.walk.common_len.Goals.{then-byte-eq47, else-byte-eq47}

pub loop-place-preserved : goal.loop-place-preserved
loop-place-preserved c =
    elim c.if-byte-eq47.branch [
      | then-byte-eq47 w ↦ rw (w.end-is) (record {
        alike = alike-slash _ _ c.loop-place.end c.loop-place.place c.loop-place-test.true (omega arith) c.if-byte-second.false (eq-eqb _ _ w.if-byte-eq47.true) c.loop-place.invariant.alike;
        first = omega arith;
        second = omega arith;
      })
      | else-byte-eq47 w ↦ rw (w.end-is) (record {
        alike = alike-more _ _ c.loop-place.end c.loop-place.place c.loop-place-test.true (omega arith) c.if-byte-second.false (ne_eqb _ _ w.if-byte-eq47.false) (ne_eqb _ _ c.if-byte-eq42.false) c.loop-place.invariant.alike;
        first = c.loop-place.invariant.first;
        second = c.loop-place.invariant.second;
      })
    ]
