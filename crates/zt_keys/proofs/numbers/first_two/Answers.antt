use Rattle.std.proofs.Common.{eq-eqb}
use Rattle.std.proofs.lemmas.Bool.{ne_eqb}
use Rattle.zt_keys.proofs.Folds.{two-done, two-end, two-more, two-next}
use Rattle.zt_keys.proofs.numbers.first_two.Goals.{then-byte-eq47+else-in_second, else-byte-eq47}
use Rattle.zt_keys.proofs.numbers.first_two.Goals as goal

pub returns-then-in_second : goal.returns-then-in_second
returns-then-in_second c = two-done c.args.text.now c.loop-place.place c.loop-place.in_second c.loop-place-test.true (eq-eqb _ _ c.if-byte-eq47.true) c.if-in_second.true c.loop-place.invariant

pub loop-place-preserved : goal.loop-place-preserved
loop-place-preserved c =
    let text = c.args.text.now in
    let loop = c.loop-place in
    elim c.if-byte-eq47.branch [
      | then-byte-eq47+else-in_second w ↦ rw w.in_second-is (two-next text loop.place loop.in_second c.loop-place-test.true (eq-eqb _ _ w.if-byte-eq47.true) w.if-in_second.false loop.invariant)
      | else-byte-eq47 w ↦ rw w.in_second-is (two-more text loop.place loop.in_second c.loop-place-test.true (ne_eqb _ _ w.if-byte-eq47.false) loop.invariant)
    ]

pub returns : goal.returns
returns c = two-end c.args.text.now c.loop-place.place c.loop-place.in_second c.loop-place-test.false c.loop-place.invariant
