use Rattle.std.proofs.Common.{eq-eqb}
use Rattle.std.proofs.lemmas.Bool.{ne_eqb}
use Rattle.zt_keys.proofs.Folds.{begins-slash, begins-more, begins-end}
use Rattle.zt_keys.proofs.numbers.first_chunk.Goals as goal

pub returns-then-byte-eq47 : goal.returns-then-byte-eq47
returns-then-byte-eq47 c = begins-slash c.args.text.now c.loop-place.place c.loop-place-test.true (eq-eqb _ _ c.if-byte-eq47.true) c.loop-place.invariant

pub loop-place-preserved : goal.loop-place-preserved
loop-place-preserved c = begins-more c.args.text.now c.loop-place.place c.loop-place-test.true (ne_eqb _ _ c.if-byte-eq47.false) c.loop-place.invariant

pub returns : goal.returns
returns c = begins-end c.args.text.now c.loop-place.place c.loop-place-test.false c.loop-place.invariant
