use Rattle.std.proofs.Common.{◌∙◌, arith}
use Rattle.std.proofs.lemmas.List.{length-take}
use Rattle.std.proofs.KnownBytes.{Consumes-trans}
use Rattle.zt_streams.proofs.ScriptLemmas.{front-longer, longer-read, front-whole, takes-longer, takes-whole}
use Rattle.zt_streams.proofs.reading.read_script.Goals as goal

pub returns-then-count-eq0-clause-text : goal.returns-then-count-eq0-clause-text
returns-then-count-eq0-clause-text g c =
    let bytes = c.loop-count.bytes in
    front-whole _ _ _ bytes.items c.read.new.buf c.in-Ok.count 1048576 c.loop-count.invariant.read c.in-Ok.ensures.given c.if-count-eq0.true
    (c.in-Ok.ensures.end c.if-count-eq0.true) (omega (arith, bytes.ok.0, c.loop-count.invariant.room))

pub returns-then-count-eq0-clause-taken : goal.returns-then-count-eq0-clause-taken
returns-then-count-eq0-clause-taken g c =
    takes-whole _ _ _ c.loop-count.bytes.items c.read.new.buf c.in-Ok.count 1048576 c.loop-count.invariant.read c.in-Ok.ensures.given c.if-count-eq0.true (omega (arith, c.loop-count.bytes.ok.0, c.loop-count.invariant.room))

pub returns-then-longer-clause-taken : goal.returns-then-longer-clause-taken
returns-then-longer-clause-taken g c =
    takes-longer _ _ _ _ _ _ 1048576 c.loop-count.invariant.read c.in-Ok.ensures.given c.in-Ok-take_piece.ensures.added (c.in-Ok-take_piece.ensures.longer.0 c.if-longer.true)

pub returns-in_default-take_piece-clause-spent : goal.returns-in_default-take_piece-clause-spent
returns-in_default-take_piece-clause-spent g c = (_, Consumes-trans _ _ _ _ _ c.loop-count.invariant.read c.in-Ok.ensures.given)

pub returns-then-longer-clause-text : goal.returns-then-longer-clause-text
returns-then-longer-clause-text g c =
    rw c.in-Ok-take_piece.ensures.added
    (front-longer _ _ _ 1048576 (Consumes-trans _ _ _ _ _ c.loop-count.invariant.read c.in-Ok.ensures.given) (c.in-Ok-take_piece.ensures.longer.0 c.if-longer.true))

pub returns-then-longer-clause-longer : goal.returns-then-longer-clause-longer
returns-then-longer-clause-longer g c =
    longer-read _ _ _ 1048576 (Consumes-trans _ _ _ _ _ c.loop-count.invariant.read c.in-Ok.ensures.given) (c.in-Ok-take_piece.ensures.longer.0 c.if-longer.true)

pub returns-then-longer-clause-spent : goal.returns-then-longer-clause-spent
returns-then-longer-clause-spent g c = (_, Consumes-trans _ _ _ _ _ c.loop-count.invariant.read c.in-Ok.ensures.given)

pub loop-count-preserved : goal.loop-count-preserved
loop-count-preserved g c = record {
  room = c.in-Ok-take_piece.ensures.bound;
  read = rw (c.in-Ok-take_piece.ensures.whole c.if-longer.false) (Consumes-trans _ _ _ _ _ c.loop-count.invariant.read c.in-Ok.ensures.given);
  calm = c.in-Ok.ensures.calm ∙ c.loop-count.invariant.calm;
  reads = omega (arith, c.loop-count.invariant.reads, c.read.ensures.once, c.in-Ok-take_piece.ensures.grown c.if-longer.false, length-take c.in-Ok.count c.read.new.buf, c.in-Ok.ensures.fits, c.if-count-eq0.false);
}
