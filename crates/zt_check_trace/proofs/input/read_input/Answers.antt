use Rattle.std.proofs.Common.{◌∙◌, arith}
use Rattle.std.proofs.lemmas.List.{length-take}
use Rattle.std.proofs.KnownBytes.{Consumes-trans}
use Rattle.zt_streams.proofs.ScriptLemmas.{takes-longer, takes-whole}
use Rattle.zt_check_trace.proofs.input.read_input.Goals as goal

pub returns-then-count-eq0-clause-taken : goal.returns-then-count-eq0-clause-taken
returns-then-count-eq0-clause-taken g c =
    takes-whole _ _ _ c.loop-count.bytes.items c.read.new.buf c.in-Ok.count 16777216 c.loop-count.invariant.read c.in-Ok.ensures.given c.if-count-eq0.true (omega (arith, c.loop-count.bytes.ok.0, c.loop-count.invariant.room))

pub returns-then-longer-clause-taken : goal.returns-then-longer-clause-taken
returns-then-longer-clause-taken g c =
    takes-longer _ _ _ _ _ _ 16777216 c.loop-count.invariant.read c.in-Ok.ensures.given c.in-Ok-take_chunk.ensures.added (c.in-Ok-take_chunk.ensures.longer.0 c.if-longer.true)

pub loop-count-preserved : goal.loop-count-preserved
loop-count-preserved g c = record {
  room = c.in-Ok-take_chunk.ensures.bound;
  read = rw (c.in-Ok-take_chunk.ensures.whole c.if-longer.false) (Consumes-trans _ _ _ _ _ c.loop-count.invariant.read c.in-Ok.ensures.given);
  calm = c.in-Ok.ensures.calm ∙ c.loop-count.invariant.calm;
  reads = omega (arith, c.loop-count.invariant.reads, c.read.ensures.once, c.in-Ok-take_chunk.ensures.grown c.if-longer.false, length-take c.in-Ok.count c.read.new.buf, c.in-Ok.ensures.fits, c.if-count-eq0.false);
}
