use Rattle.std.proofs.Common.{sym, ◌∙◌}
use Rattle.zt_faces.specs.Slots.{faces_in}
use Rattle.zt_faces.proofs.Times.{popped, timed-dropped}
use Rattle.zt_faces.proofs.by_time.drop_ended.Goals as goal

pub loop-first-preserved : goal.loop-first-preserved
loop-first-preserved g c =
    timed-dropped c.in-Some.first.now c.loop-first.rows.keys c.pop_first.new.self.keys (faces_in c.args.slots.now)
    (popped c.pop_first.result c.in-Some.first.now c.loop-first.rows.keys c.pop_first.new.self.keys c.in-Some.ensures.first c.pop_first.ensures.variant c.pop_first.ensures.removal)
    (sym c.still_waits.ensures.waits ∙ c.if-still_waits.false)
    c.loop-first.invariant
