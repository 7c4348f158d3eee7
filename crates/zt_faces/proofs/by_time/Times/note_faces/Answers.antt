use Rattle.zt_model.specs.Rows.{Face}
use Rattle.zt_faces.proofs.Times.{timed-all, timed-none, timed-step}
use Rattle.zt_faces.proofs.by_time.Times.note_faces.Goals as goal

pub loop-f-init : goal.loop-f-init
loop-f-init g c = timed-none _ _ c.args.faces c.into_iter-f-iterator.ensures.into_iter_gives

pub loop-f-preserved : goal.loop-f-preserved
loop-f-preserved g c =
    timed-step _ _ c.in-Some.f.now _ _ c.args.faces c.in-Some.ensures.steps c.loop-f.invariant c.time_face.ensures.kept c.in_ok-time_face.ensures.here

pub returns : goal.returns
returns g c = timed-all _ _ c.args.faces c.in-None.ensures.steps.0 c.loop-f.invariant
