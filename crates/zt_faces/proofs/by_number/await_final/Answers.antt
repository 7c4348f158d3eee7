use Rattle.std.proofs.lemmas.Result.{on_ok_weaker}
use Rattle.zt_faces.specs.Slots.{faces_in}
use Rattle.zt_faces.proofs.Times.{timed-more}
use Rattle.zt_faces.proofs.by_number.await_final.Goals as goal

pub returns-clause-timed : goal.returns-clause-timed
returns-clause-timed g c =
    on_ok_weaker c.note.result (λ here. timed-more _ _ c.note.ensures.kept (faces_in c.args.slots.now) c.in_ok-tidy_times.ensures) c.note.ensures.here
