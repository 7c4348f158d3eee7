use Rattle.std.proofs.Common.{ℕ, ◌∙◌}
use Rattle.zt_model.specs.Rows.{Pending}
use Rattle.zt_faces.proofs.Times.{in-all, in-none, in-step, keeps-more, keeps-same}
use Rattle.zt_faces.proofs.by_time.Times.note_pendings.Goals as goal

pub loop-id-init : goal.loop-id-init
loop-id-init c =
    let keys = c.args.self.now.rows.keys in
    (keeps-same keys, in-none keys c.args.face _ c.args.pendings.now (c.into_iter-id-iterator.ensures.into_iter_gives ∙ c.iter-id-items.ensures.rest))

pub loop-id-preserved : goal.loop-id-preserved
loop-id-preserved c =
    let row : ℕ × Pending = (c.in-Some.id.now, c.in-Some.pending.now) in (
      keeps-more _ _ _ c.loop-id.invariant.0 c.note.ensures.kept,
      in-step _ _ c.args.face row _ _ c.args.pendings.now c.in-Some.ensures.steps c.loop-id.invariant.1 c.note.ensures.kept (rw c.since.ensures at c.in_ok-note.ensures.here),
    )

pub returns-clause-here : goal.returns-clause-here
returns-clause-here c = in-all _ c.args.face _ c.args.pendings.now c.in-None.ensures.steps.0 c.loop-id.invariant.1
