use Rattle.std.proofs.Common.{◌≡◌, ◌++◌, ap, subst, sym, ◌∙◌}
use Rattle.zt_theorem_soundness.specs.Sound.{IsSound}
use Rattle.zt_model.specs.Rows.{Rows}
use Rattle.zt_model.specs.Says.{Sends}
use Rattle.zt_gateway.specs.Running.{Planned, Running, without_closed}
use Rattle.zt_gateway.proofs.Accepted.{sound_as_promised}
use Rattle.zt_gateway.proofs.gateway.Gateway.commit.Goals as goal

pub enqueue-requires-clause-fits : goal.enqueue-requires-clause-fits
enqueue-requires-clause-fits g c =
    let same : c.prepared.inside.before.value.waiting ≡ c.args.self.now.waiting =
    ap (λ (p : Planned g.row.K.Denot). p.before.waiting) c.prepared.view_is ∙ ap (λ (running : Running g.row.K.Denot). running.waiting) c.requires in
    rw (← same) c.prepared.invariant.fits

pub invariant_of-self : goal.invariant_of-self
invariant_of-self g c = subst (IsSound g.K.Ord.cmp g.K.Key.matching) (sym c.put.ensures) c.prepared.invariant.sound

pub returns-clause-sound : goal.returns-clause-sound
returns-clause-sound g c =
    sound_as_promised g.K.Ord.cmp g.K.Key.matching _ (subst (IsSound g.K.Ord.cmp g.K.Key.matching) (sym c.put.ensures) c.prepared.invariant.sound)

pub returns-clause-done : goal.returns-clause-done
returns-clause-done g c =
    let inside = c.prepared.inside in
    let same : inside.before.value.waiting ≡ c.args.self.now.waiting =
    ap (λ (p : Planned g.row.K.Denot). p.before.waiting) c.prepared.view_is ∙ ap (λ (running : Running g.row.K.Denot). running.waiting) c.requires in
    let waits : c.self.inside.outbox.items ≡ without_closed inside.closed c.args.self.now.waiting ++ inside.said.items =
    ap (λ (running : Running g.row.K.Denot). running.waiting) (c.self.view_is ∙ c.enqueue.ensures) in
    let behind : Sends g.row.K.Denot → Running g.row.K.Denot = λ waiting. record { rows = inside.state; waiting = waiting } in
    ap (λ (rows : Rows g.row.K.Denot). record (behind c.self.inside.outbox.items) { rows = rows }) c.put.ensures
    ∙ ap behind (waits ∙ ap (λ waiting. without_closed inside.closed waiting ++ inside.said.items) (sym same))
    ∙ ap (λ (p : Planned g.row.K.Denot). p.after) c.prepared.view_is
