use Rattle.std.proofs.Common.{ℕ, subst, sym, ◌∙◌}
use Rattle.zt_model.specs.Rows.{Ask}
use Rattle.zt_faces.specs.Asked.{Askings, IsKnown, asked_in}
use Rattle.zt_faces.proofs.Known.{Noted, known-more, noted-all, noted-more, noted-none}
use Rattle.zt_faces.proofs.asked.Askers.note_asks.Goals as goal

pub loop-id-init : goal.loop-id-init
loop-id-init g c =
    let Q = λ (askers : Askings) (row : ℕ × Ask g.row.K.Denot). IsKnown askers c.args.face row.0 row.1.pendings in
    let askers = asked_in c.args.self.now.rows in
    subst (λ left. Noted Q askers askers left c.args.asks.now) (sym (c.into_iter-id-iterator.ensures.into_iter_gives ∙ c.iter-id-items.ensures.rest)) (noted-none Q askers c.args.asks.now)

pub loop-id-preserved : goal.loop-id-preserved
loop-id-preserved g c =
    let row : ℕ × Ask g.row.K.Denot = (c.in-Some.id.now, c.in-Some.ask.now) in
    noted-more (λ askers row. IsKnown askers c.args.face row.0 row.1.pendings) (λ old new r more known. known-more c.args.face r.0 old new more r.1.pendings known)
    _ _ _ row _ _ _ c.in-Some.ensures.steps c.loop-id.invariant c.note_ask.ensures.kept (rw c.pendings.ensures at c.in_ok-note_ask.ensures.here)

pub returns-clause-here : goal.returns-clause-here
returns-clause-here g c =
    noted-all (λ askers row. IsKnown askers c.args.face row.0 row.1.pendings) _ _ _ _ c.in-None.ensures.steps.0 c.loop-id.invariant
