use Rattle.std.proofs.Common.{subst, sym}
use Rattle.zt_model.specs.Rows.{Face}
use Rattle.zt_faces.specs.Asked.{AreKnown, Askings, asked_in}
use Rattle.zt_faces.proofs.Known.{Noted, asks-more, noted-all, noted-more, noted-none}
use Rattle.zt_faces.proofs.asked.Askers.note_faces.Goals as goal

pub loop-f-init : goal.loop-f-init
loop-f-init g c =
    let Q = λ (askers : Askings) (f : Face g.row.K.Denot). AreKnown askers f.number f.asks in
    let askers = asked_in c.args.self.now.rows in
    subst (λ left. Noted Q askers askers left c.args.faces) (sym c.into_iter-f-iterator.ensures.into_iter_gives) (noted-none Q askers c.args.faces)

pub loop-f-preserved : goal.loop-f-preserved
loop-f-preserved g c =
    noted-more (λ askers (f : Face g.row.K.Denot). AreKnown askers f.number f.asks) (λ old new f more known. asks-more f.number old new more f.asks known)
    _ _ _ c.in-Some.f.now _ _ _ c.in-Some.ensures.steps c.loop-f.invariant c.note_face.ensures.kept c.in_ok-note_face.ensures.here

pub returns : goal.returns
returns g c =
    noted-all (λ askers (f : Face g.row.K.Denot). AreKnown askers f.number f.asks) _ _ _ _ c.in-None.ensures.steps.0 c.loop-f.invariant
