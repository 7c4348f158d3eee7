use Rattle.std.proofs.Common.{[], refl, subst, sym}
use Rattle.std.proofs.lemmas.Bool.{eqb-true}
use Rattle.std.proofs.lemmas.Result.{on_ok_weaker}
use Rattle.zt_model.specs.Routing.{asked_as}
use Rattle.zt_protocol.specs.Interest.{is_current}
use Rattle.zt_faces.specs.Asked.{AreAsked, IsKnown, asked_in}
use Rattle.zt_faces.specs.Slots.{faces_in}
use Rattle.zt_faces.proofs.Known.{asked-changed, asks-put}
use Rattle.zt_faces.proofs.by_number.ask_known.Goals as goal

pub returns-clause-asked : goal.returns-clause-asked
returns-clause-asked g c =
    let askers = asked_in c.know_current.new.askers.rows in
    let interest = c.args.interest.now in
    let pendings = c.args.pendings.now in
    let known = c.in_ok-know_current.ensures in
    on_ok_weaker c.ask_in.result
    (λ made. subst (AreAsked askers) (sym made)
    (asked-changed askers c.args.number (asked_as pendings c.args.id interest) (λ f. refl)
    (λ f t asks. asks-put askers (is_current interest.mode) f.number c.args.id (record { interest = interest; pendings = pendings; answered = [] }) f.asks
    (λ current. subst (λ n. IsKnown askers n c.args.id pendings) (eqb-true c.args.number f.number t) (known.here current)) asks)
    (faces_in c.args.slots.now.items) (rw c.as_slice.ensures.value at known.asked)))
    c.ask_in.ensures.faces
