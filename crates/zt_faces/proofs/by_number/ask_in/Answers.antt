use Rattle.std.proofs.Common.{ap, refl, subst, sym, ◌∙◌}
use Rattle.std.proofs.lemmas.Result.{on_ok_weaker}
use Rattle.zt_model.specs.Routing.{asked_as}
use Rattle.zt_model.specs.Rows.{Face}
use Rattle.zt_faces.specs.Rising.{IsRising}
use Rattle.zt_faces.specs.Slots.{faces_in, number_of, with_face}
use Rattle.zt_faces.proofs.Gaps.{changed-in, faces-none, with-number}
use Rattle.zt_faces.proofs.Rising.{changed-rising, none-changed, place-changed, some-of}
use Rattle.zt_faces.proofs.by_number.ask_in.Goals as goal

pub returns-in-Some-clause-faces : goal.returns-in-Some-clause-faces
returns-in-Some-clause-faces g c =
    let slots = c.args.slots.now.items in
    let change = asked_as c.args.pendings.now c.args.id c.args.interest.now in
    let at = rw c.as_slice.ensures.value at c.in-Some.ensures.found in
    let s = some-of slots c.in-Some.place at.within in
    on_ok_weaker c.ask_at.result
    (λ made. ap faces_in (made s ∙ sym (place-changed number_of c.args.number (with_face change) slots c.in-Some.place s c.requires at.within (at.there s)))
    ∙ changed-in c.args.number change slots)
    c.ask_at.ensures

pub returns-in-Some-clause-rising : goal.returns-in-Some-clause-rising
returns-in-Some-clause-rising g c =
    let slots = c.args.slots.now.items in
    let change = asked_as c.args.pendings.now c.args.id c.args.interest.now in
    let at = rw c.as_slice.ensures.value at c.in-Some.ensures.found in
    let s = some-of slots c.in-Some.place at.within in
    on_ok_weaker c.ask_at.result
    (λ made. subst (IsRising number_of) (sym (made s ∙ sym (place-changed number_of c.args.number (with_face change) slots c.in-Some.place s c.requires at.within (at.there s))))
    (changed-rising number_of c.args.number (with_face change) (with-number change (λ f. refl)) slots c.requires))
    c.ask_at.ensures

pub returns-in-None-clause-faces : goal.returns-in-None-clause-faces
returns-in-None-clause-faces g c =
    sym (none-changed (λ (x : Face g.row.K.Denot). x.number) c.args.number (asked_as c.args.pendings.now c.args.id c.args.interest.now) (faces_in c.args.slots.now.items) (faces-none c.args.number c.args.slots.now.items (rw c.as_slice.ensures.value at c.in-None.ensures.none)))
