use Rattle.std.proofs.Common.{ap, subst, sym, ◌∙◌}
use Rattle.std.proofs.lemmas.Result.{on_ok_weaker}
use Rattle.zt_model.specs.Rows.{Face}
use Rattle.zt_faces.specs.Rising.{IsRising}
use Rattle.zt_faces.specs.Slots.{faces_in, number_of, with_face}
use Rattle.zt_faces.proofs.Gaps.{changed-in, faces-none, with-number}
use Rattle.zt_faces.proofs.Rising.{changed-rising, none-changed, place-changed, some-of}
use Rattle.zt_faces.proofs.by_number.add_in.Goals as goal

pub returns-in-Some-clause-ok : goal.returns-in-Some-clause-ok
returns-in-Some-clause-ok g c =
    let slots = c.args.slots.now.items in
    let change = g.C.FaceAddition.added c.args.addition.now in
    let at = rw c.as_slice.ensures.value at c.in-Some.ensures.found in
    let s = some-of slots c.in-Some.place at.within in
    on_ok_weaker c.add_at.result
    (λ made. ap faces_in (made s ∙ sym (place-changed number_of c.args.number (with_face change) slots c.in-Some.place s c.requires.rising at.within (at.there s)))
    ∙ changed-in c.args.number change slots)
    c.add_at.ensures.ok

pub returns-in-Some-clause-rising : goal.returns-in-Some-clause-rising
returns-in-Some-clause-rising g c =
    let slots = c.args.slots.now.items in
    let change = g.C.FaceAddition.added c.args.addition.now in
    let same = g.met.C.FaceAddition.keeps_number c.args.addition.now in
    let at = rw c.as_slice.ensures.value at c.in-Some.ensures.found in
    let s = some-of slots c.in-Some.place at.within in
    on_ok_weaker c.add_at.result
    (λ made. subst (IsRising number_of) (sym (made s ∙ sym (place-changed number_of c.args.number (with_face change) slots c.in-Some.place s c.requires.rising at.within (at.there s))))
    (changed-rising number_of c.args.number (with_face change) (with-number change same) slots c.requires.rising))
    c.add_at.ensures.ok

pub returns-in-None-clause-ok : goal.returns-in-None-clause-ok
returns-in-None-clause-ok g c =
    sym (none-changed (λ (x : Face g.row.K.Denot). x.number) c.args.number (g.C.FaceAddition.added c.args.addition.now) (faces_in c.args.slots.now.items) (faces-none c.args.number c.args.slots.now.items (rw c.as_slice.ensures.value at c.in-None.ensures.none)))
