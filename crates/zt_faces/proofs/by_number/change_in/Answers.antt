use Rattle.std.proofs.Common.{ap, subst, sym, ◌∙◌}
use Rattle.zt_model.specs.Rows.{Face}
use Rattle.zt_faces.specs.Rising.{IsRising}
use Rattle.zt_faces.specs.Slots.{faces_in, number_of, with_face}
use Rattle.zt_faces.proofs.Gaps.{changed-in, faces-none, with-number}
use Rattle.zt_faces.proofs.Rising.{changed-rising, none-changed, place-changed, some-of}
use Rattle.zt_faces.proofs.by_number.change_in.Goals as goal

pub returns-in-Some-clause-faces : goal.returns-in-Some-clause-faces
returns-in-Some-clause-faces g c =
    let slots = c.args.slots.now.items in
    let change = g.C.FaceChange.changed c.args.change.now in
    let at = rw c.as_slice.ensures.value at c.in-Some.ensures.found in
    let s = some-of slots c.in-Some.place at.within in
    ap faces_in (c.change_at.ensures s ∙ sym (place-changed number_of c.args.number (with_face change) slots c.in-Some.place s c.requires at.within (at.there s)))
    ∙ changed-in c.args.number change slots

pub returns-in-Some-clause-rising : goal.returns-in-Some-clause-rising
returns-in-Some-clause-rising g c =
    let slots = c.args.slots.now.items in
    let change = g.C.FaceChange.changed c.args.change.now in
    let same = g.met.C.FaceChange.keeps_number c.args.change.now in
    let at = rw c.as_slice.ensures.value at c.in-Some.ensures.found in
    let s = some-of slots c.in-Some.place at.within in
    subst (IsRising number_of) (sym (c.change_at.ensures s ∙ sym (place-changed number_of c.args.number (with_face change) slots c.in-Some.place s c.requires at.within (at.there s))))
    (changed-rising number_of c.args.number (with_face change) (with-number change same) slots c.requires)

pub returns-in_default-clause-faces : goal.returns-in_default-clause-faces
returns-in_default-clause-faces g c =
    sym (none-changed (λ (x : Face g.row.K.Denot). x.number) c.args.number (g.C.FaceChange.changed c.args.change.now) (faces_in c.args.slots.now.items) (faces-none c.args.number c.args.slots.now.items (rw c.as_slice.ensures.value at c.in_default.ensures.none)))
