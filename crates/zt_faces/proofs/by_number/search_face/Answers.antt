use Rattle.std.proofs.Common.{ap, sym, ◌∙◌}
use Rattle.zt_faces.specs.Slots.{face_of}
use Rattle.zt_faces.proofs.Gaps.{found-at, none-in}
use Rattle.zt_faces.proofs.by_number.search_face.Goals as goal

pub returns-in-Some : goal.returns-in-Some
returns-in-Some g c =
    let slot = c.index-slots-place.result in
    let at = c.in-Some.ensures.found in
    c.face.ensures ∙ ap face_of c.index-slots-place.is
    ∙ sym (found-at c.args.number c.args.slots.now c.in-Some.place slot c.requires at.within (at.there slot))

pub returns-in-None : goal.returns-in-None
returns-in-None g c = sym (none-in c.args.number c.args.slots.now c.in-None.ensures.none)
