use Rattle.std.proofs.Common.{◌≡◌, ap, length, rules, sym, ◌∙◌}
use Rattle.std.proofs.lemmas.Bool.{ltb-true}
use Rattle.std.specs.Option.{option_copied}
use Rattle.zt_faces.proofs.Gaps.{read-at}
use Rattle.zt_faces.proofs.by_number.face_at.Goals as goal

pub returns-in-Some : goal.returns-in-Some
returns-in-Some g c =
    let at = c.in_ok-get.ensures.lookup in
    let is : c.in-Some.f.now.number ≡ c.args.number = search rules in
    read-at c.args.number c.args.slots.now c.args.place c.in_ok-get.field-0.now c.in-Some.f.now c.requires
    (ltb-true c.args.place (length c.args.slots.now) (sym at.0)) at.1 (sym c.face.ensures ∙ ap option_copied c.in-Some.is) is
