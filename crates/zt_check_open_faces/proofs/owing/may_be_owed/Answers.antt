use Rattle.std.proofs.Common.{◌≡◌, ◌||◌, true, false, ap, sym, ◌∙◌}
use Rattle.std.specs.List.{list_any}
use Rattle.zt_protocol.specs.Interest.{is_current}
use Rattle.zt_region.specs.Region.{is_north}
use Rattle.zt_check_open_faces.proofs.owing.may_be_owed.Goals as goal

pub returns-else-is_north : goal.returns-else-is_north
returns-else-is_north g c =
    let f = c.args.face.now in
    let south : is_north f.region ≡ false = sym (c.is_north.ensures ∙ ap is_north c.region.ensures) ∙ c.if-is_north.false in
    c.holds_current.ensures
    ∙ (ap (list_any (λ row. is_current row.1.mode)) c.held.ensures
    ∙ sym (ap (λ b. b || list_any (λ row. is_current row.1.mode) f.held) south))
