use Rattle.std.proofs.Common.{◌≡◌, ◌||◌, ◌&&◌, true, false, ap, sym, ◌∙◌}
use Rattle.std.specs.List.{list_any}
use Rattle.zt_protocol.specs.Interest.{is_current}
use Rattle.zt_region.specs.Region.{is_north}
use Rattle.zt_model.specs.Seen.{concerns}
use Rattle.zt_check_open_faces.proofs.Asked.{owes}
use Rattle.zt_check_open_faces.proofs.owing.is_owed.Goals as goal

pub returns-then-is_north : goal.returns-then-is_north
returns-then-is_north g c =
    let matching = g.K.Key.matching in
    let f = c.args.face.now in
    let e = c.args.expr.now in
    let north : is_north f.region ≡ true = sym (c.is_north.ensures ∙ ap is_north c.region.ensures) ∙ c.if-is_north.true in
    c.if-is_north.true ∙ (sym (ap (λ b. b || list_any (λ row. concerns matching row.1 e && is_current row.1.mode) f.held) north) ∙ owes matching f e)

pub returns-else-is_north : goal.returns-else-is_north
returns-else-is_north g c =
    let matching = g.K.Key.matching in
    let f = c.args.face.now in
    let e = c.args.expr.now in
    let south : is_north f.region ≡ false = sym (c.is_north.ensures ∙ ap is_north c.region.ensures) ∙ c.if-is_north.false in
    c.asks_any_now.ensures
    ∙ (ap (list_any (λ row. concerns matching row.1 e && is_current row.1.mode)) c.held.ensures
    ∙ (sym (ap (λ b. b || list_any (λ row. concerns matching row.1 e && is_current row.1.mode) f.held) south) ∙ owes matching f e))
