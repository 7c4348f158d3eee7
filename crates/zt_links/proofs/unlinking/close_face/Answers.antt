use Rattle.std.proofs.Common.{◌≡◌, None, Some, ap, refl, sym, ◌∙◌}
use Rattle.zt_protocol.specs.Plain.{CloseFace}
use Rattle.zt_model.specs.Fabric.{with_rows}
use Rattle.zt_model.specs.Lists.{nth}
use Rattle.zt_laws.specs.Sound.{rows_after_call}
use Rattle.zt_fabric_state.proofs.Carried.{on_ok}
use Rattle.zt_links.proofs.Closings.{closed_nowhere, face_closed}
use Rattle.zt_links.proofs.unlinking.close_face.Goals as goal

pub returns-in_default-clause-does : goal.returns-in_default-clause-does
returns-in_default-clause-does g c =
    let none : nth c.args.face c.args.s.now.faces ≡ None = sym c.in_default.ensures in
    closed_nowhere g.K.Ord.cmp g.K.Key.matching g.met.K.Ord.total c.args.face c.args.s.now none

pub returns-clause-does : goal.returns-clause-does
returns-clause-does g c =
    let cmp = g.K.Ord.cmp in
    let matching = g.K.Key.matching in
    let s = c.args.s.now in
    let p = c.in-Some.place.now in
    let there : nth c.args.face s.faces ≡ Some p = sym c.in-Some.ensures in
    on_ok c.hear_call.result _ _
    (λ does.
    does
    ∙ ap (λ n. with_rows n (rows_after_call cmp matching (CloseFace c.face.result)) s) c.gateway-gateway.ensures
    ∙ ap (λ n. with_rows p.gateway (rows_after_call cmp matching (CloseFace n)) s) c.face.ensures
    ∙ face_closed cmp matching g.met.K.Ord.total c.args.face p s there c.requires)
    c.hear_call.ensures.does

pub returns-in_default-clause-others : goal.returns-in_default-clause-others
returns-in_default-clause-others g c = λ n apart. refl
