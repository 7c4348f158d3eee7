use Rattle.std.proofs.Common.{flat_map, refl}
use Rattle.zt_hats.specs.Rules.{strategy}
use Rattle.zt_gateway.specs.Declarers.{face_rows}
use Rattle.zt_gateway.proofs.Walks.{rest_done, rest_more}
use Rattle.zt_gateway.proofs.listing.rows_of_faces.Goals as goal

pub loop-f-preserved : goal.loop-f-preserved
loop-f-preserved g c =
    let rule = face_rows (strategy c.args.hat) c.args.region in
    rest_more rule (flat_map rule) (λ x xs. refl) _ _ c.in-Some.f.now c.loop-f.rows.items c.add_face.new.rows.items _ c.loop-f.invariant c.in-Some.ensures.steps c.in_ok-add_face.ensures

pub returns : goal.returns
returns g c =
    let rule = face_rows (strategy c.args.hat) c.args.region in
    rest_done (flat_map rule) refl _ c.loop-f.rows.items _ c.in-None.ensures.steps.0 c.loop-f.invariant
