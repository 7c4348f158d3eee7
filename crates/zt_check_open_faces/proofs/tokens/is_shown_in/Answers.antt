use Rattle.std.proofs.Common.{◌≡◌, ◌==◌, ◌&&◌, false, sym, ◌∙◌}
use Rattle.zt_region.specs.declared.region.Region.{Region}
use Rattle.zt_region.specs.Admission.{admits}
use Rattle.zt_model.specs.Seen.{sees}
use Rattle.zt_check_open_faces.proofs.Declaring.{none_here, stands_at}
use Rattle.zt_check_open_faces.proofs.tokens.is_shown_in.Goals as goal

pub loop-face-preserved : goal.loop-face-preserved
loop-face-preserved g c =
    let regions = λ (source : Region). sees c.args.own source && admits c.args.refused.now source c.args.own in
    none_here (stands_at g.K.Ord.cmp regions c.args.expr.now c.args.place.now) c.args.faces.now c.loop-face.face-index c.face-item.result c.loop-face-test.true c.face-item.is (sym c.is_shown_by.ensures ∙ c.if-is_shown_by.false) c.loop-face.invariant
