use Rattle.std.proofs.Common.{◌≡◌, ◌&&◌, ◌∙◌}
use Rattle.std.specs.List.{list_any}
use Rattle.zt_region.specs.declared.region.Region.{Region}
use Rattle.zt_region.specs.Admission.{admits}
use Rattle.zt_model.specs.Seen.{sees}
use Rattle.zt_check_hints.specs.Hinted.{hints_at}
use Rattle.zt_check_open_faces.specs.Places.{is_declared_at}
use Rattle.zt_check_open_faces.proofs.Declaring.{declared_by_hints}
use Rattle.zt_check_open_faces.proofs.faces.ShownFaces.is_declared.Goals as goal

pub returns : goal.returns
returns g c =
    let cmp = g.K.Ord.cmp in
    let e = c.args.expr.now in
    let regions = λ (source : Region). sees c.args.own source && admits c.args.refused.now source c.args.own in
    let hints = c.self.inside.declared in
    let fs = c.self.inside.faces.items in
    let is : c.is_shown_at.result ≡ list_any (is_declared_at cmp regions e fs) (hints_at cmp e hints) = rw (c.deref.ensures.value, c.at.ensures) at c.is_shown_at.ensures in
    rw (← c.self.view_is) (is ∙ declared_by_hints cmp regions e hints fs c.self.invariant.0.declared)
