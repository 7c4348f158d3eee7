use Rattle.std.proofs.Common.{◌≡◌, ◌&&◌, ◌∙◌}
use Rattle.std.specs.List.{list_any}
use Rattle.zt_check_hints.specs.Hinted.{hints_at}
use Rattle.zt_check_open_faces.specs.Found.{passes_at, was_told}
use Rattle.zt_check_open_faces.proofs.Telling.{listed_found}
use Rattle.zt_check_open_faces.proofs.faces.ShownFaces.any_told.Goals as goal

pub returns : goal.returns
returns g c =
    let cmp = g.K.Ord.cmp in
    let e = c.args.expr.now in
    let test = g.T.FaceTest.passes c.args.test.now in
    let hints = c.self.inside.told in
    let fs = c.self.inside.faces.items in
    let is : c.any_at.result ≡ list_any (passes_at (λ f. was_told cmp e f && test f) fs) (hints_at cmp e hints) = rw (c.deref.ensures.value, c.at.ensures) at c.any_at.ensures in
    rw (← c.self.view_is) (is ∙ listed_found (was_told cmp e) test (hints_at cmp e hints) fs (c.self.invariant.0.told.at e))
