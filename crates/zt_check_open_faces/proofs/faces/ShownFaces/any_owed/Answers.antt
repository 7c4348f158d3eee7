use Rattle.std.proofs.Common.{◌≡◌, ◌&&◌, true, ◌∙◌}
use Rattle.std.specs.List.{list_any}
use Rattle.zt_model.specs.Seen.{is_owed}
use Rattle.zt_check_open_faces.specs.Found.{AreListed, passes_at}
use Rattle.zt_check_open_faces.proofs.Listing.{owed_listed}
use Rattle.zt_check_open_faces.proofs.Telling.{listed_found}
use Rattle.zt_check_open_faces.proofs.faces.ShownFaces.any_owed.Goals as goal

pub returns : goal.returns
returns g c =
    let matching = g.K.Key.matching in
    let e = c.args.expr.now in
    let test = g.T.FaceTest.passes c.args.test.now in
    let numbers = c.self.inside.owing in
    let fs = c.self.inside.faces.items in
    let is : c.any_at.result ≡ list_any (passes_at (λ f. is_owed matching f e && test f) fs) numbers = rw (c.deref.ensures.value, c.hints.ensures) at c.any_at.ensures in
    rw (← c.self.view_is) (is ∙ listed_found (λ f. is_owed matching f e) test numbers fs (owed_listed matching e numbers fs c.self.invariant.1))
