use Rattle.std.proofs.Common.{◌==◌, ◌&&◌, ◌∙◌, refl}
use Rattle.zt_model.specs.Lists.{same}
use Rattle.zt_check_faces.proofs.Parts.{any-of_part}
use Rattle.zt_check_open_faces.proofs.tokens.has_token.Goals as goal

pub returns : goal.returns
returns g c =
    c.has_row.ensures
    ∙ any-of_part (λ row. row.0) c.args.id (λ row. c.args.id == row.0 && same g.K.Ord.cmp c.args.expr.now row.1) c.live_of.result.now c.args.face.now.live (λ row other. rw other refl) c.live_of.ensures
