use Rattle.std.proofs.Common.{◌∙◌}
use Rattle.zt_check_open_faces.proofs.Telling.{passes_part}
use Rattle.zt_check_open_faces.proofs.trying.passes_at.Goals as goal

pub returns : goal.returns
returns g c =
    c.any_of_number.ensures
    ∙ passes_part (g.T.FaceTest.passes c.args.test.now) c.args.number c.part_of.result.now c.args.faces.now c.part_of.ensures
