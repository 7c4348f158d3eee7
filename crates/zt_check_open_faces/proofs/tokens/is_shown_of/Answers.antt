use Rattle.std.proofs.Common.{◌&&◌, ◌∙◌}
use Rattle.zt_region.specs.Admission.{admits}
use Rattle.zt_model.specs.Seen.{sees}
use Rattle.zt_check_open_faces.proofs.Declaring.{at_part}
use Rattle.zt_check_open_faces.proofs.tokens.is_shown_of.Goals as goal

pub returns : goal.returns
returns g c =
    c.is_shown_in.ensures
    ∙ at_part g.K.Ord.cmp (λ source. sees c.args.own source && admits c.args.refused.now source c.args.own) c.args.expr.now c.args.place.now c.part_of.result.now c.args.faces.now c.part_of.ensures
