use Rattle.std.proofs.Common.{◌∙◌}
use Rattle.zt_check_open_faces.proofs.Rising.{first_of_part}
use Rattle.zt_check_open_faces.proofs.found.find_in.Goals as goal

pub returns : goal.returns
returns g c = c.first_of.ensures ∙ first_of_part c.args.number c.part_of.result.now c.args.faces.now c.part_of.ensures
