use Rattle.std.proofs.Common.{◌∙◌}
use Rattle.zt_check_causes.proofs.Parted.{has_id_of}
use Rattle.zt_check_causes.proofs.found.has_held.Goals as goal

pub returns : goal.returns
returns g c = c.has_id.ensures ∙ has_id_of c.args.id c.held_of.result.now c.args.face.now.held c.held_of.ensures
