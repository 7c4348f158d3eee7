use Rattle.std.proofs.Common.{◌∙◌}
use Rattle.zt_check_causes.proofs.Parted.{at_id_of}
use Rattle.zt_check_causes.proofs.found.pending_at.Goals as goal

pub returns : goal.returns
returns g c = c.at_id.ensures ∙ at_id_of c.args.id c.pendings_of.result.now c.args.face.now.pendings c.pendings_of.ensures
