use Rattle.std.proofs.Common.{◌∙◌}
use Rattle.zt_check_causes.proofs.Parted.{has_id_of}
use Rattle.zt_check_causes.proofs.found.has_ask.Goals as goal

pub returns : goal.returns
returns g c = c.has_id.ensures ∙ has_id_of c.args.id c.asks_of.result.now c.args.face.now.asks c.asks_of.ensures
