use Rattle.std.proofs.Common.{refl}
use Rattle.zt_fabric.proofs.carrying.Progress.new.Goals as goal

pub returns : goal.returns
returns g c = record { no_gateways = c.new.ensures; no_totals = refl; no_text = c.new-2.ensures.bytes }
