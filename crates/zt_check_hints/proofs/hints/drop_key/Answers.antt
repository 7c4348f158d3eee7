use Rattle.std.proofs.Common.{None}
use Rattle.zt_check_hints.proofs.Changed.{entries-changed}
use Rattle.zt_check_hints.proofs.hints.drop_key.Goals as goal

pub returns : goal.returns
returns g c = record { at = entries-changed g.K.Ord.cmp g.met.K.Ord.matches_eq None c.args.expr.now c.args.places.now.entries c.remove.new.self.entries c.remove.ensures.updates.0 }
