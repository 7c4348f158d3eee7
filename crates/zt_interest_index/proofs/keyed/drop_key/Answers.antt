use Rattle.std.proofs.Common.{None}
use Rattle.zt_indexes.proofs.Hashed.{entries-changed}
use Rattle.zt_interest_index.proofs.keyed.drop_key.Goals as goal

pub returns : goal.returns
returns g c = record { at = entries-changed g.K.Ord.cmp g.met.K.Ord.matches_eq None c.args.key.now c.args.keyed.now.entries c.remove.new.self.entries c.remove.ensures.updates.0 }
