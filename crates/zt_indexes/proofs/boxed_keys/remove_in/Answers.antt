use Rattle.std.proofs.Common.{false}
use Rattle.zt_indexes.proofs.Hashed.{keys-changed}
use Rattle.zt_indexes.proofs.boxed_keys.remove_in.Goals as goal

pub returns : goal.returns
returns g c = keys-changed g.K.Ord.cmp g.met.K.Ord.matches_eq false c.args.key.now c.args.keys.now.keys c.remove.new.self.keys c.remove.ensures.updates.0
