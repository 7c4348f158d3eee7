use Rattle.std.proofs.Common.{true}
use Rattle.zt_indexes.proofs.Hashed.{keys-changed}
use Rattle.zt_indexes.proofs.boxed_keys.insert_in.Goals as goal

pub returns-clause-ok : goal.returns-clause-ok
returns-clause-ok g c = keys-changed g.K.Ord.cmp g.met.K.Ord.matches_eq true c.args.key c.args.keys.now.keys c.insert.new.self.keys c.in_ok-insert.ensures.updates.0
