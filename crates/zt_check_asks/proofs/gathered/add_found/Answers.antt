use Rattle.zt_check_asks.proofs.Found.{keys_added}
use Rattle.zt_check_asks.proofs.gathered.add_found.Goals as goal

pub returns : goal.returns
returns g c = keys_added g.K.Ord.cmp g.met.K.Ord.matches_eq c.args.expr c.args.found.now.keys c.insert.new.self.keys c.in_ok-insert.ensures.updates.0
