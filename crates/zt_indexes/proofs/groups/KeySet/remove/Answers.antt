use Rattle.zt_indexes.proofs.Sets.{drop-both}
use Rattle.zt_indexes.proofs.groups.KeySet.remove.Goals as goal

pub returns : goal.returns
returns g c =
    rw (← c.self.view_is)
    (drop-both g.K.Ord.cmp g.met.K.Ord.total c.self.inside.one c.drop_one.new.one c.args.key.now c.self.inside.more c.remove.new.self c.drop_one.ensures c.remove.ensures)
