use Rattle.std.proofs.lemmas.Result.{on_ok_weaker}
use Rattle.zt_indexes.proofs.Sets.{put-more}
use Rattle.zt_indexes.proofs.groups.KeySet.insert.Goals as goal

pub returns-clause-ok : goal.returns-clause-ok
returns-clause-ok g c =
    rw (← c.self.view_is)
    (on_ok_weaker c.insert.result
    (λ more. put-more g.K.Ord.cmp g.met.K.Ord.total c.self.inside.one c.args.key c.self.inside.more c.insert.new.self more)
    c.insert.ensures.ok)
