use Rattle.std.proofs.Common.{refl}
use Rattle.zt_watchers.proofs.WatchLemmas.{one_more}
use Rattle.zt_watchers.proofs.monitoring.poll_once.Goals as goal

pub returns : goal.returns
returns g c =
    one_more g.K.Ord.cmp g.K.Key.matching g.met.K.Ord.total
    c.args.watching.now (record { monitor = c.poll.new.monitor; pass = c.poll.new.pass; wanted = c.args.watching.now.wanted; polls = c.push.new.self })
    c.in_ok-poll.poll c.in_ok-poll.ensures refl c.in_ok-push.ensures.items
