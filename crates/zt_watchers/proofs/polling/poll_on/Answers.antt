use Rattle.std.proofs.Common.{subst, arith}
use Rattle.zt_watchers.specs.Watching.{GoesOn}
use Rattle.zt_watchers.proofs.WatchLemmas.{may_go_on, none_more, some_more}
use Rattle.zt_watchers.proofs.polling.poll_on.Goals as goal

pub loop-init : goal.loop-init
loop-init g c = none_more g.K.Ord.cmp g.K.Key.matching c.args.shared.now c.args.watching c.requires

pub poll_once-requires : goal.poll_once-requires
poll_once-requires g c = may_go_on g.K.Ord.cmp g.K.Key.matching c.args.shared.now c.loop.counter c.args.watching c.loop.watching c.requires c.loop.invariant

pub loop-preserved : goal.loop-preserved
loop-preserved g c = some_more g.K.Ord.cmp g.K.Key.matching c.loop.counter 1 c.args.watching c.loop.watching c.poll_once.new.watching c.loop.invariant c.in_ok-poll_once.ensures
