use Rattle.std.proofs.Common.{refl, subst}
use Rattle.zt_presence.specs.Polling.{PollFails}
use Rattle.zt_watchers.proofs.WatchLemmas.{found_once, refused_once}
use Rattle.zt_watchers.proofs.monitoring.poll.Goals as goal

pub returns-in-Ok : goal.returns-in-Ok
returns-in-Ok g c =
    found_once g.K.Ord.cmp g.K.Key.matching g.met.K.Ord.total
    g.met.K.Key.laws.equal_is_same
    c.args.monitor.now c.poll.new.self c.args.pass.now c.poll.new.pass c.in-Ok.change c.found.result c.in-Ok.ensures.ok c.found.ensures.place c.found.ensures.keys c.in-Ok.ensures.seen

pub returns-in-Err-Refused : goal.returns-in-Err-Refused
returns-in-Err-Refused g c =
    refused_once g.K.Ord.cmp g.K.Key.matching c.args.monitor.now c.poll.new.self c.args.pass.now c.poll.new.pass c.in-Err-Refused.place c.in-Err-Refused.refusal _
    (subst (λ e. PollFails g.K.Ord.cmp g.K.Key.matching c.args.pass.now c.poll.new.pass c.args.monitor.now c.poll.new.self e) c.in-Err-Refused.field-0-is c.in-Err-Refused.ensures.err)
    refl refl c.in-Err-Refused.ensures.seen
