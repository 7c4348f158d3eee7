use Rattle.std.proofs.Common.{refl, subst}
use Rattle.zt_presence.specs.Polling.{OpeningFails}
use Rattle.zt_watchers.proofs.WatchLemmas.{begun, not_begun}
use Rattle.zt_watchers.proofs.monitoring.open_monitor.Goals as goal

pub returns-in-Ok : goal.returns-in-Ok
returns-in-Ok g c =
    begun g.K.Ord.cmp g.K.Key.matching c.args.wanted c.args.expr c.args.pass
    (record { monitor = c.in-Ok.monitor; pass = c.open.new.pass; wanted = c.args.wanted; polls = c.new.result })
    c.in-Ok.ensures.ok refl c.in-Ok.ensures.seen c.new.ensures.items

pub returns-in-Err-Refused : goal.returns-in-Err-Refused
returns-in-Err-Refused g c =
    not_begun g.K.Ord.cmp g.K.Key.matching c.args.pass c.open.new.pass c.in-Err-Refused.field-0-0 c.in-Err-Refused.field-0-1
    (subst (λ e. OpeningFails g.K.Ord.cmp g.K.Key.matching c.args.pass c.open.new.pass e) c.in-Err-Refused.field-0-is c.in-Err-Refused.ensures.err)
