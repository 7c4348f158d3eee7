use Rattle.std.proofs.Common.{Ok, ap, ◌∙◌}
use Rattle.zt_presence.proofs.PollLemmas.{opened_face}
use Rattle.zt_presence.proofs.monitor.Monitor.open.Goals as goal

pub unreachable-requires : goal.unreachable-requires
unreachable-requires g c = opened_face g.K.Ord.cmp g.K.Key.matching c.args.pass.now c.call.new.pass c.in-Ok.receipt c.in-Ok.ensures.ok (c.in-Ok-answer.is ∙ ap (λ o. Ok o) c.in-None.is)
