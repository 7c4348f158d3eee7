use Rattle.std.proofs.Common.{◌∙◌, ap, length, take, ◌-◌}
use Rattle.zt_fabric_state.proofs.Placed.{front}
use Rattle.zt_fabric_state.proofs.state.push_both.Goals as goal

pub returns-in-Err-clause-queues_err : goal.returns-in-Err-clause-queues_err
returns-in-Err-clause-queues_err g c = c.pop.ensures ∙ ap (λ qs. take (length qs - 1) qs) c.in_ok-push.ensures.ok ∙ front c.args.queues.now _
