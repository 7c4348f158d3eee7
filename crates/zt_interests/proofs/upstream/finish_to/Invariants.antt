use Rattle.std.proofs.Common.{◌≡◌, ◌++◌}
use Rattle.zt_protocol.specs.declared.messages.Message.TheVariants as message
use Rattle.zt_model.specs.Routing.{is_finished_by}
use Rattle.zt_interests.specs.Chosen.{all_chosen}
use Rattle.zt_interests.proofs.upstream.finish_to.Given as goal

-- what is sent so far, and by the rows left, is all
abbrev pub invariant-loop-under : goal.invariant-loop-under
invariant-loop-under g l =
    l.sends.items ++ all_chosen (λ r. is_finished_by l.g l.face l.id r.1) (λ r. (l.f.number, message.DeclareFinal r.0)) l.under-iterator
    ≡ l.fn.sends.items ++ all_chosen (λ r. is_finished_by l.g l.face l.id r.1) (λ r. (l.f.number, message.DeclareFinal r.0)) l.f.asks
