use Rattle.std.proofs.Common.{◌++◌, ap, ◌∙◌}
use Rattle.zt_protocol.specs.declared.messages.Message.TheVariants as message
use Rattle.zt_model.specs.Routing.{finish_to, is_finished_by}
use Rattle.zt_interests.proofs.ChosenRows.{chosen_all, chosen_one_less, chosen_sends}
use Rattle.zt_interests.proofs.upstream.finish_to.Goals as goal

pub loop-under-preserved : goal.loop-under-preserved
loop-under-preserved g c =
    chosen_one_less
    (λ r. is_finished_by c.args.g.now c.args.face c.args.id r.1)
    (λ r. (c.args.f.now.number, message.DeclareFinal r.0))
    _ _ _ _ _ _ c.loop-under.invariant c.in-Some.ensures.steps c.in_ok-finish_row.ensures

pub returns : goal.returns
unfolding finish_to
returns g c =
    chosen_all
    (λ r. is_finished_by c.args.g.now c.args.face c.args.id r.1)
    (λ r. (c.args.f.now.number, message.DeclareFinal r.0))
    c.loop-under.under-iterator c.loop-under.sends.items _ c.in-None.ensures.steps.0 c.loop-under.invariant
    ∙ ap (λ said. c.args.sends.now.items ++ said) (chosen_sends (λ r. is_finished_by c.args.g.now c.args.face c.args.id r.1) (λ r. message.DeclareFinal r.0) c.args.f.now.number c.args.f.now.asks)
