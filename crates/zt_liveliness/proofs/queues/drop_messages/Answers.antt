use Rattle.std.proofs.Common.{rules, tests, not, ◌==◌, ap, sym, ◌∙◌}
use Rattle.std.proofs.lemmas.Fn.{filter_same}
use Rattle.zt_gateway.specs.Running.{without_closed}
use Rattle.zt_liveliness.proofs.queues.drop_messages.Goals as goal

pub returns-in-Some-clause-items : goal.returns-in-Some-clause-items
returns-in-Some-clause-items g c =
    filter_same _ (λ message. not (c.in-Some.number == message.0)) _ (λ x b f h. (search (rules, tests), search (rules, tests))) _ _ c.retain.ensures.filtered
    ∙ ap (λ face. without_closed face c.args.waiting.now.items) (sym c.in-Some.is)
