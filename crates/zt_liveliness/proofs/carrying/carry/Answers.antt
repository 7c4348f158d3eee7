use Rattle.std.proofs.Common.{◌≡◌, ◌++◌, ℕ, Option, filter, ap, ◌∙◌}
use Rattle.zt_gateway.specs.Running.{Planned, by_face, closed_by, without_closed}
use Rattle.zt_liveliness.specs.Mail.{is_awaited}
use Rattle.zt_model.specs.Says.{Sends}
use Rattle.zt_protocol.specs.Plain.{plain_call}
use Rattle.zt_liveliness.proofs.carrying.carry.Goals as goal

pub returns-clause-waiting : goal.returns-clause-waiting
returns-clause-waiting g c =
    let K = g.row.K.Denot in
    let books = c.args.books.now in
    let closed : Option ℕ = closed_by (plain_call c.args.call.now) in
    let awaited : Sends K = c.in-Ok-delivery_of.delivery.awaited.items in
    c.deliver.ensures.waiting
    ∙ ap (λ (o : Option ℕ). without_closed o c.reserve.new.mail.waiting.items ++ awaited) c.closed_by.ensures
    ∙ ap (λ (ws : Sends K). without_closed closed ws ++ awaited) c.in-Ok-reserve.ensures.waiting
    ∙ ap (λ (ws : Sends K). without_closed closed c.args.mail.now.waiting.items ++ ws)
    (c.in-Ok-delivery_of.ensures.awaited
    ∙ ap (λ (ws : Sends K). filter (is_awaited books.sessions.items books.queries.items) ws) (c.in-Ok-copies_of.ensures ∙ ap (λ (p : Planned K). by_face p.said) c.in-Ok.ensures.planned))
