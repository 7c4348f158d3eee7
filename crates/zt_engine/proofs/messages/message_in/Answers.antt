use Rattle.std.proofs.Common.{Option, option_and_then, refl, inl, sym, ap, ◌∙◌}
use Rattle.zt_engine.specs.Messages.{message_of}
use Rattle.zt_engine.proofs.messages.message_in.Goals as goal

pub returns-in-Some-clause-read : goal.returns-in-Some-clause-read
returns-in-Some-clause-read g c =
    ap (λ (o : Option (Option g.row.K.Denot)). option_and_then (message_of c.args.fields.now) o) c.in-Ok.ensures.read ∙ sym c.in-Some.ensures

pub returns-in-None-clause-unread : goal.returns-in-None-clause-unread
returns-in-None-clause-unread g c =
    inl (refl, ap (λ (o : Option (Option g.row.K.Denot)). option_and_then (message_of c.args.fields.now) o) c.in-Ok.ensures.read ∙ sym c.in-None.ensures)
