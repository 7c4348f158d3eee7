use Rattle.std.proofs.Common.{◌≡◌, ◌++◌, true, false, ap, not, sym, ◌∙◌}
use Rattle.std.proofs.lemmas.List.{append-nil}
use Rattle.std.specs.List.{list_any}
use Rattle.zt_region.specs.Region.{is_north}
use Rattle.zt_protocol.specs.declared.messages.Message.TheVariants as message
use Rattle.zt_model.specs.Routing.{asks_same}
use Rattle.zt_interests.proofs.ChosenRows.{chosen_sends}
use Rattle.zt_interests.proofs.North.{south-unended, unsent-unended}
use Rattle.zt_interests.proofs.upstream.EndsFaceRule.say.Goals as goal

pub returns-then-not-is_north : goal.returns-then-not-is_north
returns-then-not-is_north g c =
    let none = south-unended g.K.Ord.cmp g.K.Key.matching c.args.self.now.0.now c.args.f.now (sym c.is_north.ensures ∙ c.if-not-is_north.true) in
    rw none (sym (append-nil c.args.sends.now.items))

pub returns-then-not-has_same : goal.returns-then-not-has_same
returns-then-not-has_same g c =
    let interest = c.args.self.now.0.now in
    let unsent = ap (list_any (λ row. asks_same g.K.Ord.cmp g.K.Key.matching interest row.1)) (sym c.locals.ensures) ∙ sym c.has_same.ensures ∙ c.if-not-has_same.true in
    let none = unsent-unended g.K.Ord.cmp g.K.Key.matching interest c.args.f.now unsent in
    rw none (sym (append-nil c.args.sends.now.items))

pub returns : goal.returns
returns g c =
    let interest = c.args.self.now.0.now in
    let f = c.args.f.now in
    let north = sym c.is_north.ensures ∙ c.if-not-is_north.false in
    let sent = chosen_sends (λ r. asks_same g.K.Ord.cmp g.K.Key.matching interest r.1) (λ r. message.InterestFinal r.0) f.number f.locals in
    rw north (c.in_ok-end_same.ensures ∙ ap (λ said. c.args.sends.now.items ++ said) sent)
