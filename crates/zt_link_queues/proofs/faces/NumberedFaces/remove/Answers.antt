use Rattle.std.proofs.Common.{◌≡◌, ap, subst, sym, ◌∙◌}
use Rattle.zt_link_queues.specs.Found.{AreRising, number_in}
use Rattle.zt_link_queues.proofs.Pairs.{number_there, rising_without, without_none, without_other, without_this}
use Rattle.zt_link_queues.proofs.faces.NumberedFaces.remove.Goals as goal

pub returns-then-index-number : goal.returns-then-index-number
returns-then-index-number c =
    let own = c.self.inside.pairs.items in
    let there = sym (rw c.deref.ensures.value at c.in-Ok.ensures.place) in
    let read : c.index.result.now.1 ≡ number_in c.args.face own = ap (λ p. p.1) c.index.ensures ∙ number_there c.args.face c.in-Ok.place own c.index.result.now there in
    rw (← c.self.view_is, c.remove.ensures.items) (without_this c.args.face c.args.number c.in-Ok.place own c.self.invariant there (sym read ∙ c.if-index-number.true))

pub returns-else-index-number : goal.returns-else-index-number
returns-else-index-number c =
    let own = c.self.inside.pairs.items in
    let there = sym (rw c.deref.ensures.value at c.in-Ok.ensures.place) in
    let read : c.index.result.now.1 ≡ number_in c.args.face own = ap (λ p. p.1) c.index.ensures ∙ number_there c.args.face c.in-Ok.place own c.index.result.now there in
    rw (← c.self.view_is) (without_other c.args.face c.args.number own (λ is. c.if-index-number.false (read ∙ is)))

pub returns-in_default : goal.returns-in_default
returns-in_default c =
    let gap = sym (rw c.deref.ensures.value at c.in_default.ensures.place) in
    rw (← c.self.view_is) (without_none c.args.face c.args.number c.in_default.field-0 c.self.inside.pairs.items c.self.invariant gap)

pub invariant_of-self : goal.invariant_of-self
invariant_of-self c =
    subst AreRising (sym (returns-then-index-number c)) (rising_without c.args.face c.args.number c.args.self.now (subst AreRising c.self.view_is c.self.invariant))
