use Rattle.std.proofs.Common.{subst, sym}
use Rattle.zt_link_queues.specs.Found.{AreRising}
use Rattle.zt_link_queues.proofs.Pairs.{rising_with, with_known, with_new}
use Rattle.zt_link_queues.proofs.faces.NumberedFaces.put.Goals as goal

pub returns-in_ok-insert-clause-ok : goal.returns-in_ok-insert-clause-ok
returns-in_ok-insert-clause-ok c =
    let gap = sym (rw c.deref.ensures.value at c.in-Err.ensures.place) in
    rw (← c.self.view_is, c.in_ok-insert.ensures.items) (with_new c.args.face c.args.number c.in-Err.place c.self.inside.pairs.items c.self.invariant gap)

pub returns-in_default-clause-ok : goal.returns-in_default-clause-ok
returns-in_default-clause-ok c =
    let there = sym (rw c.deref.ensures.value at c.in_default.ensures.place) in
    rw (← c.self.view_is) (with_known c.args.face c.args.number c.in_default.field-0 c.self.inside.pairs.items there)

pub invariant_of-self : goal.invariant_of-self
invariant_of-self c =
    subst AreRising (sym (returns-in_ok-insert-clause-ok c)) (rising_with c.args.face c.args.number c.args.self.now (subst AreRising c.self.view_is c.self.invariant))
