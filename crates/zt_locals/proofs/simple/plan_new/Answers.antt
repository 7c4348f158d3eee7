use Rattle.zt_locals.proofs.simple.plan_new.Goals as goal

pub returns-then-is_empty-clause-infos : goal.returns-then-is_empty-clause-infos
returns-then-is_empty-clause-infos g c = rw (c.deref.ensures.value, c.deref-2.ensures.value) at c.in_ok-infos.ensures

pub returns-then-is_empty-clause-results : goal.returns-then-is_empty-clause-results
returns-then-is_empty-clause-results g c = rw (c.deref-3.ensures.value, c.deref-4.ensures.value) at c.in_ok-results.ensures

pub returns-clause-infos : goal.returns-clause-infos
returns-clause-infos g c = rw (c.deref.ensures.value, c.deref-2.ensures.value) at c.in_ok-infos.ensures

pub returns-clause-results : goal.returns-clause-results
returns-clause-results g c = let h = rw (c.deref-3.ensures.value, c.deref-4.ensures.value) at c.in_ok-results.ensures in rw c.in_ok-reserve.ensures.items h
