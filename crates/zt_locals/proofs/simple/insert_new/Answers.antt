use Rattle.zt_locals.proofs.simple.insert_new.Goals as goal

pub returns-clause-results : goal.returns-clause-results
returns-clause-results g c = let p = c.in_ok-planned.ensures in rw (p.told, p.interests, p.results, p.infos) at c.tell.ensures
