use Rattle.zt_breaks.proofs.sentences.put_finding.Goals as goal

pub returns-in-Unnamed : goal.returns-in-Unnamed
returns-in-Unnamed g c = rw c.in-Unnamed.is (rw c.name.ensures at c.put_named.ensures)

pub returns-in-Misprinted : goal.returns-in-Misprinted
returns-in-Misprinted g c = rw c.in-Misprinted.is c.put_misprinted.ensures
