use Rattle.zt_breaks.proofs.sentences.put_keeping.Goals as goal

pub returns-in-Lacked : goal.returns-in-Lacked
returns-in-Lacked g c = rw c.in-Lacked.is c.put_lacked.ensures
