use Rattle.zt_breaks.proofs.sentences.put_owed.Goals as goal

pub returns-in-Interest : goal.returns-in-Interest
returns-in-Interest g c = rw c.in-Interest.is c.put_interest.ensures
