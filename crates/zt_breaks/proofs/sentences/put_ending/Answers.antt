use Rattle.zt_breaks.proofs.sentences.put_ending.Goals as goal

pub returns-in-Early : goal.returns-in-Early
returns-in-Early c = rw c.in-Early.is (rw c.from.ensures at (rw c.from-in-Early.ensures at c.put_two.ensures))

pub returns-in-Nobodys : goal.returns-in-Nobodys
returns-in-Nobodys c = rw c.in-Nobodys.is c.put-in-Nobodys.ensures

pub returns-in-Followed : goal.returns-in-Followed
returns-in-Followed c = rw c.in-Followed.is c.put-in-Followed.ensures
