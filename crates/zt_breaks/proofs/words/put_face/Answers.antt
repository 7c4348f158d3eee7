use Rattle.zt_breaks.proofs.words.put_face.Goals as goal

pub returns : goal.returns
returns c = rw c.from.ensures at (rw c.from-2.ensures at c.put_pair.ensures)
