use Rattle.zt_token_index.proofs.Ordered.{ordered-none}
use Rattle.zt_token_index.proofs.index.ToldIndex.new.Goals as goal

pub returns : goal.returns
returns g c = rw c.new.ensures.empty (ordered-none g.K.Ord.cmp)
