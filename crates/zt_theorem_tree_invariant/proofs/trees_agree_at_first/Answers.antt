use Rattle.zt_theorem_tree_invariant.proofs.Start.{agree_at_first}
use Rattle.zt_theorem_tree_invariant.proofs.trees_agree_at_first.Goals as goal

pub returns : goal.returns
returns g c = agree_at_first g.K.Ord.cmp g.K.Key.matching
