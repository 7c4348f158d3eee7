use Rattle.zt_theorem_tree_knowledge.proofs.Lines.{trees_after_each}
use Rattle.zt_theorem_tree_knowledge.proofs.lines_keep_trees.Goals as goal

pub returns : goal.returns
returns g c = λ line s real fine agree other trees. trees_after_each g.K.Ord.cmp g.K.Key.matching g.met.K.Ord.total g.met.K.Key.laws.equal_is_same s fine agree line real other trees
