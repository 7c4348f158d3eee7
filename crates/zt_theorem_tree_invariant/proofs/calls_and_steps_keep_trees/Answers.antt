use Rattle.zt_theorem_tree_invariant.proofs.Lasting.{trees_after_line}
use Rattle.zt_theorem_tree_invariant.proofs.calls_and_steps_keep_trees.Goals as goal

pub returns : goal.returns
returns g c = λ line s leaves fine agree other. trees_after_line g.K.Ord.cmp g.K.Key.matching g.met.K.Ord.total g.met.K.Key.laws.equal_is_same s fine agree line leaves other
