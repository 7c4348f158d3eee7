use Rattle.zt_theorem_tree_rest.proofs.Resting.{at_rest}
use Rattle.zt_theorem_tree_rest.proofs.trees_come_to_rest.Goals as goal

pub returns : goal.returns
returns g c = λ lines s stand trees follow ends. at_rest g.K.Ord.cmp g.K.Key.matching g.met.K.Ord.total g.met.K.Key.laws.equal_is_same lines s stand trees follow ends
