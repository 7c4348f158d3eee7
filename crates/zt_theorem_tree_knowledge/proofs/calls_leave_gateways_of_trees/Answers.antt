use Rattle.zt_theorem_tree_knowledge.proofs.Calls.{tree_after_call}
use Rattle.zt_theorem_tree_knowledge.proofs.calls_leave_gateways_of_trees.Goals as goal

pub returns : goal.returns
returns g c = λ spent call rows still accepted ordered tree. tree_after_call g.K.Ord.cmp g.K.Key.matching g.met.K.Ord.total g.met.K.Key.laws.equal_is_same spent call rows still accepted ordered tree
