use Rattle.zt_theorem_tree_invariant.proofs.Between.{agree_between_links}
use Rattle.zt_theorem_tree_invariant.proofs.lines_between_links_keep_joints.Goals as goal

pub returns : goal.returns
returns g c = λ line s still fine agree other. agree_between_links g.K.Ord.cmp g.K.Key.matching g.met.K.Ord.total g.met.K.Key.laws.equal_is_same s fine agree line still other
