use Rattle.zt_theorem_tree_knowledge.proofs.Opening.{tree_after_north, tree_after_session, tree_after_south}
use Rattle.zt_theorem_tree_knowledge.proofs.openings_leave_gateways_of_trees.Goals as goal

pub returns : goal.returns
returns g c = record {
  session = λ first rows ordered tree. tree_after_session g.K.Ord.cmp g.K.Key.matching g.met.K.Ord.total g.met.K.Key.laws.equal_is_same first rows ordered tree;
  below = λ zid id bound first rows ordered tree. tree_after_south g.K.Ord.cmp g.K.Key.matching g.met.K.Ord.total g.met.K.Key.laws.equal_is_same zid id bound first rows ordered tree;
  above = λ zid whatami first rows client none_ ordered tree. tree_after_north g.K.Ord.cmp g.K.Key.matching g.met.K.Ord.total g.met.K.Key.laws.equal_is_same zid whatami first rows client none_ ordered tree;
}
