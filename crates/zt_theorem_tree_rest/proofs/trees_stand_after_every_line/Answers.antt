use Rattle.zt_theorem_tree_rest.proofs.Resting.{stand_after_line, stand_start}
use Rattle.zt_theorem_tree_rest.proofs.trees_stand_after_every_line.Goals as goal

pub returns : goal.returns
returns g c = record {
  start = stand_start g.K.Ord.cmp g.K.Key.matching g.met.K.Ord.total g.met.K.Key.laws.equal_is_same;
  step = λ line s real stand. stand_after_line g.K.Ord.cmp g.K.Key.matching g.met.K.Ord.total g.met.K.Key.laws.equal_is_same line s real stand;
}
