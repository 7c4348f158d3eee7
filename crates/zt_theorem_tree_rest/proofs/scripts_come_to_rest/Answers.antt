use Rattle.zt_model.specs.Fabric.{empty_fabric}
use Rattle.zt_theorem_tree_rest.proofs.Rest.{steps_end}
use Rattle.zt_theorem_tree_rest.proofs.Resting.{at_rest, stand_after_all, stand_start}
use Rattle.zt_theorem_tree_rest.proofs.scripts_come_to_rest.Goals as goal

pub returns : goal.returns
returns g c = record {
  bounded = λ lines steps real turns follow.
      let start = stand_start g.K.Ord.cmp g.K.Key.matching g.met.K.Ord.total g.met.K.Key.laws.equal_is_same in
      let stand = stand_after_all g.K.Ord.cmp g.K.Key.matching g.met.K.Ord.total g.met.K.Key.laws.equal_is_same lines empty_fabric real start (record { north = tt; south = tt; admitted = tt }) turns in
      steps_end g.K.Ord.cmp g.K.Key.matching g.met.K.Ord.total g.met.K.Key.laws.equal_is_same steps _ stand.0 follow;
  rests = λ lines steps real turns follow ends.
      let start = stand_start g.K.Ord.cmp g.K.Key.matching g.met.K.Ord.total g.met.K.Key.laws.equal_is_same in
      let stand = stand_after_all g.K.Ord.cmp g.K.Key.matching g.met.K.Ord.total g.met.K.Key.laws.equal_is_same lines empty_fabric real start (record { north = tt; south = tt; admitted = tt }) turns in
      at_rest g.K.Ord.cmp g.K.Key.matching g.met.K.Ord.total g.met.K.Key.laws.equal_is_same steps _ stand.0 stand.1 follow ends;
}
