use Rattle.zt_model.specs.Fabric.{empty_fabric}
use Rattle.zt_theorem_soundness.proofs.Sound.{sound_start}
use Rattle.zt_theorem_tree_invariant.proofs.Start.{agree_at_first}
use Rattle.zt_theorem_tree_all_that_stays.proofs.Gets.{gets_what_stays}
use Rattle.zt_theorem_tree_all_that_stays.proofs.asks_get_what_stays.Goals as goal

pub returns : goal.returns
returns g c = record {
  start = λ lines real trees.
      gets_what_stays g.K.Ord.cmp g.K.Key.matching g.met.K.Ord.total g.met.K.Key.laws.equal_is_same lines empty_fabric real (sound_start g.K.Ord.cmp g.K.Key.matching) (agree_at_first g.K.Ord.cmp g.K.Key.matching) (record { north = tt; south = tt; admitted = tt }) trees;
  later = λ lines s real sound agree trees_s trees. gets_what_stays g.K.Ord.cmp g.K.Key.matching g.met.K.Ord.total g.met.K.Key.laws.equal_is_same lines s real sound agree trees_s trees;
}
