use Rattle.zt_model.specs.Fabric.{empty_fabric}
use Rattle.zt_theorem_soundness.proofs.Sound.{sound_start}
use Rattle.zt_theorem_tree_invariant.proofs.Start.{agree_at_first}
use Rattle.zt_theorem_tree_all_that_stays.proofs.Gets.{keep_tree_promises}
use Rattle.zt_theorem_tree_all_that_stays.proofs.trees_keep_their_promises.Goals as goal

pub returns : goal.returns
returns g c = record {
  start = λ lines real.
      keep_tree_promises g.K.Ord.cmp g.K.Key.matching g.met.K.Ord.total g.met.K.Key.laws.equal_is_same lines empty_fabric real (sound_start g.K.Ord.cmp g.K.Key.matching) (agree_at_first g.K.Ord.cmp g.K.Key.matching) (record { north = tt; south = tt; admitted = tt });
  later = λ lines s real sound agree trees_s. keep_tree_promises g.K.Ord.cmp g.K.Key.matching g.met.K.Ord.total g.met.K.Key.laws.equal_is_same lines s real sound agree trees_s;
}
