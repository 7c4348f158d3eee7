use Rattle.zt_model.specs.Fabric.{empty_fabric}
use Rattle.zt_theorem_soundness.proofs.Sound.{sound_start}
use Rattle.zt_theorem_visibility.proofs.Exact.{turns_exact, turns_keep}
use Rattle.zt_theorem_visibility.proofs.turns_keep_what_is_visible.Goals as goal

pub returns : goal.returns
returns g c = record {
  keeps = λ lines s real sound. turns_keep g.K.Ord.cmp g.K.Key.matching g.met.K.Ord.total g.met.K.Key.laws.equal_is_same lines s real sound;
  exact = λ lines s real sound. turns_exact g.K.Ord.cmp g.K.Key.matching g.met.K.Ord.total g.met.K.Key.laws.equal_is_same lines s real sound;
  start = λ lines real. turns_exact g.K.Ord.cmp g.K.Key.matching g.met.K.Ord.total g.met.K.Key.laws.equal_is_same lines empty_fabric real (sound_start g.K.Ord.cmp g.K.Key.matching);
}
