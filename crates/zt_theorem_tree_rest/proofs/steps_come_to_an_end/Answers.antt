use Rattle.zt_theorem_tree_rest.proofs.Plainly.{plainly}
use Rattle.zt_theorem_tree_rest.proofs.Rest.{steps_end}
use Rattle.zt_theorem_tree_rest.proofs.Resting.{goes_on, takes_nothing}
use Rattle.zt_theorem_tree_rest.proofs.steps_come_to_an_end.Goals as goal

pub returns : goal.returns
returns g c = record {
  bounded = λ lines s stand follow. steps_end g.K.Ord.cmp g.K.Key.matching g.met.K.Ord.total g.met.K.Key.laws.equal_is_same lines s stand follow;
  plainly = λ s stand. plainly g.K.Ord.cmp g.K.Key.matching s stand.sound.order stand.agree;
  goes_on = λ s stand some. goes_on g.K.Ord.cmp g.K.Key.matching s stand some;
  still = λ link back s. takes_nothing g.K.Ord.cmp g.K.Key.matching link back s;
}
