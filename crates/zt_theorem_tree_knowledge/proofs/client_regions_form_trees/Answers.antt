use Rattle.zt_model.specs.Fabric.{empty_fabric}
use Rattle.zt_theorem_soundness.proofs.Sound.{sound_start}
use Rattle.zt_theorem_tree_invariant.proofs.Start.{agree_at_first}
use Rattle.zt_theorem_tree_knowledge.proofs.Turns.{turns_form_trees}
use Rattle.zt_theorem_tree_knowledge.proofs.client_regions_form_trees.Goals as goal

pub returns : goal.returns
returns g c = λ lines real trees. turns_form_trees g.K.Ord.cmp g.K.Key.matching g.met.K.Ord.total g.met.K.Key.laws.equal_is_same lines empty_fabric real (sound_start g.K.Ord.cmp g.K.Key.matching) (agree_at_first g.K.Ord.cmp g.K.Key.matching) trees
