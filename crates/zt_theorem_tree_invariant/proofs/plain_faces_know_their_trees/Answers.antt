use Rattle.zt_laws.proofs.Seen.{all_as_the_machine}
use Rattle.zt_theorem_tree_invariant.proofs.Knowledge.{plain_face_knows}
use Rattle.zt_theorem_tree_invariant.proofs.plain_faces_know_their_trees.Goals as goal

pub returns : goal.returns
returns g c = λ s n x fine agree trees keep quiet. plain_face_knows g.K.Ord.cmp g.K.Key.matching s fine agree trees (all_as_the_machine g.K.Ord.cmp g.K.Key.matching s keep) quiet g.met.K.Key.laws.equal_is_same n x
