use Rattle.zt_laws.proofs.Seen.{keeps_as_the_machine}
use Rattle.zt_theorem_soundness.proofs.Calls.{keeps_exactly}
use Rattle.zt_theorem_soundness.proofs.admitted_faces_keep_exactly.Goals as goal

pub returns : goal.returns
returns g c = λ rows f e should none_ covered.
    keeps_exactly g.K.Ord.cmp g.K.Key.matching g.met.K.Ord.total g.met.K.Key.laws.equal_is_same rows f e
    (keeps_as_the_machine g.K.Ord.cmp g.K.Key.matching rows f should) none_ covered
