use Rattle.zt_theorem_answers.proofs.Turns.{turns_answer}
use Rattle.zt_theorem_answers.proofs.turns_answer_asks.Goals as goal

pub returns : goal.returns
returns g c = λ lines s real fine. turns_answer g.K.Ord.cmp g.K.Key.matching g.met.K.Ord.total g.met.K.Key.laws.equal_is_same lines s real fine
