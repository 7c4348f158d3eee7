use Rattle.zt_theorem_exact_messages.proofs.EntityTurns.{turns_declare}
use Rattle.zt_theorem_exact_messages.proofs.turns_answer_entities.Goals as goal

pub returns : goal.returns
returns g c = λ lines s real fine. turns_declare g.K.Ord.cmp g.K.Key.matching g.met.K.Ord.total lines s real fine
