use Rattle.zt_theorem_message_ids.proofs.Turns.{turns_end}
use Rattle.zt_theorem_message_ids.proofs.turns_end_what_stands.Goals as goal

pub returns : goal.returns
returns g c = λ lines s real fine. turns_end g.K.Ord.cmp g.K.Key.matching g.met.K.Ord.total lines s real fine
