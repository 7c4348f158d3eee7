use Rattle.zt_theorem_message_ids.proofs.Turns.{turns_tell_news}
use Rattle.zt_theorem_message_ids.proofs.turns_tell_what_is_new.Goals as goal

pub returns : goal.returns
returns g c = λ lines s real fine. turns_tell_news g.K.Ord.cmp g.K.Key.matching g.met.K.Ord.total lines s real fine
