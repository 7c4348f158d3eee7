use Rattle.zt_theorem_message_ids.proofs.Turns.{turns_draw}
use Rattle.zt_theorem_message_ids.proofs.turns_draw_next_ids.Goals as goal

pub returns : goal.returns
returns g c = λ lines s real fine. turns_draw g.K.Ord.cmp g.K.Key.matching g.met.K.Ord.total lines s real fine
