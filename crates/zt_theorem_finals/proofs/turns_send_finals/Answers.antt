use Rattle.zt_theorem_finals.proofs.Whole.{turns_send, turns_send_first}
use Rattle.zt_theorem_finals.proofs.turns_send_finals.Goals as goal

pub returns : goal.returns
returns g c = record {
  any = λ lines s real is. turns_send g.K.Ord.cmp g.K.Key.matching g.met.K.Ord.total g.met.K.Key.laws.equal_is_same lines real s is;
  start = λ lines real. turns_send_first g.K.Ord.cmp g.K.Key.matching g.met.K.Ord.total g.met.K.Key.laws.equal_is_same lines real;
}
