use Rattle.zt_theorem_finals.proofs.Turns.{turns_finish, turns_finish_first}
use Rattle.zt_theorem_finals.proofs.turns_finish_asks.Goals as goal

pub returns : goal.returns
returns g c = record {
  any = λ lines s real is. turns_finish g.K.Ord.cmp g.K.Key.matching g.met.K.Ord.total g.met.K.Key.laws.equal_is_same lines s real is;
  start = λ lines real. turns_finish_first g.K.Ord.cmp g.K.Key.matching g.met.K.Ord.total g.met.K.Key.laws.equal_is_same lines real;
}
