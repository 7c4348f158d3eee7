use Rattle.zt_theorem_finals.proofs.Turns.{open_after_line, open_first}
use Rattle.zt_theorem_finals.proofs.lines_leave_asks_open.Goals as goal

pub returns : goal.returns
returns g c = record {
  start = open_first g.K.Ord.cmp g.K.Key.matching g.met.K.Ord.total g.met.K.Key.laws.equal_is_same;
  step = λ line s real is. open_after_line g.K.Ord.cmp g.K.Key.matching g.met.K.Ord.total g.met.K.Key.laws.equal_is_same line s real is;
}
