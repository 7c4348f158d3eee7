use Rattle.zt_theorem_finals.proofs.Named.{turns_name_asks}
use Rattle.zt_theorem_finals.proofs.turns_print_no_other_finals.Goals as goal

pub returns : goal.returns
returns g c = λ lines s real fine. turns_name_asks g.K.Ord.cmp g.K.Key.matching g.met.K.Ord.total lines s real fine
