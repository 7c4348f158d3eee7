use Rattle.zt_theorem_sparing.proofs.Kept.{turns_undeclare_kept}
use Rattle.zt_theorem_sparing.proofs.turns_undeclare_what_was_kept.Goals as goal

pub returns : goal.returns
returns g c = λ lines s real fine. turns_undeclare_kept g.K.Ord.cmp g.K.Key.matching g.met.K.Ord.total lines s real fine
