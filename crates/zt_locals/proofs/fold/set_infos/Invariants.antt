use Rattle.std.proofs.Common.{◌≡◌, ◌++◌, take, drop}
use Rattle.zt_locals.specs.Folding.{with_infos}
use Rattle.zt_locals.proofs.fold.set_infos.Given as goal

-- those passed have their infos, and those left are as they were
abbrev pub invariant-loop-at : goal.invariant-loop-at
invariant-loop-at g l = l.rows.items ≡ with_infos (take l.at l.initial.rows.items) (take l.at l.infos) ++ drop l.at l.initial.rows.items
