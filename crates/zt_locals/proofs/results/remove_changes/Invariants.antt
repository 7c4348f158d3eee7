use Rattle.std.proofs.Common.{◌≡◌, ◌++◌, drop}
use Rattle.zt_locals.specs.Results.{beside, remove_result}
use Rattle.zt_locals.proofs.results.remove_changes.Given as goal

-- what is told so far, with what those left give, is all
abbrev pub invariant-loop-at : goal.invariant-loop-at
invariant-loop-at g l =
    let tells = beside (remove_result g.Info.PartialEq.eq) in
    l.results.items ++ tells (drop l.at l.rows) (drop l.at l.infos) ≡ tells l.rows l.infos
