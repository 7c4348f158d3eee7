use Rattle.std.proofs.Common.{◌≡◌, ◌++◌, drop}
use Rattle.zt_check_finals.specs.Ending.{unopened_by}
use Rattle.zt_check_finals.proofs.ending.unopened_by.Given as goal

-- those so far, and those of what is left, are all
abbrev pub invariant-loop-sent : goal.invariant-loop-sent
invariant-loop-sent g l = l.unopened.items ++ unopened_by l.fabric (drop l.sent-index l.sents) ≡ unopened_by l.fabric l.sents
