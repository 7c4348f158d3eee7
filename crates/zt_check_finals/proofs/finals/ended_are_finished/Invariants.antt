use Rattle.std.proofs.Common.{◌≡◌, drop}
use Rattle.std.specs.List.{list_all}
use Rattle.zt_check_finals.specs.Finishing.{ended_are_finished}
use Rattle.zt_check_finals.proofs.finals.ended_are_finished.Given as goal

-- all so far do
abbrev pub invariant-loop-ended : goal.invariant-loop-ended
invariant-loop-ended g l =
    list_all (ended_are_finished l.fabric l.finalised l.sents) (drop l.ended-index l.all)
    ≡ list_all (ended_are_finished l.fabric l.finalised l.sents) l.all
