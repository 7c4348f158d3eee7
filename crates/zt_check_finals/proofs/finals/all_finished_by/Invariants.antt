use Rattle.std.proofs.Common.{◌≡◌, drop}
use Rattle.std.specs.List.{list_all}
use Rattle.zt_check_finals.specs.Finishing.{are_finished_by}
use Rattle.zt_check_finals.proofs.finals.all_finished_by.Given as goal

-- all so far do
abbrev pub invariant-loop-sent : goal.invariant-loop-sent
invariant-loop-sent g l =
    list_all (are_finished_by l.fabric l.finalised l.all) (drop l.sent-index l.sents)
    ≡ list_all (are_finished_by l.fabric l.finalised l.all) l.sents
