use Rattle.std.proofs.Common.{◌≡◌, drop}
use Rattle.std.specs.List.{list_all}
use Rattle.zt_check_finals.specs.Finishing.{is_of_some_ask}
use Rattle.zt_check_finals.proofs.finals.are_of_some.Given as goal

-- all so far do
abbrev pub invariant-loop-sent : goal.invariant-loop-sent
invariant-loop-sent g l =
    list_all (is_of_some_ask l.fabric l.unopened) (drop l.sent-index l.sents)
    ≡ list_all (is_of_some_ask l.fabric l.unopened) l.sents
