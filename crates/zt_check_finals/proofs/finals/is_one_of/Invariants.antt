use Rattle.std.proofs.Common.{◌≡◌, drop}
use Rattle.std.proofs.Common.{◌==◌}
use Rattle.std.specs.List.{list_any}
use Rattle.zt_check_finals.proofs.finals.is_one_of.Given as goal

-- none so far is
abbrev pub invariant-loop-other : goal.invariant-loop-other
invariant-loop-other l =
    list_any (λ k. l.number == k) (drop l.other-index l.numbers)
    ≡ list_any (λ k. l.number == k) l.numbers
