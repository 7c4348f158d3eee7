use Rattle.std.proofs.Common.{◌≡◌, drop}
use Rattle.zt_check_finals.specs.Finishing.{nothing_follows}
use Rattle.zt_check_finals.proofs.finals.nothing_follows_finals.Given as goal

-- none so far is followed by what it finishes
abbrev pub invariant-loop-place : goal.invariant-loop-place
invariant-loop-place g l = nothing_follows l.fabric (drop l.place l.sents) ≡ nothing_follows l.fabric l.sents
