use Rattle.std.proofs.Common.{◌≡◌, drop}
use Rattle.std.specs.List.{list_any}
use Rattle.zt_check_fabric.specs.Made.{is_current_interest}
use Rattle.zt_check_fabric.proofs.pending.has_current_interest.Given as goal

-- none so far is one
abbrev pub invariant-loop-sent : goal.invariant-loop-sent
invariant-loop-sent g l =
    list_any (λ m. is_current_interest m.message) (drop l.sent-index l.sents)
    ≡ list_any (λ m. is_current_interest m.message) l.sents
