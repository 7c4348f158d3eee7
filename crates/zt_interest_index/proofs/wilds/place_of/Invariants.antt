use Rattle.std.proofs.Common.{◌≡◌, true, IfSome}
use Rattle.zt_keys.specs.Numbers.{is_number}
use Rattle.zt_interest_index.proofs.wilds.place_of.Given as goal

abbrev pub invariant-loop-number : goal.invariant-loop-number
invariant-loop-number g l = IfSome l.place (λ number. is_number number l.numbers ≡ true)
