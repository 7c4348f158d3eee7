use Rattle.std.proofs.Common.{◌≡◌, drop}
use Rattle.std.specs.Char.{is_ascii_digit}
use Rattle.zt_fields.proofs.numbers.number_up_to.Given as goal
use Rattle.zt_fields.specs.Numbers.{digits_after, decimal_value}

-- the digits so far are the number so far
abbrev pub invariant-loop-byte : goal.invariant-loop-byte
invariant-loop-byte l = digits_after is_ascii_digit decimal_value 10 0 l.text ≡ digits_after is_ascii_digit decimal_value 10 l.number (drop l.byte-index l.text)
