use Rattle.std.proofs.Common.{◌≡◌, ◌≤◌, drop}
use Rattle.zt_fields.proofs.numbers.hex_number.Given as goal
use Rattle.zt_fields.specs.Numbers.{digits_after, is_hex_digit, hex_value, u128_max}

-- the digits so far are the number so far, which fits
abbrev pub invariant-loop-byte : goal.invariant-loop-byte
invariant-loop-byte l = (digits_after is_hex_digit hex_value 16 0 l.text ≡ digits_after is_hex_digit hex_value 16 l.number (drop l.byte-index l.text)) × (l.number ≤ u128_max)
