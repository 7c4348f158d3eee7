-- Numbers as a line spells them: decimal, without sign and without a leading zero unless the number is 0.
-- Zids are hexadecimal in the same way.
use Rattle.std.specs.Prelude.{ℕ, ◌+◌, ◌*◌, ◌-◌, Bool, true, false, ◌||◌, nat_le, ◌==◌, if◌then◌else◌, List, [], ◌∷◌, Option, Some, None}
use Rattle.std.specs.Char.{is_ascii_digit}
use Rattle.std.specs.Int.{is_in_range}

-- the number that digits write behind those of n, where they are digits
abbrev pub digits_after : (ℕ → Bool) → (ℕ → ℕ) → ℕ → ℕ → List ℕ → Option ℕ
digits_after is_digit value base n [] = Some n
digits_after is_digit value base n (b ∷ bs) = if is_digit b then digits_after is_digit value base (n * base + value b) bs else None

abbrev pub decimal_value : ℕ → ℕ
decimal_value b = b - 48

abbrev pub is_hex_digit : ℕ → Bool
is_hex_digit b = is_ascii_digit b || is_in_range 97 102 b

abbrev pub hex_value : ℕ → ℕ
hex_value b = if nat_le b 57 then b - 48 else b - 87

-- nothing, or a number with a zero in front
abbrev pub is_unwritten : List ℕ → Bool
is_unwritten [] = true
is_unwritten (b ∷ []) = false
is_unwritten (b ∷ c ∷ bs) = b == 48

-- nothing, or a zero in front
abbrev pub begins_with_zero : List ℕ → Bool
begins_with_zero [] = true
begins_with_zero (b ∷ bs) = b == 48

-- a number of at most `most`
abbrev pub up_to : ℕ → Option ℕ → Option ℕ
up_to most None = None
up_to most (Some n) = if nat_le n most then Some n else None

-- the number of at most `most` that the text spells
unfoldable pub number_up_to : ℕ → List ℕ → Option ℕ
number_up_to most text = if is_unwritten text then None else up_to most (digits_after is_ascii_digit decimal_value 10 0 text)

abbrev pub u16_of : List ℕ → Option ℕ
u16_of text = number_up_to 65535 text

abbrev pub u32_of : List ℕ → Option ℕ
u32_of text = number_up_to 4294967295 text

abbrev pub u64_of : List ℕ → Option ℕ
u64_of text = number_up_to 18446744073709551615 text

-- the greatest zid: 32 digits
abbrev pub u128_max : ℕ
u128_max = 340282366920938463463374607431768211455

-- the number from 1 below 2 ^ 128 that the text spells in hexadecimal
unfoldable pub hex_number : List ℕ → Option ℕ
hex_number text = if begins_with_zero text then None else up_to u128_max (digits_after is_hex_digit hex_value 16 0 text)
