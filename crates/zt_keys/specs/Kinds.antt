-- Of which kinds a text's chunks are, by which most pairs of key expressions that don't match are told apart at once.
--     kind_of chunk      one of 64 kinds, by the length of the chunk and its last two bytes
--     kinds_of text      a number whose bits say of which kinds the chunks without wildcards are: 0 where some chunk is of the kind
use Rattle.std.specs.Prelude.{ℕ, ◌+◌, ◌-◌, ◌*◌, ◌%◌, ◌^◌, List, [], ◌∷◌, length, get_or, bit_and}
use Rattle.zt_keys.specs.Parts.{Part, many, one, marked, plain}
use Rattle.zt_keys.specs.Walking.{walked}

abbrev pub kind_of : List ℕ → ℕ
kind_of chunk = (length chunk + 11 * get_or chunk (length chunk - 1) 0 + 23 * get_or chunk (length chunk - 2) 0) % 64

-- all bits but that of the chunk's kind
abbrev pub other_kinds : List ℕ → ℕ
other_kinds chunk = 18446744073709551615 - 1 * 2 ^ kind_of chunk % 2 ^ 64

-- the bits that stay at a chunk
abbrev pub kinds_after : ℕ → Part → ℕ
kinds_after kinds many = kinds
kinds_after kinds one = kinds
kinds_after kinds (marked chunk) = bit_and kinds (other_kinds chunk)
kinds_after kinds (plain chunk) = bit_and kinds (other_kinds chunk)

abbrev pub kinds_from : ℕ → List Part → ℕ
kinds_from kinds [] = kinds
kinds_from kinds (x ∷ xs) = kinds_from (kinds_after kinds x) xs

unfoldable pub kinds_of : List ℕ → ℕ
kinds_of text = kinds_from 18446744073709551615 (walked text)
