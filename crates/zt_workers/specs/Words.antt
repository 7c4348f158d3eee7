-- The words of the program.
use Rattle.std.specs.Prelude.{ℕ, List, [], ◌∷◌, Option, None}
use Rattle.zt_fields.specs.Numbers.{u32_of}
use Rattle.zt_fabric.specs.Making.{from_one_to}

-- the number of workers that the words ask for: one word, a decimal number from 1 to 16
unfoldable pub workers_asked : List (List ℕ) → Option ℕ
workers_asked [] = None
workers_asked (word ∷ []) = from_one_to 16 (u32_of word)
workers_asked (word ∷ other ∷ words) = None
