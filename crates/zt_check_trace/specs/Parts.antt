-- The parts of an input: a script, a line `---`, and the claimed transcript.
use Rattle.std.specs.Prelude.{◌≡◌, ◌⊎◌, ℕ, Bool, false, ◌==◌, List, [], ◌∷◌, ◌++◌, codes, Option, Some, None}
use Rattle.std.specs.List.{list_any}
use Rattle.std.specs.Str.{bytes_eq}
use Rattle.zt_streams.specs.Lines.{HasNoFeed, lines_of, rest_of}

-- a text begins with `>`
abbrev pub begins_with_mark : List ℕ → Bool
begins_with_mark [] = false
begins_with_mark (byte ∷ text) = byte == 62

-- a text's first line, without its feed, and what is behind it; None exactly where no feed is there
abbrev pub FindsLine : List ℕ → Option (List ℕ × List ℕ) → Type 0
FindsLine text None = HasNoFeed text
FindsLine text (Some found) = HasNoFeed found.0 × (text ≡ found.0 ++ 10 ∷ found.1)

-- the line that ends a script
abbrev pub is_end_of_script : List ℕ → Bool
is_end_of_script line = bytes_eq line (codes "---")

-- The script is all that stands before the first line `---`, and the claimed text all behind it. That line may lack its
-- feed where it is the last.
pub record IsCut (input script claimed : List ℕ) : Type 0 where
  pub is_whole : rest_of script ≡ []
  pub is_first : list_any is_end_of_script (lines_of script) ≡ false
  pub parts : (input ≡ script ++ (codes "---\n" ++ claimed)) ⊎ ((input ≡ script ++ codes "---") × (claimed ≡ []))

-- the two parts; None exactly where no line is `---`
abbrev pub FindsParts : List ℕ → Option (List ℕ × List ℕ) → Type 0
FindsParts input None = list_any is_end_of_script (lines_of input) ≡ false
FindsParts input (Some parts) = IsCut input parts.0 parts.1
