-- The lines of a text: each ends with a line feed, and the last may lack it.
use Rattle.std.specs.Prelude.{◌≡◌, ◌≢◌, ℕ, Bool, false, ◌==◌, List, [], ◌∷◌, ◌++◌, Option, None, Some, if◌then◌else◌}
use Rattle.std.specs.List.{list_any, onto_first}

-- a line feed
abbrev pub is_feed : ℕ → Bool
is_feed byte = byte == 10

-- the lines of a text, without their feeds; a text that ends with a feed has no further line
abbrev pub lines_of : List ℕ → List (List ℕ)
lines_of [] = []
lines_of (byte ∷ text) = if is_feed byte then [] ∷ lines_of text else onto_first byte (lines_of text)

-- the lines with the byte put before the first, if there is one
abbrev pub onto_line : ℕ → List (List ℕ) → List (List ℕ)
onto_line byte [] = []
onto_line byte (line ∷ lines) = (byte ∷ line) ∷ lines

-- the lines whose feed is there
abbrev pub whole_lines : List ℕ → List (List ℕ)
whole_lines [] = []
whole_lines (byte ∷ text) = if is_feed byte then [] ∷ whole_lines text else onto_line byte (whole_lines text)

-- the unfinished rest: what stands after the last feed
abbrev pub rest_of : List ℕ → List ℕ
rest_of [] = []
rest_of (byte ∷ text) = if list_any is_feed (byte ∷ text) then rest_of text else byte ∷ text

-- the rest as a line, unless it is empty
abbrev pub last_line : List ℕ → List (List ℕ)
last_line [] = []
last_line (byte ∷ rest) = (byte ∷ rest) ∷ []

-- a line and its feed
abbrev pub with_feed : List ℕ → List ℕ
with_feed line = line ++ 10 ∷ []

-- no feed stands in these bytes
abbrev pub HasNoFeed : List ℕ → Type 0
HasNoFeed bytes = list_any is_feed bytes ≡ false

-- the oldest whole line of the bytes kept was given and is gone with its feed; where there is none, nothing changed
abbrev pub TakesLine : List ℕ → Option (List ℕ) → List ℕ → Type 0
TakesLine old None new = (whole_lines old ≡ []) × (new ≡ old)
TakesLine old (Some line) new = HasNoFeed line × (old ≡ line ++ 10 ∷ new)

-- the unfinished rest of the bytes kept was given, and nothing is kept; None exactly where it was empty
abbrev pub TakesRest : List ℕ → Option (List ℕ) → List ℕ → Type 0
TakesRest old None new = (rest_of old ≡ []) × (new ≡ [])
TakesRest old (Some rest) new = (rest_of old ≡ rest) × (rest ≢ []) × (new ≡ [])
