-- The lines of a script, read one after another.
use Rattle.std.specs.Prelude.{◌≡◌, ℕ, true, ◌+◌, List, [], ◌∷◌, ◌++◌, length, map, Result, Ok, is_err}
use Rattle.zt_keys.specs.declared.error.KeyError.{KeyError}
use Rattle.zt_protocol.specs.Plain.{PlainLine}
use Rattle.zt_lines.specs.Reading.{line_read}
use Rattle.zt_check_trace.specs.declared.script.LinesError.{LinesError}
use Rattle.zt_check_trace.specs.declared.script.LinesError.TheVariants as errors

module _ {K : Type 0} (reading : List ℕ → Result K KeyError) where
  -- each of these texts is a line of the grammar, and these are the lines
  abbrev pub AreRead : List (List ℕ) → List (PlainLine K) → Type 0
  AreRead texts lines = map (line_read reading) texts ≡ map (λ line. Ok line) lines

  -- of these texts the one of this number, from 1, is the first that is no line of the grammar
  pub record HasBadLine (texts : List (List ℕ)) (number : ℕ) : Type 0 where
    pub before : List (List ℕ)
    pub lines : List (PlainLine K)
    pub bad : List ℕ
    pub others : List (List ℕ)
    pub are_texts : texts ≡ (before ++ bad ∷ []) ++ others
    pub are_read : AreRead before lines
    pub is_bad : is_err (line_read reading bad) ≡ true
    pub is_number : number ≡ length before + 1

  -- why these texts weren't all read
  abbrev pub StopsReading : List (List ℕ) → LinesError → Type 0
  StopsReading texts (errors.BadLine number) = HasBadLine texts number
  StopsReading texts errors.Memory = Unit {0}

  -- why the line of this number wasn't read
  abbrev pub LineStops : List ℕ → ℕ → LinesError → Type 0
  LineStops text number (errors.BadLine n) = (is_err (line_read reading text) ≡ true) × (n ≡ number)
  LineStops text number errors.Memory = Unit {0}
