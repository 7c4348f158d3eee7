-- The fields of a line, taken off one by one.
use Rattle.std.specs.Prelude.{◌≡◌, ℕ, Bool, ◌==◌, if◌then◌else◌, List, [], ◌∷◌, Option, Some, None, Result, Ok, Err}
use Rattle.std.specs.List.{slice_split}
use Rattle.zt_protocol.specs.declared.errors.LineError.{LineError}
use Rattle.zt_protocol.specs.declared.errors.LineError.TheVariants as errors

infixl 10 ◌>>=◌
abbrev pub ◌>>=◌ : {A B : Type 0} → Result A LineError → (A → Result B LineError) → Result B LineError
(Ok x) >>= f = f x
(Err e) >>= f = Err e

-- What a call returned, seen by `view`, is what reading gives, unless memory ran out.
abbrev pub Fails : {Y : Type 0} → LineError → Result Y LineError → Type 0
Fails errors.Memory read = Unit {0}
Fails errors.NotUtf8 read = read ≡ Err errors.NotUtf8
Fails errors.NotInGrammar read = read ≡ Err errors.NotInGrammar

abbrev pub Gives : {X Y : Type 0} → (X → Y) → Result X LineError → Result Y LineError → Type 0
Gives view (Ok x) read = read ≡ Ok (view x)
Gives view (Err e) read = Fails e read

-- the same of a call that is handed text, for which nothing is wrong with its bytes
abbrev pub Misses : {Y : Type 0} → LineError → Result Y LineError → Type 0
Misses errors.Memory read = Unit {0}
Misses errors.NotUtf8 read = ⊥
Misses errors.NotInGrammar read = read ≡ Err errors.NotInGrammar

abbrev pub Finds : {X Y : Type 0} → (X → Y) → Result X LineError → Result Y LineError → Type 0
Finds view (Ok x) read = read ≡ Ok (view x)
Finds view (Err e) read = Misses e read

-- a line without what can't be read isn't in the grammar
abbrev pub or_bad : {A : Type 0} → Option A → Result A LineError
or_bad None = Err errors.NotInGrammar
or_bad (Some x) = Ok x

-- ---- the parts of a text

abbrev pub is_byte : ℕ → ℕ → Bool
is_byte separator b = b == separator

-- the parts of a text, with a separator between them, one or more
abbrev pub parts_of : ℕ → List ℕ → List (List ℕ)
parts_of separator text = slice_split (is_byte separator) text

-- the parts of what is left of a text, if anything is
abbrev pub parts_left : ℕ → Option (List ℕ) → List (List ℕ)
parts_left separator None = []
parts_left separator (Some text) = parts_of separator text

-- the fields of a line, with one space between them
abbrev pub fields_of : List ℕ → List (List ℕ)
fields_of text = parts_of 32 text

abbrev pub fields_left : Option (List ℕ) → List (List ℕ)
fields_left rest = parts_left 32 rest

abbrev pub Fields : Type 0
Fields = List (List ℕ)

-- the next field, and those behind it
abbrev pub field_at : Fields → Result (List ℕ × Fields) LineError
field_at [] = Err errors.NotInGrammar
field_at (field ∷ rest) = Ok (field, rest)

-- no field is left
abbrev pub end_at : Fields → Result (Unit {0}) LineError
end_at [] = Ok tt
end_at (field ∷ rest) = Err errors.NotInGrammar

-- the parts of a text that has exactly two, or exactly three
abbrev pub two_of : List (List ℕ) → Option (List ℕ × List ℕ)
two_of (a ∷ b ∷ []) = Some (a, b)
two_of _ = None

abbrev pub three_of : List (List ℕ) → Option (List ℕ × List ℕ × List ℕ)
three_of (a ∷ b ∷ c ∷ []) = Some (a, b, c)
three_of _ = None

-- the text behind a word that stands in front of it
abbrev pub behind : List ℕ → List ℕ → Option (List ℕ)
behind [] text = Some text
behind (w ∷ ws) [] = None
behind (w ∷ ws) (b ∷ bs) = if b == w then behind ws bs else None

-- a field that may be absent, without the word that it begins with
abbrev pub optional_by : List ℕ → List ℕ → Fields → Option (List ℕ) → Option (List ℕ) × Fields
optional_by word field rest None = (None, field ∷ rest)
optional_by word field rest (Some text) = (Some text, rest)

abbrev pub optional_at : List ℕ → Fields → Option (List ℕ) × Fields
optional_at word [] = (None, [])
optional_at word (field ∷ rest) = optional_by word field rest (behind word field)

-- ---- values

-- a text that one of the values spells
abbrev pub spelled_by : {A : Type 0} → (List ℕ → Option A) → List ℕ → Result A LineError
spelled_by of_text text = or_bad (of_text text)

-- the next field as a value, and the fields behind it
unfoldable pub value_at : {A : Type 0} → (List ℕ → Result A LineError) → Fields → Result (A × Fields) LineError
value_at read fields = do
  field ← field_at fields
  value ← read field.0
  Ok (value, field.1)

abbrev pub optional_value : {A : Type 0} → (List ℕ → Result A LineError) → Option (List ℕ) × Fields → Result (Option A × Fields) LineError
optional_value read (None, rest) = Ok (None, rest)
optional_value read (Some text, rest) = do
  value ← read text
  Ok (Some value, rest)

-- the same of a field that may be absent, behind the word that it begins with
unfoldable pub optional_value_at : {A : Type 0} → (List ℕ → Result A LineError) → List ℕ → Fields → Result (Option A × Fields) LineError
optional_value_at read word fields = optional_value read (optional_at word fields)

-- any text that isn't read is in no form of the grammar
abbrev pub settled : {A : Type 0} → Result A LineError → Result A LineError
settled (Ok x) = Ok x
settled (Err e) = Err errors.NotInGrammar
