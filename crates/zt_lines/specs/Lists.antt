-- Words, lists, and the configuration of the south.
use Rattle.std.specs.Prelude.{ℕ, Bool, true, false, ◌&&◌, ◌||◌, ◌==◌, nat_le, if◌then◌else◌, List, [], ◌∷◌, codes, length, Option, Some, None, Result, Ok, Err}
use Rattle.std.specs.List.{list_all}
use Rattle.std.specs.Char.{is_ascii_digit}
use Rattle.std.specs.Int.{is_in_range}
use Rattle.std.specs.Str.{bytes_eq}
use Rattle.zt_region.specs.declared.region.Region.{Region}
use Rattle.zt_region.specs.declared.region.Region.TheVariants.{North, Local, South}
use Rattle.zt_region.specs.South.{PlainFilter, PlainSubregion, PlainSouth}
use Rattle.zt_protocol.specs.declared.errors.LineError.{LineError}
use Rattle.zt_protocol.specs.declared.errors.LineError.TheVariants as errors
use Rattle.zt_fields.specs.Fields.{◌>>=◌, spelled_by, parts_of, behind, optional_value_at, end_at}
use Rattle.zt_fields.specs.Values.{mode_of, zid_of, region_of}

-- ---- words

abbrev pub is_word_byte : ℕ → Bool
is_word_byte b = is_in_range 97 122 b || is_ascii_digit b || b == 95

-- 1 to 32 of `a-z0-9_`
abbrev pub is_word : List ℕ → Bool
is_word [] = false
is_word (b ∷ bs) = nat_le (length (b ∷ bs)) 32 && list_all is_word_byte (b ∷ bs)

unfoldable pub name_of : List ℕ → Option (List ℕ)
name_of text = if is_word text then Some text else None

-- ---- lists

-- each part as a member
abbrev pub each_read : {A : Type 0} → (List ℕ → Result A LineError) → List (List ℕ) → Result (List A) LineError
each_read read [] = Ok []
each_read read (part ∷ parts) = read part >>= λ x. each_read read parts >>= λ xs. Ok (x ∷ xs)

-- members with a separator between them, one or more
unfoldable pub list_read : {A : Type 0} → (List ℕ → Result A LineError) → ℕ → List ℕ → Result (List A) LineError
list_read read separator text = each_read read (parts_of separator text)

-- ---- the configuration of the south

-- conditions with `&` between them, each kind at most once
unfoldable pub conditions_read : Bool → List ℕ → Result PlainFilter LineError
conditions_read negated text = do
  zids ← optional_value_at (list_read (spelled_by zid_of) 43) (codes "zid:") (parts_of 38 text)
  modes ← optional_value_at (list_read (spelled_by mode_of) 43) (codes "mode:") zids.1
  names ← optional_value_at (list_read (spelled_by name_of) 43) (codes "name:") modes.1
  end ← end_at names.1
  Ok (record { zids = zids.0; interfaces = None; modes = modes.0; region_names = names.0; negated = negated })

-- `all`, or conditions
unfoldable pub positive_read : Bool → List ℕ → Result PlainFilter LineError
positive_read negated text =
    if bytes_eq text (codes "all") then Ok (record { zids = None; interfaces = None; modes = None; region_names = None; negated = negated })
    else conditions_read negated text

abbrev pub filter_by : List ℕ → Option (List ℕ) → Result PlainFilter LineError
filter_by text None = positive_read false text
filter_by text (Some rest) = positive_read true rest

-- an optional `!`, and what it negates
unfoldable pub filter_read : List ℕ → Result PlainFilter LineError
filter_read text = filter_by text (behind (codes "!") text)

-- `any`, or filters with `|` between them
unfoldable pub subregion_read : List ℕ → Result PlainSubregion LineError
subregion_read text = if bytes_eq text (codes "any") then Ok None else list_read filter_read 124 text >>= λ filters. Ok (Some filters)

-- `auto`, or subregions with `;` between them
unfoldable pub south_read : List ℕ → Result PlainSouth LineError
south_read text = if bytes_eq text (codes "auto") then Ok None else list_read subregion_read 59 text >>= λ subregions. Ok (Some subregions)

-- ---- the south regions of a gateway

abbrev pub is_south : Region → Bool
is_south North = false
is_south Local = false
is_south (South id mode) = true

unfoldable pub south_regions_read : List ℕ → Result (List Region) LineError
south_regions_read text = list_read (spelled_by region_of) 44 text >>= λ regions. if list_all is_south regions then Ok regions else Err errors.NotInGrammar
