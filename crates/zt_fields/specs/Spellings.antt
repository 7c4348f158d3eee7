-- How the values of a line are spelled.
use Rattle.std.specs.Prelude.{◌≡◌, ◌≢◌, ◌⊎◌, ℕ, ◌<◌, ◌≤◌, Bool, true, false, List, [], ◌∷◌, ◌++◌, All, codes, decimal, length, Option, Some, None, Result, Ok, unwrap_or, ◌==◌, if◌then◌else◌}
use Rattle.std.specs.List.{AllByRecursion}
use Rattle.std.specs.Int.{IsInRange}
use Rattle.std.specs.Str.Parse.{digits_value}
use Rattle.zt_keys.specs.Key.{is_blank}
use Rattle.zt_keys.specs.declared.error.KeyError.{KeyError}
use Rattle.zt_region.specs.declared.region.WhatAmI.{WhatAmI}
use Rattle.zt_region.specs.declared.region.WhatAmI.TheVariants.{Router, Peer, Client}
use Rattle.zt_region.specs.declared.region.Bound.{Bound}
use Rattle.zt_region.specs.declared.region.Bound.TheVariants as bound
use Rattle.zt_region.specs.declared.region.Region.{Region}
use Rattle.zt_region.specs.declared.region.Region.TheVariants.{North, Local, South}
use Rattle.zt_region.specs.declared.region.Zid.{Zid}
use Rattle.zt_protocol.specs.declared.interests.InterestMode.{InterestMode}
use Rattle.zt_protocol.specs.declared.interests.InterestOptions.{InterestOptions}
use Rattle.std.specs.Int.RustNames.{bit_and}
use Rattle.zt_protocol.specs.declared.interests.InterestMode.TheVariants.{Current, Future, CurrentFuture}
use Rattle.zt_protocol.specs.Interest.{has_bits}
use Rattle.zt_fields.specs.Fields.{parts_of, Fields}

-- ---- options and flags

abbrev pub letter_if : ℕ → ℕ → InterestOptions → List ℕ
letter_if bit letter options = if has_bits bit options then letter ∷ [] else []

-- `k`, `s`, `q`, `t` and `a`, as far as they are set
abbrev pub letters_of : InterestOptions → List ℕ
letters_of options = letter_if 1 107 options ++ (letter_if 2 115 options ++ (letter_if 4 113 options ++ (letter_if 8 116 options ++ letter_if 16 97 options)))

-- the letters, or `-` where none of the five is set
abbrev pub options_text : InterestOptions → List ℕ
options_text options = if bit_and options.0 31 == 0 then codes "-" else letters_of options

abbrev pub interest_mode_text : InterestMode → List ℕ
interest_mode_text Current = codes "current"
interest_mode_text Future = codes "future"
interest_mode_text CurrentFuture = codes "current-future"

abbrev pub flag_text : Bool → List ℕ
flag_text false = codes "0"
flag_text true = codes "1"

-- ---- values

-- the one spelling of a number of at most `most`
pub record IsNumber (most : ℕ) (text : List ℕ) (n : ℕ) : Type 0 where
  pub spelled : text ≡ decimal n
  pub within : n ≤ most

abbrev pub IsU16 : List ℕ → ℕ → Type 0
IsU16 text n = IsNumber 65535 text n

abbrev pub IsU32 : List ℕ → ℕ → Type 0
IsU32 text n = IsNumber 4294967295 text n

abbrev pub IsU64 : List ℕ → ℕ → Type 0
IsU64 text n = IsNumber 18446744073709551615 text n

-- an id to begin with
abbrev pub IsFirst : List ℕ → ℕ → Type 0
IsFirst text n = IsU32 text n × (0 < n)

abbrev pub mode_text : WhatAmI → List ℕ
mode_text Router = codes "router"
mode_text Peer = codes "peer"
mode_text Client = codes "client"

abbrev pub IsMode : List ℕ → WhatAmI → Type 0
IsMode text mode = text ≡ mode_text mode

abbrev pub bound_text : Bound → List ℕ
bound_text bound.North = codes "north"
bound_text bound.South = codes "south"

abbrev pub IsBound : List ℕ → Bound → Type 0
IsBound text bound = text ≡ bound_text bound

-- to the second gateway, or back
abbrev pub direction_text : Bool → List ℕ
direction_text false = codes "fwd"
direction_text true = codes "back"

abbrev pub IsDirection : List ℕ → Bool → Type 0
IsDirection text back = text ≡ direction_text back

abbrev pub IsInterestMode : List ℕ → InterestMode → Type 0
IsInterestMode text mode = text ≡ interest_mode_text mode

-- `-`, or the letters of the five options in their order
pub record IsOptions (text : List ℕ) (options : InterestOptions) : Type 0 where
  pub spelled : text ≡ options_text options
  pub known : options.0 < 32

-- one of `0-9a-f`
abbrev pub IsHexDigit : ℕ → Type 0
IsHexDigit b = IsInRange 48 57 b ⊎ IsInRange 97 102 b

-- 1 to 32 digits of `0-9a-f`, the first not `0`
pub record IsZid (text : List ℕ) (zid : Zid) : Type 0 where
  pub digits : AllByRecursion IsHexDigit text
  pub first : (first : ℕ) × (others : List ℕ) × (text ≡ first ∷ others) × (first ≢ 48)
  pub short : length text ≤ 32
  pub value : zid.0 ≡ digits_value 16 text

-- `north`, `local`, or `south` followed by a number, `-` and a mode
abbrev pub IsRegion : List ℕ → Region → Type 0
IsRegion text North = text ≡ codes "north"
IsRegion text Local = text ≡ codes "local"
IsRegion text (South id mode) =
    (rest number word : List ℕ) × (text ≡ codes "south" ++ rest) × (parts_of 45 rest ≡ number ∷ word ∷ []) × IsU32 number id × IsMode word mode

-- a nonempty run of bytes without blanks that the keys accept
pub record IsKey {K : Type 0} (reading : List ℕ → Result K KeyError) (text : List ℕ) (key : K) : Type 0 where
  pub nonempty : text ≢ []
  pub unblanked : All (λ b. is_blank b ≡ false) text
  pub accepted : reading text ≡ Ok key

-- ---- pairs and triples

-- two parts with `:` between them
abbrev pub IsPair : {A B : Type 0} → (List ℕ → A → Type 0) → (List ℕ → B → Type 0) → List ℕ → A × B → Type 0
IsPair One Two text pair = (a b : List ℕ) × (parts_of 58 text ≡ a ∷ b ∷ []) × One a pair.0 × Two b pair.1

abbrev pub IsTriple : {A B C : Type 0} → (List ℕ → A → Type 0) → (List ℕ → B → Type 0) → (List ℕ → C → Type 0) → List ℕ → A × B × C → Type 0
IsTriple One Two Three text triple = (a b c : List ℕ) × (parts_of 58 text ≡ a ∷ b ∷ c ∷ []) × One a triple.0 × Two b triple.1 × Three c triple.2

-- ---- fields that may be absent

-- no field and no value, or one field: the word, and the value's text behind it
abbrev pub MayStand : {A : Type 0} → List ℕ → (List ℕ → A → Type 0) → Fields → Option A → Type 0
MayStand word Is fields None = fields ≡ []
MayStand word Is fields (Some value) = (text : List ℕ) × (fields ≡ (word ++ text) ∷ []) × Is text value

-- the same, where an absent field stands for `absent`
abbrev pub StandsOr : {A : Type 0} → List ℕ → (List ℕ → A → Type 0) → A → Fields → A → Type 0
StandsOr {A} word Is absent fields value = (given : Option A) × MayStand word Is fields given × (value ≡ unwrap_or given absent)

abbrev pub IsFlag : List ℕ → Bool → Type 0
IsFlag text flag = text ≡ flag_text flag
