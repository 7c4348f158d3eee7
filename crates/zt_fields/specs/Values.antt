-- What a field is read as.
use Rattle.std.specs.Prelude.{ℕ, ◌+◌, Bool, true, false, not, ◌==◌, nat_lt, if◌then◌else◌, List, [], ◌∷◌, codes, Option, Some, None, Result, Ok, Err, option_map, option_and_then}
use Rattle.std.specs.List.{list_any}
use Rattle.std.specs.Str.{bytes_eq}
use Rattle.zt_keys.specs.Key.{is_blank}
use Rattle.zt_keys.specs.declared.error.KeyError.{KeyError}
use Rattle.zt_region.specs.declared.region.WhatAmI.{WhatAmI}
use Rattle.zt_region.specs.declared.region.WhatAmI.TheVariants.{Router, Peer, Client}
use Rattle.zt_region.specs.declared.region.Bound.{Bound}
use Rattle.zt_region.specs.declared.region.Bound.TheVariants as bound
use Rattle.zt_region.specs.declared.region.Zid.{Zid}
use Rattle.zt_protocol.specs.declared.errors.LineError.{LineError}
use Rattle.zt_protocol.specs.declared.errors.LineError.TheVariants as errors
use Rattle.zt_protocol.specs.declared.interests.InterestMode.{InterestMode}
use Rattle.zt_protocol.specs.declared.interests.InterestMode.TheVariants.{Current, Future, CurrentFuture}
use Rattle.zt_protocol.specs.declared.interests.InterestOptions.{InterestOptions}
use Rattle.zt_region.specs.declared.region.Region.{Region}
use Rattle.zt_region.specs.declared.region.Region.TheVariants.{North, Local, South}
use Rattle.zt_fields.specs.Numbers.{hex_number, u32_of}
use Rattle.zt_fields.specs.Fields.{parts_of, two_of, three_of, behind}

abbrev pub mode_of : List ℕ → Option WhatAmI
mode_of text =
    if bytes_eq text (codes "router") then Some Router
    else if bytes_eq text (codes "peer") then Some Peer
    else if bytes_eq text (codes "client") then Some Client
    else None

abbrev pub bound_of : List ℕ → Option Bound
bound_of text =
    if bytes_eq text (codes "north") then Some bound.North
    else if bytes_eq text (codes "south") then Some bound.South
    else None

-- whether a direction is back
abbrev pub direction_of : List ℕ → Option Bool
direction_of text =
    if bytes_eq text (codes "fwd") then Some false
    else if bytes_eq text (codes "back") then Some true
    else None

abbrev pub interest_mode_of : List ℕ → Option InterestMode
interest_mode_of text =
    if bytes_eq text (codes "current") then Some Current
    else if bytes_eq text (codes "future") then Some Future
    else if bytes_eq text (codes "current-future") then Some CurrentFuture
    else None

abbrev pub flag_of : List ℕ → Option Bool
flag_of text =
    if bytes_eq text (codes "0") then Some false
    else if bytes_eq text (codes "1") then Some true
    else None

abbrev pub zid_of : List ℕ → Option Zid
zid_of text = option_map (λ n. record { 0 = n }) (hex_number text)

-- an id that a face may begin with
abbrev pub first_of : List ℕ → Option ℕ
first_of text = option_and_then (λ n. if nat_lt 0 n then Some n else None) (u32_of text)

-- ---- options

-- what a letter stands for: `k`, `s`, `q`, `t` and `a`
abbrev pub letter_bit : ℕ → Option ℕ
letter_bit b =
    if b == 107 then Some 1
    else if b == 115 then Some 2
    else if b == 113 then Some 4
    else if b == 116 then Some 8
    else if b == 97 then Some 16
    else None

-- Letters behind those of `bits`. Each stands for more than all letters before it.
abbrev pub letters_after : ℕ → List ℕ → Option ℕ
letters_after bits [] = Some bits
letters_after bits (b ∷ bs) = option_and_then (λ bit. if nat_lt bits bit then letters_after (bits + bit) bs else None) (letter_bit b)

abbrev pub options_of : List ℕ → Option InterestOptions
options_of [] = None
options_of (b ∷ bs) = if bytes_eq (b ∷ bs) (codes "-") then Some (record { 0 = 0 }) else option_map (λ bits. record { 0 = bits }) (letters_after 0 (b ∷ bs))

-- ---- keys

-- a run of bytes that no blank cuts
abbrev pub is_key_text : List ℕ → Bool
is_key_text [] = false
is_key_text (b ∷ bs) = not (list_any is_blank (b ∷ bs))

abbrev pub key_or_bad : {K : Type 0} → Result K KeyError → Result K LineError
key_or_bad (Ok key) = Ok key
key_or_bad (Err e) = Err errors.NotInGrammar

abbrev pub key_read : {K : Type 0} → (List ℕ → Result K KeyError) → List ℕ → Result K LineError
key_read reading text = if is_key_text text then key_or_bad (reading text) else Err errors.NotInGrammar

-- ---- regions

abbrev pub south_parts : Option (List ℕ × List ℕ) → Option Region
south_parts None = None
south_parts (Some (number, mode)) = option_and_then (λ id. option_map (λ m. South id m) (mode_of mode)) (u32_of number)

-- `south`, a number, `-` and a mode
abbrev pub south_of : Option (List ℕ) → Option Region
south_of None = None
south_of (Some rest) = south_parts (two_of (parts_of 45 rest))

unfoldable pub region_of : List ℕ → Option Region
region_of text =
    if bytes_eq text (codes "north") then Some North
    else if bytes_eq text (codes "local") then Some Local
    else south_of (behind (codes "south") text)

-- ---- pairs and triples with `:` between

abbrev pub pair_by : {A B : Type 0} → (List ℕ → Option A) → (List ℕ → Option B) → Option (List ℕ × List ℕ) → Option (A × B)
pair_by one two None = None
pair_by one two (Some (a, b)) = option_and_then (λ x. option_map (λ y. (x, y)) (two b)) (one a)

abbrev pub pair_of : {A B : Type 0} → (List ℕ → Option A) → (List ℕ → Option B) → List ℕ → Option (A × B)
pair_of one two text = pair_by one two (two_of (parts_of 58 text))

abbrev pub triple_by : {A B C : Type 0} → (List ℕ → Option A) → (List ℕ → Option B) → (List ℕ → Option C) → Option (List ℕ × List ℕ × List ℕ) → Option (A × B × C)
triple_by one two three None = None
triple_by one two three (Some (a, b, c)) = option_and_then (λ x. option_and_then (λ y. option_map (λ z. (x, y, z)) (three c)) (two b)) (one a)

abbrev pub triple_of : {A B C : Type 0} → (List ℕ → Option A) → (List ℕ → Option B) → (List ℕ → Option C) → List ℕ → Option (A × B × C)
triple_of one two three text = triple_by one two three (three_of (parts_of 58 text))
