-- The chunks of a text, and which texts are key expressions.
use Rattle.std.specs.Prelude.{ℕ, ◌+◌, Bool, true, false, ◌&&◌, ◌||◌, not, cond, List, [], ◌∷◌, length, Option, Some, None, nat_lt, ◌==◌}
use Rattle.std.specs.List.{slice_split, list_any}
use Rattle.std.specs.Option.{option_map}
use Rattle.zt_keys.specs.declared.error.KeyError.{KeyError}
use Rattle.zt_keys.specs.declared.error.KeyError.TheVariants.{Empty, BadChunk, NotCanonical}

-- the chunks of a text, which `/` separates
abbrev pub chunks : List ℕ → List (List ℕ)
chunks text = slice_split (λ b. b == 47) text

-- no chunk has this byte: 0 to 32, 127, `#`, `$` or `?`
unfoldable pub is_forbidden : ℕ → Bool
is_forbidden b = nat_lt b 33 || b == 127 || b == 35 || b == 36 || b == 63

-- the byte `*`
abbrev pub is_star : ℕ → Bool
is_star b = b == 42

-- the chunk `**`
abbrev pub is_double : List ℕ → Bool
is_double [] = false
is_double (a ∷ []) = false
is_double (a ∷ b ∷ []) = is_star a && is_star b
is_double (a ∷ b ∷ c ∷ rest) = false

-- the chunk `*`
abbrev pub is_single : List ℕ → Bool
is_single [] = false
is_single (a ∷ []) = is_star a
is_single (a ∷ b ∷ rest) = false

-- the chunk `*` or `**`
abbrev pub is_wild : List ℕ → Bool
is_wild chunk = is_single chunk || is_double chunk

abbrev pub is_empty : List ℕ → Bool
is_empty [] = true
is_empty (b ∷ rest) = false

-- a chunk may stand in a key expression
abbrev pub is_good_chunk : List ℕ → Bool
is_good_chunk chunk = not (is_empty chunk) && not (list_any is_forbidden chunk) && (not (list_any is_star chunk) || is_wild chunk)

-- where the first chunk begins that isn't good; the first of all begins at `place`
unfoldable pub first_bad : ℕ → List (List ℕ) → Option ℕ
first_bad place [] = None
first_bad place (chunk ∷ rest) = cond (is_good_chunk chunk) (first_bad (place + length chunk + 1) rest) (Some place)

-- the first of these chunks is `*` or `**`
abbrev pub begins_wild : List (List ℕ) → Bool
begins_wild [] = false
begins_wild (chunk ∷ rest) = is_wild chunk

-- where the first `**` begins that a `*` or `**` follows at once
unfoldable pub first_loose : ℕ → List (List ℕ) → Option ℕ
first_loose place [] = None
first_loose place (chunk ∷ rest) = cond (is_double chunk && begins_wild rest) (Some place) (first_loose (place + length chunk + 1) rest)

abbrev pub bad_or : Option ℕ → Option ℕ → Option KeyError
bad_or (Some place) loose = Some (BadChunk place)
bad_or None loose = option_map NotCanonical loose

-- why a text is no key expression: the first broken rule, with its place
unfoldable pub refusal : List ℕ → Option KeyError
refusal [] = Some Empty
refusal (b ∷ rest) = bad_or (first_bad 0 (chunks (b ∷ rest))) (first_loose 0 (chunks (b ∷ rest)))
