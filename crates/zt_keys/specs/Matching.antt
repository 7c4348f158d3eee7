-- Whether two key expressions match: some plain list of chunks is a member of both.
use Rattle.std.specs.Prelude.{◌≡◌, ℕ, Bool, true, false, ◌&&◌, not, List, [], ◌∷◌, ◌++◌, map, length}
use Rattle.std.specs.Bool.{MatchBool}
use Rattle.std.specs.List.{list_any, list_all}
use Rattle.zt_keys.specs.Chunks.{chunks, is_double, is_single, is_star, is_good_chunk}
use Rattle.zt_keys.specs.Parts.{Part, part_of, parts_match, is_marked}
use Rattle.zt_keys.specs.Expression.{Expression}

-- none of these chunks begins with `@`
abbrev pub AreFree : List (List ℕ) → Type 0
AreFree taken = list_any is_marked taken ≡ false

-- a chunk of an expression takes these chunks: `**` zero or more and `*` exactly one, none of which begins with `@`; another chunk takes itself
abbrev pub Takes : List ℕ → List (List ℕ) → Type 0
Takes chunk taken = MatchBool (is_double chunk) (AreFree taken) (MatchBool (is_single chunk) (AreFree taken × (length taken ≡ 1)) (taken ≡ chunk ∷ []))

-- a plain list of chunks is a member of an expression with these chunks
abbrev pub IsMember : List (List ℕ) → List (List ℕ) → Type 0
IsMember plain [] = plain ≡ []
IsMember plain (chunk ∷ rest) = (taken : List (List ℕ)) × (left : List (List ℕ)) × (plain ≡ taken ++ left) × Takes chunk taken × IsMember left rest

-- a chunk that may stand in a key expression and has no wildcard
abbrev pub is_plain_chunk : List ℕ → Bool
is_plain_chunk chunk = is_good_chunk chunk && not (list_any is_star chunk)

abbrev pub ArePlain : List (List ℕ) → Type 0
ArePlain chunks = list_all is_plain_chunk chunks ≡ true

-- some plain list is a member of both expressions
abbrev pub Intersect : List (List ℕ) → List (List ℕ) → Type 0
Intersect a b = (plain : List (List ℕ)) × ArePlain plain × IsMember plain a × IsMember plain b

abbrev pub parts : List ℕ → List Part
parts text = map part_of (chunks text)

-- whether two key expressions match
unfoldable pub matching : Expression → Expression → Bool
matching a b = parts_match (parts a.bytes) (parts b.bytes)
