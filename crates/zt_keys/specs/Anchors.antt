-- The numbers by which key expressions are told apart.
use Rattle.std.specs.Prelude.{ℕ, List, [], ◌∷◌, ◌++◌, Option, Some, None, cond}
use Rattle.std.specs.Hash.DefaultHasher as sip
use Rattle.std.specs.List.{list_any}
use Rattle.zt_keys.specs.declared.anchor.Anchor.{Anchor}
use Rattle.zt_keys.specs.declared.anchor.Anchor.TheVariants.{Whole, First, FirstTwo, Last}
use Rattle.zt_keys.specs.Chunks.{chunks, is_star}
use Rattle.zt_keys.specs.Expression.{Expression}

-- the hash of a text: SipHash of its bytes
unfoldable pub hash_of : List ℕ → ℕ
hash_of text = sip.finish (sip.write sip.initial text)

-- a number of a text, or `None` where it has a `*`
abbrev pub number_of : List ℕ → Option ℕ
number_of text = cond (list_any is_star text) None (Some (hash_of text))

-- the first of these chunks
abbrev pub first_chunk : List (List ℕ) → List ℕ
first_chunk [] = []
first_chunk (chunk ∷ rest) = chunk

-- the first two of these chunks with the `/` between them, or the only one
abbrev pub first_two : List (List ℕ) → List ℕ
first_two [] = []
first_two (chunk ∷ []) = chunk
first_two (chunk ∷ next ∷ rest) = chunk ++ 47 ∷ next

abbrev pub last_from : List ℕ → List (List ℕ) → List ℕ
last_from chunk [] = chunk
last_from chunk (next ∷ rest) = last_from next rest

-- the last of these chunks
abbrev pub last_chunk : List (List ℕ) → List ℕ
last_chunk [] = []
last_chunk (chunk ∷ rest) = last_from chunk rest

-- the number that a key expression has at an anchor: that of all its text, of its first chunk, of its first two or of its last chunk, unless a `*` stands there
unfoldable pub anchored : Anchor → Expression → Option ℕ
anchored Whole key = number_of key.bytes
anchored First key = number_of (first_chunk (chunks key.bytes))
anchored FirstTwo key = number_of (first_two (chunks key.bytes))
anchored Last key = number_of (last_chunk (chunks key.bytes))
