-- What the chunks of a key expression stand for.
use Rattle.std.specs.Prelude.{ℕ, Bool, true, false, List, [], ◌∷◌, nat_eq, ◌==◌, cond}
use Rattle.std.specs.Cmp.Lexicographic.{pointwise}
use Rattle.zt_keys.specs.Chunks.{is_double, is_single}

-- the chunk begins with `@`, so that no wildcard takes it
abbrev pub is_marked : List ℕ → Bool
is_marked [] = false
is_marked (b ∷ rest) = b == 64

-- `**`, `*`, a chunk that begins with `@`, another chunk
pub data Part : Type 0 where
  many : Part
  one : Part
  marked : List ℕ → Part
  plain : List ℕ → Part

unfoldable pub part_of : List ℕ → Part
part_of chunk = cond (is_double chunk) many (cond (is_single chunk) one (cond (is_marked chunk) (marked chunk) (plain chunk)))

abbrev pub is_many : Part → Bool
is_many many = true
is_many one = false
is_many (marked chunk) = false
is_many (plain chunk) = false

-- a wildcard may take what stands here
abbrev pub is_free : Part → Bool
is_free many = true
is_free one = true
is_free (marked chunk) = false
is_free (plain chunk) = true

abbrev meets_one : Part → Bool
meets_one many = false
meets_one one = true
meets_one (marked chunk) = false
meets_one (plain chunk) = true

abbrev meets_marked : List ℕ → Part → Bool
meets_marked chunk many = false
meets_marked chunk one = false
meets_marked chunk (marked other) = pointwise nat_eq chunk other
meets_marked chunk (plain other) = false

abbrev meets_plain : List ℕ → Part → Bool
meets_plain chunk many = false
meets_plain chunk one = true
meets_plain chunk (marked other) = false
meets_plain chunk (plain other) = pointwise nat_eq chunk other

-- some chunk is taken by both, neither of which is `**`
abbrev pub meets : Part → Part → Bool
meets many y = false
meets one y = meets_one y
meets (marked chunk) y = meets_marked chunk y
meets (plain chunk) y = meets_plain chunk y

-- `||`, `&&` and a choice that compute no more than they need
abbrev pub or_later : Bool → (Unit {0} → Bool) → Bool
or_later true later = true
or_later false later = later tt

abbrev pub and_later : Bool → (Unit {0} → Bool) → Bool
and_later true later = later tt
and_later false later = false

abbrev pub choose : Bool → (Unit {0} → Bool) → (Unit {0} → Bool) → Bool
choose true first second = first tt
choose false first second = second tt

-- `**` before what `rest` tests: it takes nothing, or one part of `ys` more
abbrev pub behind_many : (List Part → Bool) → List Part → Bool
behind_many rest [] = rest []
behind_many rest (y ∷ ys) = or_later (rest (y ∷ ys)) (λ _. and_later (is_free y) (λ _. behind_many rest ys))

-- another part `x` before what `rest` tests
abbrev pub behind_single : (List Part → Bool) → Part → List Part → Bool
behind_single rest x [] = false
behind_single rest x (y ∷ ys) =
    choose (is_many y)
    (λ _. or_later (behind_single rest x ys) (λ _. and_later (is_free x) (λ _. rest (y ∷ ys))))
    (λ _. and_later (meets x y) (λ _. rest ys))

abbrev pub all_many : List Part → Bool
all_many [] = true
all_many (y ∷ ys) = and_later (is_many y) (λ _. all_many ys)

-- whether two expressions match, part by part
unfoldable pub parts_match : List Part → List Part → Bool
parts_match [] ys = all_many ys
parts_match (x ∷ xs) ys = choose (is_many x) (λ _. behind_many (parts_match xs) ys) (λ _. behind_single (parts_match xs) x ys)
