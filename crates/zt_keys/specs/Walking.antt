-- How two expressions are walked. No public clause rests on this: proofs/Passing.antt shows that the walk finds whether they match.
use Rattle.std.specs.Prelude.{◌≡◌, ◌≤◌, ◌==◌, ℕ, suc, length, map, IfSome, MatchOption, Bool, true, false, cond, ◌||◌, List, [], ◌∷◌, Option, Some, None}
use Rattle.std.specs.Option.{option_or}
use Rattle.std.specs.List.{onto_first}
use Rattle.std.specs.Borrow.{Bor}
use Rattle.zt_keys.specs.Parts.{Part, part_of, is_many, is_free, meets, parts_match}

abbrev pub is_slash : ℕ → Bool
is_slash b = b == 47

-- what follows the last `**` before the first chunk that begins with `@`
abbrev pub last_many : List Part → Option (List Part)
last_many [] = None
last_many (x ∷ xs) = cond (is_free x) (option_or (last_many xs) (cond (is_many x) (Some xs) None)) None

-- how many parts stand before the first chunk that begins with `@`
abbrev pub width : List Part → ℕ
width [] = 0
width (x ∷ xs) = cond (is_free x) (suc (width xs)) 0

-- what follows the `**` that comes next
abbrev pub after_many : List Part → Option (List Part)
after_many [] = None
after_many (x ∷ xs) = cond (is_many x) (Some xs) None

-- nothing is left, or `**` comes next
abbrev pub stops : List Part → Bool
stops [] = true
stops (x ∷ xs) = is_many x

-- both without the parts at their fronts that meet one by one, where the first `**` or the end of both follows these
abbrev pub strip : List Part → List Part → Option (List Part × List Part)
strip [] [] = Some ([], [])
strip [] (y ∷ ys) = cond (is_many y) (Some ([], y ∷ ys)) None
strip (x ∷ xs) [] = cond (is_many x) (Some (x ∷ xs, [])) None
strip (x ∷ xs) (y ∷ ys) = cond (is_many x || is_many y) (Some (x ∷ xs, y ∷ ys)) (cond (meets x y) (strip xs ys) None)

-- the same at the first place of the second that what follows a `**` of the first fits
abbrev pub find_place : List Part → List Part → Option (List Part × List Part)
find_place xs [] = strip xs []
find_place xs (y ∷ ys) = option_or (strip xs (y ∷ ys)) (cond (is_free y) (find_place xs ys) None)

-- the chunks of a text of which each ends at a `/` or at the text's end
abbrev pub pieces : List ℕ → List (List ℕ)
pieces [] = []
pieces (b ∷ bytes) = cond (b == 47) ([] ∷ pieces bytes) (onto_first b (pieces bytes))

-- what they stand for
abbrev pub walked : List ℕ → List Part
walked bytes = map part_of (pieces bytes)

abbrev pub walked_one : Bor (List ℕ) → List Part
walked_one rest = walked rest.now

abbrev pub walked_two : Bor (List ℕ) × Bor (List ℕ) → List Part × List Part
walked_two rest = (walked rest.0.now, walked rest.1.now)

-- an answer goes on with no more than these many bytes
abbrev pub NoLonger : Option (Bor (List ℕ) × Bor (List ℕ)) → List ℕ → List ℕ → Type 0
NoLonger answer first second = IfSome answer (λ rest. (length rest.0.now ≤ length first) × (length rest.1.now ≤ length second))

-- whether the expressions `xs` and `ys` match is whether what is left does, or they don't
abbrev pub GoesOn : Option (Bor (List ℕ) × Bor (List ℕ)) → List Part → List Part → Type 0
GoesOn answer xs ys = MatchOption answer (parts_match xs ys ≡ false) (λ rest. parts_match xs ys ≡ parts_match (walked rest.0.now) (walked rest.1.now))
