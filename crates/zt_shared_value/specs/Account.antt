-- What the value that comes out of a table says of the passes that were handed in.
use Rattle.std.specs.Prelude.{◌≡◌, ℕ, ◌<◌, ◌≤◌, List, ◌∷◌, drop, length, slice_get, take, Some}
use Rattle.std.specs.List.{sum_by, AllByRecursion}
use mathlib.Core.List.{IsPrefix}
use Rattle.zt_shared_value.specs.Owned.{below, owned}
use Rattle.zt_shared_value.specs.Passes.{Standing, mine, pass_counted}

-- the pass may have found how many numbers were drawn, and nothing else of it changed
abbrev pub IsCounted : {S : Type 0} → Standing S → Standing S → Type 0
IsCounted before after = (after ≡ pass_counted after.known before) × (before.known ≤ after.known)

-- A pass found this count, which is more than `most`: those before it found no more than that, and those behind it are as
-- they were.
pub record IsFoundIn {S : Type 0} (most count : ℕ) (before after : List (Standing S)) : Type 0 where
  pub place : ℕ
  pub pass : Standing S
  pub rest : List (Standing S)
  pub stood : drop place before ≡ pass ∷ rest
  pub found : drop place after ≡ pass_counted count pass ∷ rest
  pub fewer : AllByRecursion (λ pass. pass.known ≤ most) (take place after)
  pub more : most < count

-- no pass is missing: none found more numbers than there are passes, or drew one past theirs
abbrev pub IsComplete : {S : Type 0} → List (Standing S) → Type 0
IsComplete passes = AllByRecursion (λ pass. (pass.known ≤ length passes)
    × AllByRecursion (λ number. number < length passes) pass.drawn) passes

module _ {S E O : Type 0} (journal : S → List E) (author : E → ℕ) (state : S → O) where
  -- The value's journal accounts for the pass: it begins with what the pass found, the entries with its
  -- number are the pass's own and stand at their places, and it is as long as the pass has ever seen.
  pub record Accounts (value : S) (pass : Standing S) : Type 0 where
    pub begins : IsPrefix (journal pass.found) (journal value)
    pub mine_whole : owned author pass.number (journal value) ≡ mine journal author pass
    pub mine_stands : (k place : ℕ) (entry : E)
        → slice_get (mine journal author pass) k ≡ Some (place, entry)
        → slice_get (journal value) place ≡ Some entry
    pub opened : state value ≡ state pass.opening
    pub seen_long : pass.seen ≤ length (journal value)
    pub looks_long : AllByRecursion (λ n. n ≤ length (journal value)) pass.looks

  -- It accounts for each of the passes, they have the numbers from 0 on, each once, and all entries
  -- are theirs.
  pub record AccountsForAll (value : S) (passes : List (Standing S)) : Type 0 where
    pub each : AllByRecursion (Accounts value) passes
    pub numbers : (f : ℕ → ℕ) → sum_by (λ pass. f pass.number) passes ≡ below f (length passes)
    pub authors : AllByRecursion (λ entry. author entry < length passes) (journal value)
    pub lengths : sum_by (λ pass. length (mine journal author pass)) passes ≡ length (journal value)
