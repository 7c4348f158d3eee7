-- The parts of the passes that are handed in, when they are joined.
use Rattle.std.specs.Prelude.{◌≡◌, ℕ, ◌<◌, ◌≤◌, false, List, [], length}
use Rattle.std.specs.List.{sum_by, AllByRecursion}
use Rattle.zt_shared_value.specs.declared.part.Part.{Part}
use Rattle.zt_shared_value.specs.Owned.{below}
use Rattle.zt_shared_value.specs.Plays.{Sat}
use Rattle.zt_shared_value.specs.Rule.{Fits}

-- a pass that is handed in: it found no more numbers than n, and doesn't hold the lock
abbrev pub Handed : {S : Type 0} → ℕ → Part S → Type 0
Handed n p = (p.known ≤ n) × (p.locked ≡ false)

-- as many passes as there are numbers that any of them found
pub record AreAllHanded {S : Type 0} (me : Sat S) : Type 0 where
  pub carries_none : me.1 ≡ []
  pub some_handed : 0 < length me.0
  pub handed : AllByRecursion (Handed (length me.0)) me.0

module _ {S E O : Type 0} (journal : S → List E) (author : E → ℕ) (state : S → O) where
  -- the value comes from a table that the parts were all of
  pub record IsLeft (value : S) (parts : List (Part S)) : Type 0 where
    pub first : S
    pub opened_first : state value ≡ state first
    pub fits : AllByRecursion (Fits journal author state first (journal value) (length parts)) parts
    pub numbers : (f : ℕ → ℕ) → sum_by (λ p. f p.number) parts ≡ below f (length parts)
    pub authors : AllByRecursion (λ e. author e < length parts) (journal value)
