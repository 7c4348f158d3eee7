-- What comes of a turn with the lock.
use Rattle.std.specs.Prelude.{◌≡◌, ℕ, ◌+◌, ◌<◌, ◌^◌, List, [], ◌∷◌, ◌++◌, length}
use Rattle.zt_shared_value.specs.declared.part.Part.{Part}
use Rattle.zt_shared_value.specs.Plays.{Sat, alone, part_left, part_looked, Continues}

module _ {S E O : Type 0} (journal : S → List E) (author : E → ℕ) (state : S → O) where
  -- the pass had the value, and left it with one entry more
  pub record Entered (p : Part S) (after : Sat S) (place : ℕ) (entry : E) : Type 0 where
    pub taken : S
    pub left : S
    pub continues : Continues journal author state taken p
    pub placed : place ≡ length (journal taken)
    pub added : journal left ≡ journal taken ++ entry ∷ []
    pub opened : state left ≡ state p.opening
    pub room : place + 1 < 2 ^ 64
    pub is : after ≡ alone (part_left (place + 1) left p)

  -- the pass had the value, and left its journal as it was
  pub record WasIn (p : Part S) (after : Sat S) : Type 0 where
    pub taken : S
    pub continues : Continues journal author state taken p
    pub is : after ≡ alone (part_left p.seen taken p)

  -- the pass had the value, and read the length of its journal
  pub record HasRead (p : Part S) (after : Sat S) (long : ℕ) : Type 0 where
    pub taken : S
    pub continues : Continues journal author state taken p
    pub whole : long ≡ length (journal taken)
    pub is : after ≡ alone (part_looked long (part_left p.seen taken p))
