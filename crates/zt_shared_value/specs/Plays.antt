-- What each step tells its caller, of the seat before, the word found and the seat after.
use Rattle.std.specs.Prelude.{◌≡◌, ℕ, ◌+◌, ◌==◌, ◌<◌, ◌≤◌, true, false, List, [], ◌∷◌, ◌++◌, length, MatchBool}
use mathlib.Core.List.{IsPrefix}
use Rattle.atomic_table.specs.Table.{Me, Step}
use Rattle.zt_shared_value.specs.declared.part.Part.{Part}
use Rattle.zt_shared_value.specs.Owned.{owned}

-- what a seat knows, and the value that it has taken
abbrev pub Sat : Type 0 → Type 0
Sat S = Me S (List (Part S))

module _ {S : Type 0} where
  -- a pass that doesn't hold the lock
  abbrev pub alone : Part S → Sat S
  alone p = (p ∷ [], [])

  -- a pass that holds the lock and the value
  abbrev pub holding : Part S → S → Sat S
  holding p x = (p ∷ [], (0, x) ∷ [])

  abbrev pub part_looked : ℕ → Part S → Part S
  part_looked length p = record p { seen = length; looks = p.looks ++ length ∷ [] }

  abbrev pub part_locked : S → Part S → Part S
  part_locked x p = record p { found = x; locked = true }

  abbrev pub part_entered : ℕ → S → Part S → Part S
  part_entered length x p = record p { found = x; seen = length }

  abbrev pub part_released : Part S → Part S
  part_released p = record p { locked = false }

  -- the pass had the lock, and left the value so
  abbrev pub part_left : ℕ → S → Part S → Part S
  part_left seen x p = record p { found = x; seen = seen; locked = false }

  abbrev pub part_counted : ℕ → Part S → Part S
  part_counted count p = record p { known = count }

  -- the given pass keeps the number as drawn
  abbrev pub part_drawn : ℕ → Part S → Part S
  part_drawn number p = record p { known = number + 1; drawn = p.drawn ++ number ∷ [] }

  -- the pass with the number that was drawn
  abbrev pub part_made : ℕ → Part S → Part S
  part_made number p = record {
    number = number;
    seen = p.seen;
    known = number + 1;
    looks = [];
    drawn = [];
    opening = p.opening;
    found = p.opening;
    locked = false;
  }

  -- the lock was given back, with the value
  abbrev pub Released : Step S → Sat S → ℕ → Sat S → Type 0
  Released step before word after = (p : Part S) (x : S) → before ≡ holding p x
      → after ≡ alone (part_released p)

  -- the count that was known is drawn as a number, or another count was found
  abbrev pub Drew : Step S → Sat S → ℕ → Sat S → Type 0
  Drew step before word after = (p : Part S) → before ≡ alone p
      → MatchBool (word == step.first)
      (after ≡ (part_drawn step.first p ∷ part_made step.first p ∷ [], []))
      ((after ≡ alone (part_counted word p)) × (p.known < word) × (word ≤ 4294967295))

  -- the count of numbers was read
  abbrev pub Counted : Step S → Sat S → ℕ → Sat S → Type 0
  Counted step before word after = (p : Part S) → before ≡ alone p
      → (after ≡ alone (part_counted word p)) × (p.known ≤ word) × (word ≤ 4294967295)

module _ {S E O : Type 0} (journal : S → List E) (author : E → ℕ) (state : S → O) where
  -- the value goes on from what the pass had found, and has no other entry of it
  pub record Continues (x : S) (p : Part S) : Type 0 where
    pub begins : IsPrefix (journal p.found) (journal x)
    pub owns : owned author p.number (journal x) ≡ owned author p.number (journal p.found)
    pub seen_long : p.seen ≤ length (journal x)
    pub opened : state x ≡ state p.opening

  -- the lock was taken, with the value, or was held by another
  abbrev pub Took : Step S → Sat S → ℕ → Sat S → Type 0
  Took step before word after = (p : Part S) → before ≡ alone p
      → MatchBool (word == 0)
      ((x : S) × (after ≡ holding (part_locked x p) x) × Continues x p)
      (after ≡ alone p)

  -- the value's new journal is published, and the pass knows it
  abbrev pub Published : Step S → Sat S → ℕ → Sat S → Type 0
  Published step before word after = (p : Part S) (x : S) → before ≡ holding p x
      → (after ≡ holding (part_entered (word + 1) x p) x)
      × (word ≡ length (journal p.found)) × (p.seen ≤ word)

  -- the length of the journal was read
  abbrev pub Looked : Step S → Sat S → ℕ → Sat S → Type 0
  Looked step before word after = (p : Part S) → before.0 ≡ p ∷ []
      → (after ≡ (part_looked word p ∷ [], before.1)) × (p.seen ≤ word)
      × (p.locked ≡ true → word ≡ length (journal p.found))
