-- What is seen of a pass, and how it goes on.
use Rattle.std.specs.Prelude.{◌≡◌, ℕ, ◌+◌, ◌≤◌, false, List, [], ◌∷◌, ◌++◌, length, slice_get, Some}
use mathlib.Core.List.{IsPrefix}
use Rattle.atomic_table.specs.Seated.{TableId}
use Rattle.zt_shared_value.specs.declared.part.Part.{Part}
use Rattle.zt_shared_value.specs.Owned.{owned}

-- Which table it is a pass of; its number, how long it has seen the journal, the count of numbers that
-- it last found, the lengths that it read, the numbers that it drew for others, the value that all
-- passes began with, and the value as it was when this pass last had it.
pub record Standing (S : Type 0) : Type 0 where
  pub table : TableId
  pub number : ℕ
  pub seen : ℕ
  pub known : ℕ
  pub looks : List ℕ
  pub drawn : List ℕ
  pub opening : S
  pub found : S

module _ {S : Type 0} where
  abbrev pub standing : TableId → Part S → Standing S
  standing table p = record {
    table = table;
    number = p.number;
    seen = p.seen;
    known = p.known;
    looks = p.looks;
    drawn = p.drawn;
    opening = p.opening;
    found = p.found;
  }

  -- the part of a pass, which doesn't hold the lock
  abbrev pub part_of : Standing S → Part S
  part_of pass = record {
    number = pass.number;
    seen = pass.seen;
    known = pass.known;
    looks = pass.looks;
    drawn = pass.drawn;
    opening = pass.opening;
    found = pass.found;
    locked = false;
  }

  -- the first pass of a value
  abbrev pub first_pass : TableId → S → Standing S
  first_pass table value = record {
    table = table;
    number = 0;
    seen = 0;
    known = 1;
    looks = [];
    drawn = [];
    opening = value;
    found = value;
  }

  -- the pass that is made with a number: it has seen what the given one has, and entered nothing
  abbrev pub made_pass : ℕ → Standing S → Standing S
  made_pass number pass = record {
    table = pass.table;
    number = number;
    seen = pass.seen;
    known = number + 1;
    looks = [];
    drawn = [];
    opening = pass.opening;
    found = pass.opening;
  }

  -- a number was drawn by the pass, which keeps it
  abbrev pub pass_drawn : ℕ → Standing S → Standing S
  pass_drawn number pass = record pass { known = number + 1; drawn = pass.drawn ++ number ∷ [] }

  -- the pass has found that so many numbers were drawn
  abbrev pub pass_counted : ℕ → Standing S → Standing S
  pass_counted count pass = record pass { known = count }

  -- the pass has read that the journal is this long
  abbrev pub pass_looked : ℕ → Standing S → Standing S
  pass_looked length pass = record pass { seen = length; looks = pass.looks ++ length ∷ [] }

module _ {S E : Type 0} (journal : S → List E) (author : E → ℕ) where
  -- the entries of a pass, each with its place, oldest first
  abbrev pub mine : Standing S → List (ℕ × E)
  mine pass = owned author pass.number (journal pass.found)

  -- The pass had the value, which goes on from what the pass had found before: the pass's entries stand
  -- at their places, and there is no other of its number.
  pub record Finds (before : Standing S) (found : S) : Type 0 where
    pub begins : IsPrefix (journal before.found) (journal found)
    pub mine_same : owned author before.number (journal found) ≡ mine before
    pub mine_stands : (k place : ℕ) (entry : E) → slice_get (mine before) k ≡ Some (place, entry)
        → slice_get (journal found) place ≡ Some entry
    pub seen_long : before.seen ≤ length (journal found)

  -- The pass found a value and added the entry to its journal.
  pub record Adds (before after : Standing S) (place : ℕ) (entry : E) : Type 0 where
    pub found : S
    pub finds : Finds before found
    pub placed : place ≡ length (journal found)
    pub added : journal after.found ≡ journal found ++ entry ∷ []
    pub mine_more : mine after ≡ mine before ++ (place, entry) ∷ []
    pub rest : after ≡ record before { seen = place + 1; found = after.found }
