-- The rule over the words, the value at home and all views.
-- The words are the length of the journal, how many numbers were drawn, and 1 while the lock is held. A
-- view is a list of parts: a pass is one part, one that has just drawn a number is two, and a spent view
-- has none.
use Rattle.std.specs.Prelude.{◌≡◌, ℕ, ◌+◌, ◌<◌, ◌≤◌, ◌⊎◌, true, false, List, [], ◌∷◌, length}
use Rattle.std.specs.List.{sum_by, AllByRecursion}
use mathlib.Core.Option.{Option, none, some}
use mathlib.Core.List.{IsPrefix}
use Rattle.atomic_table.specs.Table.{State}
use Rattle.zt_shared_value.specs.declared.part.Part.{Part}
use Rattle.zt_shared_value.specs.Owned.{below, owned}
use Rattle.zt_shared_value.specs.Views.{total, AllParts}

-- 1 for a part that holds the lock
abbrev pub held : {S : Type 0} → Part S → ℕ
held p = elim p.locked [ true ↦ 1 | false ↦ 0 ]

-- the part of the first pass: nothing was seen or entered
abbrev pub first_part : {S : Type 0} → S → Part S
first_part value = record {
  number = 0;
  seen = 0;
  known = 1;
  looks = [];
  drawn = [];
  opening = value;
  found = value;
  locked = false;
}

module _ {S E O : Type 0} (journal : S → List E) (author : E → ℕ) (state : S → O) where
  -- what one part knows of the journal `log`, of the count of numbers and of the value that all began
  -- with
  pub record Fits (first : S) (log : List E) (count : ℕ) (p : Part S) : Type 0 where
    pub below_known : p.number < p.known
    pub known_drawn : p.known ≤ count
    pub draws : AllByRecursion (λ n. (p.number < n) × (n < p.known)) p.drawn
    pub seen_long : p.seen ≤ length log
    pub looks_seen : AllByRecursion (λ n. n ≤ p.seen) p.looks
    pub begins : IsPrefix (journal p.found) log
    pub owns : owned author p.number log ≡ owned author p.number (journal p.found)
    pub opened : state p.opening ≡ state first
    pub opened_empty : journal p.opening ≡ []
    pub found_opened : state p.found ≡ state first
    pub holds_all : p.locked ≡ true → journal p.found ≡ log

  -- where the lock is free the value is at home and has the journal; else a seat has it
  abbrev pub Home : S → List E → ℕ → List (Option S) → Type 0
  Home first log lock homes =
      ((lock ≡ 0) × ((x : S) × (homes ≡ some x ∷ []) × (journal x ≡ log) × (state x ≡ state first)))
      ⊎ ((lock ≡ 1) × (homes ≡ none ∷ []))

  pub record IsShared (first : S) (s : State S (List (Part S))) : Type 0 where
    pub log : List E
    pub count : ℕ
    pub lock : ℕ
    pub words : s.words ≡ length log ∷ count ∷ lock ∷ []
    pub home : Home first log lock s.homes
    pub one_holder : total held s.views ≡ lock
    pub few : count ≤ 4294967295
    pub numbers : (f : ℕ → ℕ) → total (λ p. f p.number) s.views ≡ below f count
    pub all_drawn : (f : ℕ → ℕ) → total (λ p. sum_by f p.drawn) s.views + f 0 ≡ below f count
    pub authors : AllByRecursion (λ e. author e < count) log
    pub parts : AllParts (Fits first log count) s.views
