-- Copies of entries.
use Rattle.std.specs.Prelude.{◌≡◌, ℕ, ◌≤◌, List, length, slice_get, Option, Some, MatchOption}

-- a copy of the entry at the place, or none where the journal is no longer
abbrev pub Copies : {S E C : Type 0} → (S → List E) → (E → C → Type 0) → S → ℕ → Option C → Type 0
Copies {E = E} journal shows x place found = MatchOption found
    (length (journal x) ≤ place)
    (λ copy. (entry : E) × (slice_get (journal x) place ≡ Some entry) × shows entry copy)
