-- The steps, at a seat of which it is said what it knows.
use Rattle.std.proofs.Common.{◌≡◌, ℕ, ◌+◌, ◌%◌, ◌^◌, ◌<◌, ◌==◌, ◌≢◌, Bool, List, [], ◌∷◌, sym, subst}
use Rattle.std.specs.Prelude.{MatchBool}
use Rattle.std.proofs.lemmas.Bool.{eq-eqb, ne_eqb}
use mathlib.Core.Option.{none}
use prog.Atomic.{either}
use Rattle.atomic_table.specs.Table.{State, step, Allows, opening}
use Rattle.zt_shared_value.specs.declared.part.Part.{Part}
use Rattle.zt_shared_value.specs.Rule.{IsShared, first_part}
use Rattle.zt_shared_value.specs.Plays.{Sat, alone, Took, Published, Released, Looked, Drew, Counted}
use Rattle.zt_shared_value.specs.Seats.{IsFree, IsAhead, MayRelease}
use Rattle.zt_shared_value.proofs.Stepping.{locks, publishes, releases, looks, counts, draws_one, starts}

module _ {S E O : Type 0} (journal : S → List E) (author : E → ℕ) (state : S → O) (first : S) (slots id : ℕ) where
  abbrev Rule : State S (List (Part S)) → Type 0
  Rule = IsShared journal author state first

  pub locks_at : (me : Sat S) → IsFree me
      → Allows Rule slots id me 2 (λ n. either (n == 0) 1 n) (Took journal author state (step slots 2 0 1 none) me)
  locks_at me free = subst (λ (m : Sat S). Allows Rule slots id m 2 (λ n. either (n == 0) 1 n) (Took journal author state (step slots 2 0 1 none) m))
      (sym free.1) (locks journal author state first slots id free.0 free.2)

  pub looks_at : (me : Sat S) → ((p : Part S) × (me.0 ≡ p ∷ []))
      → Allows Rule slots id me 0 (λ n. n) (Looked journal author state (step slots 0 0 0 none) me)
  looks_at me one = let F : List (Part S) → Type 0 = λ v. Allows Rule slots id (v, me.1) 0 (λ n. n) (Looked journal author state (step slots 0 0 0 none) (v, me.1)) in
      subst F (sym one.1) (looks journal author state first slots id one.0 me.1)

  pub publishes_at : (me : Sat S) → IsAhead journal author state me
      → Allows Rule slots id me 0 (λ n. (n + 1) % 2 ^ 64) (Published journal author state (step slots 0 1 0 none) me)
  publishes_at me ahead = subst (λ (m : Sat S). Allows Rule slots id m 0 (λ n. (n + 1) % 2 ^ 64) (Published journal author state (step slots 0 1 0 none) m))
      (sym ahead.is) (publishes journal author state first slots id ahead.part ahead.value ahead.entry ahead.locked ahead.grown ahead.by ahead.opened ahead.room)

  pub releases_at : (me : Sat S) → MayRelease journal state me
      → Allows Rule slots id me 2 (λ _. 0) (Released (step slots 2 0 0 none) me)
  releases_at me may = subst (λ (m : Sat S). Allows Rule slots id m 2 (λ _. 0) (Released (step slots 2 0 0 none) m))
      (sym may.is) (releases journal author state first slots id may.part may.value may.locked may.kept may.opened)

  pub counts_at : (me : Sat S) → ((p : Part S) × (me ≡ alone p))
      → Allows Rule slots id me 1 (λ n. n) (Counted (step slots 1 0 0 none) me)
  counts_at me one = subst (λ (m : Sat S). Allows Rule slots id m 1 (λ n. n) (Counted (step slots 1 0 0 none) m))
      (sym one.1) (counts journal author state first slots id one.0)

  pub draws_at : (k : ℕ) (me : Sat S) → ((p : Part S) × (me ≡ alone p) × (p.known ≡ k)) → k < 4294967295
      → Allows Rule slots id me 1 (λ n. either (n == k) (k + 1) n) (Drew (step slots 1 k (k + 1) none) me)
  draws_at k me one room = subst (λ (m : Sat S). Allows Rule slots id m 1 (λ n. either (n == k) (k + 1) n) (Drew (step slots 1 k (k + 1) none) m))
      (sym one.1) (draws_one journal author state first slots id k one.0 one.2 room)

-- a table that begins with one value, whose journal is empty
pub starts_at : {S E O : Type 0} (journal : S → List E) (author : E → ℕ) (state : S → O) (x first : S) (items : List S) → first ≡ x → items ≡ x ∷ [] → journal x ≡ []
    → IsShared journal author state first (opening (0 ∷ 1 ∷ 0 ∷ []) items (first_part first ∷ []))
starts_at {S} journal author state x first items same one empty =
    let F : S → List S → Type 0 = λ first items. IsShared journal author state first (opening (0 ∷ 1 ∷ 0 ∷ []) items (first_part first ∷ [])) in
    subst (λ (y : S). F y items) (sym same) (subst (F x) (sym one) (starts journal author state x empty))

-- which of the two a word tells
pub tells_same : (n k : ℕ) (P Q : Type 0) → n ≡ k → MatchBool (n == k) P Q → P
tells_same n k P Q same told = subst (λ (b : Bool). MatchBool b P Q) (eq-eqb n k same) told

pub tells_other : (n k : ℕ) (P Q : Type 0) → n ≢ k → MatchBool (n == k) P Q → Q
tells_other n k P Q other told = subst (λ (b : Bool). MatchBool b P Q) (ne_eqb n k other) told
