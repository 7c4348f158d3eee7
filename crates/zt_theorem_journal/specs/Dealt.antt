-- Lines that speak, dealt to workers, and the order in which they came to pass.
use Rattle.std.specs.Prelude.{◌≡◌, ℕ, ◌+◌, ◌%◌, ◌<◌, ◌==◌, List, [], ◌∷◌, ◌++◌, map, filter, unwrap_or}
use Rattle.zt_protocol.specs.Plain.{PlainCall, PlainLine, Speak}
use Rattle.zt_model.specs.Fabric.{call_face}
use Rattle.zt_model.specs.Journal.{Journalled}
use Rattle.zt_model.specs.Transcript.{Each}
use Rattle.zt_theorem_journal.specs.Alone.{Speaks}

-- members with their numbers, the first of which is n
abbrev pub numbered_from : {A : Type 0} → ℕ → List A → List (ℕ × A)
numbered_from n [] = []
numbered_from n (x ∷ xs) = (n, x) ∷ numbered_from (n + 1) xs

-- the worker of a call, of so many: its face's number, modulo how many there are
abbrev pub worker_of : {K : Type 0} → ℕ → PlainCall K → ℕ
worker_of workers call = unwrap_or (call_face call) 0 % workers

-- a script that isn't empty: the line of its gateway, those that open faces, and those that speak
abbrev pub script_of : {K : Type 0} → PlainLine K → List (PlainLine K) → List (PlainCall K) → List (PlainLine K)
script_of line makings calls = line ∷ (makings ++ map (λ c. Speak c) calls)

-- its lines with their numbers, those that speak in the order of a journal, each entry of which has the number of its
-- line beside it
abbrev pub order_of : {K : Type 0} → PlainLine K → List (PlainLine K) → List (ℕ × Journalled K) → List (ℕ × PlainLine K)
order_of line makings journal = (1, line) ∷ (numbered_from 2 makings ++ map (λ x. (x.0, Speak x.1.call)) journal)

-- Each worker's entries of the journal, with the numbers of their lines, are its lines in order.
pub record IsDealt {K : Type 0} (workers first : ℕ) (calls : List (PlainCall K)) (journal : List (ℕ × Journalled K)) : Type 0 where
  pub some : 0 < workers
  pub speak : Each Speaks calls
  pub passes : Each (λ x. x.1.pass < workers) journal
  pub parts : (p : ℕ) → p < workers → map (λ x. (x.0, x.1.call)) (filter (λ x. x.1.pass == p) journal) ≡ filter (λ x. worker_of workers x.1 == p) (numbered_from first calls)
