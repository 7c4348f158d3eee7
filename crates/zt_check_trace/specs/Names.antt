-- Refusals by the names that a transcript prints.
use Rattle.std.specs.Prelude.{◌≡◌, ◌≢◌, ℕ, List, Option, Some, None}
use Rattle.zt_protocol.specs.declared.errors.Refusal.{Refusal}
use Rattle.zt_protocol.specs.Refusal.{name_of}

-- the refusal of a name; None exactly where it names none
abbrev pub FindsRefusal : List ℕ → Option Refusal → Type 0
FindsRefusal name None = (refusal : Refusal) → name ≢ name_of refusal
FindsRefusal name (Some refusal) = name ≡ name_of refusal
