-- Causes that differ at too few ids alone.
use Rattle.std.proofs.Common.{◌≡◌, ◌⊎◌, true, Option, Some}
use Rattle.zt_protocol.specs.declared.errors.Refusal.{Refusal}
use Rattle.zt_protocol.specs.declared.errors.Refusal.TheVariants as refusal
use Rattle.zt_model.specs.Transcript.{comes_to_ids}

-- the answers of causes that differ at too few ids alone: they are the same, or the second is that, and the first
-- comes after it
abbrev pub OnlyIds : Option Refusal → Option Refusal → Type 0
OnlyIds one two = (two ≡ one) ⊎ ((two ≡ Some refusal.IdsSpent) × (comes_to_ids one ≡ true))
