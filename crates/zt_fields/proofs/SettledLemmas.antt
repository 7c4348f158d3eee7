-- A line that is text is read, or is in no form of the grammar.
use Rattle.std.proofs.Common.{◌≡◌, Bool, true, false, Result, Ok, Err, refl, ap}
use Rattle.zt_protocol.specs.declared.errors.LineError.{LineError}
use Rattle.zt_protocol.specs.declared.errors.LineError.TheVariants as errors
use Rattle.zt_fields.specs.Fields.{Gives, Finds, settled}

pub settle : {X Y : Type 0} (view : X → Y) (r : Result X LineError) (read : Result Y LineError) → Finds view r read → Gives view r (settled read)
settle view (Ok x) read h = ap settled h
settle view (Err errors.Memory) read h = tt
settle view (Err errors.NotUtf8) read h = absurd h
settle view (Err errors.NotInGrammar) read h = ap settled h

pub not_utf8 : (b : Bool) → (b ≡ true → ⊥) → b ≡ false
not_utf8 true h = absurd (h refl)
not_utf8 false h = refl
