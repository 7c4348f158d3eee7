-- Texts that grow at their end.
use Rattle.std.proofs.Common.{◌≡◌, ℕ, ◌+◌, ◌<◌, true, List, [], ◌++◌, length, take, drop, get_or, Result, Ok, Err, sym, subst, ap, ◌∙◌, append_assoc, add-one, suc}
use Rattle.std.proofs.Math.Seq.{drop-cons}
use Rattle.std.proofs.lemmas.List.{append-nil, take_at}
use Rattle.std.proofs.lemmas.List.Concat.{flat_map-cons}
use Rattle.std.specs.List.{flat_map}
use Rattle.std.specs.Prelude.{OnErr, is_err, IsUtf8}
use Rattle.zt_keys.specs.declared.error.Memory.{Memory}
use Rattle.zt_text.specs.Text.{Begins}

pub begins_step : (a b c : List ℕ) (t : List ℕ) → b ≡ a ++ t → Begins b c → Begins a c
begins_step a b c t grown begun = record { more = t ++ begun.more; is = begun.is ∙ ap (λ (x : List ℕ). x ++ begun.more) grown ∙ append_assoc a t begun.more }

pub begins_same : (a b : List ℕ) → b ≡ a → Begins a b
begins_same a b same = record { more = []; is = same ∙ sym (append-nil a) }

pub begins_take : (a b : List ℕ) (n : ℕ) → n ≡ length a → Begins a b → take n b ≡ a
begins_take a b n len begun = ap (take n) begun.is ∙ take_at a begun.more n (sym len)

pub begins_trans : (a b c : List ℕ) → Begins a b → Begins b c → Begins a c
begins_trans a b c p q = begins_step a b c p.more p.is q

pub flat_map_drop : {X : Type 0} (f : X → List ℕ) (xs : List X) (i : ℕ) (x : X) → i < length xs → x ≡ get_or xs i x → flat_map f (drop i xs) ≡ f x ++ flat_map f (drop (i + 1) xs)
flat_map_drop f xs i x h is = ap (flat_map f) (drop-cons xs i x h) ∙ rw (← is, add-one i) (flat_map-cons f x (drop (suc i) xs))

-- what a failed call leaves can be cut back to what was there
pub undo_ready : (r : Result (Unit {0}) Memory) (old new : List ℕ) (n : ℕ) → is_err r ≡ true → OnErr r (Begins old new) → n ≡ length old → IsUtf8 old → IsUtf8 (take n new)
undo_ready (Ok x) old new n bad begun len utf8 = absurd cc
undo_ready (Err e) old new n bad begun len utf8 = subst IsUtf8 (sym (begins_take old new n len begun)) utf8
