-- A seat that has one part and no value: a pass. At most one part can be the seat's.
use Rattle.std.specs.Prelude.{◌≡◌, ℕ, false, List, slice_index_or}
use Rattle.std.specs.Coded.{Coded, Coded-set, coded_ℕ, coded_bool, ×_prop}
use Rattle.std.proofs.Common.{sym, ap, ◌∙◌}
use mathlib.Core.HLevel.{Σ_prop_path}
use Rattle.atomic_table.specs.declared.shared.Seat.{Seat}
use Rattle.zt_shared_value.specs.declared.part.Part.{Part}
use Rattle.zt_shared_value.specs.Plays.{Sat, alone}

module _ {S : Type 0} where
  -- the seat has this part and doesn't hold the lock; beside it stand the part's three numbers
  abbrev pub IsAlone : Sat S → ℕ → ℕ → ℕ → Part S → Type 0
  IsAlone me number seen known p =
      (me ≡ alone p)
      × ((p.number ≡ number) × ((p.seen ≡ seen) × ((p.known ≡ known) × (p.locked ≡ false))))

  abbrev pub HasOnePart : Sat S → ℕ → ℕ → ℕ → Type 0
  HasOnePart me number seen known = (p : Part S) × IsAlone me number seen known p

  -- what a seat knows has one proof of being what it is, as the seat has
  me_path : Coded (Seat S (List (Part S))) → Seat S (List (Part S)) → (a b : Sat S) → IsProp (a ≡ b)
  me_path code seat a b p q =
      let with : Sat S → Seat S (List (Part S)) = λ m. record { marker = seat.marker; table_id = seat.table_id; id = seat.id; me = m } in
      let same = Coded-set code (with a) (with b) (ap with p) (ap with q) in
      ap (λ (e : with a ≡ with b). ap (λ (x : Seat S (List (Part S))). x.me) e) same

  pub one_part-prop : Coded (Seat S (List (Part S))) → (seat : Seat S (List (Part S))) (number seen known : ℕ) → IsProp (HasOnePart seat.me number seen known)
  one_part-prop code seat number seen known x y =
      let same : x.0 ≡ y.0 = ap (λ (m : Sat S). slice_index_or m.0 0 x.0) (sym x.1.0 ∙ y.1.0) in
      Σ_prop_path {B = IsAlone seat.me number seen known}
      (λ p. ×_prop (me_path code seat seat.me (alone p)) (×_prop (Coded-set coded_ℕ p.number number)
      (×_prop (Coded-set coded_ℕ p.seen seen) (×_prop (Coded-set coded_ℕ p.known known) (Coded-set coded_bool p.locked false))))) same
