-- Seats at the table of a shared value.
use Rattle.std.specs.Prelude.{◌≡◌, ℕ, ◌<◌, ◌^◌, true, false, List, [], ◌∷◌, ◌++◌, length}
use Rattle.atomic_table.specs.Seated.{TableId}
use Rattle.atomic_table.specs.declared.shared.Seat.{Seat}
use Rattle.zt_shared_value.specs.declared.part.Part.{Part}
use Rattle.zt_shared_value.specs.Plays.{Sat, alone, holding}

-- a table of three words and one slot
abbrev pub IsTable : TableId → Type 0
IsTable table = (table.words ≡ 3) × (table.slots ≡ 1)

module _ {S : Type 0} where
  abbrev pub IsSeatOf : TableId → Seat S (List (Part S)) → Type 0
  IsSeatOf table seat = (seat.table_id ≡ table) × IsTable table

  abbrev pub IsSameSeat : Seat S (List (Part S)) → Seat S (List (Part S)) → Type 0
  IsSameSeat old new = (new.table_id ≡ old.table_id) × (new.id ≡ old.id)

  -- the seat is one pass, which doesn't hold the lock
  abbrev pub IsFree : Sat S → Type 0
  IsFree me = (p : Part S) × (me ≡ alone p) × (p.locked ≡ false)

  -- the seat is one pass, which has the value
  abbrev pub HasValue : Sat S → Type 0
  HasValue me = (p : Part S) × ((x : S) × (me ≡ holding p x))

module _ {S E O : Type 0} (journal : S → List E) (author : E → ℕ) (state : S → O) where
  -- the seat's value has one entry of the pass more than the pass has published
  pub record IsAhead (me : Sat S) : Type 0 where
    pub part : Part S
    pub value : S
    pub entry : E
    pub is : me ≡ holding part value
    pub locked : part.locked ≡ true
    pub grown : journal value ≡ journal part.found ++ entry ∷ []
    pub by : author entry ≡ part.number
    pub opened : state value ≡ state part.opening
    pub room : length (journal value) < 2 ^ 64

module _ {S E O : Type 0} (journal : S → List E) (state : S → O) where
  -- the seat's value is what the pass has published
  pub record MayRelease (me : Sat S) : Type 0 where
    pub part : Part S
    pub value : S
    pub is : me ≡ holding part value
    pub locked : part.locked ≡ true
    pub kept : journal value ≡ journal part.found
    pub opened : state value ≡ state part.opening
