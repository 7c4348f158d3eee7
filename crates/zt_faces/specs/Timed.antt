-- The interests that faces were sent and that wait for their finals, by when they were sent.
--     timed_cmp, has timed keys         the order: by moment, by face, by id; and whether one is among those in order
--     timed_at since n id               the interest of the id that the face n was sent then
--     KeepsAll old new                  what was among them is
--     waits_in since id pendings        an interest of the id waits since then
--     AreIn keys n pendings             each pending of the face n is among them
--     waits timed faces                 the interest waits for its final
--     AreTimed keys faces               each that waits is among them
--     KeepsPendings f g                 no pending is new once the face f became g
--     AwaitsOnly awaited f g            no other than this one is
--     IsOrderedAt n faces               the pendings of the face n stand in order of id
--     has_waited now timeout since      what waits since then has waited for the timeout
--     expired_among now timeout faces   the pendings that have, by face and id
--     gathered timed faces found        the interest beside what was found, where it waits
--     IsGathered now timeout faces found    found is what waits and has waited for the timeout
--     IsEachOnce found pairs            these pairs in order, each once
use Rattle.std.specs.Prelude.{◌≡◌, ℕ, Bool, true, false, ◌==◌, ◌&&◌, ◌||◌, ◌-◌, ◌++◌, nat_le, if◌then◌else◌, List, [], ◌∷◌, Option, Some, None, filter, map}
use Rattle.std.specs.BTreeMap.{is_at}
use Rattle.std.specs.List.{AllByRecursion, flat_map, list_any}
use Rattle.std.specs.List.Sorted.{IsStrictlySortedBy}
use Rattle.std.specs.Ordering.{nat_cmp, ordering_then}
use Rattle.std.specs.declared.cmp.Ordering.{Ordering}
use Rattle.zt_model.specs.Closing.{is_expired}
use Rattle.zt_model.specs.Rows.{ById, Face, Pending}
use Rattle.zt_rows.specs.ById.{IsInOrder}
use Rattle.zt_faces.specs.contracts.by_time.TimedOrd.TheImpl.{ghosts}
use Rattle.zt_faces.specs.declared.by_time.Timed.{Timed}

abbrev pub timed_cmp : Timed → Timed → Ordering
timed_cmp a b = ghosts.cmp a b

abbrev pub has : Timed → List Timed → Bool
has timed keys = list_any (is_at (timed_cmp timed)) keys

abbrev pub timed_at : ℕ → ℕ → ℕ → Timed
timed_at since n id = record { since = since; face = n; id = id }

pub record KeepsAll (old new : List Timed) : Type 0 where
  pub at : (timed : Timed) → has timed old ≡ true → has timed new ≡ true

-- whether a pending waits since then
abbrev pub is_since : ℕ → Option Pending → Bool
is_since since None = false
is_since since (Some pending) = since == pending.since

abbrev pub waits_in : ℕ → ℕ → ById Pending → Bool
waits_in since id pendings = list_any (λ row. (id == row.0) && (since == row.1.since)) pendings

abbrev pub AreIn : List Timed → ℕ → ById Pending → Type 0
AreIn keys n pendings = (since id : ℕ) → waits_in since id pendings ≡ true → has (timed_at since n id) keys ≡ true

-- whether it is the interest that is awaited
abbrev pub is_awaited : ℕ → ℕ → Option (ℕ × ℕ) → Bool
is_awaited since id None = false
is_awaited since id (Some p) = (since == p.0) && (id == p.1)

abbrev pub IsAwaitedIn : List Timed → ℕ → Option (ℕ × ℕ) → Type 0
IsAwaitedIn keys n awaited = (since id : ℕ) → is_awaited since id awaited ≡ true → has (timed_at since n id) keys ≡ true

abbrev pub has_waited : ℕ → ℕ → ℕ → Bool
has_waited now timeout since = nat_le timeout (now - since)

-- the pendings of a list that have waited for the timeout
abbrev pub expired_of : ℕ → ℕ → ℕ → ById Pending → List (ℕ × ℕ)
expired_of now timeout n rows = map (λ row. (n, row.0)) (filter (is_expired now timeout) rows)

-- those of a face
abbrev pub expired_at : {K : Type 0} → ℕ → ℕ → Face K → List (ℕ × ℕ)
expired_at now timeout f = expired_of now timeout f.number f.pendings

abbrev pub pair_cmp : ℕ × ℕ → ℕ × ℕ → Ordering
pair_cmp a b = ordering_then (nat_cmp a.0 b.0) (nat_cmp a.1 b.1)

abbrev pub is_in : ℕ × ℕ → List (ℕ × ℕ) → Bool
is_in p pairs = list_any (is_at (pair_cmp p)) pairs

pub record IsEachOnce (found pairs : List (ℕ × ℕ)) : Type 0 where
  pub in_order : IsStrictlySortedBy pair_cmp pairs
  pub at : (p : ℕ × ℕ) → is_in p pairs ≡ is_in p found

module _ {K : Type 0} where
  abbrev pub KeepsPendings : Face K → Face K → Type 0
  KeepsPendings f g = (since id : ℕ) → waits_in since id g.pendings ≡ true → waits_in since id f.pendings ≡ true

  abbrev pub AwaitsOnly : Option (ℕ × ℕ) → Face K → Face K → Type 0
  AwaitsOnly awaited f g = (since id : ℕ) → waits_in since id g.pendings ≡ true → (is_awaited since id awaited || waits_in since id f.pendings) ≡ true

  abbrev pub waits : Timed → List (Face K) → Bool
  waits timed faces = list_any (λ f. (timed.face == f.number) && waits_in timed.since timed.id f.pendings) faces

  abbrev pub AreTimed : List Timed → List (Face K) → Type 0
  AreTimed keys faces = (timed : Timed) → waits timed faces ≡ true → has timed keys ≡ true

  abbrev pub IsOrderedAt : ℕ → List (Face K) → Type 0
  IsOrderedAt n faces = AllByRecursion (λ f. (n == f.number) ≡ true → IsInOrder f.pendings) faces

  abbrev pub expired_among : ℕ → ℕ → List (Face K) → List (ℕ × ℕ)
  expired_among now timeout faces = flat_map (expired_at now timeout) faces

  abbrev pub gathered : Timed → List (Face K) → List (ℕ × ℕ) → List (ℕ × ℕ)
  gathered timed faces found = if waits timed faces then found ++ (timed.face, timed.id) ∷ [] else found

  pub record IsGathered (now timeout : ℕ) (faces : List (Face K)) (found : List (ℕ × ℕ)) : Type 0 where
    pub all : (timed : Timed) → waits timed faces ≡ true → has_waited now timeout timed.since ≡ true → is_in (timed.face, timed.id) found ≡ true
    pub only : (p : ℕ × ℕ) → is_in p found ≡ true → is_in p (expired_among now timeout faces) ≡ true
    pub ordered : (p : ℕ × ℕ) → is_in p found ≡ true → IsOrderedAt p.0 faces
