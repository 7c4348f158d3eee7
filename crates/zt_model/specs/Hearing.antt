-- What a message changes at the face that it was sent to. What a face was told is what its messages say,
-- literally: a declaration adds its pair of id and expression, an undeclaration by id takes the pairs of the
-- id away, and one by expression all pairs of the expression. The next id is one more than the greatest sent.
-- An interest is sent to faces to the north alone, and makes a pending or a local there.
use Rattle.std.specs.Prelude.{ℕ, Bool, true, false, ◌+◌, ◌==◌, ◌&&◌, ◌||◌, not, max, if◌then◌else◌, List, [], ◌∷◌, ◌++◌, Option, Some, None, map, filter}
use Rattle.std.specs.List.{list_any}
use Rattle.std.specs.Ordering.{nat_cmp}
use Rattle.std.specs.declared.cmp.Ordering.{Ordering}
use Rattle.std.specs.FinMap.Entries.{put}
use Rattle.zt_protocol.specs.Interest.{is_current, is_future}
use Rattle.zt_protocol.specs.declared.messages.Message.{Message}
use Rattle.zt_protocol.specs.declared.messages.Message.TheVariants.{DeclareToken, UndeclareToken, DeclareFinal, Interest, InterestFinal, DeclareSubscriber, DeclareQueryable}
use Rattle.zt_model.specs.Lists.{same, is_among, without_id}
use Rattle.zt_model.specs.Rows.{Ask, ById, Face, Rows}

-- the next id after one was sent
abbrev pub next_after : ℕ → ℕ → ℕ
next_after id next = max next (id + 1)

-- a row under its id, where a test says so
abbrev pub put_if : {A : Type 0} → Bool → ℕ → A → ById A → ById A
put_if true id row rows = put nat_cmp id row rows
put_if false id row rows = rows

module _ {K : Type 0} (cmp : K → K → Ordering) where
  -- told a pair of id and expression, which is there once
  abbrev pub told_pair : ℕ → K → ById K → ById K
  told_pair id e told = if id == 0 || list_any (λ row. id == row.0 && same cmp e row.1) told then told else told ++ (id, e) ∷ []

  -- told that the pairs of an id, or of an expression, are gone
  abbrev pub untold : ℕ → Option K → ById K → ById K
  untold id None told = without_id id told
  untold id (Some e) told = filter (λ row. not (same cmp e row.1)) told

  abbrev pub with_answer : ℕ → K → ℕ × Ask K → ℕ × Ask K
  with_answer id e row = if (id == row.0) && not (is_among cmp e row.1.answered) then (row.0, record row.1 { answered = row.1.answered ++ e ∷ [] }) else row

  -- an ask is answered an expression
  abbrev pub asks_answered : Option ℕ → K → ById (Ask K) → ById (Ask K)
  asks_answered None e asks = asks
  asks_answered (Some id) e asks = map (with_answer id e) asks

  -- the face after it was sent a message, at this moment
  abbrev pub heard : ℕ → Message K → Face K → Face K
  heard now (DeclareToken id e interest node) f = record f { next = next_after id f.next; told = told_pair id e f.told; asks = asks_answered interest e f.asks }
  heard now (UndeclareToken id e node) f = record f { told = untold id e f.told }
  heard now (DeclareFinal interest) f = record f { asks = without_id interest f.asks }
  heard now (Interest id mode options e) f = record f { next = next_after id f.next; pendings = put_if (is_current mode) id (record { mode = mode; since = now }) f.pendings; locals = put_if (is_future mode) id (record { mode = mode; options = options; expr = e }) f.locals }
  heard now (InterestFinal id) f = record f { locals = without_id id f.locals }
  heard now (DeclareSubscriber id e interest) f = f
  heard now (DeclareQueryable id e info interest) f = f

  -- the face after all of these, oldest first
  unfoldable pub heard_all : ℕ → List (Message K) → Face K → Face K
  heard_all now [] f = f
  heard_all now (m ∷ ms) f = heard_all now ms (heard now m f)

-- the messages for a face, by its number
unfoldable pub messages_for : {M : Type 0} → ℕ → List (ℕ × M) → List M
messages_for n [] = []
messages_for n (s ∷ ss) = if n == s.0 then s.1 ∷ messages_for n ss else messages_for n ss

module _ {K : Type 0} (cmp : K → K → Ordering) where
  -- each face hears the messages for it
  unfoldable pub rows_heard : List (ℕ × Message K) → Rows K → Rows K
  rows_heard ss g = record g { faces = map (λ f. heard_all cmp g.moment (messages_for f.number ss) f) g.faces }
