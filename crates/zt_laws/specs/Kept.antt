-- What a face keeps by its printed messages, read literally: declarations add pairs of id and expression,
-- undeclarations take away the pairs of an id or of an expression, and the next id is one more than the greatest.
use Rattle.std.specs.Prelude.{ℕ, Bool, ◌+◌, ◌==◌, ◌&&◌, ◌||◌, not, max, List, [], ◌∷◌, Some, None}
use Rattle.std.specs.List.{list_any}
use Rattle.std.specs.declared.cmp.Ordering.{Ordering}
use Rattle.zt_protocol.specs.declared.messages.Message.{Message}
use Rattle.zt_protocol.specs.declared.messages.Message.TheVariants.{DeclareToken, UndeclareToken, Interest}
use Rattle.zt_model.specs.Hearing.{next_after, told_pair, untold}
use Rattle.zt_model.specs.Lists.{same}
use Rattle.zt_model.specs.Rows.{ById, Face}

-- one more than the id that a message draws, and 0 where it draws none
abbrev pub next_sent_by : {K : Type 0} → Message K → ℕ
next_sent_by (DeclareToken id e interest node) = id + 1
next_sent_by (Interest id mode options e) = id + 1
next_sent_by _ = 0

-- one more than the greatest id that was sent
abbrev pub next_sent : {K : Type 0} → List (Message K) → ℕ
next_sent [] = 0
next_sent (m ∷ ms) = max (next_sent_by m) (next_sent ms)

-- what a face was told, under its number
pub record Told (K : Type 0) : Type 0 where
  pub number : ℕ
  pub next : ℕ
  pub rows : ById K

abbrev pub told_of : {K : Type 0} → Face K → Told K
told_of f = record { number = f.number; next = f.next; rows = f.told }

module _ {K : Type 0} (cmp : K → K → Ordering) where
  -- the pair stands in the rows
  abbrev pub has_pair : ℕ → K → ById K → Bool
  has_pair id e rows = list_any (λ row. (id == row.0) && same cmp e row.1) rows

  -- whether a pair is there after a message, where it was or wasn't before; no pair has the id 0
  abbrev pub is_kept_by : ℕ → K → Message K → Bool → Bool
  is_kept_by id e (DeclareToken token k interest node) was = was || (not (token == 0) && ((id == token) && same cmp e k))
  is_kept_by id e (UndeclareToken token None node) was = was && not (token == id)
  is_kept_by id e (UndeclareToken token (Some k) node) was = was && not (same cmp k e)
  is_kept_by id e _ was = was

  -- and after messages, oldest first
  abbrev pub is_kept : ℕ → K → List (Message K) → Bool → Bool
  is_kept id e [] was = was
  is_kept id e (m ∷ ms) was = is_kept id e ms (is_kept_by id e m was)

  -- what a face was told after a message, by the message alone
  abbrev pub told_by : Message K → Told K → Told K
  told_by (DeclareToken id e interest node) t = record t { next = next_after id t.next; rows = told_pair cmp id e t.rows }
  told_by (UndeclareToken id e node) t = record t { rows = untold cmp id e t.rows }
  told_by (Interest id mode options e) t = record t { next = next_after id t.next }
  told_by _ t = t

  -- and after messages
  abbrev pub told_by_all : List (Message K) → Told K → Told K
  told_by_all [] t = t
  told_by_all (m ∷ ms) t = told_by_all ms (told_by m t)
