-- What becomes of the messages of a call: which of them wait, what sessions were told by them, and what they give
-- subscribers.
use Rattle.std.specs.Prelude.{ℕ, Bool, ◌||◌, ◌++◌, not, is_some, if◌then◌else◌, List, [], ◌∷◌}
use Rattle.std.specs.List.{list_any}
use Rattle.std.specs.declared.cmp.Ordering.{Ordering}
use Rattle.zt_protocol.specs.declared.messages.Message.{Message}
use Rattle.zt_model.specs.Parts.{Sends}
use Rattle.zt_samples.specs.Samples.{news_by, told_by}
use Rattle.zt_samples.specs.declared.samples.News.{News}
use Rattle.zt_samples.specs.declared.samples.Subscriber.{Subscriber}
use Rattle.zt_samples.specs.declared.samples.Told.{Told}
use Rattle.zt_liveliness.specs.Books.{find_session}
use Rattle.zt_liveliness.specs.Queues.{answer_for}
use Rattle.zt_liveliness.specs.declared.books.Query.{Query}
use Rattle.zt_liveliness.specs.declared.books.Session.{Session}

abbrev pub is_to_session : {K : Type 0} → List Session → ℕ × Message K → Bool
is_to_session sessions s = is_some (find_session s.0 sessions)

-- the message is for an uplink, or answers a query that is open
abbrev pub is_awaited : {K : Type 0} → List Session → List Query → ℕ × Message K → Bool
is_awaited sessions queries s = not (is_to_session sessions s) || list_any (λ q. is_some (answer_for q.session q.id s)) queries

module _ {K : Type 0} (cmp : K → K → Ordering) where
  -- what sessions were told after a message
  abbrev pub told_after : List Session → ℕ × Message K → List (Told K) → List (Told K)
  told_after sessions s told = if is_to_session sessions s then told_by cmp s.0 s.1 told else told

  -- and after messages, the oldest first
  abbrev pub told_after_all : List Session → Sends K → List (Told K) → List (Told K)
  told_after_all sessions [] told = told
  told_after_all sessions (s ∷ ss) told = told_after_all sessions ss (told_after sessions s told)

module _ {K : Type 0} (cmp : K → K → Ordering) (matching : K → K → Bool) where
  -- what a message gives subscribers
  abbrev pub news_in : List Session → List (Subscriber K) → ℕ × Message K → List (Told K) → List (News K)
  news_in sessions subscribers s told = if is_to_session sessions s then news_by cmp matching subscribers s.0 s.1 told else []

  -- and messages, the oldest first
  abbrev pub news_in_all : List Session → List (Subscriber K) → Sends K → List (Told K) → List (News K)
  news_in_all sessions subscribers [] told = []
  news_in_all sessions subscribers (s ∷ ss) told = news_in sessions subscribers s told ++ news_in_all sessions subscribers ss (told_after cmp sessions s told)
