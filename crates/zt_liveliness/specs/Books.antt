-- Which faces are open, which queries and which subscribers: what is written down beside what the gateway keeps.
use Rattle.std.specs.Prelude.{◌≡◌, ℕ, ◌<◌, ◌^◌, Bool, ◌==◌, ◌&&◌, ◌+◌, not, if◌then◌else◌, List, [], ◌∷◌, Option, Some, filter}
use Rattle.std.specs.List.{list_any}
use Rattle.zt_model.specs.Lists.{first_where}
use Rattle.zt_samples.specs.declared.samples.Subscriber.{Subscriber}
use Rattle.zt_liveliness.specs.declared.books.Session.{Session}
use Rattle.zt_liveliness.specs.declared.books.Query.{Query}

abbrev pub find_session : ℕ → List Session → Option Session
find_session n sessions = first_where (λ s. n == s.number) sessions

-- of what was made on the session of a number, one more has an id
abbrev pub HasIdLeft : ℕ → (Session → ℕ) → List Session → Type 0
HasIdLeft n made sessions = (s : Session) → find_session n sessions ≡ Some s → made s + 1 < 2 ^ 32

-- the first session of a number is changed
abbrev pub with_session : ℕ → (Session → Session) → List Session → List Session
with_session n change [] = []
with_session n change (s ∷ ss) = if n == s.number then change s ∷ ss else s ∷ with_session n change ss

abbrev pub without_session : ℕ → List Session → List Session
without_session n sessions = filter (λ s. not (n == s.number)) sessions

-- one token more was made, or one interest
abbrev pub with_token_made : Session → Session
with_token_made s = record s { tokens = s.tokens + 1 }

abbrev pub with_interest_made : Session → Session
with_interest_made s = record s { interests = s.interests + 1 }

abbrev pub has_uplink : ℕ → List ℕ → Bool
has_uplink n uplinks = list_any (λ uplink. n == uplink) uplinks

abbrev pub without_uplink : ℕ → List ℕ → List ℕ
without_uplink n uplinks = filter (λ uplink. not (n == uplink)) uplinks

abbrev pub has_query : ℕ → ℕ → List Query → Bool
has_query session id queries = list_any (λ q. (session == q.session) && (id == q.id)) queries

abbrev pub without_query : ℕ → ℕ → List Query → List Query
without_query session id queries = filter (λ q. not ((session == q.session) && (id == q.id))) queries

-- the queries but those of a session
abbrev pub without_queries : ℕ → List Query → List Query
without_queries session queries = filter (λ q. not (session == q.session)) queries

abbrev pub has_subscriber : {K : Type 0} → ℕ → ℕ → List (Subscriber K) → Bool
has_subscriber session id subscribers = list_any (λ s. (session == s.session) && (id == s.id)) subscribers

abbrev pub without_subscriber : {K : Type 0} → ℕ → ℕ → List (Subscriber K) → List (Subscriber K)
without_subscriber session id subscribers = filter (λ s. not ((session == s.session) && (id == s.id))) subscribers

-- the subscribers but those of a session
abbrev pub without_subscribers : {K : Type 0} → ℕ → List (Subscriber K) → List (Subscriber K)
without_subscribers session subscribers = filter (λ s. not (session == s.session)) subscribers
