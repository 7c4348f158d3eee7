-- What subscribers of sessions are given, as messages to the sessions come.
use Rattle.std.specs.Prelude.{ℕ, Bool, true, false, ◌==◌, ◌&&◌, ◌||◌, ◌++◌, not, if◌then◌else◌, List, [], ◌∷◌, Option, Some, None, filter}
use Rattle.std.specs.List.{list_any}
use Rattle.std.specs.declared.cmp.Ordering.{Ordering}
use Rattle.zt_protocol.specs.declared.messages.Message.{Message}
use Rattle.zt_protocol.specs.declared.messages.Message.TheVariants.{DeclareToken, UndeclareToken}
use Rattle.zt_model.specs.Lists.{same}
use Rattle.zt_model.specs.Rows.{ById}
use Rattle.zt_samples.specs.declared.samples.News.{News}
use Rattle.zt_samples.specs.declared.samples.Sample.{Sample}
use Rattle.zt_samples.specs.declared.samples.Sample.TheVariants.{Put, Delete}
use Rattle.zt_samples.specs.declared.samples.Subscriber.{Subscriber}
use Rattle.zt_samples.specs.declared.samples.Told.{Told}

-- the pairs of id and expression that a session was told
abbrev pub told_to : {K : Type 0} → ℕ → List (Told K) → ById K
told_to n [] = []
told_to n (t ∷ ts) = if n == t.session then (t.id, t.expr) ∷ told_to n ts else told_to n ts

-- ---- samples

abbrev pub sample_of : {K : Type 0} → Bool → K → Sample K
sample_of true e = Put e
sample_of false e = Delete e

-- the sample is for a subscriber of a session
abbrev pub is_for : {K : Type 0} → ℕ → ℕ → News K → Bool
is_for n id one = (n == one.session) && (id == one.subscriber)

-- the samples that wait for a subscriber, the oldest first
abbrev pub samples_for : {K : Type 0} → ℕ → ℕ → List (News K) → List (Sample K)
samples_for n id [] = []
samples_for n id (one ∷ news) = if is_for n id one then one.sample ∷ samples_for n id news else samples_for n id news

abbrev pub oldest_sample : {K : Type 0} → ℕ → ℕ → List (News K) → Option (Sample K)
oldest_sample n id [] = None
oldest_sample n id (one ∷ news) = if is_for n id one then Some one.sample else oldest_sample n id news

-- the samples but that one
abbrev pub without_sample : {K : Type 0} → ℕ → ℕ → List (News K) → List (News K)
without_sample n id [] = []
without_sample n id (one ∷ news) = if is_for n id one then news else one ∷ without_sample n id news

-- ---- what goes with a subscriber, and with a session

abbrev pub without_news : {K : Type 0} → ℕ → ℕ → List (News K) → List (News K)
without_news n id news = filter (λ one. not (is_for n id one)) news

abbrev pub without_news_of_session : {K : Type 0} → ℕ → List (News K) → List (News K)
without_news_of_session n news = filter (λ one. not (n == one.session)) news

abbrev pub without_session : {K : Type 0} → ℕ → List (Told K) → List (Told K)
without_session n told = filter (λ t. not (n == t.session)) told

-- the tokens that a session was told under an id are gone
abbrev pub without_told_id : {K : Type 0} → ℕ → ℕ → List (Told K) → List (Told K)
without_told_id n id told = filter (λ t. not ((n == t.session) && (id == t.id))) told

module _ {K : Type 0} (cmp : K → K → Ordering) where
  -- ---- what a session was told

  abbrev pub has_told : ℕ → ℕ → K → List (Told K) → Bool
  has_told n id e told = list_any (λ t. (n == t.session) && ((id == t.id) && same cmp e t.expr)) told

  -- the session keeps the expression
  abbrev pub keeps_told : ℕ → K → List (Told K) → Bool
  keeps_told n e told = list_any (λ t. (n == t.session) && same cmp e t.expr) told

  -- the session keeps the expression under another id
  abbrev pub keeps_beside : ℕ → ℕ → K → List (Told K) → Bool
  keeps_beside n id e told = list_any (λ t. (n == t.session) && (not (id == t.id) && same cmp e t.expr)) told

  -- a pair of id and expression, which is there once; the id 0 names none
  abbrev pub with_told : ℕ → ℕ → K → List (Told K) → List (Told K)
  with_told n id e told = if id == 0 || has_told n id e told then told else told ++ record { session = n; id = id; expr = e } ∷ []

  -- the tokens of an expression are gone
  abbrev pub without_told_expr : ℕ → K → List (Told K) → List (Told K)
  without_told_expr n e told = filter (λ t. not ((n == t.session) && same cmp e t.expr)) told

  abbrev pub without_told : ℕ → ℕ → Option K → List (Told K) → List (Told K)
  without_told n id None told = without_told_id n id told
  without_told n id (Some e) told = without_told_expr n e told

  -- what sessions were told after a message to one
  abbrev pub told_by : ℕ → Message K → List (Told K) → List (Told K)
  told_by n (DeclareToken id e interest node) told = with_told n id e told
  told_by n (UndeclareToken id given node) told = without_told n id given told
  told_by n _ told = told

module _ {K : Type 0} (matching : K → K → Bool) where
  -- Of what is said of an expression to a session a subscriber is given what matches; with history only what alters
  -- what the session keeps.
  abbrev pub gives : ℕ → K → Bool → Subscriber K → Bool
  gives n e alters s = (n == s.session) && (matching s.expr e && (not s.history || alters))

  -- and so each
  abbrev pub news_of : ℕ → Bool → K → Bool → List (Subscriber K) → List (News K)
  news_of n is_put e alters [] = []
  news_of n is_put e alters (s ∷ ss) =
      if gives n e alters s then record { session = n; subscriber = s.id; sample = sample_of is_put e } ∷ news_of n is_put e alters ss else news_of n is_put e alters ss

  -- what a new subscriber is given first: with history, what its session keeps
  abbrev pub started : ℕ → ℕ → K → Bool → List (Told K) → List (News K)
  started n id e history [] = []
  started n id e history (t ∷ ts) =
      if (n == t.session) && (history && matching e t.expr) then record { session = n; subscriber = id; sample = Put t.expr } ∷ started n id e history ts else started n id e history ts

module _ {K : Type 0} (cmp : K → K → Ordering) (matching : K → K → Bool) where
  -- what is given where the tokens under an id are gone, of all that was told
  abbrev pub gone_news : ℕ → ℕ → List (Subscriber K) → List (Told K) → List (Told K) → List (News K)
  gone_news n id subscribers all [] = []
  gone_news n id subscribers all (t ∷ ts) =
      if (n == t.session) && (id == t.id) then news_of matching n false t.expr (not (keeps_beside cmp n id t.expr all)) subscribers ++ gone_news n id subscribers all ts else gone_news n id subscribers all ts

  -- A declaration of an expression that the session doesn't keep is a Put; that of the id 0 tells nothing.
  abbrev pub news_of_token : ℕ → ℕ → K → List (Subscriber K) → List (Told K) → List (News K)
  news_of_token n id e subscribers told = if not (id == 0) && not (keeps_told cmp n e told) then news_of matching n true e true subscribers else []

  -- An undeclaration is a Delete of the expression given, or else of what was told under its id.
  abbrev pub news_of_gone : ℕ → ℕ → Option K → List (Subscriber K) → List (Told K) → List (News K)
  news_of_gone n id None subscribers told = gone_news n id subscribers told told
  news_of_gone n id (Some e) subscribers told = news_of matching n false e (keeps_told cmp n e told) subscribers

  -- what a message to a session gives its subscribers
  abbrev pub news_by : List (Subscriber K) → ℕ → Message K → List (Told K) → List (News K)
  news_by subscribers n (DeclareToken id e interest node) told = news_of_token n id e subscribers told
  news_by subscribers n (UndeclareToken id given node) told = news_of_gone n id given subscribers told
  news_by subscribers n _ told = []
