-- What a query is answered, over every list of calls.
use Rattle.std.specs.Prelude.{◌≡◌, ℕ, Bool, false, ◌==◌, ◌&&◌, ◌++◌, not, if◌then◌else◌, List, [], ◌∷◌, Some}
use Rattle.std.specs.declared.cmp.Ordering.{Ordering}
use Rattle.zt_protocol.specs.declared.messages.Message.{Message}
use Rattle.zt_protocol.specs.declared.messages.Message.TheVariants.{DeclareToken, DeclareFinal}
use Rattle.zt_model.specs.Hearing.{messages_for}
use Rattle.zt_model.specs.Lists.{is_among}
use Rattle.zt_model.specs.Transcript.{Each}
use Rattle.zt_liveliness.specs.Lively.{Api, TakeReply, Lively, is_asking, is_uplink, left_after, reply_of, said_in}
use Rattle.zt_liveliness.specs.declared.answers.Reply.{Reply}
use Rattle.zt_liveliness.specs.declared.answers.Reply.TheVariants.{Live, Done, NotYet, NoSuchGet}

-- The expressions that a query is answered by messages to its session: those of the declarations with its id, up to
-- its final.
abbrev pub answered : {K : Type 0} → ℕ → List (Message K) → List K
answered id [] = []
answered id (DeclareToken token e (Some interest) node ∷ ms) = if id == interest then e ∷ answered id ms else answered id ms
answered id (DeclareFinal interest ∷ ms) = if id == interest then [] else answered id ms
answered id (m ∷ ms) = answered id ms

-- the expression of a reply
abbrev pub expressions_of : {K : Type 0} → Reply K → List K
expressions_of (Live e) = e ∷ []
expressions_of _ = []

-- the expressions that a call gives of a query
abbrev pub given_by : {K : Type 0} → ℕ → ℕ → Api K → Lively K → List K
given_by session id (TakeReply s i) l = if (session == s) && (id == i) then expressions_of (reply_of session id l) else []
given_by session id _ l = []

-- the replies that a call gives of a query
abbrev pub replies_by : {K : Type 0} → ℕ → ℕ → Api K → Lively K → List (Reply K)
replies_by session id (TakeReply s i) l = if (session == s) && (id == i) then reply_of session id l ∷ [] else []
replies_by session id _ l = []

-- Replies behind those with known expressions: none of these comes again, each other one comes once, and behind Done or
-- NoSuchGet comes nothing but NoSuchGet.
abbrev pub ComeOnce : {K : Type 0} → (K → K → Ordering) → List K → List (Reply K) → Type 0
ComeOnce cmp known [] = Unit {0}
ComeOnce cmp known (Live e ∷ replies) = (is_among cmp e known ≡ false) × ComeOnce cmp (e ∷ known) replies
ComeOnce cmp known (Done ∷ replies) = Each (λ r. r ≡ NoSuchGet) replies
ComeOnce cmp known (NotYet ∷ replies) = ComeOnce cmp known replies
ComeOnce cmp known (NoSuchGet ∷ replies) = Each (λ r. r ≡ NoSuchGet) replies

-- the query was made, its end wasn't given, and its session is no uplink
abbrev pub stands : {K : Type 0} → ℕ → ℕ → Lively K → Bool
stands session id l = is_asking session id l && not (is_uplink session l)

module _ {K : Type 0} (cmp : K → K → Ordering) (matching : K → K → Bool) where
  -- what calls leave, one after another
  abbrev pub left_after_all : List (Api K) → Lively K → Lively K
  left_after_all [] l = l
  left_after_all (a ∷ calls) l = left_after_all calls (left_after cmp matching a l)

  -- the query stands from the first to the last
  abbrev pub stands_through : ℕ → ℕ → List (Api K) → Lively K → Bool
  stands_through session id [] l = stands session id l
  stands_through session id (a ∷ calls) l = stands session id l && stands_through session id calls (left_after cmp matching a l)

  -- the expressions that they give of a query
  abbrev pub given_in : ℕ → ℕ → List (Api K) → Lively K → List K
  given_in session id [] l = []
  given_in session id (a ∷ calls) l = given_by session id a l ++ given_in session id calls (left_after cmp matching a l)

  -- the replies that they give of a query
  abbrev pub replies_in : ℕ → ℕ → List (Api K) → Lively K → List (Reply K)
  replies_in session id [] l = []
  replies_in session id (a ∷ calls) l = replies_by session id a l ++ replies_in session id calls (left_after cmp matching a l)

  -- the messages that they send to a face
  abbrev pub sent_to : ℕ → List (Api K) → Lively K → List (Message K)
  sent_to n [] l = []
  sent_to n (a ∷ calls) l = messages_for n (said_in cmp matching a l) ++ sent_to n calls (left_after cmp matching a l)
