-- A gateway with its sessions and uplinks as a caller sees it, and what each call is: why it is refused, the call of the
-- gateway that it makes, and what it leaves.
use Rattle.std.specs.Prelude.{◌≡◌, ℕ, Bool, true, false, ◌==◌, ◌&&◌, ◌||◌, ◌+◌, ◌++◌, not, is_some, if◌then◌else◌, List, [], ◌∷◌, Option, Some, None, filter, option_map}
use Rattle.std.specs.declared.cmp.Ordering.{Ordering}
use Rattle.zt_region.specs.declared.region.Bound.{Bound}
use Rattle.zt_region.specs.declared.region.Region.TheVariants.{North}
use Rattle.zt_region.specs.declared.region.WhatAmI.{WhatAmI}
use Rattle.zt_region.specs.declared.region.Zid.{Zid}
use Rattle.zt_protocol.specs.Plain.{PlainCall}
use Rattle.zt_protocol.specs.Plain as plain
use Rattle.zt_protocol.specs.declared.errors.CallError.{CallError}
use Rattle.zt_protocol.specs.declared.errors.CallError.TheVariants as call_error
use Rattle.zt_protocol.specs.declared.errors.Refusal.{Refusal}
use Rattle.zt_protocol.specs.declared.errors.Refusal.TheVariants.{UnknownToken}
use Rattle.zt_protocol.specs.declared.interests.InterestMode.{InterestMode}
use Rattle.zt_protocol.specs.declared.interests.InterestMode.TheVariants.{Current, CurrentFuture, Future}
use Rattle.zt_protocol.specs.declared.messages.Message.{Message}
use Rattle.zt_model.specs.Journal.{cause_of, rows_after}
use Rattle.zt_model.specs.Linking.{call_of_message}
use Rattle.zt_model.specs.Lists.{has_id}
use Rattle.zt_model.specs.Parts.{is_routed}
use Rattle.zt_model.specs.Refusals.{on_face}
use Rattle.zt_model.specs.Rows.{Rows}
use Rattle.zt_model.specs.Says.{Sends, said}
use Rattle.zt_gateway.specs.Running.{by_face, closed_by, oldest_for, without_closed, without_oldest}
use Rattle.zt_samples.specs.Samples.{oldest_sample, started, without_news, without_news_of_session, without_sample}
use Rattle.zt_samples.specs.Samples as samples
use Rattle.zt_samples.specs.declared.samples.News.{News}
use Rattle.zt_samples.specs.declared.samples.Sample.{Sample}
use Rattle.zt_samples.specs.declared.samples.Subscriber.{Subscriber}
use Rattle.zt_samples.specs.declared.samples.Told.{Told}
use Rattle.zt_liveliness.specs.Books.{find_session, has_query, has_subscriber, has_uplink, with_interest_made, with_session, with_token_made, without_queries, without_query, without_session, without_subscriber, without_subscribers, without_uplink}
use Rattle.zt_liveliness.specs.Mail.{is_awaited, news_in_all, told_after_all}
use Rattle.zt_liveliness.specs.Queues.{oldest_answer, without_answer}
use Rattle.zt_liveliness.specs.declared.answers.Reply.{Reply}
use Rattle.zt_liveliness.specs.declared.answers.Reply.TheVariants.{Live, Done, NotYet, NoSuchGet}
use Rattle.zt_liveliness.specs.declared.books.Query.{Query}
use Rattle.zt_liveliness.specs.declared.books.Session.{Session}
use Rattle.zt_liveliness.specs.declared.errors.ApiError.{ApiError}
use Rattle.zt_liveliness.specs.declared.errors.ApiError.TheVariants.{NoSuchFace, NoSuchToken, NoSuchSubscriber, Spent, Refused, Memory}

-- What the gateway keeps; the replies and the messages for uplinks that wait, each with its face's number, the oldest
-- first; the sessions and the uplinks that are open, the queries whose end wasn't given, and the subscribers; what
-- sessions were told; and the samples that wait, the oldest first.
pub record Lively (K : Type 0) : Type 0 where
  pub rows : Rows K
  pub waiting : Sends K
  pub sessions : List Session
  pub uplinks : List ℕ
  pub queries : List Query
  pub subscribers : List (Subscriber K)
  pub told : List (Told K)
  pub news : List (News K)

-- before all calls
abbrev pub begun : {K : Type 0} → Rows K → Lively K
begun rows = record { rows = rows; waiting = []; sessions = []; uplinks = []; queries = []; subscribers = []; told = []; news = [] }

abbrev pub is_session : {K : Type 0} → ℕ → Lively K → Bool
is_session n l = is_some (find_session n l.sessions)

abbrev pub is_uplink : {K : Type 0} → ℕ → Lively K → Bool
is_uplink n l = has_uplink n l.uplinks

-- the query was made and its end wasn't given
abbrev pub is_asking : {K : Type 0} → ℕ → ℕ → Lively K → Bool
is_asking session id l = has_query session id l.queries

abbrev pub is_subscribed : {K : Type 0} → ℕ → ℕ → Lively K → Bool
is_subscribed session id l = has_subscriber session id l.subscribers

-- the session's face is open, outside router regions, and keeps a token of this id
abbrev pub has_token : {K : Type 0} → ℕ → ℕ → Lively K → Bool
has_token session id l = on_face session l.rows (λ f. not (is_routed l.rows f) && has_id id f.live)

-- ---- the calls

pub data Api (K : Type 0) : Type 0 where
  OpenSession : Api K
  OpenUplink : (zid : Zid) (whatami : WhatAmI) (bound : Bound) → Api K
  DeclareToken : (session : ℕ) (key : K) → Api K
  UndeclareToken : (session id : ℕ) → Api K
  Get : (session : ℕ) (expr : K) → Api K
  TakeReply : (session id : ℕ) → Api K
  DeclareSubscriber : (session : ℕ) (expr : K) (history : Bool) → Api K
  TakeSample : (session id : ℕ) → Api K
  UndeclareSubscriber : (session id : ℕ) → Api K
  Receive : (uplink : ℕ) (message : Message K) → Api K
  TakeSent : (uplink : ℕ) → Api K
  Close : (face : ℕ) → Api K
  Expire : (now : ℕ) → Api K

-- the greatest id
abbrev pub GREATEST_ID : ℕ
GREATEST_ID = 4294967295

-- why a call that takes a session is refused, by what was made on it
abbrev pub spent_on : Option Session → (Session → ℕ) → Option ApiError
spent_on None made = Some NoSuchFace
spent_on (Some s) made = if made s == GREATEST_ID then Some Spent else None

abbrev pub cause_if_not : Bool → ApiError → Option ApiError
cause_if_not true error = None
cause_if_not false error = Some error

-- why an undeclaration of a subscriber is refused
abbrev pub not_subscribed : {K : Type 0} → ℕ → ℕ → Lively K → Option ApiError
not_subscribed session id l = if is_session session l then cause_if_not (is_subscribed session id l) NoSuchSubscriber else Some NoSuchFace

-- the causes that come before the gateway's own
abbrev pub first_error : {K : Type 0} → Api K → Lively K → Option ApiError
first_error (DeclareToken session key) l = spent_on (find_session session l.sessions) (λ s. s.tokens)
first_error (UndeclareToken session id) l = cause_if_not (is_session session l) NoSuchToken
first_error (Get session expr) l = spent_on (find_session session l.sessions) (λ s. s.interests)
first_error (DeclareSubscriber session expr history) l = spent_on (find_session session l.sessions) (λ s. s.interests)
first_error (UndeclareSubscriber session id) l = not_subscribed session id l
first_error (Receive uplink message) l = cause_if_not (is_uplink uplink l) NoSuchFace
first_error (Close face) l = cause_if_not (is_session face l || is_uplink face l) NoSuchFace
first_error _ l = None

-- what was made on a session
abbrev pub tokens_made : {K : Type 0} → ℕ → Lively K → ℕ
tokens_made session l = elim (find_session session l.sessions) [ None ↦ 0 | Some s ↦ s.tokens ]

abbrev pub interests_made : {K : Type 0} → ℕ → Lively K → ℕ
interests_made session l = elim (find_session session l.sessions) [ None ↦ 0 | Some s ↦ s.interests ]

-- with history an interest asks for what is there now too
abbrev pub mode_of : Bool → InterestMode
mode_of true = CurrentFuture
mode_of false = Future

-- the call of the gateway, where it makes one; the ids of a session count from 1
abbrev pub call_in : {K : Type 0} → Api K → Lively K → Option (PlainCall K)
call_in OpenSession l = Some (plain.NewSession 1)
call_in (OpenUplink zid whatami bound) l = Some (plain.NewTransport zid whatami North bound 1)
call_in (DeclareToken session key) l = Some (plain.DeclareToken session (tokens_made session l + 1) key 0 None)
call_in (UndeclareToken session id) l = Some (plain.UndeclareToken session id None 0)
call_in (Get session expr) l = Some (plain.Interest session (interests_made session l + 1) Current (record { 0 = 8 }) (Some expr))
call_in (DeclareSubscriber session expr history) l = Some (plain.Interest session (interests_made session l + 1) (mode_of history) (record { 0 = 8 }) (Some expr))
call_in (UndeclareSubscriber session id) l = Some (plain.InterestFinal session id)
call_in (Receive uplink message) l = call_of_message uplink message
call_in (Close face) l = Some (plain.CloseFace face)
call_in (Expire now) l = Some (plain.Expire now)
call_in _ l = None

-- an error of the gateway as a caller is told it
abbrev pub api_error : CallError → ApiError
api_error call_error.Memory = Memory
api_error (call_error.Refused refusal) = Refused refusal

-- the same of an undeclaration: a token whose id isn't live isn't there
abbrev pub token_error : CallError → ApiError
token_error (call_error.Refused UnknownToken) = NoSuchToken
token_error error = api_error error

-- a refusal of the gateway as the call answers it
abbrev pub error_of : {K : Type 0} → Api K → Refusal → ApiError
error_of (UndeclareToken session id) refusal = token_error (call_error.Refused refusal)
error_of _ refusal = api_error (call_error.Refused refusal)

-- what an answer is, by the oldest message to a query that is open or isn't
abbrev pub reply_by : {K : Type 0} → Bool → Option (Option K) → Reply K
reply_by false oldest = NoSuchGet
reply_by true None = NotYet
reply_by true (Some None) = Done
reply_by true (Some (Some e)) = Live e

abbrev pub reply_of : {K : Type 0} → ℕ → ℕ → Lively K → Reply K
reply_of session id l = reply_by (is_asking session id l) (oldest_answer session id l.waiting)

-- the expression of an answer that has one
abbrev pub live_in : {K : Type 0} → Reply K → Option K
live_in (Live e) = Some e
live_in _ = None

-- and what is left: an answer is taken, and the end of a query ends it
abbrev pub left_by : {K : Type 0} → ℕ → ℕ → Reply K → Lively K → Lively K
left_by session id (Live e) l = record l { waiting = without_answer session id l.waiting }
left_by session id Done l = record l { waiting = without_answer session id l.waiting; queries = without_query session id l.queries }
left_by session id _ l = l

-- the oldest message for an uplink
abbrev pub sent_of : {K : Type 0} → ℕ → Lively K → Option (Message K)
sent_of uplink l = if is_uplink uplink l then oldest_for uplink l.waiting else None

-- the oldest sample for a subscriber
abbrev pub sample_of : {K : Type 0} → ℕ → ℕ → Lively K → Option (Sample K)
sample_of session id l = oldest_sample session id l.news

-- what is written down of a call once the gateway has carried it out, and what is taken
abbrev pub booked : {K : Type 0} → Api K → Lively K → Lively K → Lively K
booked OpenSession before l = record l { sessions = l.sessions ++ record { number = before.rows.made + 1; tokens = 0; interests = 0 } ∷ [] }
booked (OpenUplink zid whatami bound) before l = record l { uplinks = l.uplinks ++ (before.rows.made + 1) ∷ [] }
booked (DeclareToken session key) before l = record l { sessions = with_session session with_token_made l.sessions }
booked (Get session expr) before l = record l { sessions = with_session session with_interest_made l.sessions }
booked (DeclareSubscriber session expr history) before l = record l { sessions = with_session session with_interest_made l.sessions }
booked (TakeSample session id) before l = record l { news = without_sample session id l.news }
booked (UndeclareSubscriber session id) before l = record l { subscribers = without_subscriber session id l.subscribers; news = without_news session id l.news }
booked (TakeReply session id) before l = left_by session id (reply_of session id l) l
booked (TakeSent uplink) before l = if is_uplink uplink l then record l { waiting = without_oldest uplink l.waiting } else l
booked (Close face) before l = record l {
  sessions = without_session face l.sessions;
  uplinks = without_uplink face l.uplinks;
  queries = without_queries face l.queries;
  subscribers = without_subscribers face l.subscribers;
  told = samples.without_session face l.told;
  news = without_news_of_session face l.news;
}
booked _ before l = l

-- what there is where there is no error, and where there is one
abbrev pub unless : {A : Type 0} → Option ApiError → A → A → A
unless None x y = x
unless (Some error) x y = y

module _ {K : Type 0} (cmp : K → K → Ordering) (matching : K → K → Bool) where
  -- A new query or subscriber is written down before its call: it is given what that sends. A subscriber with history
  -- begins with what its session was told.
  abbrev pub readied : Api K → Lively K → Lively K
  readied (Get session expr) l = record l { queries = l.queries ++ record { session = session; id = interests_made session l + 1 } ∷ [] }
  readied (DeclareSubscriber session expr history) l = record l {
    subscribers = l.subscribers ++ record { session = session; id = interests_made session l + 1; expr = expr; history = history } ∷ [];
    news = l.news ++ started matching session (interests_made session l + 1) expr history l.told;
  }
  readied _ l = l

  -- A call of the gateway is carried out. Replies and messages for uplinks wait behind those that wait, and what sessions
  -- are told gives their subscribers samples. With a face go the messages that wait for it.
  abbrev pub carried : PlainCall K → Lively K → Lively K
  carried c l =
      let sent : Sends K = by_face (said cmp matching c l.rows) in
      record l {
        rows = rows_after cmp matching c l.rows;
        waiting = without_closed (closed_by c) l.waiting ++ filter (is_awaited l.sessions l.queries) sent;
        told = told_after_all cmp l.sessions sent l.told;
        news = l.news ++ news_in_all cmp matching l.sessions l.subscribers sent l.told;
      }

  abbrev pub gateway_error : Api K → Option (PlainCall K) → Lively K → Option ApiError
  gateway_error a None l = None
  gateway_error a (Some c) l = option_map (error_of a) (cause_of cmp matching c l.rows)

  -- why a call is refused, where it is
  abbrev pub error_in : Api K → Lively K → Option ApiError
  error_in a l = elim (first_error a l) [ Some error ↦ Some error | None ↦ gateway_error a (call_in a l) l ]

  abbrev pub carried_if : Option (PlainCall K) → Lively K → Lively K
  carried_if None l = l
  carried_if (Some c) l = carried c l

  -- what a call leaves that isn't refused
  abbrev pub done_by : Api K → Lively K → Lively K
  done_by a l = booked a l (carried_if (call_in a l) (readied a l))

  -- a refused call leaves all as it was
  abbrev pub left_after : Api K → Lively K → Lively K
  left_after a l = unless (error_in a l) (done_by a l) l

  -- the messages of a call, in the order sent
  abbrev pub said_if : Option (PlainCall K) → Lively K → Sends K
  said_if None l = []
  said_if (Some c) l = said cmp matching c l.rows

  abbrev pub said_in : Api K → Lively K → Sends K
  said_in a l = unless (error_in a l) (said_if (call_in a l) l) []

  -- An error of a call: its cause, or memory ran out, where no cause holds that comes before the gateway's own.
  abbrev pub IsErrorOf : Api K → Lively K → ApiError → Type 0
  IsErrorOf a l Memory = first_error a l ≡ None
  IsErrorOf a l error = error_in a l ≡ Some error
