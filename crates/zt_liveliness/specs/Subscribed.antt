-- What a subscriber is given, over every list of calls.
use Rattle.std.specs.Prelude.{◌≡◌, ℕ, Bool, true, false, ◌+◌, ◌==◌, ◌&&◌, ◌++◌, if◌then◌else◌, List, [], ◌∷◌, Some, None, option_to_list}
use Rattle.std.specs.declared.cmp.Ordering.{Ordering}
use Rattle.zt_laws.specs.Order.{RowsAreInOrder}
use Rattle.zt_model.specs.Rows.{Rows}
use Rattle.zt_model.specs.Says.{said}
use Rattle.zt_gateway.specs.Running.{by_face}
use Rattle.zt_samples.specs.Samples.{samples_for}
use Rattle.zt_samples.specs.declared.samples.Sample.{Sample}
use Rattle.zt_liveliness.specs.Lively.{Api, DeclareSubscriber, TakeSample, Lively, begun, call_in, interests_made, is_subscribed, left_after, readied, sample_of, said_in}
use Rattle.zt_liveliness.specs.Mail.{news_in_all}
use Rattle.zt_liveliness.specs.Replies.{left_after_all}

-- the samples that a call gives of a subscriber
abbrev pub samples_by : {K : Type 0} → ℕ → ℕ → Api K → Lively K → List (Sample K)
samples_by session id (TakeSample s i) l = if (session == s) && (id == i) then option_to_list (sample_of session id l) else []
samples_by session id _ l = []

module _ {K : Type 0} (cmp : K → K → Ordering) (matching : K → K → Bool) where
  -- a state of the interface over a gateway that had no face at first: what calls leave, one after another
  pub record IsReached (l : Lively K) : Type 0 where
    pub first : Rows K
    pub ordered : RowsAreInOrder cmp matching first
    pub no_face : first.faces ≡ []
    pub calls : List (Api K)
    pub left : l ≡ left_after_all cmp matching calls (begun first)

  -- the subscriber is there from the first to the last
  abbrev pub subscribed_through : ℕ → ℕ → List (Api K) → Lively K → Bool
  subscribed_through session id [] l = is_subscribed session id l
  subscribed_through session id (a ∷ calls) l = is_subscribed session id l && subscribed_through session id calls (left_after cmp matching a l)

  -- the samples that calls give of it
  abbrev pub samples_in : ℕ → ℕ → List (Api K) → Lively K → List (Sample K)
  samples_in session id [] l = []
  samples_in session id (a ∷ calls) l = samples_by session id a l ++ samples_in session id calls (left_after cmp matching a l)

  -- those, and those that wait then
  abbrev pub samples_so_far : ℕ → ℕ → List (Api K) → Lively K → List (Sample K)
  samples_so_far session id calls l = samples_in session id calls l ++ samples_for session id (left_after_all cmp matching calls l).news

  -- what the messages of a call are to a subscriber: samples, by what its session was told before each
  abbrev pub samples_sent_by : ℕ → ℕ → Api K → Lively K → List (Sample K)
  samples_sent_by session id a l = samples_for session id (news_in_all cmp matching l.sessions (readied cmp matching a l).subscribers (by_face (said_in cmp matching a l)) l.told)

  -- and of calls
  abbrev pub samples_sent : ℕ → ℕ → List (Api K) → Lively K → List (Sample K)
  samples_sent session id [] l = []
  samples_sent session id (a ∷ calls) l = samples_sent_by session id a l ++ samples_sent session id calls (left_after cmp matching a l)
