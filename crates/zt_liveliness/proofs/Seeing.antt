-- What a subscriber was given, and what waits for it, is what its session was sent.
use Rattle.std.proofs.Common.{◌≡◌, ℕ, ◌+◌, ◌≤◌, ◌==◌, ◌&&◌, ◌||◌, Bool, true, false, not, Option, Some, None, option_to_list, List, [], ◌∷◌, ◌++◌, filter, refl, sym, ap, subst, ◌∙◌, append-nil, append_assoc, arith, eqb-true, eq-eqb}
use Rattle.std.proofs.lemmas.Bool.{and_parts}
use Rattle.std.specs.Cmp.{IsTotalOrder}
use Rattle.std.specs.List.{list_any}
use Rattle.std.specs.Option.{is_some}
use Rattle.std.specs.declared.cmp.Ordering.{Ordering}
use Rattle.std.specs.declared.cmp.Ordering.TheVariants.{Equal}
use Rattle.zt_protocol.specs.Plain.{PlainCall}
use Rattle.zt_protocol.specs.Plain as plain
use Rattle.zt_protocol.specs.declared.messages.Message.{Message}
use Rattle.zt_protocol.specs.declared.messages.Message.TheVariants as message
use Rattle.zt_model.specs.Lists.{same}
use Rattle.zt_model.specs.Parts.{find_face}
use Rattle.zt_model.specs.Rows.{Face, Rows}
use Rattle.zt_model.specs.Says.{Sends, said}
use Rattle.zt_model.specs.Visible.{keeps}
use Rattle.zt_laws.specs.Order.{RowsAreInOrder}
use Rattle.zt_laws.specs.Sound.{IsToldInOrder, NamesOnce}
use Rattle.zt_laws.proofs.Hearing.{find_each}
use Rattle.zt_laws.proofs.Lists.{by_test, each_weaker, never}
use Rattle.zt_gateway.specs.Running.{by_face}
use Rattle.zt_samples.specs.Samples.{is_for, keeps_told, oldest_sample, samples_for, started, told_to, without_news, without_news_of_session, without_sample}
use Rattle.zt_samples.specs.Samples as samples
use Rattle.zt_samples.specs.declared.samples.News.{News}
use Rattle.zt_samples.specs.declared.samples.Sample.{Sample}
use Rattle.zt_samples.specs.declared.samples.Sample.TheVariants.{Put, Delete}
use Rattle.zt_samples.specs.declared.samples.Subscriber.{Subscriber}
use Rattle.zt_samples.specs.declared.samples.Told.{Told}
use Rattle.zt_theorem_samples.specs.Replayed.{IsOnly, NoPairTwice, replayed, sees}
use Rattle.zt_theorem_samples.proofs.Samples.{samples_for-append}
use Rattle.zt_theorem_samples.proofs.Seen.{replayed_behind, seen_after, started_seen}
use Rattle.zt_theorem_samples.proofs.Told.{keeps_told_to, twice_heard}
use Rattle.zt_liveliness.specs.Books.{find_session, has_subscriber, without_subscriber, without_subscribers}
use Rattle.zt_liveliness.specs.Lively.{Api, Close, DeclareSubscriber, DeclareToken, Expire, Get, Lively, OpenSession, OpenUplink, Receive, TakeReply, TakeSample, TakeSent, UndeclareSubscriber, UndeclareToken, begun, call_in, carried, done_by, error_in, first_error, interests_made, is_session, is_subscribed, is_uplink, left_after, left_by, readied, reply_of, said_if, said_in, unless}
use Rattle.zt_liveliness.specs.Mail.{is_to_session, news_in, news_in_all, told_after, told_after_all}
use Rattle.zt_liveliness.specs.Replies.{left_after_all}
use Rattle.zt_liveliness.specs.Subscribed.{IsReached, samples_by, samples_in, samples_sent, samples_sent_by, samples_so_far, subscribed_through}
use Rattle.zt_liveliness.specs.declared.answers.Reply.{Reply}
use Rattle.zt_liveliness.specs.declared.answers.Reply.TheVariants.{Live, Done, NotYet, NoSuchGet}
use Rattle.zt_liveliness.specs.declared.books.Session.{Session}
use Rattle.zt_liveliness.specs.declared.errors.ApiError.{ApiError}
use Rattle.zt_liveliness.proofs.Counts.{interests_of, made_on}
use Rattle.zt_liveliness.proofs.Named.{OfNews, OfSubscribers, id_is_new, none_for, started_for}
use Rattle.zt_liveliness.proofs.Well.{HasFace, IsWell, IsWellFor, first_none, session_there, well_after, well_begun}

none_some : {A : Type 0} (x : A) → None ≡ Some x → ⊥
none_some x is = cc

-- who is another isn't this one
apart_from : (session i n id k j : ℕ) → ((session == n) && (i == id)) ≡ false → ((n == k) && (id == j)) ≡ true → not ((session == k) && (i == j)) ≡ true
apart_from session i n id k j other own =
    let parts = and_parts (n == k) (id == j) own in
    let is : ((session == k) && (i == j)) ≡ false = subst (λ (m : ℕ). ((session == m) && (i == j)) ≡ false) (eqb-true n k parts.0) (subst (λ (m : ℕ). ((session == n) && (i == m)) ≡ false) (eqb-true id j parts.1) other) in
    rw is refl

-- ---- the subscriber of an id

module _ {K : Type 0} where
  -- the subscribers of a session and an id
  abbrev those : ℕ → ℕ → List (Subscriber K) → List (Subscriber K)
  those n id ss = filter (λ x. (n == x.session) && (id == x.id)) ss

  those_appended : (n id : ℕ) (s : Subscriber K) (ss : List (Subscriber K)) → ((n == s.session) && (id == s.id)) ≡ false → those n id (ss ++ s ∷ []) ≡ those n id ss
  those_appended n id s [] apart = rw apart refl
  those_appended n id s (x ∷ ss) apart =
      by_test ((n == x.session) && (id == x.id)) (λ here. rw here (ap (λ rest. x ∷ rest) (those_appended n id s ss apart))) (λ here. rw here (those_appended n id s ss apart))

  -- a new one is the only one
  those_new : (n id : ℕ) (s : Subscriber K) (ss : List (Subscriber K)) → OfSubscribers (λ k i. ((n == k) && (id == i)) ≡ false) ss → ((n == s.session) && (id == s.id)) ≡ true → those n id (ss ++ s ∷ []) ≡ s ∷ []
  those_new n id s [] apart own = rw own refl
  those_new n id s (x ∷ ss) apart own = rw apart.0 (those_new n id s ss apart.1 own)

  -- others go
  those_left : (n id : ℕ) (p : Subscriber K → Bool) (ss : List (Subscriber K)) → ((x : Subscriber K) → ((n == x.session) && (id == x.id)) ≡ true → p x ≡ true) → those n id (filter p ss) ≡ those n id ss
  those_left n id p [] stays = refl
  those_left n id p (x ∷ ss) stays =
      by_test ((n == x.session) && (id == x.id))
      (λ here. rw (stays x here, here) (ap (λ rest. x ∷ rest) (those_left n id p ss stays)))
      (λ here. by_test (p x) (λ left. rw (left, here) (those_left n id p ss stays)) (λ left. rw (left, here) (those_left n id p ss stays)))

  for_left : (n id : ℕ) (p : News K → Bool) (news : List (News K)) → ((one : News K) → is_for n id one ≡ true → p one ≡ true) → samples_for n id (filter p news) ≡ samples_for n id news
  for_left n id p [] stays = refl
  for_left n id p (one ∷ news) stays =
      by_test (is_for n id one)
      (λ here. rw (stays one here, here) (ap (λ rest. one.sample ∷ rest) (for_left n id p news stays)))
      (λ here. by_test (p one) (λ left. rw (left, here) (for_left n id p news stays)) (λ left. rw (left, here) (for_left n id p news stays)))

  -- a subscriber that is there isn't of the session that closed, nor the one that was undeclared
  open_still : (face n id : ℕ) (ss : List (Subscriber K)) → has_subscriber n id (without_subscribers face ss) ≡ true → (face == n) ≡ false
  open_still face n id [] there = never there refl
  open_still face n id (x ∷ ss) there =
      by_test (face == x.session)
      (λ gone. open_still face n id ss (rw gone at there))
      (λ gone. by_test ((n == x.session) && (id == x.id))
      (λ own. by_test (face == n)
      (λ same_. never (eq-eqb face x.session (eqb-true face n same_ ∙ eqb-true n x.session (and_parts (n == x.session) (id == x.id) own).0)) gone)
      (λ same_. same_))
      (λ own. open_still face n id ss (rw (gone, own) at there)))

  undeclared : (n id : ℕ) (ss : List (Subscriber K)) → has_subscriber n id (without_subscriber n id ss) ≡ false
  undeclared n id [] = refl
  undeclared n id (x ∷ ss) = by_test ((n == x.session) && (id == x.id)) (λ own. rw own (undeclared n id ss)) (λ own. rw (own, own) (undeclared n id ss))

  another : (n id session i : ℕ) (ss : List (Subscriber K)) → has_subscriber n id (without_subscriber session i ss) ≡ true → ((session == n) && (i == id)) ≡ false
  another n id session i ss there =
      by_test ((session == n) && (i == id))
      (λ same_.
      let parts = and_parts (session == n) (i == id) same_ in
      let one : has_subscriber n id (without_subscriber n i ss) ≡ true = subst (λ (k : ℕ). has_subscriber n id (without_subscriber k i ss) ≡ true) (eqb-true session n parts.0) there in
      let two : has_subscriber n id (without_subscriber n id ss) ≡ true = subst (λ (k : ℕ). has_subscriber n id (without_subscriber n k ss) ≡ true) (eqb-true i id parts.1) one in
      never two (undeclared n id ss))
      (λ same_. same_)

  -- what is taken is the oldest
  taken_first : (n id : ℕ) (news : List (News K)) → option_to_list (oldest_sample n id news) ++ samples_for n id (without_sample n id news) ≡ samples_for n id news
  taken_first n id [] = refl
  taken_first n id (one ∷ news) = by_test (is_for n id one) (λ here. rw here refl) (λ here. rw (here, here) (taken_first n id news))

  taken_other : (n id session i : ℕ) (news : List (News K)) → ((n == session) && (id == i)) ≡ false → samples_for n id (without_sample session i news) ≡ samples_for n id news
  taken_other n id session i [] other = refl
  taken_other n id session i (one ∷ news) other =
      by_test (is_for session i one)
      (λ takes.
      let parts = and_parts (session == one.session) (i == one.subscriber) takes in
      let not_mine : is_for n id one ≡ false =
      subst (λ (k : ℕ). ((n == k) && (id == one.subscriber)) ≡ false) (eqb-true session one.session parts.0) (subst (λ (k : ℕ). ((n == session) && (id == k)) ≡ false) (eqb-true i one.subscriber parts.1) other)
      in
      rw (takes, not_mine) refl)
      (λ takes. by_test (is_for n id one)
      (λ mine. rw (takes, mine) (ap (λ rest. one.sample ∷ rest) (taken_other n id session i news other)))
      (λ mine. rw (takes, mine) (taken_other n id session i news other)))

-- ---- what one call comes to for a subscriber

module _ {K : Type 0} (cmp : K → K → Ordering) (matching : K → K → Bool) where
  abbrev news_of_call : Api K → Lively K → Sends K → List (News K)
  news_of_call a l ss = news_in_all cmp matching l.sessions (readied cmp matching a l).subscribers (by_face ss) l.told

  abbrev told_of_call : Lively K → Sends K → List (Told K)
  told_of_call l ss = told_after_all cmp l.sessions (by_face ss) l.told

  -- The samples of a call and those that wait then are those that waited and those that it sends; its session keeps what
  -- its messages say; and it is the subscriber that it was.
  record StepBy (n id : ℕ) (a : Api K) (l : Lively K) (o : Option ApiError) : Type 0 where
    pub samples : samples_by n id a l ++ samples_for n id (unless o (done_by cmp matching a l) l).news
        ≡ samples_for n id l.news ++ samples_for n id (news_of_call a l (unless o (said_if cmp matching (call_in a l) l) []))
    pub keeps : (e : K) → keeps_told cmp n e (unless o (done_by cmp matching a l) l).told ≡ keeps_told cmp n e (told_of_call l (unless o (said_if cmp matching (call_in a l) l) []))
    pub same : those n id (unless o (done_by cmp matching a l) l).subscribers ≡ those n id l.subscribers

  abbrev StepDone : ℕ → ℕ → Api K → Lively K → Type 0
  StepDone n id a l = StepBy n id a l None

  -- a call that is carried out and leaves subscribers, samples and what was told as that does
  plainly : (n id : ℕ) (a : Api K) (l : Lively K) (ss : Sends K) → said_if cmp matching (call_in a l) l ≡ ss → samples_by n id a l ≡ []
      → (done_by cmp matching a l).news ≡ l.news ++ news_of_call a l ss
      → (done_by cmp matching a l).told ≡ told_of_call l ss
      → (done_by cmp matching a l).subscribers ≡ l.subscribers → StepDone n id a l
  plainly n id a l ss says gives news told subscribers = record {
    samples = ap (λ xs. xs ++ samples_for n id (done_by cmp matching a l).news) gives
        ∙ ap (samples_for n id) news
        ∙ samples_for-append n id l.news (news_of_call a l ss)
        ∙ ap (λ xs. samples_for n id l.news ++ samples_for n id (news_of_call a l xs)) (sym says);
    keeps = λ e. ap (keeps_told cmp n e) (told ∙ ap (told_of_call l) (sym says));
    same = ap (those n id) subscribers;
  }

  -- and one that makes no call of the gateway
  quietly : (n id : ℕ) (a : Api K) (l : Lively K) → said_if cmp matching (call_in a l) l ≡ [] → samples_by n id a l ++ samples_for n id (done_by cmp matching a l).news ≡ samples_for n id l.news
      → (done_by cmp matching a l).told ≡ l.told → (done_by cmp matching a l).subscribers ≡ l.subscribers → StepDone n id a l
  quietly n id a l says news told subscribers = record {
    samples = news ∙ sym (append-nil (samples_for n id l.news)) ∙ ap (λ xs. samples_for n id l.news ++ samples_for n id (news_of_call a l xs)) (sym says);
    keeps = λ e. ap (keeps_told cmp n e) (told ∙ ap (told_of_call l) (sym says));
    same = ap (those n id) subscribers;
  }

  -- the samples of a session that didn't close
  step_closed : (n id face : ℕ) (l : Lively K) → (face == n) ≡ false → StepDone n id (Close face) l
  step_closed n id face l other =
      let ss = said cmp matching (plain.CloseFace face) l.rows in
      let news = l.news ++ news_of_call (Close face) l ss in
      record {
        samples =
            for_left n id (λ one. not (face == one.session)) news (λ one mine. stays one.session (and_parts (n == one.session) (id == one.subscriber) mine).0)
            ∙ samples_for-append n id l.news (news_of_call (Close face) l ss);
        keeps = λ e. kept_left e (told_of_call l ss);
        same = those_left n id (λ s. not (face == s.session)) l.subscribers (λ s mine. stays s.session (and_parts (n == s.session) (id == s.id) mine).0);
      }
    where
      stays : (k : ℕ) → (n == k) ≡ true → not (face == k) ≡ true
      stays k own = let apart : (face == k) ≡ false = subst (λ (m : ℕ). (face == m) ≡ false) (eqb-true n k own) other in rw apart refl

      kept_left : (e : K) (ts : List (Told K)) → keeps_told cmp n e (samples.without_session face ts) ≡ keeps_told cmp n e ts
      kept_left e [] = refl
      kept_left e (t ∷ ts) =
          by_test (face == t.session)
          (λ gone.
          let apart : (n == t.session) ≡ false = by_test (n == t.session) (λ own. never (eq-eqb face n (eqb-true face t.session gone ∙ sym (eqb-true n t.session own))) other) (λ own. own) in
          rw (gone, apart) (kept_left e ts))
          (λ gone. rw gone (ap (λ b. ((n == t.session) && same cmp e t.expr) || b) (kept_left e ts)))

  step_undeclared : (n id session i : ℕ) (l : Lively K) → ((session == n) && (i == id)) ≡ false → StepDone n id (UndeclareSubscriber session i) l
  step_undeclared n id session i l other =
      let ss = said cmp matching (plain.InterestFinal session i) l.rows in
      let news = l.news ++ news_of_call (UndeclareSubscriber session i) l ss in
      record {
        samples =
            for_left n id (λ one. not (is_for session i one)) news (λ one mine. apart_from session i n id one.session one.subscriber other mine)
            ∙ samples_for-append n id l.news (news_of_call (UndeclareSubscriber session i) l ss);
        keeps = λ e. refl;
        same = those_left n id (λ s. not ((session == s.session) && (i == s.id))) l.subscribers (λ s mine. apart_from session i n id s.session s.id other mine);
      }

  -- another subscriber is declared
  step_declared : (n id session : ℕ) (expr : K) (history : Bool) (l : Lively K) → ((n == session) && (id == interests_made session l + 1)) ≡ false → StepDone n id (DeclareSubscriber session expr history) l
  step_declared n id session expr history l other =
      let a : Api K = DeclareSubscriber session expr history in
      let i = interests_made session l + 1 in
      let first = started matching session i expr history l.told in
      let ss = said_if cmp matching (call_in a l) l in
      let none : samples_for n id first ≡ [] = none_for n id first (started_for cmp matching (λ k j. ((n == k) && (id == j)) ≡ false) session i expr history l.told other) in
      record {
        samples =
            samples_for-append n id (l.news ++ first) (news_of_call a l ss)
            ∙ ap (λ xs. xs ++ samples_for n id (news_of_call a l ss)) (samples_for-append n id l.news first ∙ ap (λ xs. samples_for n id l.news ++ xs) none ∙ append-nil (samples_for n id l.news));
        keeps = λ e. refl;
        same = those_appended n id (record { session = session; id = i; expr = expr; history = history }) l.subscribers other;
      }

  -- an id that is there was given
  declared_apart : (n id session : ℕ) (l : Lively K) (ss : List (Subscriber K)) → OfSubscribers (λ k j. j ≤ made_on k l.sessions) ss → has_subscriber n id ss ≡ true → ((n == session) && (id == interests_made session l + 1)) ≡ false
  declared_apart n id session l [] up has = never has refl
  declared_apart n id session l (x ∷ ss) up has =
      by_test ((n == x.session) && (id == x.id))
      (λ own. by_test ((n == session) && (id == interests_made session l + 1)) (λ same_. never (both own same_) (id_is_new l.sessions session x.session x.id up.0)) (λ same_. same_))
      (λ own. declared_apart n id session l ss up.1 (rw own at has))
    where
      both : ((n == x.session) && (id == x.id)) ≡ true → ((n == session) && (id == interests_made session l + 1)) ≡ true → ((session == x.session) && (made_on session l.sessions + 1 == x.id)) ≡ true
      both own same_ =
          let parts = and_parts (n == x.session) (id == x.id) own in
          let others = and_parts (n == session) (id == interests_made session l + 1) same_ in
          let one : session ≡ x.session = sym (eqb-true n session others.0) ∙ eqb-true n x.session parts.0 in
          let two : made_on session l.sessions + 1 ≡ x.id = sym (eqb-true id (interests_made session l + 1) others.1) ∙ eqb-true id x.id parts.1 in
          rw (eq-eqb session x.session one, eq-eqb (made_on session l.sessions + 1) x.id two) refl

  step_done : (n id : ℕ) (a : Api K) (l : Lively K) → IsWell cmp matching l → has_subscriber n id l.subscribers ≡ true → has_subscriber n id (done_by cmp matching a l).subscribers ≡ true → StepDone n id a l
  step_done n id OpenSession l w there then = plainly n id OpenSession l _ refl refl refl refl refl
  step_done n id (OpenUplink zid whatami bound) l w there then = plainly n id (OpenUplink zid whatami bound) l _ refl refl refl refl refl
  step_done n id (DeclareToken session key) l w there then = plainly n id (DeclareToken session key) l _ refl refl refl refl refl
  step_done n id (UndeclareToken session i) l w there then = plainly n id (UndeclareToken session i) l _ refl refl refl refl refl
  step_done n id (Get session expr) l w there then = plainly n id (Get session expr) l _ refl refl refl refl refl
  step_done n id (Expire now) l w there then = plainly n id (Expire now) l _ refl refl refl refl refl
  step_done n id (Receive uplink m) l w there then = received m
    where
      received : (m : Message K) → StepDone n id (Receive uplink m) l
      received (message.DeclareToken i e interest node) = plainly n id (Receive uplink (message.DeclareToken i e interest node)) l _ refl refl refl refl refl
      received (message.UndeclareToken i e node) = plainly n id (Receive uplink (message.UndeclareToken i e node)) l _ refl refl refl refl refl
      received (message.DeclareFinal interest) = plainly n id (Receive uplink (message.DeclareFinal interest)) l _ refl refl refl refl refl
      received (message.Interest i mode options e) = plainly n id (Receive uplink (message.Interest i mode options e)) l _ refl refl refl refl refl
      received (message.InterestFinal i) = plainly n id (Receive uplink (message.InterestFinal i)) l _ refl refl refl refl refl
      received (message.DeclareSubscriber i e interest) = quietly n id (Receive uplink (message.DeclareSubscriber i e interest)) l refl refl refl refl
      received (message.DeclareQueryable i e info interest) = quietly n id (Receive uplink (message.DeclareQueryable i e info interest)) l refl refl refl refl
  step_done n id (TakeReply session i) l w there then =
      quietly n id (TakeReply session i) l refl (ap (samples_for n id) (news_left (reply_of session i l))) (told_left (reply_of session i l)) (subscribers_left (reply_of session i l))
    where
      news_left : (r : Reply K) → (left_by session i r l).news ≡ l.news
      news_left (Live e) = refl
      news_left Done = refl
      news_left NotYet = refl
      news_left NoSuchGet = refl

      told_left : (r : Reply K) → (left_by session i r l).told ≡ l.told
      told_left (Live e) = refl
      told_left Done = refl
      told_left NotYet = refl
      told_left NoSuchGet = refl

      subscribers_left : (r : Reply K) → (left_by session i r l).subscribers ≡ l.subscribers
      subscribers_left (Live e) = refl
      subscribers_left Done = refl
      subscribers_left NotYet = refl
      subscribers_left NoSuchGet = refl
  step_done n id (TakeSent uplink) l w there then =
      by_test (is_uplink uplink l)
      (λ takes. quietly n id (TakeSent uplink) l refl (rw takes refl) (rw takes refl) (rw takes refl))
      (λ takes. quietly n id (TakeSent uplink) l refl (rw takes refl) (rw takes refl) (rw takes refl))
  step_done n id (TakeSample session i) l w there then =
      quietly n id (TakeSample session i) l refl
      (by_test ((n == session) && (id == i))
      (λ mine.
      let parts = and_parts (n == session) (id == i) mine in
      rw mine (subst (λ (k : ℕ). option_to_list (oldest_sample n id l.news) ++ samples_for n id (without_sample k i l.news) ≡ samples_for n id l.news) (eqb-true n session parts.0)
      (subst (λ (j : ℕ). option_to_list (oldest_sample n id l.news) ++ samples_for n id (without_sample n j l.news) ≡ samples_for n id l.news) (eqb-true id i parts.1) (taken_first n id l.news))))
      (λ mine. rw mine (taken_other n id session i l.news mine)))
      refl refl
  step_done n id (Close face) l w there then = step_closed n id face l (open_still face n id l.subscribers then)
  step_done n id (UndeclareSubscriber session i) l w there then = step_undeclared n id session i l (another n id session i l.subscribers then)
  step_done n id (DeclareSubscriber session expr history) l w there then = step_declared n id session expr history l (declared_apart n id session l l.subscribers w.ids there)

  -- a refused call gives none
  refused_gives : (n id : ℕ) (a : Api K) (l : Lively K) (error : ApiError) → error_in cmp matching a l ≡ Some error → samples_by n id a l ≡ []
  refused_gives n id OpenSession l error is = refl
  refused_gives n id (OpenUplink zid whatami bound) l error is = refl
  refused_gives n id (DeclareToken session key) l error is = refl
  refused_gives n id (UndeclareToken session i) l error is = refl
  refused_gives n id (Get session expr) l error is = refl
  refused_gives n id (TakeReply session i) l error is = refl
  refused_gives n id (DeclareSubscriber session expr history) l error is = refl
  refused_gives n id (TakeSample session i) l error is = cc
  refused_gives n id (UndeclareSubscriber session i) l error is = refl
  refused_gives n id (Receive uplink m) l error is = refl
  refused_gives n id (TakeSent uplink) l error is = refl
  refused_gives n id (Close face) l error is = refl
  refused_gives n id (Expire now) l error is = refl

  step : (n id : ℕ) (a : Api K) (l : Lively K) → IsWell cmp matching l → is_subscribed n id l ≡ true → is_subscribed n id (left_after cmp matching a l) ≡ true → StepBy n id a l (error_in cmp matching a l)
  step n id a l w there then = cases (error_in cmp matching a l) refl then
    where
      cases : (o : Option ApiError) → error_in cmp matching a l ≡ o → has_subscriber n id (unless o (done_by cmp matching a l) l).subscribers ≡ true → StepBy n id a l o
      cases None is then = step_done n id a l w there then
      cases (Some error) is then = record {
        samples = ap (λ xs. xs ++ samples_for n id l.news) (refused_gives n id a l error is) ∙ sym (append-nil (samples_for n id l.news));
        keeps = λ e. refl;
        same = refl;
      }

  -- a new subscriber isn't the one that is there
  readied_those : (n id : ℕ) (a : Api K) (l : Lively K) → IsWell cmp matching l → is_subscribed n id l ≡ true → those n id (readied cmp matching a l).subscribers ≡ those n id l.subscribers
  readied_those n id OpenSession l w there = refl
  readied_those n id (OpenUplink zid whatami bound) l w there = refl
  readied_those n id (DeclareToken session key) l w there = refl
  readied_those n id (UndeclareToken session i) l w there = refl
  readied_those n id (Get session expr) l w there = refl
  readied_those n id (TakeReply session i) l w there = refl
  readied_those n id (DeclareSubscriber session expr history) l w there = those_appended n id (record { session = session; id = interests_made session l + 1; expr = expr; history = history }) l.subscribers (declared_apart n id session l l.subscribers w.ids there)
  readied_those n id (TakeSample session i) l w there = refl
  readied_those n id (UndeclareSubscriber session i) l w there = refl
  readied_those n id (Receive uplink m) l w there = refl
  readied_those n id (TakeSent uplink) l w there = refl
  readied_those n id (Close face) l w there = refl
  readied_those n id (Expire now) l w there = refl

  -- ---- many calls

  first_through : (n id : ℕ) (calls : List (Api K)) (l : Lively K) → subscribed_through cmp matching n id calls l ≡ true → is_subscribed n id l ≡ true
  first_through n id [] l through = through
  first_through n id (a ∷ calls) l through = (and_parts (is_subscribed n id l) (subscribed_through cmp matching n id calls (left_after cmp matching a l)) through).0

  -- what is replayed in two parts
  replayed_parts : (e : K) (xs ys : List (Sample K)) (was now : Bool) → replayed cmp e (xs ++ ys) was ≡ Some now → (then : Bool) × (replayed cmp e xs was ≡ Some then) × (replayed cmp e ys then ≡ Some now)
  replayed_parts e [] ys was now is = (was, refl, is)
  replayed_parts e (Put k ∷ xs) ys true now is =
      by_test (same cmp e k) (λ here. let bad : None ≡ Some now = rw here at is in absurd (none_some now bad)) (λ here. let later = replayed_parts e xs ys true now (rw here at is) in (later.0, rw here later.1, later.2))
  replayed_parts e (Put k ∷ xs) ys false now is =
      by_test (same cmp e k) (λ here. let later = replayed_parts e xs ys true now (rw here at is) in (later.0, rw here later.1, later.2)) (λ here. let later = replayed_parts e xs ys false now (rw here at is) in (later.0, rw here later.1, later.2))
  replayed_parts e (Delete k ∷ xs) ys true now is =
      by_test (same cmp e k) (λ here. let later = replayed_parts e xs ys false now (rw here at is) in (later.0, rw here later.1, later.2)) (λ here. let later = replayed_parts e xs ys true now (rw here at is) in (later.0, rw here later.1, later.2))
  replayed_parts e (Delete k ∷ xs) ys false now is =
      by_test (same cmp e k) (λ here. let bad : None ≡ Some now = rw here at is in absurd (none_some now bad)) (λ here. let later = replayed_parts e xs ys false now (rw here at is) in (later.0, rw here later.1, later.2))

  module _ (total : IsTotalOrder cmp) (one : (a b : K) → cmp a b ≡ Equal → a ≡ b) where
    well_all : (calls : List (Api K)) (l : Lively K) → IsWell cmp matching l → IsWell cmp matching (left_after_all cmp matching calls l)
    well_all [] l w = w
    well_all (a ∷ calls) l w = well_all calls (left_after cmp matching a l) (well_after cmp matching total one a l w)

    well_reached : (l : Lively K) → IsReached cmp matching l → IsWell cmp matching l
    well_reached l r = subst (IsWell cmp matching) (sym r.left) (well_all r.calls (begun r.first) (well_begun cmp matching r.first r.ordered))

    -- what was given and what waits is what waited and what was sent
    sent_so_far : (n id : ℕ) (calls : List (Api K)) (l : Lively K) → IsWell cmp matching l → subscribed_through cmp matching n id calls l ≡ true
        → samples_so_far cmp matching n id calls l ≡ samples_for n id l.news ++ samples_sent cmp matching n id calls l
    sent_so_far n id [] l w through = sym (append-nil (samples_for n id l.news))
    sent_so_far n id (a ∷ calls) l w through =
        let after = left_after cmp matching a l in
        let parts = and_parts (is_subscribed n id l) (subscribed_through cmp matching n id calls after) through in
        let last = samples_for n id (left_after_all cmp matching calls after).news in
        append_assoc (samples_by n id a l) (samples_in cmp matching n id calls after) last
        ∙ ap (λ xs. samples_by n id a l ++ xs) (sent_so_far n id calls after (well_after cmp matching total one a l w) parts.1)
        ∙ sym (append_assoc (samples_by n id a l) (samples_for n id after.news) (samples_sent cmp matching n id calls after))
        ∙ ap (λ xs. xs ++ samples_sent cmp matching n id calls after) (step n id a l w parts.0 (first_through n id calls after parts.1)).samples
        ∙ append_assoc (samples_for n id l.news) (samples_sent_by cmp matching n id a l) (samples_sent cmp matching n id calls after)

    pub samples_are_sent : (n id : ℕ) (calls : List (Api K)) (l : Lively K) → IsReached cmp matching l → subscribed_through cmp matching n id calls l ≡ true
        → samples_so_far cmp matching n id calls l ≡ samples_for n id l.news ++ samples_sent cmp matching n id calls l
    samples_are_sent n id calls l reached through = sent_so_far n id calls l (well_reached l reached) through

    -- ---- what a subscriber with history sees

    -- messages to sessions
    seen_all : (s : Subscriber K) (subscribers : List (Subscriber K)) (sessions : List Session) (ss : Sends K) (told : List (Told K)) (e : K) → IsOnly s subscribers → s.history ≡ true → NoPairTwice cmp told
        → replayed cmp e (samples_for s.session s.id (news_in_all cmp matching sessions subscribers ss told)) (sees cmp matching s e told) ≡ Some (sees cmp matching s e (told_after_all cmp sessions ss told))
    seen_all s subscribers sessions [] told e only history once = refl
    seen_all s subscribers sessions (m ∷ ss) told e only history once =
        let then = told_after cmp sessions m told in
        let first = samples_for s.session s.id (news_in cmp matching sessions subscribers m told) in
        let rest = samples_for s.session s.id (news_in_all cmp matching sessions subscribers ss then) in
        ap (λ xs. replayed cmp e xs (sees cmp matching s e told)) (samples_for-append s.session s.id (news_in cmp matching sessions subscribers m told) (news_in_all cmp matching sessions subscribers ss then))
        ∙ replayed_behind cmp e first rest (sees cmp matching s e told) (sees cmp matching s e then)
        (by_test (is_to_session sessions m) (λ to. rw to (seen_after cmp matching total one s subscribers m.0 m.1 told e only history once)) (λ to. rw to refl))
        ∙ seen_all s subscribers sessions ss then e only history (by_test (is_to_session sessions m) (λ to. rw to (twice_heard cmp total one m.0 m.1 told once)) (λ to. rw to once))

    -- from what is seen before calls the samples lead to what is seen after them
    seen_through : (s : Subscriber K) (calls : List (Api K)) (l : Lively K) (e : K) (was : Bool) → IsWell cmp matching l → IsOnly s l.subscribers → s.history ≡ true
        → subscribed_through cmp matching s.session s.id calls l ≡ true
        → replayed cmp e (samples_for s.session s.id l.news) was ≡ Some (sees cmp matching s e l.told)
        → replayed cmp e (samples_so_far cmp matching s.session s.id calls l) was ≡ Some (sees cmp matching s e (left_after_all cmp matching calls l).told)
    seen_through s [] l e was w only history through seen = seen
    seen_through s (a ∷ calls) l e was w only history through seen =
        let n = s.session in
        let id = s.id in
        let after = left_after cmp matching a l in
        let parts = and_parts (is_subscribed n id l) (subscribed_through cmp matching n id calls after) through in
        let it = step n id a l w parts.0 (first_through n id calls after parts.1) in
        let ss = by_face (said_in cmp matching a l) in
        let subscribers = (readied cmp matching a l).subscribers in
        let last = samples_for n id (left_after_all cmp matching calls after).news in
        let by_call : replayed cmp e (samples_by n id a l ++ samples_for n id after.news) was ≡ Some (sees cmp matching s e after.told) =
        ap (λ xs. replayed cmp e xs was) it.samples
        ∙ replayed_behind cmp e (samples_for n id l.news) (samples_sent_by cmp matching n id a l) was (sees cmp matching s e l.told) seen
        ∙ seen_all s subscribers l.sessions ss l.told e (readied_those n id a l w parts.0 ∙ only) history w.once
        ∙ ap (λ b. Some (matching s.expr e && b)) (sym (it.keeps e))
        in
        let cut = replayed_parts e (samples_by n id a l) (samples_for n id after.news) was (sees cmp matching s e after.told) by_call in
        ap (λ xs. replayed cmp e xs was) (append_assoc (samples_by n id a l) (samples_in cmp matching n id calls after) last)
        ∙ replayed_behind cmp e (samples_by n id a l) (samples_in cmp matching n id calls after ++ last) was cut.0 cut.1
        ∙ seen_through s calls after e cut.0 (well_after cmp matching total one a l w) (it.same ∙ only) history parts.1 cut.2

    -- what a session keeps is what its face keeps
    face_keeps : (n : ℕ) (l : Lively K) (e : K) (f : Face K) → IsWell cmp matching l → is_session n l ≡ true → find_face n l.rows ≡ Some f → keeps_told cmp n e l.told ≡ keeps cmp f e
    face_keeps n l e f w there found =
        let face = w.faces n there in
        let same_ : face.0 ≡ f = let is : Some face.0 ≡ Some f = sym face.1 ∙ found in cc in
        keeps_told_to cmp n e l.told ∙ ap (list_any (λ (row : ℕ × K). same cmp e row.1)) (sym face.2 ∙ ap (λ (h : Face K). h.told) same_)

    -- the session of a subscriber is open
    open_of : (n id : ℕ) (l : Lively K) → IsWell cmp matching l → is_subscribed n (id + 1) l ≡ true → is_session n l ≡ true
    open_of n id l w there = opened (find_session n l.sessions) (most l.subscribers w.ids there)
      where
        most : (ss : List (Subscriber K)) → OfSubscribers (λ k i. i ≤ made_on k l.sessions) ss → has_subscriber n (id + 1) ss ≡ true → id + 1 ≤ made_on n l.sessions
        most [] up has = never has refl
        most (x ∷ ss) up has =
            by_test ((n == x.session) && (id + 1 == x.id))
            (λ own.
            let parts = and_parts (n == x.session) (id + 1 == x.id) own in
            let within : x.id ≤ made_on n l.sessions = subst (λ (k : ℕ). x.id ≤ made_on k l.sessions) (sym (eqb-true n x.session parts.0)) up.0 in
            subst (λ (i : ℕ). i ≤ made_on n l.sessions) (sym (eqb-true (id + 1) x.id parts.1)) within)
            (λ own. most ss up.1 (rw own at has))

        opened : (o : Option Session) → id + 1 ≤ interests_of o → is_some o ≡ true
        opened None up = absurd (omega (arith, up))
        opened (Some s) up = refl

    -- A subscriber with history sees, by all its samples, what its session's face keeps and what matches.
    pub subscribers_see : (session : ℕ) (expr e : K) (calls : List (Api K)) (f : Face K) (l : Lively K) → IsReached cmp matching l
        → error_in cmp matching (DeclareSubscriber session expr true) l ≡ None
        → (let id = interests_made session l + 1 in let then = left_after cmp matching (DeclareSubscriber session expr true) l in
        subscribed_through cmp matching session id calls then ≡ true
        → find_face session (left_after_all cmp matching calls then).rows ≡ Some f
        → replayed cmp e (samples_so_far cmp matching session id calls then) false ≡ Some (matching expr e && keeps cmp f e))
    subscribers_see session expr e calls f l reached accepted through found =
        seen_through s calls then e false w_then (ap (those session id) (ap (λ (k : Lively K). k.subscribers) then_is) ∙ only) refl through (subst (λ (k : Lively K). replayed cmp e (samples_for session id k.news) false ≡ Some (sees cmp matching s e k.told)) (sym then_is) seen)
        ∙ ap (λ b. Some (matching expr e && b)) (face_keeps session last e f w_last (open_of session (interests_made session l) last w_last (last_through calls then through)) found)
      where
        a : Api K
        a = DeclareSubscriber session expr true

        id : ℕ
        id = interests_made session l + 1

        s : Subscriber K
        s = record { session = session; id = id; expr = expr; history = true }

        then : Lively K
        then = left_after cmp matching a l

        last : Lively K
        last = left_after_all cmp matching calls then

        w : IsWell cmp matching l
        w = well_reached l reached

        w_then : IsWell cmp matching then
        w_then = well_after cmp matching total one a l w

        w_last : IsWell cmp matching last
        w_last = well_all calls then w_then

        then_is : then ≡ done_by cmp matching a l
        then_is = ap (λ (o : Option ApiError). unless o (done_by cmp matching a l) l) accepted

        only : IsOnly s (l.subscribers ++ s ∷ [])
        only =
            those_new session id s l.subscribers
            (each_weaker (λ x. x.id ≤ made_on x.session l.sessions) (λ x. ((session == x.session) && (id == x.id)) ≡ false) (λ x up. id_is_new l.sessions session x.session x.id up) l.subscribers w.ids)
            (rw (eq-eqb session session refl, eq-eqb id id refl) refl)

        first : List (News K)
        first = started matching session id expr true l.told

        sent : List (News K)
        sent = news_in_all cmp matching l.sessions (l.subscribers ++ s ∷ []) (by_face (said_if cmp matching (call_in a l) l)) l.told

        there : is_session session l ≡ true
        there = session_there (find_session session l.sessions) (λ s. s.interests) (first_none cmp matching a l accepted)

        names : NamesOnce cmp (told_to session l.told)
        names =
            let face = w.faces session there in
            subst (NamesOnce cmp) face.2 (find_each (λ f. IsToldInOrder cmp f.told f.next) (λ h. session == h.number) l.rows.faces face.0 w.ordered.told face.1).once

        none : samples_for session id l.news ≡ []
        none = none_for session id l.news (each_weaker (λ one. one.subscriber ≤ made_on one.session l.sessions) (λ one. ((session == one.session) && (id == one.subscriber)) ≡ false) (λ one up. id_is_new l.sessions session one.session one.subscriber up) l.news w.news_ids)

        seen : replayed cmp e (samples_for session id ((l.news ++ first) ++ sent)) false ≡ Some (sees cmp matching s e (told_of_call l (said_if cmp matching (call_in a l) l)))
        seen =
            ap (λ xs. replayed cmp e xs false) (samples_for-append session id (l.news ++ first) sent ∙ ap (λ xs. xs ++ samples_for session id sent) (samples_for-append session id l.news first ∙ ap (λ xs. xs ++ samples_for session id first) none))
            ∙ replayed_behind cmp e (samples_for session id first) (samples_for session id sent) false (sees cmp matching s e l.told) (started_seen cmp matching total one session id expr e l.told names)
            ∙ seen_all s (l.subscribers ++ s ∷ []) l.sessions (by_face (said_if cmp matching (call_in a l) l)) l.told e only refl w.once

        last_through : (calls : List (Api K)) (k : Lively K) → subscribed_through cmp matching session id calls k ≡ true → is_subscribed session id (left_after_all cmp matching calls k) ≡ true
        last_through [] k through = through
        last_through (b ∷ calls) k through = last_through calls (left_after cmp matching b k) (and_parts (is_subscribed session id k) (subscribed_through cmp matching session id calls (left_after cmp matching b k)) through).1
