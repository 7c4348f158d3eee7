-- What a query is given, and what waits for it, is what its session was sent for it.
use Rattle.std.proofs.Common.{◌≡◌, ℕ, ◌+◌, ◌==◌, ◌&&◌, Bool, true, false, not, ◌||◌, Option, Some, None, List, [], ◌∷◌, ◌++◌, filter, refl, sym, ap, subst, ◌∙◌, eqb-true, eq-eqb, append_assoc}
use Rattle.std.specs.Option.{is_some}
use Rattle.std.specs.declared.cmp.Ordering.{Ordering}
use Rattle.std.proofs.lemmas.Bool.{and_parts}
use Rattle.std.proofs.lemmas.List.{append-nil}
use Rattle.zt_protocol.specs.Plain.{PlainCall}
use Rattle.zt_protocol.specs.declared.messages.Message.{Message}
use Rattle.zt_protocol.specs.declared.messages.Message.TheVariants as message
use Rattle.zt_model.specs.Hearing.{messages_for}
use Rattle.zt_model.specs.Says.{Sends, said}
use Rattle.zt_laws.proofs.Hearing.{messages_for-append}
use Rattle.std.specs.List.{list_any}
use Rattle.zt_laws.proofs.Lists.{any-append, by_test, never}
use Rattle.zt_gateway.specs.Running.{by_face, closed_by}
use Rattle.zt_liveliness.specs.Books.{has_query, without_queries, without_query}
use Rattle.zt_liveliness.specs.Lively.{Api, Close, DeclareSubscriber, DeclareToken, Expire, Get, Lively, OpenSession, OpenUplink, Receive, TakeReply, TakeSample, TakeSent, UndeclareSubscriber, UndeclareToken, call_in, carried, done_by, error_in, interests_made, is_asking, is_uplink, left_after, left_by, readied, reply_by, reply_of, said_if, said_in, unless}
use Rattle.zt_liveliness.specs.Mail.{is_awaited}
use Rattle.zt_liveliness.specs.Queues.{answer_for, answer_in, oldest_answer, without_answer}
use Rattle.zt_liveliness.specs.Replies.{answered, expressions_of, given_by, given_in, left_after_all, sent_to, stands, stands_through}
use Rattle.zt_liveliness.specs.declared.answers.Reply.{Reply}
use Rattle.zt_liveliness.specs.declared.answers.Reply.TheVariants.{Live, Done, NotYet, NoSuchGet}
use Rattle.zt_liveliness.specs.declared.books.Query.{Query}
use Rattle.zt_liveliness.specs.declared.books.Session.{Session}
use Rattle.zt_liveliness.specs.declared.errors.ApiError.{ApiError}
use Rattle.zt_liveliness.proofs.Sent.{messages_for-by_face, messages_for-other_closed, messages_for-other_taken}

-- no query is left that ended
pub query_ended : (session id : ℕ) (qs : List Query) → has_query session id (without_query session id qs) ≡ false
query_ended session id [] = refl
query_ended session id (q ∷ qs) =
    by_test ((session == q.session) && (id == q.id)) (λ here. rw here (query_ended session id qs)) (λ here. rw (here, here) (query_ended session id qs))

-- a query that is left of those but a session's is another session's
left_open : (face session id : ℕ) (qs : List Query) → has_query session id (without_queries face qs) ≡ true → (face == session) ≡ false
left_open face session id [] left = cc
left_open face session id (q ∷ qs) left =
    by_test (face == q.session)
    (λ here. left_open face session id qs (rw here at left))
    (λ here. by_test ((session == q.session) && (id == q.id))
    (λ there. by_test (face == session)
    (λ same_. never (eq-eqb face q.session (eqb-true face session same_ ∙ eqb-true session q.session (and_parts (session == q.session) (id == q.id) there).0)) here)
    (λ same_. same_))
    (λ there. left_open face session id qs (rw (here, there) at left)))

module _ {K : Type 0} where
  -- ---- messages

  -- a message that answers nothing
  skipped : (id : ℕ) (m : Message K) (ms : List (Message K)) → answer_in id m ≡ None → answered id (m ∷ ms) ≡ answered id ms
  skipped id (message.DeclareToken token e (Some interest) node) ms is =
      by_test (id == interest) (λ here. let wrong = rw here at is in cc) (λ here. rw here refl)
  skipped id (message.DeclareToken token e None node) ms is = refl
  skipped id (message.UndeclareToken token e node) ms is = refl
  skipped id (message.DeclareFinal interest) ms is =
      by_test (id == interest) (λ here. let wrong = rw here at is in cc) (λ here. rw here refl)
  skipped id (message.Interest i mode options e) ms is = refl
  skipped id (message.InterestFinal i) ms is = refl
  skipped id (message.DeclareSubscriber i e interest) ms is = refl
  skipped id (message.DeclareQueryable i e info interest) ms is = refl

  -- a reply
  replied : (id : ℕ) (m : Message K) (ms : List (Message K)) (e : K) → answer_in id m ≡ Some (Some e) → answered id (m ∷ ms) ≡ e ∷ answered id ms
  replied id (message.DeclareToken token k (Some interest) node) ms e is =
      by_test (id == interest) (λ here. let same_ : Some (Some k) ≡ Some (Some e) = rw here at is in let keys : k ≡ e = cc in rw here (ap (λ x. x ∷ answered id ms) keys)) (λ here. let wrong = rw here at is in cc)
  replied id (message.DeclareToken token k None node) ms e is = cc
  replied id (message.UndeclareToken token k node) ms e is = cc
  replied id (message.DeclareFinal interest) ms e is =
      by_test (id == interest) (λ here. let wrong = rw here at is in cc) (λ here. let wrong = rw here at is in cc)
  replied id (message.Interest i mode options k) ms e is = cc
  replied id (message.InterestFinal i) ms e is = cc
  replied id (message.DeclareSubscriber i k interest) ms e is = cc
  replied id (message.DeclareQueryable i k info interest) ms e is = cc

  -- an end
  finished : (id : ℕ) (m : Message K) (ms : List (Message K)) → answer_in id m ≡ Some None → answered id (m ∷ ms) ≡ []
  finished id (message.DeclareToken token k (Some interest) node) ms is =
      by_test (id == interest) (λ here. let wrong = rw here at is in cc) (λ here. let wrong = rw here at is in cc)
  finished id (message.DeclareToken token k None node) ms is = cc
  finished id (message.UndeclareToken token k node) ms is = cc
  finished id (message.DeclareFinal interest) ms is =
      by_test (id == interest) (λ here. rw here refl) (λ here. let wrong = rw here at is in cc)
  finished id (message.Interest i mode options k) ms is = cc
  finished id (message.InterestFinal i) ms is = cc
  finished id (message.DeclareSubscriber i k interest) ms is = cc
  finished id (message.DeclareQueryable i k info interest) ms is = cc

  -- a message answers one query
  answers_one : (id query : ℕ) (m : Message K) → (id == query) ≡ false → is_some (answer_in query m) ≡ true → answer_in id m ≡ None
  answers_one id query (message.DeclareToken token e (Some interest) node) differ some =
      by_test (query == interest)
      (λ here. by_test (id == interest) (λ there. never (eq-eqb id query (eqb-true id interest there ∙ sym (eqb-true query interest here))) differ) (λ there. rw there refl))
      (λ here. let wrong = rw here at some in cc)
  answers_one id query (message.DeclareToken token e None node) differ some = refl
  answers_one id query (message.UndeclareToken token e node) differ some = refl
  answers_one id query (message.DeclareFinal interest) differ some =
      by_test (query == interest)
      (λ here. by_test (id == interest) (λ there. never (eq-eqb id query (eqb-true id interest there ∙ sym (eqb-true query interest here))) differ) (λ there. rw there refl))
      (λ here. let wrong = rw here at some in cc)
  answers_one id query (message.Interest i mode options e) differ some = refl
  answers_one id query (message.InterestFinal i) differ some = refl
  answers_one id query (message.DeclareSubscriber i e interest) differ some = refl
  answers_one id query (message.DeclareQueryable i e info interest) differ some = refl

  -- ---- what is answered, by the messages behind

  answered_behind : (id : ℕ) (m : Message K) (xs ys : List (Message K)) → answered id xs ≡ answered id ys → answered id (m ∷ xs) ≡ answered id (m ∷ ys)
  answered_behind id m xs ys same_ = by_answer (answer_in id m) refl
    where
      by_answer : (o : Option (Option K)) → answer_in id m ≡ o → answered id (m ∷ xs) ≡ answered id (m ∷ ys)
      by_answer None is = skipped id m xs is ∙ same_ ∙ sym (skipped id m ys is)
      by_answer (Some None) is = finished id m xs is ∙ sym (finished id m ys is)
      by_answer (Some (Some e)) is = replied id m xs e is ∙ ap (λ es. e ∷ es) same_ ∙ sym (replied id m ys e is)

  answered_after : (id : ℕ) (ms xs ys : List (Message K)) → answered id xs ≡ answered id ys → answered id (ms ++ xs) ≡ answered id (ms ++ ys)
  answered_after id [] xs ys same_ = same_
  answered_after id (m ∷ ms) xs ys same_ = answered_behind id m (ms ++ xs) (ms ++ ys) (answered_after id ms xs ys same_)

  -- what answers no open query doesn't answer this one
  pub no_answer_of : (session id : ℕ) (s : ℕ × Message K) (qs : List Query) → has_query session id qs ≡ true → list_any (λ q. is_some (answer_for q.session q.id s)) qs ≡ false → is_some (answer_for session id s) ≡ false
  no_answer_of session id s [] asks none = never asks refl
  no_answer_of session id s (q ∷ qs) asks none =
      by_test (is_some (answer_for q.session q.id s))
      (λ answers. never refl (rw answers at none))
      (λ answers. by_test ((session == q.session) && (id == q.id))
      (λ own.
      let parts = and_parts (session == q.session) (id == q.id) own in
      subst (λ (n : ℕ). is_some (answer_for n id s) ≡ false) (sym (eqb-true session q.session parts.0)) (subst (λ (i : ℕ). is_some (answer_for q.session i s) ≡ false) (sym (eqb-true id q.id parts.1)) answers))
      (λ own. no_answer_of session id s qs (rw own at asks) (rw answers at none)))

  pub is_none : (o : Option (Option K)) → is_some o ≡ false → o ≡ None
  is_none None no_ = refl
  is_none (Some answer) no_ = cc

  -- a query that is open loses no answer
  awaited_answers : (session id : ℕ) (sessions : List Session) (qs : List Query) (ss : Sends K) (rest : List (Message K)) → has_query session id qs ≡ true
      → answered id (messages_for session (filter (is_awaited sessions qs) ss) ++ rest) ≡ answered id (messages_for session ss ++ rest)
  unfolding messages_for
  awaited_answers session id sessions qs [] rest asks = refl
  awaited_answers session id sessions qs (s ∷ ss) rest asks =
      by_test (is_awaited sessions qs s)
      (λ waits. by_test (session == s.0)
      (λ own. rw (waits, own) (answered_behind id s.1 (messages_for session (filter (is_awaited sessions qs) ss) ++ rest) (messages_for session ss ++ rest) (awaited_answers session id sessions qs ss rest asks)))
      (λ own. rw (waits, own) (awaited_answers session id sessions qs ss rest asks)))
      (λ waits. by_test (session == s.0)
      (λ own. rw (waits, own) (awaited_answers session id sessions qs ss rest asks ∙ sym (skipped id s.1 (messages_for session ss ++ rest) (is_none (answer_in id s.1) (rw own at (no_answer_of session id s qs asks (neither _ _ waits)))))))
      (λ own. rw (waits, own) (awaited_answers session id sessions qs ss rest asks)))
    where
      neither : (a b : Bool) → (a || b) ≡ false → b ≡ false
      neither true b is = never refl is
      neither false b is = is

  -- ---- what waits

  -- the oldest reply is taken
  reply_taken : (session id : ℕ) (ss : Sends K) (rest : List (Message K)) (e : K) → oldest_answer session id ss ≡ Some (Some e)
      → e ∷ answered id (messages_for session (without_answer session id ss) ++ rest) ≡ answered id (messages_for session ss ++ rest)
  unfolding messages_for
  reply_taken session id [] rest e is = cc
  reply_taken session id (s ∷ ss) rest e is =
      by_test (session == s.0) (λ own. mine (reply_taken session id ss rest e) own (answer_in id s.1) refl) (λ other. rw (other, other) (reply_taken session id ss rest e (rw other at is)))
    where
      mine : (oldest_answer session id ss ≡ Some (Some e) → e ∷ answered id (messages_for session (without_answer session id ss) ++ rest) ≡ answered id (messages_for session ss ++ rest))
          → (session == s.0) ≡ true → (o : Option (Option K)) → answer_in id s.1 ≡ o
          → e ∷ answered id (messages_for session (without_answer session id (s ∷ ss)) ++ rest) ≡ answered id (messages_for session (s ∷ ss) ++ rest)
      mine later own None answer =
          let left = messages_for session (without_answer session id ss) ++ rest in
          let before = messages_for session ss ++ rest in
          rw (own, answer, own) (ap (λ es. e ∷ es) (skipped id s.1 left answer) ∙ later (rw (own, answer) at is) ∙ sym (skipped id s.1 before answer))
      mine later own (Some None) answer = let wrong = rw (own, answer) at is in cc
      mine later own (Some (Some k)) answer =
          let same_ : Some (Some k) ≡ Some (Some e) = rw (own, answer) at is in
          rw (own, answer) (sym (replied id s.1 (messages_for session ss ++ rest) e (answer ∙ same_)))

  -- where the oldest is the end, no reply waits
  end_waits : (session id : ℕ) (ss : Sends K) → oldest_answer session id ss ≡ Some None → answered id (messages_for session ss) ≡ []
  unfolding messages_for
  end_waits session id [] is = cc
  end_waits session id (s ∷ ss) is =
      by_test (session == s.0) (λ own. mine (end_waits session id ss) own (answer_in id s.1) refl) (λ other. rw other (end_waits session id ss (rw other at is)))
    where
      mine : (oldest_answer session id ss ≡ Some None → answered id (messages_for session ss) ≡ [])
          → (session == s.0) ≡ true → (o : Option (Option K)) → answer_in id s.1 ≡ o → answered id (messages_for session (s ∷ ss)) ≡ []
      mine later own None answer = rw own (skipped id s.1 (messages_for session ss) answer ∙ later (rw (own, answer) at is))
      mine later own (Some None) answer = rw own (finished id s.1 (messages_for session ss) answer)
      mine later own (Some (Some k)) answer = let wrong = rw (own, answer) at is in cc

  -- an answer to another query is taken
  other_taken : (session id other query : ℕ) (ss : Sends K) (rest : List (Message K)) → ((session == other) && (id == query)) ≡ false
      → answered id (messages_for session (without_answer other query ss) ++ rest) ≡ answered id (messages_for session ss ++ rest)
  unfolding messages_for
  other_taken session id other query [] rest apart = refl
  other_taken session id other query (s ∷ ss) rest apart =
      by_test (is_some (answer_for other query s)) (λ takes. rw takes (taken takes)) (λ stays. rw stays (kept (other_taken session id other query ss rest apart)))
    where
      taken : is_some (answer_for other query s) ≡ true → answered id (messages_for session ss ++ rest) ≡ answered id (messages_for session (s ∷ ss) ++ rest)
      taken takes =
          by_test (session == s.0)
          (λ own. rw own (sym (skipped id s.1 (messages_for session ss ++ rest) (no_answer own takes))))
          (λ own. rw own refl)
        where
          no_answer : (session == s.0) ≡ true → is_some (answer_for other query s) ≡ true → answer_in id s.1 ≡ None
          no_answer own some =
              by_test (other == s.0)
              (λ same_.
              let one : other ≡ session = eqb-true other s.0 same_ ∙ sym (eqb-true session s.0 own) in
              let differ : (id == query) ≡ false = rw (eq-eqb session other (sym one)) at apart in
              answers_one id query s.1 differ (rw same_ at some))
              (λ same_. let wrong = rw same_ at some in cc)

      kept : answered id (messages_for session (without_answer other query ss) ++ rest) ≡ answered id (messages_for session ss ++ rest)
          → answered id (messages_for session (s ∷ without_answer other query ss) ++ rest) ≡ answered id (messages_for session (s ∷ ss) ++ rest)
      kept later =
          by_test (session == s.0)
          (λ own. rw own (mine (answer_in id s.1) refl))
          (λ own. rw own later)
        where
          left : List (Message K)
          left = messages_for session (without_answer other query ss) ++ rest

          before : List (Message K)
          before = messages_for session ss ++ rest

          mine : (o : Option (Option K)) → answer_in id s.1 ≡ o → answered id (s.1 ∷ left) ≡ answered id (s.1 ∷ before)
          mine None answer = skipped id s.1 left answer ∙ later ∙ sym (skipped id s.1 before answer)
          mine (Some None) answer = finished id s.1 left answer ∙ sym (finished id s.1 before answer)
          mine (Some (Some e)) answer =
              replied id s.1 left e answer ∙ ap (λ es. e ∷ es) later ∙ sym (replied id s.1 before e answer)

  -- ---- a reply

  -- Done comes where the oldest answer is the end
  end_is : (b : Bool) (o : Option (Option K)) → reply_by b o ≡ Done → o ≡ Some None
  end_is true None is = cc
  end_is true (Some None) is = refl
  end_is true (Some (Some e)) is = cc
  end_is false o is = cc

  own_replied : (session id : ℕ) (l : Lively K) (rest : List (Message K)) → is_asking session id l ≡ true
      → stands session id (left_by session id (reply_of session id l) l) ≡ true
      → expressions_of (reply_of session id l) ++ answered id (messages_for session (left_by session id (reply_of session id l) l).waiting ++ rest) ≡ answered id (messages_for session l.waiting ++ rest)
  own_replied session id l rest asking standing =
      let oldest = oldest_answer session id l.waiting in
      subst (λ (b : Bool). expressions_of (reply_by b oldest) ++ answered id (messages_for session (left_by session id (reply_by b oldest) l).waiting ++ rest) ≡ answered id (messages_for session l.waiting ++ rest)) (sym asking)
      (by_oldest oldest refl (subst (λ (b : Bool). stands session id (left_by session id (reply_by b oldest) l) ≡ true) asking standing))
    where
      by_oldest : (o : Option (Option K)) → oldest_answer session id l.waiting ≡ o → stands session id (left_by session id (reply_by true o) l) ≡ true
          → expressions_of (reply_by true o) ++ answered id (messages_for session (left_by session id (reply_by true o) l).waiting ++ rest) ≡ answered id (messages_for session l.waiting ++ rest)
      by_oldest None is there = refl
      by_oldest (Some None) is there = never (and_parts (has_query session id (without_query session id l.queries)) (not (is_uplink session l)) there).0 (query_ended session id l.queries)
      by_oldest (Some (Some e)) is there = reply_taken session id l.waiting rest e is

  another_replied : (session id s i : ℕ) (l : Lively K) (rest : List (Message K)) → ((session == s) && (id == i)) ≡ false → (r : Reply K)
      → answered id (messages_for session (left_by s i r l).waiting ++ rest) ≡ answered id (messages_for session l.waiting ++ rest)
  another_replied session id s i l rest apart (Live e) = other_taken session id s i l.waiting rest apart
  another_replied session id s i l rest apart Done = other_taken session id s i l.waiting rest apart
  another_replied session id s i l rest apart NotYet = refl
  another_replied session id s i l rest apart NoSuchGet = refl

module _ {K : Type 0} (cmp : K → K → Ordering) (matching : K → K → Bool) where
  -- ---- one call

  -- a query that stands is open, and its session is no uplink
  open_parts : (session id : ℕ) (l : Lively K) → stands session id l ≡ true → (is_asking session id l ≡ true) × (not (is_uplink session l) ≡ true)
  open_parts session id l stood = and_parts (is_asking session id l) (not (is_uplink session l)) stood

  -- what waits for a query, of messages behind others
  waits_so : (session id : ℕ) (before ss : Sends K) (l : Lively K) → has_query session id l.queries ≡ true → (rest : List (Message K))
      → answered id (messages_for session (before ++ filter (is_awaited l.sessions l.queries) (by_face ss)) ++ rest) ≡ answered id (messages_for session before ++ (messages_for session ss ++ rest))
  waits_so session id before ss l asks rest =
      let kept = filter (is_awaited l.sessions l.queries) (by_face ss) in
      ap (λ ms. answered id (ms ++ rest)) (messages_for-append session before kept)
      ∙ ap (answered id) (append_assoc (messages_for session before) (messages_for session kept) rest)
      ∙ answered_after id (messages_for session before) (messages_for session kept ++ rest) (messages_for session ss ++ rest)
      (awaited_answers session id l.sessions l.queries (by_face ss) rest asks ∙ ap (λ ms. answered id (ms ++ rest)) (messages_for-by_face session ss))

  -- what waits for a query of a call that doesn't close its session
  waits_behind : (session id : ℕ) (c : PlainCall K) (l : Lively K) → closed_by c ≡ None → has_query session id l.queries ≡ true → (rest : List (Message K))
      → answered id (messages_for session (carried cmp matching c l).waiting ++ rest) ≡ answered id (messages_for session l.waiting ++ (messages_for session (said cmp matching c l.rows) ++ rest))
  waits_behind session id c l stays asks rest =
      rw stays (waits_so session id l.waiting (said cmp matching c l.rows) l asks rest)

  -- what a call gives and leaves of a query is what there was and what it sends
  abbrev IsStep : ℕ → ℕ → Api K → Lively K → Type 0
  IsStep session id a l = (rest : List (Message K))
      → given_by session id a l ++ answered id (messages_for session (left_after cmp matching a l).waiting ++ rest)
      ≡ answered id (messages_for session l.waiting ++ (messages_for session (said_in cmp matching a l) ++ rest))

  -- a call that gives nothing, by what it leaves where it isn't refused
  step_by : (session id : ℕ) (a : Api K) (l : Lively K) → given_by session id a l ≡ []
      → (stands session id (done_by cmp matching a l) ≡ true → (rest : List (Message K))
      → answered id (messages_for session (done_by cmp matching a l).waiting ++ rest) ≡ answered id (messages_for session l.waiting ++ (messages_for session (said_if cmp matching (call_in a l) l) ++ rest)))
      → stands session id (left_after cmp matching a l) ≡ true → IsStep session id a l
  unfolding messages_for
  step_by session id a l nothing waits stood = λ rest. rw nothing (cases rest (error_in cmp matching a l) stood)
    where
      cases : (rest : List (Message K)) (o : Option ApiError) → stands session id (unless o (done_by cmp matching a l) l) ≡ true
          → answered id (messages_for session (unless o (done_by cmp matching a l) l).waiting ++ rest)
          ≡ answered id (messages_for session l.waiting ++ (messages_for session (unless o (said_if cmp matching (call_in a l) l) []) ++ rest))
      cases rest None standing = waits standing rest
      cases rest (Some error) standing = refl

  step : (session id : ℕ) (a : Api K) (l : Lively K) → stands session id l ≡ true → stands session id (left_after cmp matching a l) ≡ true → IsStep session id a l
  unfolding messages_for
  step session id OpenSession l stood standing = step_by session id OpenSession l refl (λ _. waits_behind session id _ l refl (open_parts session id l stood).0) standing
  step session id (OpenUplink zid whatami bound) l stood standing = step_by session id (OpenUplink zid whatami bound) l refl (λ _. waits_behind session id _ l refl (open_parts session id l stood).0) standing
  step session id (DeclareToken s key) l stood standing = step_by session id (DeclareToken s key) l refl (λ _. waits_behind session id _ l refl (open_parts session id l stood).0) standing
  step session id (UndeclareToken s i) l stood standing = step_by session id (UndeclareToken s i) l refl (λ _. waits_behind session id _ l refl (open_parts session id l stood).0) standing
  step session id (Get s expr) l stood standing = step_by session id (Get s expr) l refl (λ _. waits_behind session id _ (readied cmp matching (Get s expr) l) refl still) standing
    where
      still : has_query session id (readied cmp matching (Get s expr) l).queries ≡ true
      still = any-append (λ (q : Query). (session == q.session) && (id == q.id)) l.queries (record { session = s; id = interests_made s l + 1 } ∷ []) ∙ rw (open_parts session id l stood).0 refl
  step session id (DeclareSubscriber s expr history) l stood standing = step_by session id (DeclareSubscriber s expr history) l refl (λ _. waits_behind session id _ (readied cmp matching (DeclareSubscriber s expr history) l) refl (open_parts session id l stood).0) standing
  step session id (UndeclareSubscriber s i) l stood standing = step_by session id (UndeclareSubscriber s i) l refl (λ _. waits_behind session id _ l refl (open_parts session id l stood).0) standing
  step session id (TakeSample s i) l stood standing = λ rest. refl
  step session id (Expire now) l stood standing = step_by session id (Expire now) l refl (λ _. waits_behind session id _ l refl (open_parts session id l stood).0) standing
  step session id (Receive uplink m) l stood standing = step_by session id (Receive uplink m) l refl (λ _. received m) standing
    where
      asks : has_query session id l.queries ≡ true
      asks = (open_parts session id l stood).0

      received : (m : Message K) (rest : List (Message K)) → answered id (messages_for session (done_by cmp matching (Receive uplink m) l).waiting ++ rest) ≡ answered id (messages_for session l.waiting ++ (messages_for session (said_if cmp matching (call_in (Receive uplink m) l) l) ++ rest))
      received (message.DeclareToken token e interest node) rest = waits_behind session id _ l refl asks rest
      received (message.UndeclareToken token e node) rest = waits_behind session id _ l refl asks rest
      received (message.DeclareFinal interest) rest = waits_behind session id _ l refl asks rest
      received (message.Interest i mode options e) rest = waits_behind session id _ l refl asks rest
      received (message.InterestFinal i) rest = waits_behind session id _ l refl asks rest
      received (message.DeclareSubscriber i e interest) rest = refl
      received (message.DeclareQueryable i e info interest) rest = refl
  step session id (Close face) l stood standing = step_by session id (Close face) l refl closed standing
    where
      closed : stands session id (done_by cmp matching (Close face) l) ≡ true → (rest : List (Message K))
          → answered id (messages_for session (done_by cmp matching (Close face) l).waiting ++ rest) ≡ answered id (messages_for session l.waiting ++ (messages_for session (said_if cmp matching (call_in (Close face) l) l) ++ rest))
      closed open_ rest =
          let ss = said_if cmp matching (call_in (Close face) l) l in
          let other = left_open face session id l.queries (open_parts session id (done_by cmp matching (Close face) l) open_).0 in
          waits_so session id (filter (λ s. not (face == s.0)) l.waiting) ss l (open_parts session id l stood).0 rest
          ∙ ap (λ ms. answered id (ms ++ (messages_for session ss ++ rest))) (messages_for-other_closed session face l.waiting other)
  step session id (TakeSent uplink) l stood standing = λ rest.
      by_test (is_uplink uplink l)
      (λ takes. rw takes (ap (λ ms. answered id (ms ++ rest)) (messages_for-other_taken session uplink l.waiting (apart takes))))
      (λ takes. rw takes refl)
    where
      apart : is_uplink uplink l ≡ true → (uplink == session) ≡ false
      apart takes =
          by_test (uplink == session)
          (λ same_. let one : uplink ≡ session = eqb-true uplink session same_ in let wrong : false ≡ true = rw (subst (λ (n : ℕ). is_uplink n l ≡ true) one takes) at (open_parts session id l stood).1 in cc)
          (λ same_. same_)
  step session id (TakeReply s i) l stood standing = λ rest.
      by_test ((session == s) && (id == i))
      (λ mine. rw mine (own rest (and_parts (session == s) (id == i) mine)))
      (λ mine. rw mine (another_replied session id s i l rest mine (reply_of s i l)))
    where
      own : (rest : List (Message K)) → ((session == s) ≡ true) × ((id == i) ≡ true)
          → expressions_of (reply_of session id l) ++ answered id (messages_for session (left_by s i (reply_of s i l) l).waiting ++ rest) ≡ answered id (messages_for session l.waiting ++ rest)
      own rest parts =
          let one : s ≡ session = sym (eqb-true session s parts.0) in
          let two : i ≡ id = sym (eqb-true id i parts.1) in
          let there : stands session id (left_by session id (reply_of session id l) l) ≡ true =
          subst (λ (k : ℕ). stands session id (left_by session k (reply_of session k l) l) ≡ true) two (subst (λ (n : ℕ). stands session id (left_by n i (reply_of n i l) l) ≡ true) one standing)
          in
          subst (λ (k : ℕ). expressions_of (reply_of session id l) ++ answered id (messages_for session (left_by s k (reply_of s k l) l).waiting ++ rest) ≡ answered id (messages_for session l.waiting ++ rest)) (sym two)
          (subst (λ (n : ℕ). expressions_of (reply_of session id l) ++ answered id (messages_for session (left_by n id (reply_of n id l) l).waiting ++ rest) ≡ answered id (messages_for session l.waiting ++ rest)) (sym one)
          (own_replied session id l rest (open_parts session id l stood).0 there))

  -- ---- many calls

  first_stands : (session id : ℕ) (calls : List (Api K)) (l : Lively K) → stands_through cmp matching session id calls l ≡ true → stands session id l ≡ true
  first_stands session id [] l through = through
  first_stands session id (a ∷ calls) l through = (and_parts (stands session id l) (stands_through cmp matching session id calls (left_after cmp matching a l)) through).0

  pub replies_so_far : (session id : ℕ) (calls : List (Api K)) (l : Lively K) → stands_through cmp matching session id calls l ≡ true
      → given_in cmp matching session id calls l ++ answered id (messages_for session (left_after_all cmp matching calls l).waiting)
      ≡ answered id (messages_for session l.waiting ++ sent_to cmp matching session calls l)
  replies_so_far session id [] l through = ap (answered id) (sym (append-nil (messages_for session l.waiting)))
  replies_so_far session id (a ∷ calls) l through =
      let after = left_after cmp matching a l in
      let parts = and_parts (stands session id l) (stands_through cmp matching session id calls after) through in
      let last = answered id (messages_for session (left_after_all cmp matching calls after).waiting) in
      append_assoc (given_by session id a l) (given_in cmp matching session id calls after) last
      ∙ ap (λ es. given_by session id a l ++ es) (replies_so_far session id calls after parts.1)
      ∙ step session id a l parts.0 (first_stands session id calls after parts.1) (sent_to cmp matching session calls after)

  pub replies_at_the_end : (session id : ℕ) (calls : List (Api K)) (l : Lively K) → stands_through cmp matching session id calls l ≡ true
      → reply_of session id (left_after_all cmp matching calls l) ≡ Done
      → given_in cmp matching session id calls l ≡ answered id (messages_for session l.waiting ++ sent_to cmp matching session calls l)
  replies_at_the_end session id calls l through done =
      let last = left_after_all cmp matching calls l in
      let none_waits = end_waits session id last.waiting (end_is (is_asking session id last) (oldest_answer session id last.waiting) done) in
      sym (append-nil (given_in cmp matching session id calls l))
      ∙ ap (λ es. given_in cmp matching session id calls l ++ es) (sym none_waits)
      ∙ replies_so_far session id calls l through
