-- A query is given each expression once, and its end once.
use Rattle.std.proofs.Common.{◌≡◌, ℕ, ◌+◌, ◌≤◌, ◌==◌, ◌&&◌, ◌||◌, Bool, true, false, not, Option, Some, None, List, [], ◌∷◌, ◌++◌, filter, refl, sym, ap, subst, ◌∙◌, arith, eqb-true, eq-eqb, append_assoc}
use Rattle.std.proofs.lemmas.Bool.{and_from, and_parts}
use Rattle.std.specs.Cmp.{IsTotalOrder}
use Rattle.std.specs.Option.{is_some}
use Rattle.std.specs.declared.cmp.Ordering.{Ordering}
use Rattle.std.specs.declared.cmp.Ordering.TheVariants.{Equal}
use Rattle.zt_protocol.specs.declared.messages.Message.{Message}
use Rattle.zt_protocol.specs.declared.messages.Message.TheVariants as message
use Rattle.zt_model.specs.Hearing.{messages_for}
use Rattle.zt_model.specs.Lists.{is_among}
use Rattle.zt_model.specs.Promises.{answers_in, are_new}
use Rattle.zt_model.specs.Says.{Sends, said}
use Rattle.zt_model.specs.Transcript.{Each}
use Rattle.zt_laws.proofs.Hearing.{messages_for-append}
use Rattle.zt_laws.proofs.Lists.{any-append, any_from_filter, by_test, each_append, never}
use Rattle.zt_theorem_replies.specs.Replies.{NothingFollowsFinal}
use Rattle.zt_theorem_replies.proofs.Due.{IsSilent, are_due, due_append, is_due, silent_due, silent_state, state_after, state_then}
use Rattle.zt_theorem_replies.proofs.Once.{due_last, due_once, nothing_due}
use Rattle.zt_gateway.specs.Running.{by_face}
use Rattle.zt_liveliness.specs.Books.{find_session, has_query}
use Rattle.zt_liveliness.specs.Lively.{Api, Close, DeclareSubscriber, DeclareToken, Expire, Get, Lively, OpenSession, OpenUplink, Receive, TakeReply, TakeSample, TakeSent, UndeclareSubscriber, UndeclareToken, done_by, error_in, interests_made, is_asking, is_uplink, left_after, left_by, reply_by, reply_of, said_in, unless}
use Rattle.zt_liveliness.specs.Mail.{is_awaited}
use Rattle.zt_liveliness.specs.Queues.{answer_in, oldest_answer}
use Rattle.zt_liveliness.specs.Replies.{ComeOnce, answered, expressions_of, given_by, given_in, left_after_all, replies_by, replies_in, sent_to, stands, stands_through}
use Rattle.zt_liveliness.specs.Subscribed.{IsReached}
use Rattle.zt_liveliness.specs.declared.answers.Reply.{Reply}
use Rattle.zt_liveliness.specs.declared.answers.Reply.TheVariants.{Live, Done, NotYet, NoSuchGet}
use Rattle.zt_liveliness.specs.declared.books.Query.{Query}
use Rattle.zt_liveliness.specs.declared.books.Session.{Session}
use Rattle.zt_liveliness.specs.declared.errors.ApiError.{ApiError}
use Rattle.zt_liveliness.proofs.Asked.{IsAsked, all_due, asked_due, call, new_id, session_is, step_due, tidy_reached}
use Rattle.zt_liveliness.proofs.Counts.{made_on}
use Rattle.zt_liveliness.proofs.Given.{is_none, no_answer_of, query_ended, replies_so_far}
use Rattle.zt_liveliness.proofs.Sent.{messages_for-by_face}
use Rattle.zt_liveliness.proofs.Tidy.{IsTidy, WaitsFor}
use Rattle.zt_liveliness.proofs.Well.{IsWell, first_none, session_there}

or_true : (b : Bool) → (b || true) ≡ true
or_true true = refl
or_true false = refl

module _ {K : Type 0} (cmp : K → K → Ordering) (matching : K → K → Bool) where
  -- ---- messages that are due

  -- a front of new expressions is new
  new_front : (seen xs ys : List K) → are_new cmp matching seen (xs ++ ys) ≡ true → are_new cmp matching seen xs ≡ true
  new_front seen [] ys new_ = refl
  new_front seen (x ∷ xs) ys new_ =
      let parts = and_parts (not (is_among cmp x seen)) (are_new cmp matching (x ∷ seen) (xs ++ ys)) new_ in
      and_from (not (is_among cmp x seen)) (are_new cmp matching (x ∷ seen) xs) parts.0 (new_front (x ∷ seen) xs ys parts.1)

  -- what answers no query of the id is nothing to its ask
  silent_if : (id : ℕ) (m : Message K) → answer_in id m ≡ None → IsSilent cmp id m
  silent_if id (message.DeclareToken number e (Some i) node) is = by_test (id == i) (λ here. let wrong = rw here at is in cc) (λ here. here)
  silent_if id (message.DeclareToken number e None node) is = tt
  silent_if id (message.UndeclareToken number e node) is = tt
  silent_if id (message.DeclareFinal i) is = by_test (id == i) (λ here. let wrong = rw here at is in cc) (λ here. here)
  silent_if id (message.Interest number mode options e) is = tt
  silent_if id (message.InterestFinal number) is = tt
  silent_if id (message.DeclareSubscriber number e i) is = tt
  silent_if id (message.DeclareQueryable number e info i) is = tt

  -- what is due is, up to the final, all that answers
  due_answered : (id : ℕ) (ms : List (Message K)) (known : List K) → are_due cmp id ms (Some known) ≡ true → answered id ms ≡ answers_in id ms
  due_answered id [] known due = refl
  due_answered id (message.DeclareToken number e (Some i) node ∷ ms) known due =
      by_test (id == i)
      (λ here. by_test (is_among cmp e known)
      (λ old. let wrong = rw (here, old) at due in cc)
      (λ old. rw here (ap (λ es. e ∷ es) (due_answered id ms (known ++ e ∷ []) (rw (here, old) at due)))))
      (λ here. rw here (due_answered id ms known (rw here at due)))
  due_answered id (message.DeclareToken number e None node ∷ ms) known due = due_answered id ms known due
  due_answered id (message.UndeclareToken number e node ∷ ms) known due = due_answered id ms known due
  due_answered id (message.DeclareFinal i ∷ ms) known due =
      by_test (id == i)
      (λ here. rw here (sym (nothing_due cmp matching id ms (rw here at due)).0))
      (λ here. rw here (due_answered id ms known (rw here at due)))
  due_answered id (message.Interest number mode options e ∷ ms) known due = due_answered id ms known due
  due_answered id (message.InterestFinal number ∷ ms) known due = due_answered id ms known due
  due_answered id (message.DeclareSubscriber number e i ∷ ms) known due = due_answered id ms known due
  due_answered id (message.DeclareQueryable number e info i ∷ ms) known due = due_answered id ms known due

  -- a message that is nothing to the ask is left out
  skipped_due : (id : ℕ) (m : Message K) (ms : List (Message K)) (s : Option (List K)) → IsSilent cmp id m → are_due cmp id (m ∷ ms) s ≡ true → are_due cmp id ms s ≡ true
  skipped_due id m ms s silent due =
      subst (λ t. are_due cmp id ms t ≡ true) (silent_state cmp id (m ∷ []) s (silent, tt)) (and_parts (is_due cmp id m s) (are_due cmp id ms (state_then cmp id m s)) due).1

  -- what waits of messages that are due is due
  awaited_due : (session id : ℕ) (sessions : List Session) (qs : List Query) (ss : Sends K) (rest : List (Message K)) (s : Option (List K)) → has_query session id qs ≡ true
      → are_due cmp id (messages_for session ss ++ rest) s ≡ true → are_due cmp id (messages_for session (filter (is_awaited sessions qs) ss) ++ rest) s ≡ true
  unfolding messages_for
  awaited_due session id sessions qs [] rest s asks due = due
  awaited_due session id sessions qs (t ∷ ss) rest s asks due =
      by_test (is_awaited sessions qs t)
      (λ waits. by_test (session == t.0)
      (λ own.
      let parts = and_parts (is_due cmp id t.1 s) (are_due cmp id (messages_for session ss ++ rest) (state_then cmp id t.1 s)) (rw own at due) in
      rw (waits, own) (and_from (is_due cmp id t.1 s) (are_due cmp id (messages_for session (filter (is_awaited sessions qs) ss) ++ rest) (state_then cmp id t.1 s)) parts.0 (awaited_due session id sessions qs ss rest (state_then cmp id t.1 s) asks parts.1)))
      (λ own. rw (waits, own) (awaited_due session id sessions qs ss rest s asks (rw own at due))))
      (λ waits. by_test (session == t.0)
      (λ own.
      let silent = silent_if id t.1 (is_none (answer_in id t.1) (rw own at (no_answer_of session id t qs asks (neither _ _ waits)))) in
      rw waits (awaited_due session id sessions qs ss rest s asks (skipped_due id t.1 (messages_for session ss ++ rest) s silent (rw own at due))))
      (λ own. rw waits (awaited_due session id sessions qs ss rest s asks (rw own at due))))
    where
      neither : (a b : Bool) → (a || b) ≡ false → b ≡ false
      neither true b is = never refl is
      neither false b is = is

  -- nothing that waits for a session answers a query whose id wasn't given out
  waiting_silent : (made : ℕ → ℕ) (sessions : List Session) (most n id : ℕ) (ss : Sends K) → is_some (find_session n sessions) ≡ true → made n + 1 ≤ id → Each (WaitsFor made sessions most) ss → Each (IsSilent cmp id) (messages_for n ss)
  unfolding messages_for
  waiting_silent made sessions most n id [] there above all = tt
  waiting_silent made sessions most n id (t ∷ ss) there above all =
      by_test (n == t.0)
      (λ own. rw own (silent_if id t.1 (unanswered own), waiting_silent made sessions most n id ss there above all.1))
      (λ own. rw own (waiting_silent made sessions most n id ss there above all.1))
    where
      unanswered : (n == t.0) ≡ true → answer_in id t.1 ≡ None
      unanswered own =
          by_test (is_some (answer_in id t.1))
          (λ answers.
          let to : n ≡ t.0 = eqb-true n t.0 own in
          let up : id ≤ made n = subst (λ k. id ≤ made k) (sym to) (all.0.1 (subst (λ k. is_some (find_session k sessions) ≡ true) to there) id answers) in
          absurd (omega (arith, up, above)))
          (λ none. is_none (answer_in id t.1) none)

  module _ (total : IsTotalOrder cmp) (session id : ℕ) where
    -- ---- a query that is gone

    still_gone : (a : Api K) (s : Option (List K)) (l : Lively K) → IsAsked cmp matching session id s l → is_asking session id l ≡ false → is_asking session id (left_after cmp matching a l) ≡ false
    still_gone a s l asked gone = cases (error_in cmp matching a l) refl
      where
        fewer : (p : Query → Bool) → has_query session id (filter p l.queries) ≡ false
        fewer p = by_test (has_query session id (filter p l.queries)) (λ some. never (any_from_filter (λ q. (session == q.session) && (id == q.id)) p l.queries some) gone) (λ none. none)

        taken : (n i : ℕ) (r : Reply K) → is_asking session id (left_by n i r l) ≡ false
        taken n i (Live e) = gone
        taken n i Done = fewer (λ q. not ((n == q.session) && (i == q.id)))
        taken n i NotYet = gone
        taken n i NoSuchGet = gone

        done : (a : Api K) → error_in cmp matching a l ≡ None → is_asking session id (done_by cmp matching a l) ≡ false
        done OpenSession is = gone
        done (OpenUplink zid whatami bound) is = gone
        done (DeclareToken n key) is = gone
        done (UndeclareToken n i) is = gone
        done (Get n expr) is =
            let q : Query = record { session = n; id = interests_made n l + 1 } in
            let other = new_id cmp matching session id n l asked.out (session_there (find_session n l.sessions) (λ x. x.interests) (first_none cmp matching (Get n expr) l is)) in
            any-append (λ (x : Query). (session == x.session) && (id == x.id)) l.queries (q ∷ []) ∙ rw (gone, other) refl
        done (TakeReply n i) is = taken n i (reply_of n i l)
        done (DeclareSubscriber n expr history) is = gone
        done (TakeSample n i) is = gone
        done (UndeclareSubscriber n i) is = gone
        done (Receive uplink (message.DeclareToken i e interest node)) is = gone
        done (Receive uplink (message.UndeclareToken i e node)) is = gone
        done (Receive uplink (message.DeclareFinal interest)) is = gone
        done (Receive uplink (message.Interest i mode options e)) is = gone
        done (Receive uplink (message.InterestFinal i)) is = gone
        done (Receive uplink (message.DeclareSubscriber i e interest)) is = gone
        done (Receive uplink (message.DeclareQueryable i e info interest)) is = gone
        done (TakeSent uplink) is = by_test (is_uplink uplink l) (λ takes. rw takes gone) (λ takes. rw takes gone)
        done (Close face) is = fewer (λ q. not (face == q.session))
        done (Expire now) is = gone

        cases : (o : Option ApiError) → error_in cmp matching a l ≡ o → is_asking session id (unless o (done_by cmp matching a l) l) ≡ false
        cases None is = done a is
        cases (Some error) is = gone

    -- it is answered that there is none
    none_by : (a : Api K) (l : Lively K) → is_asking session id l ≡ false → Each (λ r. r ≡ NoSuchGet) (replies_by session id a l)
    none_by (TakeReply n i) l gone = by_test ((session == n) && (id == i)) (λ own. rw (own, gone) (refl, tt)) (λ own. rw own tt)
    none_by OpenSession l gone = tt
    none_by (OpenUplink zid whatami bound) l gone = tt
    none_by (DeclareToken n key) l gone = tt
    none_by (UndeclareToken n i) l gone = tt
    none_by (Get n expr) l gone = tt
    none_by (DeclareSubscriber n expr history) l gone = tt
    none_by (TakeSample n i) l gone = tt
    none_by (UndeclareSubscriber n i) l gone = tt
    none_by (Receive uplink m) l gone = tt
    none_by (TakeSent uplink) l gone = tt
    none_by (Close face) l gone = tt
    none_by (Expire now) l gone = tt

    none_in : (calls : List (Api K)) (s : Option (List K)) (l : Lively K) → IsAsked cmp matching session id s l → is_asking session id l ≡ false → Each (λ r. r ≡ NoSuchGet) (replies_in cmp matching session id calls l)
    none_in [] s l asked gone = tt
    none_in (a ∷ calls) s l asked gone =
        let after = left_after cmp matching a l in
        let next = step_due cmp matching session id total a s l asked in
        each_append (λ r. r ≡ NoSuchGet) (replies_by session id a l) (replies_in cmp matching session id calls after) (none_by a l gone)
        (none_in calls (state_after cmp id (messages_for session (said_in cmp matching a l)) s) after next.1 (still_gone a s l asked gone))

    -- ---- a query that stands

    -- whatever calls give of it from here is new
    abbrev IsFresh : List K → Lively K → Type 0
    IsFresh known l = (calls : List (Api K)) → stands_through cmp matching session id calls l ≡ true → are_new cmp matching known (given_in cmp matching session id calls l) ≡ true

    standing : (s : Option (List K)) (l : Lively K) → IsAsked cmp matching session id s l → is_asking session id l ≡ true → stands session id l ≡ true
    standing s l asked asks = let none_ : is_uplink session l ≡ false = asked.out.uplink in rw (asks, none_) refl

    -- the replies that calls give of a query that stands
    abbrev Gives : List (Api K) → Type 0
    Gives calls = (s : Option (List K)) (l : Lively K) (known : List K) → IsAsked cmp matching session id s l → is_asking session id l ≡ true → IsFresh known l → ComeOnce cmp known (replies_in cmp matching session id calls l)

    -- a call before them
    one_more : (a : Api K) (calls : List (Api K)) → Gives calls → Gives (a ∷ calls)
    one_more a calls again s l known asked asks fresh = by_call a refl
      where
        after : Lively K
        after = left_after cmp matching a l

        t : Option (List K)
        t = state_after cmp id (messages_for session (said_in cmp matching a l)) s

        next : IsAsked cmp matching session id t after
        next = (step_due cmp matching session id total a s l asked).1

        rest : List (Reply K)
        rest = replies_in cmp matching session id calls after

        -- what follows, where the call gives nothing
        later : given_by session id a l ≡ [] → ComeOnce cmp known rest
        later none_ =
            by_test (is_asking session id after)
            (λ still. again t after known next still
            (λ more through. ap (λ es. are_new cmp matching known (es ++ given_in cmp matching session id more after)) (sym none_) ∙ fresh (a ∷ more) (rw (standing s l asked asks) through)))
            (λ gone. ends rest (none_in calls t after next gone))
          where
            ends : (rs : List (Reply K)) → Each (λ r. r ≡ NoSuchGet) rs → ComeOnce cmp known rs
            ends [] all = tt
            ends (r ∷ rs) all = subst (λ x. ComeOnce cmp known (x ∷ rs)) (sym all.0) all.1

        -- what follows a reply
        replied : (r : Reply K) → reply_of session id l ≡ r → given_by session id a l ≡ expressions_of r → after ≡ left_by session id r l → ComeOnce cmp known (r ∷ rest)
        replied (Live e) is gives left =
            let still : is_asking session id after ≡ true = ap (is_asking session id) left ∙ asks in
            let one : are_new cmp matching known (e ∷ []) ≡ true = ap (λ es. are_new cmp matching known (es ++ [])) (sym gives) ∙ fresh (a ∷ []) (rw (standing s l asked asks) (standing t after next still)) in (
              unknown (is_among cmp e known) (and_parts (not (is_among cmp e known)) true one).0,
              again t after (e ∷ known) next still
                  (λ more through.
                  let all : are_new cmp matching known (e ∷ given_in cmp matching session id more after) ≡ true = ap (λ es. are_new cmp matching known (es ++ given_in cmp matching session id more after)) (sym gives) ∙ fresh (a ∷ more) (rw (standing s l asked asks) through) in
                  (and_parts (not (is_among cmp e known)) (are_new cmp matching (e ∷ known) (given_in cmp matching session id more after)) all).1),
            )
          where
            unknown : (b : Bool) → not b ≡ true → b ≡ false
            unknown true is = cc
            unknown false is = refl
        replied Done is gives left = none_in calls t after next (ap (is_asking session id) left ∙ query_ended session id l.queries)
        replied NotYet is gives left = later gives
        replied NoSuchGet is gives left = absurd (not_none (oldest_answer session id l.waiting) (ap (λ b. reply_by b (oldest_answer session id l.waiting)) (sym asks) ∙ is))
          where
            not_none : (o : Option (Option K)) → reply_by true o ≡ NoSuchGet → ⊥
            not_none None is = cc
            not_none (Some None) is = cc
            not_none (Some (Some e)) is = cc

        -- this query is asked for its reply
        own_reply : (n i : ℕ) → a ≡ TakeReply n i → ((session == n) && (id == i)) ≡ true → ComeOnce cmp known (replies_by session id a l ++ rest)
        own_reply n i is own =
            let parts = and_parts (session == n) (id == i) own in
            let call_is : a ≡ TakeReply session id = is ∙ ap (λ k. TakeReply k i) (sym (eqb-true session n parts.0)) ∙ ap (λ k. TakeReply session k) (sym (eqb-true id i parts.1)) in
            let mine : ((session == session) && (id == id)) ≡ true = rw (eq-eqb session session refl, eq-eqb id id refl) refl in
            let told : replies_by session id a l ≡ reply_of session id l ∷ [] = ap (λ x. replies_by session id x l) call_is ∙ rw mine refl in
            let gives : given_by session id a l ≡ expressions_of (reply_of session id l) = ap (λ x. given_by session id x l) call_is ∙ rw mine refl in
            subst (λ rs. ComeOnce cmp known (rs ++ rest)) (sym told) (replied (reply_of session id l) refl gives (ap (λ x. left_after cmp matching x l) call_is))

        quiet : replies_by session id a l ≡ [] → given_by session id a l ≡ [] → ComeOnce cmp known (replies_by session id a l ++ rest)
        quiet told gives = subst (λ rs. ComeOnce cmp known (rs ++ rest)) (sym told) (later gives)

        so : (b : Api K) → a ≡ b → replies_by session id b l ≡ [] → given_by session id b l ≡ [] → ComeOnce cmp known (replies_by session id a l ++ rest)
        so b is told gives = quiet (ap (λ x. replies_by session id x l) is ∙ told) (ap (λ x. given_by session id x l) is ∙ gives)

        by_call : (b : Api K) → a ≡ b → ComeOnce cmp known (replies_by session id a l ++ rest)
        by_call (TakeReply n i) is = by_test ((session == n) && (id == i)) (λ own. own_reply n i is own) (λ own. so (TakeReply n i) is (rw own refl) (rw own refl))
        by_call OpenSession is = so OpenSession is refl refl
        by_call (OpenUplink zid whatami bound) is = so (OpenUplink zid whatami bound) is refl refl
        by_call (DeclareToken n key) is = so (DeclareToken n key) is refl refl
        by_call (UndeclareToken n i) is = so (UndeclareToken n i) is refl refl
        by_call (Get n expr) is = so (Get n expr) is refl refl
        by_call (DeclareSubscriber n expr history) is = so (DeclareSubscriber n expr history) is refl refl
        by_call (TakeSample n i) is = so (TakeSample n i) is refl refl
        by_call (UndeclareSubscriber n i) is = so (UndeclareSubscriber n i) is refl refl
        by_call (Receive uplink m) is = so (Receive uplink m) is refl refl
        by_call (TakeSent uplink) is = so (TakeSent uplink) is refl refl
        by_call (Close face) is = so (Close face) is refl refl
        by_call (Expire now) is = so (Expire now) is refl refl

    come_once : (calls : List (Api K)) → Gives calls
    come_once [] s l known asked asks fresh = tt
    come_once (a ∷ calls) s l known asked asks fresh = one_more a calls (λ t k kn. come_once calls t k kn) s l known asked asks fresh

  -- ---- a query from its own call on

  module _ (total : IsTotalOrder cmp) (one : (a b : K) → cmp a b ≡ Equal → a ≡ b) (session : ℕ) (expr : K) (l : Lively K) (reached : IsReached cmp matching l) (accepted : error_in cmp matching (Get session expr) l ≡ None) where
    abbrev id : ℕ
    id = interests_made session l + 1

    abbrev after : Lively K
    after = left_after cmp matching (Get session expr) l

    well : IsWell cmp matching l
    well = (tidy_reached cmp matching total one l reached).0

    tidy : IsTidy cmp matching l
    tidy = (tidy_reached cmp matching total one l reached).1

    due : (calls : List (Api K)) → are_due cmp id (sent_to cmp matching session (Get session expr ∷ calls) l) (Some []) ≡ true
    due calls = all_due cmp matching total one session expr l accepted calls well tidy

    pub sent_once : (calls : List (Api K)) → are_new cmp matching [] (answers_in id (sent_to cmp matching session (Get session expr ∷ calls) l)) ≡ true
    sent_once calls = due_once cmp matching id (sent_to cmp matching session (Get session expr ∷ calls) l) [] [] (due calls) (λ x there. there)

    pub final_last : (calls : List (Api K)) → NothingFollowsFinal id (sent_to cmp matching session (Get session expr ∷ calls) l)
    final_last calls = due_last cmp matching id (sent_to cmp matching session (Get session expr ∷ calls) l) (Some []) (due calls)

    -- what waits then, and what is sent later, is due
    waiting_due : (rest : List (Message K)) → are_due cmp id (messages_for session (said_in cmp matching (Get session expr) l) ++ rest) (Some []) ≡ true → are_due cmp id (messages_for session after.waiting ++ rest) (Some []) ≡ true
    waiting_due rest due_ =
        subst (λ (o : Option ApiError). are_due cmp id (messages_for session (unless o (done_by cmp matching (Get session expr) l) l).waiting ++ rest) (Some []) ≡ true) (sym accepted)
        (ap (λ ms. are_due cmp id (ms ++ rest) (Some [])) (messages_for-append session l.waiting (filter (is_awaited l.sessions qs) sent))
        ∙ ap (λ ms. are_due cmp id ms (Some [])) (append_assoc (messages_for session l.waiting) (messages_for session (filter (is_awaited l.sessions qs) sent)) rest)
        ∙ due_append cmp id (messages_for session l.waiting) (messages_for session (filter (is_awaited l.sessions qs) sent) ++ rest) (Some []) (silent_due cmp id (messages_for session l.waiting) (Some []) silent)
        (ap (are_due cmp id (messages_for session (filter (is_awaited l.sessions qs) sent) ++ rest)) (silent_state cmp id (messages_for session l.waiting) (Some []) silent)
        ∙ awaited_due session id l.sessions qs sent rest (Some []) asks
        (ap (λ ms. are_due cmp id (ms ++ rest) (Some [])) (messages_for-by_face session ss) ∙ subst (λ (o : Option ApiError). are_due cmp id (messages_for session (unless o ss []) ++ rest) (Some []) ≡ true) accepted due_)))
      where
        ss : Sends K
        ss = said cmp matching (call cmp matching total one session expr l accepted) l.rows

        sent : Sends K
        sent = by_face ss

        qs : List Query
        qs = l.queries ++ record { session = session; id = id } ∷ []

        asks : has_query session id qs ≡ true
        asks = any-append (λ (q : Query). (session == q.session) && (id == q.id)) l.queries (record { session = session; id = id } ∷ []) ∙ rw (eq-eqb session session refl, eq-eqb id id refl) (or_true (has_query session id l.queries))

        silent : Each (IsSilent cmp id) (messages_for session l.waiting)
        silent = waiting_silent (λ n. made_on n l.sessions) l.sessions l.rows.made session id l.waiting (session_is cmp matching total one session expr l accepted) (omega arith) tidy.waiting

    pub given_once : (calls : List (Api K)) → ComeOnce cmp [] (replies_in cmp matching session id calls after)
    given_once calls = come_once total session id calls _ after [] (asked_due cmp matching total one session expr l accepted well tidy).1 asks fresh
      where
        asks : is_asking session id after ≡ true
        asks =
            subst (λ (o : Option ApiError). is_asking session id (unless o (done_by cmp matching (Get session expr) l) l) ≡ true) (sym accepted)
            (any-append (λ (q : Query). (session == q.session) && (id == q.id)) l.queries (record { session = session; id = id } ∷ []) ∙ rw (eq-eqb session session refl, eq-eqb id id refl) (or_true (has_query session id l.queries)))

        fresh : IsFresh total session id [] after
        fresh more through =
            let sent = messages_for session after.waiting ++ sent_to cmp matching session more after in
            let due_ = waiting_due (sent_to cmp matching session more after) (due more) in
            let so_far = replies_so_far cmp matching session id more after through in
            let given = given_in cmp matching session id more after in
            let left = answered id (messages_for session (left_after_all cmp matching more after).waiting) in
            new_front [] given left (ap (are_new cmp matching []) (so_far ∙ due_answered id sent [] due_) ∙ due_once cmp matching id sent [] [] due_ (λ x there. there))
