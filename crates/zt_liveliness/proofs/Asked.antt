-- What a session is sent for a query that it asked: each expression once, and nothing after the final.
use Rattle.std.proofs.Common.{◌≡◌, ℕ, ◌+◌, ◌≤◌, ◌==◌, ◌&&◌, Bool, true, false, not, Option, Some, None, List, [], ◌∷◌, ◌++◌, refl, sym, ap, subst, ◌∙◌, arith, eqb-true, ne_eqb}
use Rattle.std.proofs.lemmas.Bool.{or_cases}
use Rattle.std.proofs.Common.{⊎_elim}
use Rattle.std.specs.Cmp.{IsTotalOrder}
use Rattle.std.specs.Option.{is_some}
use Rattle.std.specs.declared.cmp.Ordering.{Ordering}
use Rattle.std.specs.declared.cmp.Ordering.TheVariants.{Equal}
use Rattle.zt_protocol.specs.Plain.{PlainCall}
use Rattle.zt_protocol.specs.Plain as plain
use Rattle.zt_protocol.specs.declared.errors.Refusal.{Refusal}
use Rattle.zt_protocol.specs.declared.interests.InterestMode.TheVariants.{Current}
use Rattle.zt_protocol.specs.declared.messages.Message.{Message}
use Rattle.zt_protocol.specs.declared.messages.Message.TheVariants as message
use Rattle.zt_model.specs.Hearing.{messages_for}
use Rattle.zt_model.specs.Journal.{cause_of, rows_after}
use Rattle.zt_model.specs.Rows.{Rows}
use Rattle.zt_model.specs.Says.{Sends, said}
use Rattle.zt_laws.specs.Sound.{CallHasFirstIds}
use Rattle.zt_laws.proofs.Lists.{any-append, any_from_filter, by_test, never}
use Rattle.zt_theorem_replies.specs.Replies.{is_asking_as, sent_by}
use Rattle.zt_theorem_replies.proofs.Due.{are_due, due_append, state_after}
use Rattle.zt_theorem_replies.proofs.Once.{Stands, asked_stands, one_call}
use Rattle.zt_liveliness.specs.Books.{find_session, has_uplink, with_interest_made, with_session, with_token_made, without_uplink}
use Rattle.zt_liveliness.specs.Lively.{Api, Close, DeclareSubscriber, DeclareToken, Expire, Get, Lively, OpenSession, OpenUplink, Receive, TakeReply, TakeSample, TakeSent, UndeclareSubscriber, UndeclareToken, begun, call_in, cause_if_not, done_by, error_in, first_error, interests_made, is_session, is_uplink, left_after, left_by, reply_of, said_if, said_in, unless}
use Rattle.zt_liveliness.specs.Replies.{left_after_all, sent_to}
use Rattle.zt_liveliness.specs.Subscribed.{IsReached}
use Rattle.zt_liveliness.specs.declared.answers.Reply.{Reply}
use Rattle.zt_liveliness.specs.declared.answers.Reply.TheVariants.{Live, Done, NotYet, NoSuchGet}
use Rattle.zt_liveliness.specs.declared.books.Session.{Session}
use Rattle.zt_liveliness.specs.declared.errors.ApiError.{ApiError}
use Rattle.zt_liveliness.specs.declared.errors.ApiError.TheVariants.{NoSuchFace}
use Rattle.zt_liveliness.proofs.Counts.{found_appended, found_without, interests_of, left_without, made_appended, made_on, made_one_more, made_with_interest, made_with_token, there_changed}
use Rattle.zt_liveliness.proofs.Tidy.{IsTidy, tidy_after, tidy_begun}
use Rattle.zt_liveliness.proofs.Well.{IsWell, cause_none, first_none, session_there, well_after, well_begun}

module _ {K : Type 0} (cmp : K → K → Ordering) (matching : K → K → Bool) where
  abbrev rows_if : Option (PlainCall K) → Rows K → Rows K
  rows_if None g = g
  rows_if (Some c) g = rows_after cmp matching c g

  -- a call keeps the rows of its gateway, where it makes none
  rows_done : (a : Api K) (l : Lively K) → (done_by cmp matching a l).rows ≡ rows_if (call_in a l) l.rows
  rows_done OpenSession l = refl
  rows_done (OpenUplink zid whatami bound) l = refl
  rows_done (DeclareToken session key) l = refl
  rows_done (UndeclareToken session id) l = refl
  rows_done (Get session expr) l = refl
  rows_done (TakeReply session id) l = taken (reply_of session id l)
    where
      taken : (r : Reply K) → (left_by session id r l).rows ≡ l.rows
      taken (Live e) = refl
      taken Done = refl
      taken NotYet = refl
      taken NoSuchGet = refl
  rows_done (DeclareSubscriber session expr history) l = refl
  rows_done (TakeSample session id) l = refl
  rows_done (UndeclareSubscriber session id) l = refl
  rows_done (Receive uplink (message.DeclareToken id e interest node)) l = refl
  rows_done (Receive uplink (message.UndeclareToken id e node)) l = refl
  rows_done (Receive uplink (message.DeclareFinal interest)) l = refl
  rows_done (Receive uplink (message.Interest i mode options e)) l = refl
  rows_done (Receive uplink (message.InterestFinal i)) l = refl
  rows_done (Receive uplink (message.DeclareSubscriber i e interest)) l = refl
  rows_done (Receive uplink (message.DeclareQueryable i e info interest)) l = refl
  rows_done (TakeSent uplink) l = by_test (is_uplink uplink l) (λ takes. rw takes refl) (λ takes. rw takes refl)
  rows_done (Close face) l = refl
  rows_done (Expire now) l = refl

  module _ (n id : ℕ) where
    -- the id was given out on the session, where that is open; no uplink has its number
    pub record IsGivenOut (l : Lively K) : Type 0 where
      pub uplink : is_uplink n l ≡ false
      pub ids : is_session n l ≡ true → id ≤ made_on n l.sessions

    -- the call of the gateway has a first id, and isn't this interest again
    abbrev Fits : Option (PlainCall K) → Type 0
    Fits None = Unit {0}
    Fits (Some c) = CallHasFirstIds c × (is_asking_as n id c ≡ false)

    -- an interest of another face, or with a new id
    pub new_id : (session : ℕ) (l : Lively K) → IsGivenOut l → is_some (find_session session l.sessions) ≡ true → ((n == session) && (id == interests_made session l + 1)) ≡ false
    new_id session l out there =
        by_test (n == session)
        (λ own.
        let is = eqb-true n session own in
        let up : id ≤ made_on session l.sessions = subst (λ k. id ≤ made_on k l.sessions) is (out.ids (subst (λ k. is_session k l ≡ true) (sym is) there)) in
        rw (own, ne_eqb id (interests_made session l + 1) (λ e. omega (arith, e, up))) refl)
        (λ own. rw own refl)

    uplink_there : (there : Bool) → cause_if_not there NoSuchFace ≡ None → there ≡ true
    uplink_there true is = refl
    uplink_there false is = cc

    fits : (a : Api K) (l : Lively K) → error_in cmp matching a l ≡ None → IsGivenOut l → Fits (call_in a l)
    fits OpenSession l accepted out = (omega arith, refl)
    fits (OpenUplink zid whatami bound) l accepted out = (omega arith, refl)
    fits (DeclareToken session key) l accepted out = (tt, refl)
    fits (UndeclareToken session i) l accepted out = (tt, refl)
    fits (Get session expr) l accepted out = (tt, new_id session l out (session_there (find_session session l.sessions) (λ s. s.interests) (first_none cmp matching (Get session expr) l accepted)))
    fits (TakeReply session i) l accepted out = tt
    fits (DeclareSubscriber session expr history) l accepted out = (tt, new_id session l out (session_there (find_session session l.sessions) (λ s. s.interests) (first_none cmp matching (DeclareSubscriber session expr history) l accepted)))
    fits (TakeSample session i) l accepted out = tt
    fits (UndeclareSubscriber session i) l accepted out = (tt, refl)
    fits (Receive uplink m) l accepted out = received m (first_none cmp matching (Receive uplink m) l accepted)
      where
        other : is_uplink uplink l ≡ true → (n == uplink) ≡ false
        other there = by_test (n == uplink) (λ own. never (subst (λ k. is_uplink k l ≡ true) (sym (eqb-true n uplink own)) there) out.uplink) (λ own. own)

        received : (m : Message K) → first_error (Receive uplink m) l ≡ None → Fits (call_in (Receive uplink m) l)
        received (message.DeclareToken i e interest node) first = (tt, refl)
        received (message.UndeclareToken i e node) first = (tt, refl)
        received (message.DeclareFinal interest) first = (tt, refl)
        received (message.Interest i mode options e) first = let apart = other (uplink_there (is_uplink uplink l) first) in (tt, rw apart refl)
        received (message.InterestFinal i) first = (tt, refl)
        received (message.DeclareSubscriber i e interest) first = tt
        received (message.DeclareQueryable i e info interest) first = tt
    fits (TakeSent uplink) l accepted out = tt
    fits (Close face) l accepted out = (tt, refl)
    fits (Expire now) l accepted out = (tt, refl)

    -- ---- what stays given out

    out_as : (l m : Lively K) → m.uplinks ≡ l.uplinks → m.sessions ≡ l.sessions → IsGivenOut l → IsGivenOut m
    out_as l m uplinks sessions out = record {
      uplink = ap (has_uplink n) uplinks ∙ out.uplink;
      ids = λ there. subst (λ ss. id ≤ made_on n ss) (sym sessions) (out.ids (ap (λ ss. is_some (find_session n ss)) (sym sessions) ∙ there));
    }

    out_counted : (l m : Lively K) (sessions : List Session) → m.uplinks ≡ l.uplinks → m.sessions ≡ sessions → is_some (find_session n sessions) ≡ is_some (find_session n l.sessions) → made_on n l.sessions ≤ made_on n sessions → IsGivenOut l → IsGivenOut m
    out_counted l m sessions uplinks is same_ more out = record {
      uplink = ap (has_uplink n) uplinks ∙ out.uplink;
      ids = λ there. subst (λ ss. id ≤ made_on n ss) (sym is) (let own = out.ids (sym same_ ∙ ap (λ ss. is_some (find_session n ss)) (sym is) ∙ there) in omega (arith, own, more));
    }

    out_done : (a : Api K) (l : Lively K) → n ≤ l.rows.made → IsGivenOut l → IsGivenOut (done_by cmp matching a l)
    out_done OpenSession l made out =
        let fresh : Session = record { number = l.rows.made + 1; tokens = 0; interests = 0 } in
        let other : (n == l.rows.made + 1) ≡ false = ne_eqb n (l.rows.made + 1) (λ e. omega (arith, e, made)) in
        record {
          uplink = out.uplink;
          ids = λ there. subst (λ k. id ≤ k) (sym (made_appended n fresh l.sessions refl)) (out.ids (⊎_elim (λ old. old) (λ new. never new other) (or_cases (is_session n l) (n == l.rows.made + 1) (sym (found_appended n fresh l.sessions) ∙ there))));
        }
    out_done (OpenUplink zid whatami bound) l made out =
        let other : (n == l.rows.made + 1) ≡ false = ne_eqb n (l.rows.made + 1) (λ e. omega (arith, e, made)) in
        record { uplink = any-append (λ u. n == u) l.uplinks ((l.rows.made + 1) ∷ []) ∙ rw (out.uplink, other) refl; ids = out.ids }
    out_done (DeclareToken session key) l made out =
        out_counted l _ (with_session session with_token_made l.sessions) refl refl (there_changed n session with_token_made l.sessions (λ s. refl)) (let same_ = made_with_token n session l.sessions in omega (arith, same_)) out
    out_done (UndeclareToken session i) l made out = out_as l _ refl refl out
    out_done (Get session expr) l made out =
        out_counted l _ (with_session session with_interest_made l.sessions) refl refl (there_changed n session with_interest_made l.sessions (λ s. refl)) (made_with_interest n session l.sessions) out
    out_done (TakeReply session i) l made out = taken (reply_of session i l)
      where
        taken : (r : Reply K) → IsGivenOut (left_by session i r l)
        taken (Live e) = out_as l _ refl refl out
        taken Done = out_as l _ refl refl out
        taken NotYet = out
        taken NoSuchGet = out
    out_done (DeclareSubscriber session expr history) l made out =
        out_counted l _ (with_session session with_interest_made l.sessions) refl refl (there_changed n session with_interest_made l.sessions (λ s. refl)) (made_with_interest n session l.sessions) out
    out_done (TakeSample session i) l made out = out_as l _ refl refl out
    out_done (UndeclareSubscriber session i) l made out = out_as l _ refl refl out
    out_done (Receive uplink (message.DeclareToken i e interest node)) l made out = out_as l _ refl refl out
    out_done (Receive uplink (message.UndeclareToken i e node)) l made out = out_as l _ refl refl out
    out_done (Receive uplink (message.DeclareFinal interest)) l made out = out_as l _ refl refl out
    out_done (Receive uplink (message.Interest i mode options e)) l made out = out_as l _ refl refl out
    out_done (Receive uplink (message.InterestFinal i)) l made out = out_as l _ refl refl out
    out_done (Receive uplink (message.DeclareSubscriber i e interest)) l made out = out
    out_done (Receive uplink (message.DeclareQueryable i e info interest)) l made out = out
    out_done (TakeSent uplink) l made out = by_test (is_uplink uplink l) (λ takes. rw takes (out_as l _ refl refl out)) (λ takes. rw takes out)
    out_done (Close face) l made out = record {
      uplink = by_test (has_uplink n (without_uplink face l.uplinks)) (λ some. never (any_from_filter (λ u. n == u) (λ u. not (face == u)) l.uplinks some) out.uplink) (λ none. none);
      ids = λ there.
          let same_ = found_without n face l.sessions (left_without n face l.sessions there) in
          subst (λ (o : Option Session). id ≤ interests_of o) (sym same_) (out.ids (sym (ap is_some same_) ∙ there));
    }
    out_done (Expire now) l made out = out_as l _ refl refl out

    -- ---- one call and many

    -- the query's ask was answered so, and its id was given out
    pub record IsAsked (s : Option (List K)) (l : Lively K) : Type 0 where
      pub stands : Stands cmp matching n id s l.rows
      pub out : IsGivenOut l

    module _ (total : IsTotalOrder cmp) where
      -- what a call of the gateway sends, where it makes one
      due_if : (o : Option (PlainCall K)) (s : Option (List K)) (l : Lively K) → Fits o → ((c : PlainCall K) → o ≡ Some c → cause_of cmp matching c l.rows ≡ None) → Stands cmp matching n id s l.rows
          → (let ms = messages_for n (said_if cmp matching o l) in (are_due cmp id ms s ≡ true) × Stands cmp matching n id (state_after cmp id ms s) (rows_if o l.rows))
      unfolding messages_for
      due_if None s l fits_ accepted stands = (refl, stands)
      due_if (Some c) s l fits_ accepted stands =
          let sent_ : sent_by cmp matching c l.rows ≡ said cmp matching c l.rows = ap (λ (o : Option Refusal). (let ss : Sends K = elim o [ None ↦ said cmp matching c l.rows | Some refusal ↦ [] ] in ss)) (accepted c refl) in
          subst (λ (ss : Sends K). (are_due cmp id (messages_for n ss) s ≡ true) × Stands cmp matching n id (state_after cmp id (messages_for n ss) s) (rows_after cmp matching c l.rows)) sent_
          (one_call cmp matching n id total s c l.rows fits_.0 fits_.1 stands)

      pub step_due : (a : Api K) (s : Option (List K)) (l : Lively K) → IsAsked s l
          → (are_due cmp id (messages_for n (said_in cmp matching a l)) s ≡ true) × IsAsked (state_after cmp id (messages_for n (said_in cmp matching a l)) s) (left_after cmp matching a l)
      unfolding messages_for
      step_due a s l asked = cases (error_in cmp matching a l) refl
        where
          cases : (o : Option ApiError) → error_in cmp matching a l ≡ o
              → (let ss = unless o (said_if cmp matching (call_in a l) l) [] in
              (are_due cmp id (messages_for n ss) s ≡ true) × IsAsked (state_after cmp id (messages_for n ss) s) (unless o (done_by cmp matching a l) l))
          cases None is =
              let one = due_if (call_in a l) s l (fits a l is asked.out) (λ c calls. cause_none cmp matching a l c calls is) asked.stands in
              let t = state_after cmp id (messages_for n (said_if cmp matching (call_in a l) l)) s in
              (one.0, record { stands = subst (λ (h : Rows K). Stands cmp matching n id t h) (sym (rows_done a l)) one.1; out = out_done a l asked.stands.made asked.out })
          cases (Some error) is = (refl, asked)

      pub calls_due : (calls : List (Api K)) (s : Option (List K)) (l : Lively K) → IsAsked s l → are_due cmp id (sent_to cmp matching n calls l) s ≡ true
      calls_due [] s l asked = refl
      calls_due (a ∷ calls) s l asked =
          let one = step_due a s l asked in
          let ms = messages_for n (said_in cmp matching a l) in
          due_append cmp id ms (sent_to cmp matching n calls (left_after cmp matching a l)) s one.0 (calls_due calls (state_after cmp id ms s) (left_after cmp matching a l) one.1)

  -- ---- the query's own call

  module _ (total : IsTotalOrder cmp) (one : (a b : K) → cmp a b ≡ Equal → a ≡ b) where
    -- what is reached by calls
    tidy_left : (calls : List (Api K)) (l : Lively K) → IsWell cmp matching l → IsTidy cmp matching l → IsWell cmp matching (left_after_all cmp matching calls l) × IsTidy cmp matching (left_after_all cmp matching calls l)
    tidy_left [] l w t = (w, t)
    tidy_left (a ∷ calls) l w t = tidy_left calls (left_after cmp matching a l) (well_after cmp matching total one a l w) (tidy_after cmp matching total a l w t)

    pub tidy_reached : (l : Lively K) → IsReached cmp matching l → IsWell cmp matching l × IsTidy cmp matching l
    tidy_reached l r = subst (λ (k : Lively K). IsWell cmp matching k × IsTidy cmp matching k) (sym r.left) (tidy_left r.calls (begun r.first) (well_begun cmp matching r.first r.ordered) (tidy_begun cmp matching r.first))

    module _ (session : ℕ) (expr : K) (l : Lively K) (accepted : error_in cmp matching (Get session expr) l ≡ None) where
      abbrev id : ℕ
      id = interests_made session l + 1

      abbrev pub call : PlainCall K
      call = plain.Interest session id Current (record { 0 = 8 }) (Some expr)

      pub session_is : is_session session l ≡ true
      session_is = session_there (find_session session l.sessions) (λ s. s.interests) (first_none cmp matching (Get session expr) l accepted)

      -- the query is asked, with nothing answered before
      pub asked_due : IsWell cmp matching l → IsTidy cmp matching l
          → (are_due cmp id (messages_for session (said cmp matching call l.rows)) (Some []) ≡ true) × IsAsked session id (state_after cmp id (messages_for session (said cmp matching call l.rows)) (Some [])) (left_after cmp matching (Get session expr) l)
      asked_due w t =
          let fine = cause_none cmp matching (Get session expr) l call refl accepted in
          let asks = asked_stands cmp matching session id total Current (record { 0 = 8 }) (Some expr) l.rows refl fine w.ordered in
          let sessions = with_session session with_interest_made l.sessions in
          let out : IsGivenOut session id (done_by cmp matching (Get session expr) l) = record {
            uplink = t.apart session session_is;
            ids = λ there. let count = made_one_more session l.sessions session_is in omega (arith, count);
          } in
          (asks.0, subst (λ (o : Option ApiError). IsAsked session id (state_after cmp id (messages_for session (said cmp matching call l.rows)) (Some [])) (unless o (done_by cmp matching (Get session expr) l) l)) (sym accepted) (record { stands = asks.1; out = out }))

      -- and all that its session is sent for it is due
      pub all_due : (calls : List (Api K)) → IsWell cmp matching l → IsTidy cmp matching l → are_due cmp id (sent_to cmp matching session (Get session expr ∷ calls) l) (Some []) ≡ true
      all_due calls w t =
          let first = asked_due w t in
          let ms = messages_for session (said cmp matching call l.rows) in
          let rest = sent_to cmp matching session calls (left_after cmp matching (Get session expr) l) in
          ap (λ (o : Option ApiError). are_due cmp id (messages_for session (unless o (said cmp matching call l.rows) []) ++ rest) (Some [])) accepted
          ∙ due_append cmp id ms rest (Some []) first.0 (calls_due session id total calls (state_after cmp id ms (Some [])) (left_after cmp matching (Get session expr) l) first.1)
