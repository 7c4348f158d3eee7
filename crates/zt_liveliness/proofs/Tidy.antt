-- What stays true of what is written down and of what waits: sessions are no uplinks, ids of queries were given out, and
-- what waits for a session answers such queries.
use Rattle.std.proofs.Common.{◌≡◌, ℕ, ◌+◌, ◌≤◌, ◌==◌, ◌&&◌, Bool, true, false, not, Option, Some, None, List, [], ◌∷◌, ◌++◌, filter, nat_le, refl, sym, ap, subst, ◌∙◌, arith, append-nil, eqb-true, ne_eqb}
use Rattle.std.proofs.lemmas.Bool.{or_cases}
use Rattle.std.proofs.Common.{⊎_elim}
use Rattle.std.specs.Cmp.{IsTotalOrder}
use Rattle.std.specs.List.{list_any}
use Rattle.std.specs.Option.{is_some}
use Rattle.std.specs.declared.cmp.Ordering.{Ordering}
use Rattle.zt_protocol.specs.Plain.{PlainCall}
use Rattle.zt_protocol.specs.Plain as plain
use Rattle.zt_protocol.specs.declared.messages.Message.{Message}
use Rattle.zt_protocol.specs.declared.messages.Message.TheVariants as message
use Rattle.zt_model.specs.Journal.{cause_of, rows_after}
use Rattle.zt_model.specs.Rows.{Rows}
use Rattle.zt_model.specs.Says.{Sends, parts_of, said, said_by}
use Rattle.zt_model.specs.Transcript.{Each}
use Rattle.zt_laws.specs.Order.{RowsAreInOrder}
use Rattle.zt_laws.specs.Sound.{CallHasFirstIds, opens_face, rows_after_call}
use Rattle.zt_laws.proofs.Hearing.{find_each, find_passes}
use Rattle.zt_laws.proofs.Lists.{any-append, any_none, any_member, by_test, each_append, any_from_filter, each_both, each_filter, each_passes, each_weaker, never}
use Rattle.zt_theorem_replies.proofs.Made.{made_after, made_opened, said_to_made}
use Rattle.zt_gateway.specs.Running.{by_face, closed_by, with_send, without_closed, without_oldest}
use Rattle.zt_liveliness.specs.Books.{find_session, has_uplink, with_interest_made, with_session, with_token_made, without_queries, without_query, without_session}
use Rattle.zt_liveliness.specs.Lively.{Api, Close, DeclareSubscriber, DeclareToken, Expire, Get, Lively, OpenSession, OpenUplink, Receive, TakeReply, TakeSample, TakeSent, UndeclareSubscriber, UndeclareToken, begun, carried, done_by, error_in, interests_made, is_session, is_uplink, left_after, left_by, readied, reply_of, unless}
use Rattle.zt_liveliness.specs.Mail.{is_awaited}
use Rattle.zt_liveliness.specs.Queues.{answer_for, answer_in, without_answer}
use Rattle.zt_liveliness.specs.declared.answers.Reply.{Reply}
use Rattle.zt_liveliness.specs.declared.answers.Reply.TheVariants.{Live, Done, NotYet, NoSuchGet}
use Rattle.zt_liveliness.specs.declared.books.Query.{Query}
use Rattle.zt_liveliness.specs.declared.books.Session.{Session}
use Rattle.zt_liveliness.specs.declared.errors.ApiError.{ApiError}
use Rattle.zt_liveliness.proofs.Counts.{found_appended, found_without, interests_of, left_without, made_appended, made_on, made_one_more, made_with_interest, made_with_token, there_changed}
use Rattle.zt_liveliness.proofs.Well.{IsWell, after_accepted, cause_none, first_none, session_there}

-- ---- messages

module _ {K : Type 0} where
  -- a message answers queries of one id
  pub answers_alike : (i j : ℕ) (m : Message K) → is_some (answer_in i m) ≡ true → is_some (answer_in j m) ≡ true → i ≡ j
  answers_alike i j (message.DeclareToken token e (Some interest) node) one two =
      by_test (i == interest)
      (λ here. by_test (j == interest) (λ there. eqb-true i interest here ∙ sym (eqb-true j interest there)) (λ there. let wrong = rw there at two in cc))
      (λ here. let wrong = rw here at one in cc)
  answers_alike i j (message.DeclareToken token e None node) one two = cc
  answers_alike i j (message.UndeclareToken token e node) one two = cc
  answers_alike i j (message.DeclareFinal interest) one two =
      by_test (i == interest)
      (λ here. by_test (j == interest) (λ there. eqb-true i interest here ∙ sym (eqb-true j interest there)) (λ there. let wrong = rw there at two in cc))
      (λ here. let wrong = rw here at one in cc)
  answers_alike i j (message.Interest number mode options e) one two = cc
  answers_alike i j (message.InterestFinal number) one two = cc
  answers_alike i j (message.DeclareSubscriber number e interest) one two = cc
  answers_alike i j (message.DeclareQueryable number e info interest) one two = cc

  each_placed : (P : ℕ × Message K → Type 0) (s : ℕ × Message K) (ss : Sends K) → P s → Each P ss → Each P (with_send s ss)
  each_placed P s [] one all = (one, tt)
  each_placed P s (x ∷ xs) one all = by_test (nat_le s.0 x.0) (λ here. rw here (one, all)) (λ here. rw here (all.0, each_placed P s xs one all.1))

  pub each_by_face : (P : ℕ × Message K → Type 0) (ss : Sends K) → Each P ss → Each P (by_face ss)
  each_by_face P [] all = tt
  each_by_face P (s ∷ ss) all = each_placed P s (by_face ss) all.0 (each_by_face P ss all.1)

  each_but_oldest : (P : ℕ × Message K → Type 0) (n : ℕ) (ss : Sends K) → Each P ss → Each P (without_oldest n ss)
  each_but_oldest P n [] all = tt
  each_but_oldest P n (s ∷ ss) all = by_test (n == s.0) (λ here. rw here all.1) (λ here. rw here (all.0, each_but_oldest P n ss all.1))

  each_but_answer : (P : ℕ × Message K → Type 0) (n id : ℕ) (ss : Sends K) → Each P ss → Each P (without_answer n id ss)
  each_but_answer P n id [] all = tt
  each_but_answer P n id (s ∷ ss) all = by_test (is_some (answer_for n id s)) (λ here. rw here all.1) (λ here. rw here (all.0, each_but_answer P n id ss all.1))

  each_but_closed : (P : ℕ × Message K → Type 0) (o : Option ℕ) (ss : Sends K) → Each P ss → Each P (without_closed o ss)
  each_but_closed P None ss all = all
  each_but_closed P (Some n) ss all = each_filter P (λ s. not (n == s.0)) ss all

  -- a message that waits is for a face that was made, and one for a session answers a query whose id was given out
  abbrev pub WaitsFor : (ℕ → ℕ) → List Session → ℕ → ℕ × Message K → Type 0
  WaitsFor made sessions most s = (s.0 ≤ most) × (is_some (find_session s.0 sessions) ≡ true → (i : ℕ) → is_some (answer_in i s.1) ≡ true → i ≤ made s.0)

  -- what waits of the messages of a call
  awaited_waits : (made : ℕ → ℕ) (sessions : List Session) (qs : List Query) (most : ℕ) (s : ℕ × Message K) → Each (λ q. q.id ≤ made q.session) qs → s.0 ≤ most → is_awaited sessions qs s ≡ true → WaitsFor made sessions most s
  awaited_waits made sessions qs most s given up waits = (up, λ there i answers. by_query i answers (asked there))
    where
      asked : is_some (find_session s.0 sessions) ≡ true → list_any (λ q. is_some (answer_for q.session q.id s)) qs ≡ true
      asked there = rw there at waits

      by_query : (i : ℕ) → is_some (answer_in i s.1) ≡ true → list_any (λ q. is_some (answer_for q.session q.id s)) qs ≡ true → i ≤ made s.0
      by_query i answers some =
          any_member (λ (q : Query). q.id ≤ made q.session) (λ q. is_some (answer_for q.session q.id s)) qs given some
          (λ q within own. by_test (q.session == s.0)
          (λ to.
          let one : i ≡ q.id = answers_alike i q.id s.1 answers (rw to at own) in
          let n : q.session ≡ s.0 = eqb-true q.session s.0 to in
          subst (λ k. i ≤ made k) n (subst (λ k. k ≤ made q.session) (sym one) within))
          (λ to. let wrong = rw to at own in cc))

-- ---- what is written down

module _ {K : Type 0} (cmp : K → K → Ordering) (matching : K → K → Bool) where
  -- where so many interests were made on each session
  pub record IsTidyFor (made : ℕ → ℕ) (l : Lively K) : Type 0 where
    pub uplinks : Each (λ u. u ≤ l.rows.made) l.uplinks
    pub apart : (n : ℕ) → is_session n l ≡ true → is_uplink n l ≡ false
    pub queries : Each (λ q. q.id ≤ made q.session) l.queries
    pub waiting : Each (WaitsFor made l.sessions l.rows.made) l.waiting

  abbrev pub IsTidy : Lively K → Type 0
  IsTidy l = IsTidyFor (λ n. made_on n l.sessions) l

  pub tidy_begun : (rows : Rows K) → IsTidy (begun rows)
  tidy_begun rows = record { uplinks = tt; apart = λ n there. refl; queries = tt; waiting = tt }

  -- a session's number was given out
  pub session_made : (n : ℕ) (l : Lively K) → IsWell cmp matching l → is_session n l ≡ true → n ≤ l.rows.made
  session_made n l w there =
      let f = w.faces n there in
      let up : f.0.number ≤ l.rows.made = find_each (λ h. h.number ≤ l.rows.made) (λ h. n == h.number) l.rows.faces f.0 w.ordered.lists.faces_made f.1 in
      let own : n ≡ f.0.number = eqb-true n f.0.number (find_passes (λ h. n == h.number) l.rows.faces f.0 f.1) in
      omega (arith, own, up)

  more_waits : (made most_made : ℕ → ℕ) (sessions : List Session) (low high : ℕ) → low ≤ high → ((n : ℕ) → made n ≤ most_made n) → (s : ℕ × Message K) → WaitsFor made sessions low s → WaitsFor most_made sessions high s
  more_waits made most_made sessions low high up more s waits =
      (let first = waits.0 in omega (arith, first, up), λ there i answers. let own = waits.1 there i answers in let more_ = more s.0 in omega (arith, own, more_))

  tidy_more : (made most : ℕ → ℕ) (l : Lively K) → ((n : ℕ) → made n ≤ most n) → IsTidyFor made l → IsTidyFor most l
  tidy_more made most l more t = record {
    uplinks = t.uplinks;
    apart = t.apart;
    queries = each_weaker (λ q. q.id ≤ made q.session) (λ q. q.id ≤ most q.session) (λ q up. let more_ = more q.session in omega (arith, up, more_)) l.queries t.queries;
    waiting = each_weaker (WaitsFor made l.sessions l.rows.made) (WaitsFor most l.sessions l.rows.made) (λ s one. more_waits made most l.sessions l.rows.made l.rows.made (omega arith) more s one) l.waiting t.waiting;
  }

  -- the sessions are written down anew, each of them
  tidy_counted : (made : ℕ → ℕ) (l : Lively K) (sessions : List Session) → ((n : ℕ) → is_some (find_session n sessions) ≡ is_some (find_session n l.sessions)) → ((n : ℕ) → made n ≤ made_on n sessions)
      → IsTidyFor made l → IsTidy (record l { sessions = sessions })
  tidy_counted made l sessions same_ more t =
      let wide = tidy_more made (λ n. made_on n sessions) l more t in
      record {
        uplinks = wide.uplinks;
        apart = λ n there. wide.apart n (sym (same_ n) ∙ there);
        queries = wide.queries;
        waiting = each_weaker (WaitsFor (λ n. made_on n sessions) l.sessions l.rows.made) (WaitsFor (λ n. made_on n sessions) sessions l.rows.made) (λ s one. (one.0, λ there i answers. one.1 (sym (same_ s.0) ∙ there) i answers)) l.waiting wide.waiting;
      }

  module _ (total : IsTotalOrder cmp) where
    -- a call of the gateway
    pub tidy_carried : (made : ℕ → ℕ) (c : PlainCall K) (l : Lively K) → CallHasFirstIds c → cause_of cmp matching c l.rows ≡ None → RowsAreInOrder cmp matching l.rows → IsTidyFor made l → IsTidyFor made (carried cmp matching c l)
    tidy_carried made c l real accepted ordered t =
        let after = rows_after cmp matching c l.rows in
        let sent = by_face (said cmp matching c l.rows) in
        let still = λ (n : ℕ) (up : n ≤ l.rows.made). made_after cmp matching total n c l.rows ordered up in
        let grows : l.rows.made ≤ after.made = still l.rows.made (omega arith) in
        let to_made : Each (λ s. s.0 ≤ after.made) sent =
        each_by_face (λ s. s.0 ≤ after.made) (said cmp matching c l.rows) (subst (λ (h : Rows K). Each (λ s. s.0 ≤ h.made) (said cmp matching c l.rows)) (sym (after_accepted cmp matching c l.rows accepted)) (said_to_made cmp matching total c l.rows real ordered))
        in
        record {
          uplinks = each_weaker (λ u. u ≤ l.rows.made) (λ u. u ≤ after.made) (λ u up. omega (arith, up, grows)) l.uplinks t.uplinks;
          apart = t.apart;
          queries = t.queries;
          waiting = each_append (WaitsFor made l.sessions after.made) (without_closed (closed_by c) l.waiting) (filter (is_awaited l.sessions l.queries) sent)
              (each_but_closed (WaitsFor made l.sessions after.made) (closed_by c) l.waiting (each_weaker (WaitsFor made l.sessions l.rows.made) (WaitsFor made l.sessions after.made) (λ s one. more_waits made made l.sessions l.rows.made after.made grows (λ n. omega arith) s one) l.waiting t.waiting))
              (each_both (λ s. s.0 ≤ after.made) (λ s. is_awaited l.sessions l.queries s ≡ true) (WaitsFor made l.sessions after.made) (λ s up waits. awaited_waits made l.sessions l.queries after.made s t.queries up waits) (filter (is_awaited l.sessions l.queries) sent)
              (each_filter (λ s. s.0 ≤ after.made) (is_awaited l.sessions l.queries) sent to_made) (each_passes (is_awaited l.sessions l.queries) sent));
        }

    -- ---- calls of the interface

    no_uplink : (n most : ℕ) (uplinks : List ℕ) → Each (λ u. u ≤ most) uplinks → n ≡ most + 1 → has_uplink n uplinks ≡ false
    no_uplink n most uplinks all is = any_none (λ u. n == u) uplinks (each_weaker (λ u. u ≤ most) (λ u. (n == u) ≡ false) (λ u up. ne_eqb n u (λ e. omega (arith, e, is, up))) uplinks all)

    tidy_opened : (l : Lively K) → cause_of cmp matching (plain.NewSession 1) l.rows ≡ None → IsWell cmp matching l → IsTidy l → IsTidy (done_by cmp matching OpenSession l)
    unfolding parts_of said_by
    tidy_opened l accepted w t = record {
      uplinks = c.uplinks;
      apart = λ n there. ⊎_elim (λ old. t.apart n old) (λ new. no_uplink n l.rows.made l.uplinks t.uplinks (eqb-true n number new)) (or_cases (is_session n l) (n == number) (sym (found_appended n fresh l.sessions) ∙ there));
      queries = each_weaker (λ q. q.id ≤ made_on q.session l.sessions) (λ q. q.id ≤ made_on q.session (l.sessions ++ fresh ∷ [])) (λ q up. subst (λ k. q.id ≤ k) (sym (made_appended q.session fresh l.sessions refl)) up) l.queries t.queries;
      waiting = subst (Each (WaitsFor (λ n. made_on n (l.sessions ++ fresh ∷ [])) (l.sessions ++ fresh ∷ []) after.rows.made)) (sym (append-nil l.waiting))
          (each_weaker (WaitsFor (λ n. made_on n l.sessions) l.sessions l.rows.made) (WaitsFor (λ n. made_on n (l.sessions ++ fresh ∷ [])) (l.sessions ++ fresh ∷ []) after.rows.made)
          (λ s one. (
            let first = one.0 in omega (arith, first, grows),
            λ there i answers.
                ⊎_elim (λ old. subst (λ k. i ≤ k) (sym (made_appended s.0 fresh l.sessions refl)) (one.1 old i answers))
                (λ new. let own = eqb-true s.0 number new in let first = one.0 in absurd (omega (arith, own, first)))
                (or_cases (is_session s.0 l) (s.0 == number) (sym (found_appended s.0 fresh l.sessions) ∙ there)),
          )) l.waiting t.waiting);
    }
      where
        number : ℕ
        number = l.rows.made + 1

        fresh : Session
        fresh = record { number = number; tokens = 0; interests = 0 }

        after : Lively K
        after = carried cmp matching (plain.NewSession 1) l

        grows : l.rows.made ≤ after.rows.made
        grows = made_after cmp matching total l.rows.made (plain.NewSession 1) l.rows w.ordered (omega arith)

        c : IsTidy after
        c = tidy_carried (λ n. made_on n l.sessions) (plain.NewSession 1) l (omega arith) accepted w.ordered t

    tidy_linked : (c : PlainCall K) (l : Lively K) → CallHasFirstIds c → cause_of cmp matching c l.rows ≡ None → l.rows.made + 1 ≤ (rows_after cmp matching c l.rows).made → IsWell cmp matching l → IsTidy l
        → IsTidy (record (carried cmp matching c l) { uplinks = l.uplinks ++ (l.rows.made + 1) ∷ [] })
    tidy_linked c l real accepted opens w t =
        let k = tidy_carried (λ n. made_on n l.sessions) c l real accepted w.ordered t in
        record {
          uplinks = each_append (λ u. u ≤ (rows_after cmp matching c l.rows).made) l.uplinks ((l.rows.made + 1) ∷ []) k.uplinks (opens, tt);
          apart = λ n there.
              let old : n ≤ l.rows.made = session_made n l w there in
              let other : (n == l.rows.made + 1) ≡ false = ne_eqb n (l.rows.made + 1) (λ e. omega (arith, e, old)) in
              any-append (λ u. n == u) l.uplinks ((l.rows.made + 1) ∷ []) ∙ rw (t.apart n there, other) refl;
          queries = k.queries;
          waiting = k.waiting;
        }

    tidy_closed : (face : ℕ) (l : Lively K) → cause_of cmp matching (plain.CloseFace face) l.rows ≡ None → IsWell cmp matching l → IsTidy l → IsTidy (done_by cmp matching (Close face) l)
    tidy_closed face l accepted w t =
        let k = tidy_carried (λ n. made_on n l.sessions) (plain.CloseFace face) l tt accepted w.ordered t in
        record {
          uplinks = each_filter (λ u. u ≤ after.rows.made) (λ u. not (face == u)) l.uplinks k.uplinks;
          apart = λ n there. gone (λ u. n == u) (λ u. not (face == u)) l.uplinks (t.apart n (sym (ap is_some (found_without n face l.sessions (left_without n face l.sessions there))) ∙ there));
          queries = each_both (λ q. q.id ≤ made_on q.session l.sessions) (λ q. not (face == q.session) ≡ true) (λ q. q.id ≤ made_on q.session left)
              (λ q up kept. subst (λ (o : Option Session). q.id ≤ interests_of o) (sym (found_without q.session face l.sessions (not_so (face == q.session) kept))) up)
              (without_queries face l.queries) (each_filter (λ q. q.id ≤ made_on q.session l.sessions) (λ q. not (face == q.session)) l.queries t.queries) (each_passes (λ q. not (face == q.session)) l.queries);
          waiting = each_weaker (WaitsFor (λ n. made_on n l.sessions) l.sessions after.rows.made) (WaitsFor (λ n. made_on n left) left after.rows.made)
              (λ s one. (
                one.0,
                λ there i answers.
                    let same_ = found_without s.0 face l.sessions (left_without s.0 face l.sessions there) in
                    subst (λ (o : Option Session). i ≤ interests_of o) (sym same_) (one.1 (sym (ap is_some same_) ∙ there) i answers),
              )) after.waiting k.waiting;
        }
      where
        left : List Session
        left = without_session face l.sessions

        after : Lively K
        after = carried cmp matching (plain.CloseFace face) l

        not_so : (b : Bool) → not b ≡ true → b ≡ false
        not_so true is = cc
        not_so false is = refl

        gone : (p q : ℕ → Bool) (us : List ℕ) → list_any p us ≡ false → list_any p (filter q us) ≡ false
        gone p q us none_ = by_test (list_any p (filter q us)) (λ some. never (any_from_filter p q us some) none_) (λ none. none)

    -- replies and messages are taken, and queries end
    tidy_less : (l : Lively K) (waiting : Sends K) (queries : List Query) → Each (WaitsFor (λ n. made_on n l.sessions) l.sessions l.rows.made) waiting → Each (λ q. q.id ≤ made_on q.session l.sessions) queries → IsTidy l → IsTidy (record l { waiting = waiting; queries = queries })
    tidy_less l waiting queries waits given t = record { uplinks = t.uplinks; apart = t.apart; queries = given; waiting = waits }

    tidy_plain : (c : PlainCall K) (l : Lively K) → CallHasFirstIds c → cause_of cmp matching c l.rows ≡ None → IsWell cmp matching l → IsTidy l → IsTidy (carried cmp matching c l)
    tidy_plain c l real accepted w t = tidy_carried (λ n. made_on n l.sessions) c l real accepted w.ordered t

    tidy_done : (a : Api K) (l : Lively K) → error_in cmp matching a l ≡ None → IsWell cmp matching l → IsTidy l → IsTidy (done_by cmp matching a l)
    tidy_done OpenSession l accepted w t = tidy_opened l (cause_none cmp matching OpenSession l _ refl accepted) w t
    tidy_done (OpenUplink zid whatami bound) l accepted w t =
        let c : PlainCall K = plain.NewTransport zid whatami _ bound 1 in
        let fine = cause_none cmp matching (OpenUplink zid whatami bound) l c refl accepted in
        tidy_linked c l (omega arith) fine (opened_more c l fine refl w) w t
      where
        opened_more : (c : PlainCall K) (l : Lively K) → cause_of cmp matching c l.rows ≡ None → opens_face c ≡ true → IsWell cmp matching l → l.rows.made + 1 ≤ (rows_after cmp matching c l.rows).made
        opened_more c l fine opens w = subst (λ (h : Rows K). l.rows.made + 1 ≤ h.made) (sym (after_accepted cmp matching c l.rows fine)) (made_opened cmp matching total c l.rows opens)
    tidy_done (DeclareToken session key) l accepted w t =
        tidy_counted (λ n. made_on n l.sessions) _ (with_session session with_token_made l.sessions) (λ n. there_changed n session with_token_made l.sessions (λ s. refl))
        (λ n. let same_ = made_with_token n session l.sessions in omega (arith, same_)) (tidy_plain _ l tt (cause_none cmp matching (DeclareToken session key) l _ refl accepted) w t)
    tidy_done (UndeclareToken session id) l accepted w t = tidy_plain _ l tt (cause_none cmp matching (UndeclareToken session id) l _ refl accepted) w t
    tidy_done (Get session expr) l accepted w t =
        let sessions = with_session session with_interest_made l.sessions in
        let there : is_some (find_session session l.sessions) ≡ true = session_there (find_session session l.sessions) (λ s. s.interests) (first_none cmp matching (Get session expr) l accepted) in
        let q : Query = record { session = session; id = interests_made session l + 1 } in
        let count = made_one_more session l.sessions there in
        let wide = tidy_more (λ n. made_on n l.sessions) (λ n. made_on n sessions) l (λ n. made_with_interest n session l.sessions) t in
        let ready : IsTidyFor (λ n. made_on n sessions) (readied cmp matching (Get session expr) l) = record {
          uplinks = t.uplinks;
          apart = t.apart;
          queries = each_append (λ q. q.id ≤ made_on q.session sessions) l.queries (q ∷ []) wide.queries (omega (arith, count), tt);
          waiting = wide.waiting;
        } in
        tidy_counted (λ n. made_on n sessions) _ sessions (λ n. there_changed n session with_interest_made l.sessions (λ s. refl)) (λ n. omega arith)
        (tidy_carried (λ n. made_on n sessions) _ (readied cmp matching (Get session expr) l) tt (cause_none cmp matching (Get session expr) l _ refl accepted) w.ordered ready)
    tidy_done (DeclareSubscriber session expr history) l accepted w t =
        let a : Api K = DeclareSubscriber session expr history in
        let ready : IsTidy (readied cmp matching a l) = record { uplinks = t.uplinks; apart = t.apart; queries = t.queries; waiting = t.waiting } in
        tidy_counted (λ n. made_on n l.sessions) _ (with_session session with_interest_made l.sessions) (λ n. there_changed n session with_interest_made l.sessions (λ s. refl)) (λ n. made_with_interest n session l.sessions)
        (tidy_carried (λ n. made_on n l.sessions) _ (readied cmp matching a l) tt (cause_none cmp matching a l _ refl accepted) w.ordered ready)
    tidy_done (TakeReply session id) l accepted w t = taken (reply_of session id l)
      where
        waits : Each (WaitsFor (λ n. made_on n l.sessions) l.sessions l.rows.made) (without_answer session id l.waiting)
        waits = each_but_answer (WaitsFor (λ n. made_on n l.sessions) l.sessions l.rows.made) session id l.waiting t.waiting

        taken : (r : Reply K) → IsTidy (left_by session id r l)
        taken (Live e) = tidy_less l (without_answer session id l.waiting) l.queries waits t.queries t
        taken Done = tidy_less l (without_answer session id l.waiting) (without_query session id l.queries) waits (each_filter (λ q. q.id ≤ made_on q.session l.sessions) (λ q. not ((session == q.session) && (id == q.id))) l.queries t.queries) t
        taken NotYet = t
        taken NoSuchGet = t
    tidy_done (TakeSample session id) l accepted w t = record { uplinks = t.uplinks; apart = t.apart; queries = t.queries; waiting = t.waiting }
    tidy_done (UndeclareSubscriber session id) l accepted w t =
        let k = tidy_plain _ l tt (cause_none cmp matching (UndeclareSubscriber session id) l _ refl accepted) w t in
        record { uplinks = k.uplinks; apart = k.apart; queries = k.queries; waiting = k.waiting }
    tidy_done (Receive uplink m) l accepted w t = received m accepted
      where
        received : (m : Message K) → error_in cmp matching (Receive uplink m) l ≡ None → IsTidy (done_by cmp matching (Receive uplink m) l)
        received (message.DeclareToken id e interest node) accepted = tidy_plain _ l tt (cause_none cmp matching (Receive uplink (message.DeclareToken id e interest node)) l _ refl accepted) w t
        received (message.UndeclareToken id e node) accepted = tidy_plain _ l tt (cause_none cmp matching (Receive uplink (message.UndeclareToken id e node)) l _ refl accepted) w t
        received (message.DeclareFinal interest) accepted = tidy_plain _ l tt (cause_none cmp matching (Receive uplink (message.DeclareFinal interest)) l _ refl accepted) w t
        received (message.Interest i mode options e) accepted = tidy_plain _ l tt (cause_none cmp matching (Receive uplink (message.Interest i mode options e)) l _ refl accepted) w t
        received (message.InterestFinal i) accepted = tidy_plain _ l tt (cause_none cmp matching (Receive uplink (message.InterestFinal i)) l _ refl accepted) w t
        received (message.DeclareSubscriber i e interest) accepted = t
        received (message.DeclareQueryable i e info interest) accepted = t
    tidy_done (TakeSent uplink) l accepted w t =
        by_test (is_uplink uplink l)
        (λ takes. rw takes (tidy_less l (without_oldest uplink l.waiting) l.queries (each_but_oldest (WaitsFor (λ n. made_on n l.sessions) l.sessions l.rows.made) uplink l.waiting t.waiting) t.queries t))
        (λ takes. rw takes t)
    tidy_done (Close face) l accepted w t = tidy_closed face l (cause_none cmp matching (Close face) l _ refl accepted) w t
    tidy_done (Expire now) l accepted w t = tidy_plain _ l tt (cause_none cmp matching (Expire now) l _ refl accepted) w t

    pub tidy_after : (a : Api K) (l : Lively K) → IsWell cmp matching l → IsTidy l → IsTidy (left_after cmp matching a l)
    tidy_after a l w t = cases (error_in cmp matching a l) refl
      where
        cases : (o : Option ApiError) → error_in cmp matching a l ≡ o → IsTidy (unless o (done_by cmp matching a l) l)
        cases None is = tidy_done a l is w t
        cases (Some error) is = t
