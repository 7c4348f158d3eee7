-- What stays true of the interface: sessions' faces are open and keep what the sessions were told, and ids aren't used
-- again.
use Rattle.std.proofs.Common.{◌≡◌, ℕ, ◌+◌, ◌≤◌, ◌==◌, ◌&&◌, ◌||◌, Bool, true, false, not, if◌then◌else◌, Option, Some, None, option_map, List, [], ◌∷◌, ◌++◌, filter, refl, sym, ap, subst, ◌∙◌, arith, append-nil, eqb-true, eq-eqb}
use Rattle.std.specs.Cmp.{IsTotalOrder}
use Rattle.std.specs.Option.{is_some}
use Rattle.std.specs.declared.cmp.Ordering.{Ordering}
use Rattle.std.specs.declared.cmp.Ordering.TheVariants.{Equal}
use Rattle.zt_protocol.specs.Plain.{PlainCall}
use Rattle.zt_protocol.specs.Plain as plain
use Rattle.zt_protocol.specs.declared.errors.Refusal.{Refusal}
use Rattle.zt_protocol.specs.declared.messages.Message.{Message}
use Rattle.zt_protocol.specs.declared.messages.Message.TheVariants as message
use Rattle.zt_model.specs.Hearing.{messages_for}
use Rattle.zt_model.specs.Journal.{cause_of, rows_after}
use Rattle.zt_model.specs.Rows.{Face, Rows}
use Rattle.zt_model.specs.Says.{Sends, altered_by, find_face, parts_of, said, said_by}
use Rattle.zt_model.specs.Transcript.{Each}
use Rattle.zt_laws.specs.Kept as kept
use Rattle.zt_laws.specs.Order.{RowsAreInOrder}
use Rattle.zt_laws.specs.Sound.{CallHasFirstIds, rows_after_call}
use Rattle.zt_laws.proofs.CallsOrder.{in_order_after_any}
use Rattle.zt_laws.proofs.Lists.{by_test, each_append, each_both, each_filter, each_passes, each_weaker, never}
use Rattle.zt_gateway.specs.Running.{by_face, closed_by}
use Rattle.zt_samples.specs.Samples.{started, told_to, without_news_of_session, without_sample}
use Rattle.zt_samples.specs.Samples as samples
use Rattle.zt_samples.specs.declared.samples.News.{News}
use Rattle.zt_samples.specs.declared.samples.Subscriber.{Subscriber}
use Rattle.zt_samples.specs.declared.samples.Told.{Told}
use Rattle.zt_theorem_samples.specs.Replayed.{NoPairTwice}
use Rattle.zt_theorem_samples.proofs.Told.{twice_filter, twice_heard}
use Rattle.zt_liveliness.specs.Books.{find_session, with_interest_made, with_session, with_token_made, without_session, without_subscribers}
use Rattle.zt_liveliness.specs.Lively.{Api, Close, DeclareSubscriber, DeclareToken, Expire, Get, Lively, OpenSession, OpenUplink, Receive, TakeReply, TakeSample, TakeSent, UndeclareSubscriber, UndeclareToken, begun, call_in, carried, done_by, error_in, error_of, first_error, gateway_error, interests_made, is_session, is_uplink, left_after, left_by, readied, reply_of, spent_on, unless}
use Rattle.zt_liveliness.specs.Mail.{is_to_session, news_in_all, told_after, told_after_all}
use Rattle.zt_liveliness.specs.Queues.{without_answer}
use Rattle.zt_liveliness.specs.declared.answers.Reply.{Reply}
use Rattle.zt_liveliness.specs.declared.answers.Reply.TheVariants.{Live, Done, NotYet, NoSuchGet}
use Rattle.zt_liveliness.specs.declared.books.Query.{Query}
use Rattle.zt_liveliness.specs.declared.books.Session.{Session}
use Rattle.zt_liveliness.specs.declared.errors.ApiError.{ApiError}
use Rattle.zt_liveliness.proofs.Counts.{found_appended, found_without, interests_of, left_without, made_appended, made_on, made_one_more, made_with_interest, made_with_token, there_changed}
use Rattle.zt_liveliness.proofs.Faces.{Leaves, number_is_new, opened_then, told_then}
use Rattle.zt_liveliness.proofs.Hears.{heard_after_all, rows_of_sessions, told_to-closed, told_to-none}
use Rattle.zt_liveliness.proofs.Named.{OfNews, OfSubscribers, news_of_subscribers, started_for, taken_leaves}
use Rattle.zt_liveliness.proofs.Sent.{messages_for-by_face}

-- ---- why calls are accepted

module _ {K : Type 0} (cmp : K → K → Ordering) (matching : K → K → Bool) where
  of_first : (a : Api K) (l : Lively K) (o : Option ApiError) → (let all : Option ApiError = elim o [ Some error ↦ Some error | None ↦ gateway_error cmp matching a (call_in a l) l ] in all ≡ None)
      → (o ≡ None) × (gateway_error cmp matching a (call_in a l) l ≡ None)
  of_first a l None is = (refl, is)
  of_first a l (Some error) is = cc

  pub first_none : (a : Api K) (l : Lively K) → error_in cmp matching a l ≡ None → first_error a l ≡ None
  first_none a l is = (of_first a l (first_error a l) is).0

  of_cause : (a : Api K) (o : Option Refusal) → option_map (error_of a) o ≡ None → o ≡ None
  of_cause a None is = refl
  of_cause a (Some refusal) is = cc

  pub cause_none : (a : Api K) (l : Lively K) (c : PlainCall K) → call_in a l ≡ Some c → error_in cmp matching a l ≡ None → cause_of cmp matching c l.rows ≡ None
  cause_none a l c calls is =
      of_cause a (cause_of cmp matching c l.rows) (subst (λ (o : Option (PlainCall K)). gateway_error cmp matching a o l ≡ None) calls (of_first a l (first_error a l) is).1)

pub session_there : (o : Option Session) (made : Session → ℕ) → spent_on o made ≡ None → is_some o ≡ true
session_there None made is = cc
session_there (Some s) made is = refl

-- ---- what stays true

module _ {K : Type 0} (cmp : K → K → Ordering) (matching : K → K → Bool) where
  -- the session's face is open, and was told what the session was told
  abbrev pub HasFace : ℕ → Lively K → Type 0
  HasFace n l = (f : Face K) × (find_face n l.rows ≡ Some f) × (f.told ≡ told_to n l.told)

  -- where so many interests were made on each session
  pub record IsWellFor (made : ℕ → ℕ) (l : Lively K) : Type 0 where
    pub ordered : RowsAreInOrder cmp matching l.rows
    pub faces : (n : ℕ) → is_session n l ≡ true → HasFace n l
    pub of_sessions : Each (λ t. is_session t.session l ≡ true) l.told
    pub once : NoPairTwice cmp l.told
    pub ids : OfSubscribers (λ n id. id ≤ made n) l.subscribers
    pub news_ids : OfNews (λ n id. id ≤ made n) l.news

  abbrev pub IsWell : Lively K → Type 0
  IsWell l = IsWellFor (λ n. made_on n l.sessions) l

  pub well_begun : (rows : Rows K) → RowsAreInOrder cmp matching rows → IsWell (begun rows)
  well_begun rows ordered = record { ordered = ordered; faces = λ n wrong. never wrong refl; of_sessions = tt; once = tt; ids = tt; news_ids = tt }

  -- replies, messages for uplinks, queries and uplinks don't matter
  rest_changed : (made : ℕ → ℕ) (l : Lively K) (waiting : Sends K) (queries : List Query) (uplinks : List ℕ) → IsWellFor made l → IsWellFor made (record l { waiting = waiting; queries = queries; uplinks = uplinks })
  rest_changed made l waiting queries uplinks w = record { ordered = w.ordered; faces = w.faces; of_sessions = w.of_sessions; once = w.once; ids = w.ids; news_ids = w.news_ids }

  -- nor do subscribers and samples that go
  fewer : (made : ℕ → ℕ) (l : Lively K) (p : Subscriber K → Bool) (news : List (News K)) → OfNews (λ n id. id ≤ made n) news → IsWellFor made l → IsWellFor made (record l { subscribers = filter p l.subscribers; news = news })
  fewer made l p news named w = record { ordered = w.ordered; faces = w.faces; of_sessions = w.of_sessions; once = w.once; ids = each_filter (λ s. s.id ≤ made s.session) p l.subscribers w.ids; news_ids = named }

  samples_changed : (made : ℕ → ℕ) (l : Lively K) (news : List (News K)) → OfNews (λ n id. id ≤ made n) news → IsWellFor made l → IsWellFor made (record l { news = news })
  samples_changed made l news named w = record { ordered = w.ordered; faces = w.faces; of_sessions = w.of_sessions; once = w.once; ids = w.ids; news_ids = named }

  -- more may be written down of the sessions that are open
  counted : (made : ℕ → ℕ) (l : Lively K) (sessions : List Session) → ((n : ℕ) → is_some (find_session n sessions) ≡ is_some (find_session n l.sessions)) → ((n : ℕ) → made n ≤ made_on n sessions)
      → IsWellFor made l → IsWell (record l { sessions = sessions })
  counted made l sessions same_ more w = record {
    ordered = w.ordered;
    faces = λ n there. w.faces n (sym (same_ n) ∙ there);
    of_sessions = each_weaker (λ t. is_session t.session l ≡ true) (λ t. is_some (find_session t.session sessions) ≡ true) (λ t there. same_ t.session ∙ there) l.told w.of_sessions;
    once = w.once;
    ids = each_weaker (λ s. s.id ≤ made s.session) (λ s. s.id ≤ made_on s.session sessions) (λ s up. let more_ = more s.session in omega (arith, up, more_)) l.subscribers w.ids;
    news_ids = each_weaker (λ one. one.subscriber ≤ made one.session) (λ one. one.subscriber ≤ made_on one.session sessions) (λ one up. let more_ = more one.session in omega (arith, up, more_)) l.news w.news_ids;
  }

  -- a new subscriber
  pub subscribed : (made : ℕ → ℕ) (l : Lively K) (s : Subscriber K) → s.id ≤ made s.session → IsWellFor made l
      → IsWellFor made (record l { subscribers = l.subscribers ++ s ∷ []; news = l.news ++ started matching s.session s.id s.expr s.history l.told })
  subscribed made l s up w = record {
    ordered = w.ordered;
    faces = w.faces;
    of_sessions = w.of_sessions;
    once = w.once;
    ids = each_append (λ s. s.id ≤ made s.session) l.subscribers (s ∷ []) w.ids (up, tt);
    news_ids = each_append (λ one. one.subscriber ≤ made one.session) l.news (started matching s.session s.id s.expr s.history l.told) w.news_ids (started_for cmp matching (λ n id. id ≤ made n) s.session s.id s.expr s.history l.told up);
  }

  pub weaker_made : (made most : ℕ → ℕ) (l : Lively K) → ((n : ℕ) → made n ≤ most n) → IsWellFor made l → IsWellFor most l
  weaker_made made most l more w = record {
    ordered = w.ordered;
    faces = w.faces;
    of_sessions = w.of_sessions;
    once = w.once;
    ids = each_weaker (λ s. s.id ≤ made s.session) (λ s. s.id ≤ most s.session) (λ s up. let more_ = more s.session in omega (arith, up, more_)) l.subscribers w.ids;
    news_ids = each_weaker (λ one. one.subscriber ≤ made one.session) (λ one. one.subscriber ≤ most one.session) (λ one up. let more_ = more one.session in omega (arith, up, more_)) l.news w.news_ids;
  }

  pub after_accepted : (c : PlainCall K) (g : Rows K) → cause_of cmp matching c g ≡ None → rows_after cmp matching c g ≡ rows_after_call cmp matching c g
  unfolding rows_after
  after_accepted c g accepted = subst (λ (o : Option Refusal). (elim o [ None ↦ rows_after_call cmp matching c g | Some refusal ↦ g ]) ≡ rows_after_call cmp matching c g) (sym accepted) refl

  said_nothing : (first : ℕ) (g : Rows K) → said cmp matching (plain.NewSession first) g ≡ []
  unfolding parts_of said_by altered_by
  said_nothing first g = refl

  module _ (total : IsTotalOrder cmp) (one : (a b : K) → cmp a b ≡ Equal → a ≡ b) where
    -- ---- a call of the gateway

    once_after : (sessions : List Session) (ss : Sends K) (ts : List (Told K)) → NoPairTwice cmp ts → NoPairTwice cmp (told_after_all cmp sessions ss ts)
    once_after sessions [] ts once = once
    once_after sessions (s ∷ ss) ts once =
        once_after sessions ss (told_after cmp sessions s ts)
        (by_test (is_to_session sessions s) (λ to. rw to (twice_heard cmp total one s.0 s.1 ts once)) (λ to. rw to once))

    carried_face : (made : ℕ → ℕ) (c : PlainCall K) (l : Lively K) (n : ℕ) → cause_of cmp matching c l.rows ≡ None → IsWellFor made l → is_session n l ≡ true → Leaves c n → HasFace n (carried cmp matching c l)
    carried_face made c l n accepted w there leaves =
        let ss = said cmp matching c l.rows in
        let before = w.faces n there in
        let next = told_then cmp matching total c l.rows n before.0 w.ordered leaves before.1 in (
          next.0,
          ap (find_face n) (after_accepted c l.rows accepted) ∙ next.1,
          next.2
              ∙ ap (λ (ms : List (Message K)). (kept.told_by_all cmp ms (kept.told_of before.0)).rows) (sym (messages_for-by_face n ss))
              ∙ heard_after_all cmp l.sessions n (by_face ss) l.told (kept.told_of before.0) there before.2,
        )

    well_carried : (made : ℕ → ℕ) (c : PlainCall K) (l : Lively K) → CallHasFirstIds c → cause_of cmp matching c l.rows ≡ None → closed_by c ≡ None → IsWellFor made l → IsWellFor made (carried cmp matching c l)
    well_carried made c l real accepted stays w =
        let sent = by_face (said cmp matching c l.rows) in
        record {
          ordered = in_order_after_any cmp matching total c l.rows real w.ordered;
          faces = λ n there. carried_face made c l n accepted w there (λ m closed. let wrong : None ≡ Some m = sym stays ∙ closed in cc);
          of_sessions = rows_of_sessions cmp l.sessions sent l.told w.of_sessions;
          once = once_after l.sessions sent l.told w.once;
          ids = w.ids;
          news_ids = each_append (λ one. one.subscriber ≤ made one.session) l.news (news_in_all cmp matching l.sessions l.subscribers sent l.told) w.news_ids (news_of_subscribers cmp matching (λ n id. id ≤ made n) l.sessions l.subscribers sent l.told w.ids);
        }

    -- ---- calls of the interface

    opened : (l : Lively K) → cause_of cmp matching (plain.NewSession 1) l.rows ≡ None → IsWell l → IsWell (done_by cmp matching OpenSession l)
    opened l accepted w = record {
      ordered = c.ordered;
      faces = λ n there. by_test (is_session n l) (λ old. c.faces n old) (λ old. new n (eqb-true n number (sym (ap (λ b. b || (n == number)) old) ∙ sym (found_appended n fresh l.sessions) ∙ there)));
      of_sessions = each_weaker (λ t. is_session t.session l ≡ true) (λ t. is_some (find_session t.session (l.sessions ++ fresh ∷ [])) ≡ true) (λ t there. found_appended t.session fresh l.sessions ∙ rw there refl) after.told c.of_sessions;
      once = c.once;
      ids = each_weaker (λ s. s.id ≤ made_on s.session l.sessions) (λ s. s.id ≤ made_on s.session (l.sessions ++ fresh ∷ [])) (λ s up. subst (λ (k : ℕ). s.id ≤ k) (sym (made_appended s.session fresh l.sessions refl)) up) l.subscribers c.ids;
      news_ids = each_weaker (λ one. one.subscriber ≤ made_on one.session l.sessions) (λ one. one.subscriber ≤ made_on one.session (l.sessions ++ fresh ∷ [])) (λ one up. subst (λ (k : ℕ). one.subscriber ≤ k) (sym (made_appended one.session fresh l.sessions refl)) up) after.news c.news_ids;
    }
      where
        number : ℕ
        number = l.rows.made + 1

        fresh : Session
        fresh = record { number = number; tokens = 0; interests = 0 }

        after : Lively K
        after = carried cmp matching (plain.NewSession 1) l

        c : IsWell after
        c = well_carried (λ n. made_on n l.sessions) (plain.NewSession 1) l (omega arith) accepted refl w

        apart : Each (λ t. (number == t.session) ≡ false) after.told
        apart = each_weaker (λ t. is_session t.session l ≡ true) (λ t. (number == t.session) ≡ false) (λ t there. let f = w.faces t.session there in number_is_new cmp matching total l.rows t.session f.0 w.ordered.lists f.1) after.told c.of_sessions

        new : (n : ℕ) → n ≡ number → HasFace n (done_by cmp matching OpenSession l)
        new n is =
            let next = opened_then cmp matching total 1 l.rows w.ordered.lists in
            subst (λ (k : ℕ). HasFace k (done_by cmp matching OpenSession l)) (sym is)
            (next.0, ap (find_face number) (after_accepted (plain.NewSession 1) l.rows accepted) ∙ next.1, next.2 ∙ sym (told_to-none number after.told apart))

    closed : (face : ℕ) (l : Lively K) → cause_of cmp matching (plain.CloseFace face) l.rows ≡ None → IsWell l → IsWell (done_by cmp matching (Close face) l)
    closed face l accepted w = record {
      ordered = in_order_after_any cmp matching total (plain.CloseFace face) l.rows tt w.ordered;
      faces = λ n there.
          let other : (face == n) ≡ false = left_without n face l.sessions there in
          let old : is_session n l ≡ true = sym (ap is_some (found_without n face l.sessions other)) ∙ there in
          let f = carried_face (λ n. made_on n l.sessions) (plain.CloseFace face) l n accepted w old (λ m is. let one_ : face ≡ m = cc in subst (λ (k : ℕ). (k == n) ≡ false) one_ other) in
          (f.0, f.1, f.2 ∙ sym (told_to-closed n face told (other_way n other)));
      of_sessions = each_both (λ t. is_session t.session l ≡ true) (λ t. not (face == t.session) ≡ true) (λ t. is_some (find_session t.session (without_session face l.sessions)) ≡ true)
          (λ t there left. ap is_some (found_without t.session face l.sessions (not_so (face == t.session) left)) ∙ there)
          (samples.without_session face told) (each_filter (λ t. is_session t.session l ≡ true) (λ t. not (face == t.session)) told (rows_of_sessions cmp l.sessions sent l.told w.of_sessions)) (each_passes (λ t. not (face == t.session)) told);
      once = twice_filter cmp (λ t. not (face == t.session)) told (once_after l.sessions sent l.told w.once);
      ids = each_both (λ s. s.id ≤ made_on s.session l.sessions) (λ s. not (face == s.session) ≡ true) (λ s. s.id ≤ made_on s.session (without_session face l.sessions))
          (λ s up left. up_then s.session s.id up left)
          (without_subscribers face l.subscribers) (each_filter (λ s. s.id ≤ made_on s.session l.sessions) (λ s. not (face == s.session)) l.subscribers w.ids) (each_passes (λ s. not (face == s.session)) l.subscribers);
      news_ids = each_both (λ one. one.subscriber ≤ made_on one.session l.sessions) (λ one. not (face == one.session) ≡ true) (λ one. one.subscriber ≤ made_on one.session (without_session face l.sessions))
          (λ one up left. up_then one.session one.subscriber up left)
          (without_news_of_session face news) (each_filter (λ one. one.subscriber ≤ made_on one.session l.sessions) (λ one. not (face == one.session)) news named) (each_passes (λ one. not (face == one.session)) news);
    }
      where
        sent : Sends K
        sent = by_face (said cmp matching (plain.CloseFace face) l.rows)

        told : List (Told K)
        told = told_after_all cmp l.sessions sent l.told

        news : List (News K)
        news = l.news ++ news_in_all cmp matching l.sessions l.subscribers sent l.told

        named : OfNews (λ n id. id ≤ made_on n l.sessions) news
        named = each_append (λ one. one.subscriber ≤ made_on one.session l.sessions) l.news (news_in_all cmp matching l.sessions l.subscribers sent l.told) w.news_ids (news_of_subscribers cmp matching (λ n id. id ≤ made_on n l.sessions) l.sessions l.subscribers sent l.told w.ids)

        not_so : (b : Bool) → not b ≡ true → b ≡ false
        not_so true is = cc
        not_so false is = refl

        other_way : (n : ℕ) → (face == n) ≡ false → (n == face) ≡ false
        other_way n other = by_test (n == face) (λ same_. never (eq-eqb face n (sym (eqb-true n face same_))) other) (λ same_. same_)

        up_then : (n id : ℕ) → id ≤ made_on n l.sessions → not (face == n) ≡ true → id ≤ made_on n (without_session face l.sessions)
        up_then n id up left =
            subst (λ (o : Option Session). id ≤ interests_of o) (sym (found_without n face l.sessions (not_so (face == n) left))) up

    well_done : (a : Api K) (l : Lively K) → error_in cmp matching a l ≡ None → IsWell l → IsWell (done_by cmp matching a l)
    well_done OpenSession l accepted w = opened l (cause_none cmp matching OpenSession l _ refl accepted) w
    well_done (OpenUplink zid whatami bound) l accepted w =
        let c = plain.NewTransport zid whatami _ bound 1 in
        rest_changed (λ n. made_on n l.sessions) (carried cmp matching c l) _ _ _ (well_carried (λ n. made_on n l.sessions) c l (omega arith) (cause_none cmp matching (OpenUplink zid whatami bound) l c refl accepted) refl w)
    well_done (DeclareToken session key) l accepted w =
        let c = well_carried (λ n. made_on n l.sessions) _ l tt (cause_none cmp matching (DeclareToken session key) l _ refl accepted) refl w in
        counted (λ n. made_on n l.sessions) _ (with_session session with_token_made l.sessions) (λ n. there_changed n session with_token_made l.sessions (λ s. refl))
        (λ n. let same_ = made_with_token n session l.sessions in omega (arith, same_)) c
    well_done (UndeclareToken session id) l accepted w = well_carried (λ n. made_on n l.sessions) _ l tt (cause_none cmp matching (UndeclareToken session id) l _ refl accepted) refl w
    well_done (Get session expr) l accepted w =
        let ready = rest_changed (λ n. made_on n l.sessions) l l.waiting (readied cmp matching (Get session expr) l).queries l.uplinks w in
        let c = well_carried (λ n. made_on n l.sessions) _ (readied cmp matching (Get session expr) l) tt (cause_none cmp matching (Get session expr) l _ refl accepted) refl ready in
        counted (λ n. made_on n l.sessions) _ (with_session session with_interest_made l.sessions) (λ n. there_changed n session with_interest_made l.sessions (λ s. refl)) (λ n. made_with_interest n session l.sessions) c
    well_done (DeclareSubscriber session expr history) l accepted w =
        let sessions = with_session session with_interest_made l.sessions in
        let there : is_some (find_session session l.sessions) ≡ true = session_there (find_session session l.sessions) (λ s. s.interests) (first_none cmp matching (DeclareSubscriber session expr history) l accepted) in
        let s : Subscriber K = record { session = session; id = interests_made session l + 1; expr = expr; history = history } in
        let count = made_one_more session l.sessions there in
        let ready = subscribed (λ n. made_on n sessions) l s (omega (arith, count)) (weaker_made (λ n. made_on n l.sessions) (λ n. made_on n sessions) l (λ n. made_with_interest n session l.sessions) w) in
        let c = well_carried (λ n. made_on n sessions) _ (readied cmp matching (DeclareSubscriber session expr history) l) tt (cause_none cmp matching (DeclareSubscriber session expr history) l _ refl accepted) refl ready in
        counted (λ n. made_on n sessions) _ sessions (λ n. there_changed n session with_interest_made l.sessions (λ s. refl)) (λ n. omega arith) c
    well_done (TakeReply session id) l accepted w = taken (reply_of session id l)
      where
        taken : (r : Reply K) → IsWell (left_by session id r l)
        taken (Live e) = rest_changed (λ n. made_on n l.sessions) l (without_answer session id l.waiting) l.queries l.uplinks w
        taken Done = rest_changed (λ n. made_on n l.sessions) l (without_answer session id l.waiting) _ l.uplinks w
        taken NotYet = w
        taken NoSuchGet = w
    well_done (TakeSample session id) l accepted w = samples_changed (λ n. made_on n l.sessions) l (without_sample session id l.news) (taken_leaves (λ n id. id ≤ made_on n l.sessions) session id l.news w.news_ids) w
    well_done (UndeclareSubscriber session id) l accepted w =
        let c = plain.InterestFinal session id in
        let k = well_carried (λ n. made_on n l.sessions) c l tt (cause_none cmp matching (UndeclareSubscriber session id) l c refl accepted) refl w in
        fewer (λ n. made_on n l.sessions) (carried cmp matching c l) (λ s. not ((session == s.session) && (id == s.id))) _ (each_filter (λ one. one.subscriber ≤ made_on one.session l.sessions) (λ one. not (samples.is_for session id one)) (carried cmp matching c l).news k.news_ids) k
    well_done (Receive uplink m) l accepted w = received m accepted
      where
        received : (m : Message K) → error_in cmp matching (Receive uplink m) l ≡ None → IsWell (done_by cmp matching (Receive uplink m) l)
        received (message.DeclareToken id e interest node) accepted = well_carried (λ n. made_on n l.sessions) _ l tt (cause_none cmp matching (Receive uplink (message.DeclareToken id e interest node)) l _ refl accepted) refl w
        received (message.UndeclareToken id e node) accepted = well_carried (λ n. made_on n l.sessions) _ l tt (cause_none cmp matching (Receive uplink (message.UndeclareToken id e node)) l _ refl accepted) refl w
        received (message.DeclareFinal interest) accepted = well_carried (λ n. made_on n l.sessions) _ l tt (cause_none cmp matching (Receive uplink (message.DeclareFinal interest)) l _ refl accepted) refl w
        received (message.Interest i mode options e) accepted = well_carried (λ n. made_on n l.sessions) _ l tt (cause_none cmp matching (Receive uplink (message.Interest i mode options e)) l _ refl accepted) refl w
        received (message.InterestFinal i) accepted = well_carried (λ n. made_on n l.sessions) _ l tt (cause_none cmp matching (Receive uplink (message.InterestFinal i)) l _ refl accepted) refl w
        received (message.DeclareSubscriber i e interest) accepted = w
        received (message.DeclareQueryable i e info interest) accepted = w
    well_done (TakeSent uplink) l accepted w =
        by_test (is_uplink uplink l) (λ takes. rw takes (rest_changed (λ n. made_on n l.sessions) l _ l.queries l.uplinks w)) (λ takes. rw takes w)
    well_done (Close face) l accepted w = closed face l (cause_none cmp matching (Close face) l _ refl accepted) w
    well_done (Expire now) l accepted w = well_carried (λ n. made_on n l.sessions) _ l tt (cause_none cmp matching (Expire now) l _ refl accepted) refl w

    pub well_after : (a : Api K) (l : Lively K) → IsWell l → IsWell (left_after cmp matching a l)
    well_after a l w = cases (error_in cmp matching a l) refl
      where
        cases : (o : Option ApiError) → error_in cmp matching a l ≡ o → IsWell (unless o (done_by cmp matching a l) l)
        cases None is = well_done a l is w
        cases (Some error) is = w
