-- An ask at a face that is sent no final of it: it stands on unanswered, or was answered.
use Rattle.std.proofs.Common.{◌≡◌, ◌⊎◌, inl, inr, ℕ, Bool, true, false, if◌then◌else◌, ◌&&◌, ◌||◌, ◌==◌, not, List, [], ◌∷◌, ◌++◌, map, Option, Some, None, option_map, refl, sym, ap, ◌∙◌, subst, eqb-true, eq-eqb, ⊎_elim}
use Rattle.std.proofs.lemmas.Bool.{and_from, and_parts, or_cases, or_left, or_right}
use Rattle.std.specs.List.{flat_map, list_any}
use Rattle.std.specs.Cmp.{IsTotalOrder}
use Rattle.std.specs.declared.cmp.Ordering.{Ordering}
use Rattle.zt_protocol.specs.Interest.{is_future}
use Rattle.zt_protocol.specs.Plain.{DeclareToken}
use Rattle.zt_protocol.specs.declared.interests.InterestMode.{InterestMode}
use Rattle.zt_protocol.specs.declared.messages.Message.{Message}
use Rattle.zt_protocol.specs.declared.messages.Message.TheVariants as message
use Rattle.zt_model.specs.Hearing.{messages_for, rows_heard, with_answer}
use Rattle.zt_model.specs.Lists.{at_id, has_id, is_among, same, without_id}
use Rattle.zt_model.specs.Parts.{Part, Sends, find_face, is_routed, said_by, to_each, told_id}
use Rattle.zt_model.specs.Rows.{Ask, ById, Face, Rows}
use Rattle.zt_model.specs.Says.{declaring_of, parts_of, said}
use Rattle.zt_model.specs.Telling.{answer_to, answering, answers_from, declaring, is_answered_by, registers, was_sent_as}
use Rattle.zt_model.specs.Transcript.{Each}
use Rattle.zt_model.specs.Trees.{showing, source_of}
use Rattle.zt_model.specs.Wants.{asks_token}
use Rattle.zt_laws.proofs.Hearing.{find_each, messages_for-append}
use Rattle.zt_laws.proofs.Keys.{same_itself}
use Rattle.zt_laws.proofs.Lists.{any-append, by_test, never, of_cond}
use Rattle.zt_theorem_soundness.proofs.ById.{at_without_other}
use Rattle.zt_theorem_tree_invariant.specs.Facts.{IsTreeFace}
use Rattle.zt_theorem_tree_invariant.proofs.Knowledge.{is_no_router}
use Rattle.zt_theorem_tree_invariant.proofs.Saying.{TreeRows, asks_after}
use Rattle.zt_theorem_tree_invariant.proofs.Tracking.{sent_each}
use Rattle.zt_theorem_tree_all_that_stays.specs.Steady.{AnswersFirst, IsNoFinal, is_answer}

module _ {K : Type 0} (cmp : K → K → Ordering) where
  pub answers_more : (id : ℕ) (e : K) (ms ns : List (Message K)) → AnswersFirst cmp id e ms → AnswersFirst cmp id e (ms ++ ns)
  answers_more id e [] ns first = absurd first
  answers_more id e (m ∷ ms) ns (inl here) = inl here
  answers_more id e (m ∷ ms) ns (inr later) = inr (later.0, answers_more id e ms ns later.1)

  pub answers_later : (id : ℕ) (e : K) (ms ns : List (Message K)) → Each (IsNoFinal id) ms → AnswersFirst cmp id e ns → AnswersFirst cmp id e (ms ++ ns)
  answers_later id e [] ns none_ first = first
  answers_later id e (m ∷ ms) ns none_ first = inr (none_.0, answers_later id e ms ns none_.1 first)

  pub some_answer : (id : ℕ) (e : K) (ms : List (Message K)) → Each (IsNoFinal id) ms → list_any (is_answer cmp id e) ms ≡ true → AnswersFirst cmp id e ms
  some_answer id e [] none_ some = cc
  some_answer id e (m ∷ ms) none_ some = ⊎_elim (λ here. inl here) (λ later. inr (none_.0, some_answer id e ms none_.1 later)) (or_cases (is_answer cmp id e m) (list_any (is_answer cmp id e) ms) some)

  -- ---- an ask hears

  pub at_answered : (id k : ℕ) (x : K) (rows : ById (Ask K)) → at_id id (map (with_answer cmp k x) rows) ≡ option_map (λ ask. (with_answer cmp k x (id, ask)).1) (at_id id rows)
  at_answered id k x [] = refl
  at_answered id k x (row ∷ rows) =
      by_test (id == row.0)
      (λ here.
      let is : id ≡ row.0 = eqb-true id row.0 here in
      let there : (id == (with_answer cmp k x row).0) ≡ true = of_cond (λ (r : ℕ × Ask K). (id == r.0) ≡ true) ((k == row.0) && not (is_among cmp x row.1.answered)) (row.0, record row.1 { answered = row.1.answered ++ x ∷ [] }) row (λ _. here) (λ _. here) in
      rw (here, there) (ap (λ n. Some (with_answer cmp k x (n, row.1)).1) (sym is)))
      (λ here.
      let there : (id == (with_answer cmp k x row).0) ≡ false = of_cond (λ (r : ℕ × Ask K). (id == r.0) ≡ false) ((k == row.0) && not (is_among cmp x row.1.answered)) (row.0, record row.1 { answered = row.1.answered ++ x ∷ [] }) row (λ _. here) (λ _. here) in
      rw (here, there) (at_answered id k x rows))

  -- the ask stands on, with what it was sent as, and unanswered
  pub record StandsOn (id : ℕ) (e : K) (before : Ask K) (asks : ById (Ask K)) : Type 0 where
    pub ask : Ask K
    pub ask_is : at_id id asks ≡ Some ask
    pub interest : ask.interest ≡ before.interest
    pub pendings : ask.pendings ≡ before.pendings
    pub unanswered : is_among cmp e ask.answered ≡ false

  stood : (id : ℕ) (e : K) (one two : Ask K) (asks : ById (Ask K)) → two.interest ≡ one.interest → two.pendings ≡ one.pendings → StandsOn id e two asks → StandsOn id e one asks
  stood id e one two asks interest_ pendings_ on = record { ask = on.ask; ask_is = on.ask_is; interest = on.interest ∙ interest_; pendings = on.pendings ∙ pendings_; unanswered = on.unanswered }

  pub stands_on : (id : ℕ) (e : K) (ms : List (Message K)) (asks : ById (Ask K)) (ask : Ask K) → at_id id asks ≡ Some ask → Each (IsNoFinal id) ms → is_among cmp e ask.answered ≡ false
      → AnswersFirst cmp id e ms ⊎ StandsOn id e ask (asks_after cmp ms asks)
  stands_on id e [] asks ask at_ none_ open_ = inr (record { ask = ask; ask_is = at_; interest = refl; pendings = refl; unanswered = open_ })
  stands_on id e (message.DeclareToken k x None node ∷ ms) asks ask at_ none_ open_ = ⊎_elim (λ first. inl (inr (tt, first))) (λ on. inr on) (stands_on id e ms asks ask at_ none_.1 open_)
  stands_on id e (message.DeclareToken k x (Some i) node ∷ ms) asks ask at_ none_ open_ =
      by_test ((id == i) && same cmp e x)
      (λ here. inl (inl here))
      (λ other.
      let next = with_answer cmp i x (id, ask) in
      let at_next : at_id id (map (with_answer cmp i x) asks) ≡ Some next.1 = at_answered id i x asks ∙ ap (option_map (λ a. (with_answer cmp i x (id, a)).1)) at_ in
      let unlike : (i == id) ≡ true → same cmp e x ≡ false = λ is. by_test (same cmp e x) (λ same_. never (and_from (id == i) (same cmp e x) (eq-eqb id i (sym (eqb-true i id is))) same_) other) (λ h. h) in
      let still : is_among cmp e next.1.answered ≡ false =
      of_cond (λ (r : ℕ × Ask K). is_among cmp e r.1.answered ≡ false) ((i == id) && not (is_among cmp x ask.answered)) (id, record ask { answered = ask.answered ++ x ∷ [] }) (id, ask)
      (λ both. any-append (same cmp e) ask.answered (x ∷ []) ∙ ap (λ b. b || list_any (same cmp e) (x ∷ [])) open_ ∙ ap (λ b. b || false) (unlike (and_parts (i == id) _ both).0)) (λ _. open_) in
      let interest_ : next.1.interest ≡ ask.interest = of_cond (λ (r : ℕ × Ask K). r.1.interest ≡ ask.interest) ((i == id) && not (is_among cmp x ask.answered)) (id, record ask { answered = ask.answered ++ x ∷ [] }) (id, ask) (λ _. refl) (λ _. refl) in
      let pendings_ : next.1.pendings ≡ ask.pendings = of_cond (λ (r : ℕ × Ask K). r.1.pendings ≡ ask.pendings) ((i == id) && not (is_among cmp x ask.answered)) (id, record ask { answered = ask.answered ++ x ∷ [] }) (id, ask) (λ _. refl) (λ _. refl) in
      ⊎_elim (λ first. inl (inr (tt, first))) (λ on. inr (stood id e ask next.1 _ interest_ pendings_ on)) (stands_on id e ms (map (with_answer cmp i x) asks) next.1 at_next none_.1 still))
  stands_on id e (message.DeclareFinal k ∷ ms) asks ask at_ none_ open_ =
      let apart : (k == id) ≡ false = by_test (k == id) (λ is. never (eq-eqb id k (sym (eqb-true k id is))) none_.0) (λ h. h) in
      ⊎_elim (λ first. inl (inr (none_.0, first))) (λ on. inr on) (stands_on id e ms (without_id k asks) ask (at_without_other id k asks apart ∙ at_) none_.1 open_)
  stands_on id e (message.UndeclareToken k x node ∷ ms) asks ask at_ none_ open_ = ⊎_elim (λ first. inl (inr (tt, first))) (λ on. inr on) (stands_on id e ms asks ask at_ none_.1 open_)
  stands_on id e (message.Interest k mode options x ∷ ms) asks ask at_ none_ open_ = ⊎_elim (λ first. inl (inr (tt, first))) (λ on. inr on) (stands_on id e ms asks ask at_ none_.1 open_)
  stands_on id e (message.InterestFinal k ∷ ms) asks ask at_ none_ open_ = ⊎_elim (λ first. inl (inr (tt, first))) (λ on. inr on) (stands_on id e ms asks ask at_ none_.1 open_)
  stands_on id e (message.DeclareSubscriber n x i ∷ ms) asks ask at_ none_ open_ = ⊎_elim (λ first. inl (inr (tt, first))) (λ on. inr on) (stands_on id e ms asks ask at_ none_.1 open_)
  stands_on id e (message.DeclareQueryable n x info i ∷ ms) asks ask at_ none_ open_ = ⊎_elim (λ first. inl (inr (tt, first))) (λ on. inr on) (stands_on id e ms asks ask at_ none_.1 open_)

module _ {K : Type 0} (cmp : K → K → Ordering) (matching : K → K → Bool) (total : IsTotalOrder cmp) where
  -- ---- a token is declared for the pending that an ask was sent as

  any_flat : {A B : Type 0} (test : B → Bool) (make : A → List B) (pick : A → Bool) (xs : List A) → ((x : A) → pick x ≡ true → list_any test (make x) ≡ true) → list_any pick xs ≡ true → list_any test (flat_map make xs) ≡ true
  any_flat test make pick [] h some = cc
  any_flat test make pick (x ∷ xs) h some =
      any-append test (make x) (flat_map make xs)
      ∙ by_test (pick x)
      (λ here. or_left (list_any test (make x)) (list_any test (flat_map make xs)) (h x here))
      (λ other. or_right (list_any test (make x)) (list_any test (flat_map make xs)) (any_flat test make pick xs h (rw other at some)))

  any_under : {A : Type 0} (test : ℕ × A → Bool) (id : ℕ) (rows : ById A) (x : A) → at_id id rows ≡ Some x → ((n : ℕ) → (id == n) ≡ true → test (n, x) ≡ true) → list_any test rows ≡ true
  any_under test id [] x at_ passes = cc
  any_under test id (row ∷ rows) x at_ passes =
      by_test (id == row.0)
      (λ here. let e : Some row.1 ≡ Some x = rw here at at_ in let is : row.1 ≡ x = cc in or_left (test row) (list_any test rows) (ap (λ y. test (row.0, y)) is ∙ passes row.0 here))
      (λ here. or_right (test row) (list_any test rows) (any_under test id rows x (rw here at at_) passes))

  one_answer : (id : ℕ) (e : K) (next : ℕ) (told : ById K) (mode : InterestMode) (n : ℕ) → (id == n) ≡ true → list_any (is_answer cmp id e) (answers_from cmp matching next told mode n (e ∷ [])) ≡ true
  unfolding answers_from
  one_answer id e next told mode n is =
      of_cond (λ ms. list_any (is_answer cmp id e) ms ≡ true) (is_future mode) (elim (told_id cmp e told) [ None ↦ message.DeclareToken next e (Some n) 0 ∷ [] | Some old ↦ message.DeclareToken old e (Some n) 0 ∷ [] ]) (message.DeclareToken 0 e (Some n) 0 ∷ [])
      (λ _. cases (told_id cmp e told)) (λ _. own)
    where
      own : (((id == n) && same cmp e e) || false) ≡ true
      own = or_left ((id == n) && same cmp e e) false (and_from (id == n) (same cmp e e) is (same_itself cmp total e))

      cases : (o : Option ℕ) → list_any (is_answer cmp id e) (elim o [ None ↦ message.DeclareToken next e (Some n) 0 ∷ [] | Some old ↦ message.DeclareToken old e (Some n) 0 ∷ [] ]) ≡ true
      cases None = own
      cases (Some old) = own

  pub answers_ask : (n k node pending p id : ℕ) (e : K) (g : Rows K) (from f : Face K) (ask : Ask K) → TreeRows cmp g → find_face n g ≡ Some from → has_id pending from.pendings ≡ true → find_face p g ≡ Some f → at_id id f.asks ≡ Some ask → was_sent_as n pending ask ≡ true → asks_token matching ask.interest e ≡ true
      → is_among cmp e ask.answered ≡ false → list_any (is_answer cmp id e) (messages_for p (said cmp matching (DeclareToken n k e node (Some pending)) g)) ≡ true
  unfolding parts_of said_by answer_to
  answers_ask n k node pending p id e g from f ask rows at_from stands_ at_f at_ask sent asks open_ = by_found (find_face n g) at_from
    where
      rest_of_parts : List (Part K)
      rest_of_parts = if registers from (Some pending) then declaring cmp matching n k e from ++ showing cmp from.region e else []

      phase : Sends K
      phase = to_each (answer_to cmp matching n pending e) g.faces

      is_named : is_answered_by cmp matching n pending e ask ≡ true
      is_named = and_from (was_sent_as n pending ask) (asks_token matching ask.interest e && not (is_among cmp e ask.answered)) sent (and_from (asks_token matching ask.interest e) (not (is_among cmp e ask.answered)) asks (ap not open_))

      answered : list_any (is_answer cmp id e) (answer_to cmp matching n pending e f) ≡ true
      answered =
          any_flat (is_answer cmp id e) (λ (row : ℕ × Ask K). if is_answered_by cmp matching n pending e row.1 then answers_from cmp matching f.next f.told row.1.interest.mode row.0 (e ∷ []) else []) (λ row. (id == row.0) && is_answered_by cmp matching n pending e row.1) f.asks
          (λ row both.
          let parts = and_parts (id == row.0) (is_answered_by cmp matching n pending e row.1) both in
          let yes : is_answered_by cmp matching n pending e row.1 ≡ true = parts.1 in
          rw yes (one_answer id e f.next f.told row.1.interest.mode row.0 parts.0))
          (any_under (λ row. (id == row.0) && is_answered_by cmp matching n pending e row.1) id f.asks ask at_ask (λ m is. and_from (id == m) (is_answered_by cmp matching n pending e ask) is is_named))

      in_phase : (rest : Sends K) → list_any (is_answer cmp id e) (messages_for p (phase ++ rest)) ≡ true
      in_phase rest =
          ap (list_any (is_answer cmp id e)) (messages_for-append p phase rest) ∙ any-append (is_answer cmp id e) (messages_for p phase) (messages_for p rest)
          ∙ or_left (list_any (is_answer cmp id e) (messages_for p phase)) (list_any (is_answer cmp id e) (messages_for p rest)) (ap (list_any (is_answer cmp id e)) (sent_each cmp matching p (answer_to cmp matching n pending e) g f rows.rises at_f) ∙ answered)

      plain : is_routed g from ≡ false
      plain = is_no_router g from (find_each (IsTreeFace g.mode) (λ (h : Face K). n == h.number) g.faces from rows.faces at_from)

      by_found : (o : Option (Face K)) → o ≡ Some from
          → list_any (is_answer cmp id e)
          (messages_for p (said_by cmp matching (elim o [ None ↦ [] | Some h ↦ if is_routed g h then declaring_of cmp matching n (source_of g h node) e h else answering cmp matching n (Some pending) e h ++ (if registers h (Some pending) then declaring cmp matching n k e h ++ showing cmp h.region e else []) ]) g))
          ≡ true
      by_found None is = cc
      by_found (Some h) is =
          let same_ : h ≡ from = cc in
          subst (λ (h : Face K). list_any (is_answer cmp id e)
          (messages_for p (said_by cmp matching (if is_routed g h then declaring_of cmp matching n (source_of g h node) e h else answering cmp matching n (Some pending) e h ++ (if registers h (Some pending) then declaring cmp matching n k e h ++ showing cmp h.region e else [])) g)) ≡ true) (sym same_)
          (rw (plain, stands_) (in_phase (said_by cmp matching rest_of_parts (rows_heard cmp phase g))))
