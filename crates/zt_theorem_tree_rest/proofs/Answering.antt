-- An ask that is answered a token owes that answer no more, and pays for it.
use Rattle.std.proofs.Common.{◌≡◌, ℕ, ◌+◌, ◌≤◌, Bool, true, false, not, if◌then◌else◌, ◌&&◌, ◌||◌, ◌==◌, List, [], ◌∷◌, ◌++◌, map, filter, Option, Some, None, refl, sym, ap, ◌∙◌, subst, arith, le_trans, eq-eqb}
use Rattle.std.proofs.lemmas.Bool.{and_parts, or_left, or_right}
use Rattle.std.specs.Cmp.{IsTotalOrder}
use Rattle.std.specs.List.{flat_map, list_any}
use Rattle.std.specs.declared.cmp.Ordering.{Ordering}
use Rattle.std.specs.declared.cmp.Ordering.TheVariants.{Equal}
use Rattle.zt_protocol.specs.Interest.{is_future}
use Rattle.zt_protocol.specs.declared.interests.InterestMode.{InterestMode}
use Rattle.zt_protocol.specs.declared.messages.Message.{Message}
use Rattle.zt_protocol.specs.declared.messages.Message.TheVariants as message
use Rattle.zt_model.specs.Hearing.{heard_all, told_pair, with_answer}
use Rattle.zt_model.specs.Lists.{is_among, same}
use Rattle.zt_model.specs.Parts.{told_id}
use Rattle.zt_model.specs.Rows.{Ask, ById, Face}
use Rattle.zt_model.specs.Telling.{answer_to, answers_from, is_answered_by, was_sent_as}
use Rattle.zt_model.specs.Transcript.{Each}
use Rattle.zt_model.specs.Wants.{asks_token}
use Rattle.zt_laws.proofs.Keys.{among-filter, same_back}
use Rattle.zt_laws.proofs.Lists.{any-append, by_test, each_append, each_weaker, of_cond}
use Rattle.zt_theorem_tree_rest.proofs.Once.{some_out}
use Rattle.zt_theorem_tree_rest.proofs.Prices.{Pays, answered_owes_less, left, message_price, owed}
use Rattle.zt_theorem_tree_rest.proofs.Sums.{times, total, total-map}

-- what a member makes is among what all make
pub each_part : {A B : Type 0} (make : A → List B) (xs : List A) → Each (λ x. (test : B → Bool) → list_any test (make x) ≡ true → list_any test (flat_map make xs) ≡ true) xs
each_part make [] = tt
each_part make (x ∷ xs) = (
  λ test some. any-append test (make x) (flat_map make xs) ∙ or_left (list_any test (make x)) (list_any test (flat_map make xs)) some,
  each_weaker (λ y. (test : _) → list_any test (make y) ≡ true → list_any test (flat_map make xs) ≡ true) (λ y. (test : _) → list_any test (make y) ≡ true → list_any test (flat_map make (x ∷ xs)) ≡ true)
      (λ y h test some. any-append test (make x) (flat_map make xs) ∙ or_right (list_any test (make x)) (list_any test (flat_map make xs)) (h test some)) xs (each_part make xs),
)

module _ {K : Type 0} (cmp : K → K → Ordering) (matching : K → K → Bool) (tokens : List K) (price : ℕ → ℕ) (end_price : ℕ) where
  -- answers of one token
  abbrev Answers : K → Message K → Type 0
  Answers e (message.DeclareToken id x (Some i) node) = x ≡ e
  Answers e _ = ⊥

  -- an answer for the ask of an id
  abbrev names : ℕ → Message K → Bool
  names id (message.DeclareToken k x (Some i) node) = i == id
  names id _ = false

  -- an ask once these are heard
  abbrev after : K → List (Message K) → ℕ × Ask K → ℕ × Ask K
  after e [] row = row
  after e (message.DeclareToken k x (Some i) node ∷ ms) row = after e ms (with_answer cmp i e row)
  after e (_ ∷ ms) row = after e ms row

  answers_heard : (now : ℕ) (e : K) (ms : List (Message K)) (f : Face K) → Each (Answers e) ms → owed cmp tokens price end_price (heard_all cmp now ms f) ≡ times end_price f.locals + total (λ row. left cmp tokens price end_price f.number (after e ms row).1) f.asks
  unfolding heard_all
  answers_heard now e [] f all = refl
  answers_heard now e (message.DeclareToken k x (Some i) node ∷ ms) f all =
      let is : x ≡ e = all.0 in
      let rest = answers_heard now e ms (record f { next = (heard_all cmp now (message.DeclareToken k x (Some i) node ∷ []) f).next; told = told_pair cmp k x f.told; asks = map (with_answer cmp i e) f.asks }) all.1 in
      ap (λ y. owed cmp tokens price end_price (heard_all cmp now ms (record f { next = (heard_all cmp now (message.DeclareToken k x (Some i) node ∷ []) f).next; told = told_pair cmp k x f.told; asks = map (with_answer cmp i y) f.asks }))) is
      ∙ rest
      ∙ ap (λ n. times end_price f.locals + n) (total-map (λ (row : ℕ × Ask K). left cmp tokens price end_price f.number (after e ms row).1) (with_answer cmp i e) f.asks)
  answers_heard now e (message.DeclareToken k x None node ∷ ms) f all = absurd all.0
  answers_heard now e (message.UndeclareToken id x node ∷ ms) f all = absurd all.0
  answers_heard now e (message.DeclareFinal id ∷ ms) f all = absurd all.0
  answers_heard now e (message.Interest id mode options x ∷ ms) f all = absurd all.0
  answers_heard now e (message.InterestFinal id ∷ ms) f all = absurd all.0
  answers_heard now e (message.DeclareSubscriber id x i ∷ ms) f all = absurd all.0
  answers_heard now e (message.DeclareQueryable id x info i ∷ ms) f all = absurd all.0

  answers_price : (n : ℕ) (e : K) (ms : List (Message K)) → Each (Answers e) ms → total (message_price cmp tokens price end_price n) ms ≡ times (price n) ms
  answers_price n e [] all = refl
  answers_price n e (message.DeclareToken k x (Some i) node ∷ ms) all = ap (λ r. price n + r) (answers_price n e ms all.1)
  answers_price n e (message.DeclareToken k x None node ∷ ms) all = absurd all.0
  answers_price n e (message.UndeclareToken id x node ∷ ms) all = absurd all.0
  answers_price n e (message.DeclareFinal id ∷ ms) all = absurd all.0
  answers_price n e (message.Interest id mode options x ∷ ms) all = absurd all.0
  answers_price n e (message.InterestFinal id ∷ ms) all = absurd all.0
  answers_price n e (message.DeclareSubscriber id x i ∷ ms) all = absurd all.0
  answers_price n e (message.DeclareQueryable id x info i ∷ ms) all = absurd all.0

  -- ---- one ask

  after_owes_less : (n : ℕ) (e : K) (ms : List (Message K)) (row : ℕ × Ask K) → left cmp tokens price end_price n (after e ms row).1 ≤ left cmp tokens price end_price n row.1
  after_owes_less n e [] row = omega arith
  after_owes_less n e (message.DeclareToken k x (Some i) node ∷ ms) row = le_trans (after_owes_less n e ms (with_answer cmp i e row)) (answered_owes_less cmp tokens price end_price n i e row)
  after_owes_less n e (message.DeclareToken k x None node ∷ ms) row = after_owes_less n e ms row
  after_owes_less n e (message.UndeclareToken id x node ∷ ms) row = after_owes_less n e ms row
  after_owes_less n e (message.DeclareFinal id ∷ ms) row = after_owes_less n e ms row
  after_owes_less n e (message.Interest id mode options x ∷ ms) row = after_owes_less n e ms row
  after_owes_less n e (message.InterestFinal id ∷ ms) row = after_owes_less n e ms row
  after_owes_less n e (message.DeclareSubscriber id x i ∷ ms) row = after_owes_less n e ms row
  after_owes_less n e (message.DeclareQueryable id x info i ∷ ms) row = after_owes_less n e ms row

  module _ (total_order : IsTotalOrder cmp) (equal_is_same : (a b : K) → cmp a b ≡ Equal → a ≡ b) where
    filter-filter : (p q : K → Bool) (xs : List K) → filter p (filter q xs) ≡ filter (λ x. q x && p x) xs
    filter-filter p q [] = refl
    filter-filter p q (x ∷ xs) = by_test (q x) (λ here. rw here (by_test (p x) (λ there. rw there (ap (λ ys. x ∷ ys) (filter-filter p q xs))) (λ there. rw there (filter-filter p q xs)))) (λ here. rw here (filter-filter p q xs))

    filter_as : (p q : K → Bool) → ((x : K) → p x ≡ q x) → (xs : List K) → filter p xs ≡ filter q xs
    filter_as p q h [] = refl
    filter_as p q h (x ∷ xs) = let first = h x in let rest = filter_as p q h xs in cc

    -- a token more that is answered is one less to be answered
    one_less : (n : ℕ) (e : K) (answered : List K) → is_among cmp e tokens ≡ true → is_among cmp e answered ≡ false → times n (filter (λ x. not (is_among cmp x (answered ++ e ∷ []))) tokens) + n ≤ times n (filter (λ x. not (is_among cmp x answered)) tokens)
    one_less n e answered there fresh =
        let open_ = filter (λ x. not (is_among cmp x answered)) tokens in
        let still : is_among cmp e open_ ≡ true = among-filter cmp total_order equal_is_same (λ x. not (is_among cmp x answered)) e tokens ∙ rw (fresh, there) refl in
        let out = some_out n (same cmp e) open_ still in
        let is : filter (λ x. not (is_among cmp x (answered ++ e ∷ []))) tokens ≡ filter (λ x. not (same cmp e x)) open_ =
        filter_as (λ x. not (is_among cmp x (answered ++ e ∷ []))) (λ x. not (is_among cmp x answered) && not (same cmp e x)) (λ x. ap not (any-append (same cmp x) answered (e ∷ []) ∙ ap (λ b. is_among cmp x answered || (b || false)) (same_back cmp total_order x e)) ∙ tests (is_among cmp x answered) (same cmp e x)) tokens
        ∙ sym (filter-filter (λ x. not (same cmp e x)) (λ x. not (is_among cmp x answered)) tokens) in
        rw is out
      where
        tests : (a b : Bool) → not (a || (b || false)) ≡ (not a && not b)
        tests true b = refl
        tests false true = refl
        tests false false = refl

    named_pays : (n : ℕ) (e : K) (ms : List (Message K)) (row : ℕ × Ask K) → is_among cmp e tokens ≡ true → is_among cmp e row.1.answered ≡ false → list_any (names row.0) ms ≡ true
        → price n + left cmp tokens price end_price n (after e ms row).1 ≤ left cmp tokens price end_price n row.1
    named_pays n e [] row there fresh named = cc
    named_pays n e (message.DeclareToken k x (Some i) node ∷ ms) row there fresh named =
        by_test (i == row.0)
        (λ here.
        let now_ : ℕ × Ask K = (row.0, record row.1 { answered = row.1.answered ++ e ∷ [] }) in
        let less = one_less (price n) e row.1.answered there fresh in
        let rest = after_owes_less n e ms now_ in
        let is : with_answer cmp i e row ≡ now_ = rw (here, fresh) refl in
        subst (λ (r : ℕ × Ask K). price n + left cmp tokens price end_price n (after e ms r).1 ≤ left cmp tokens price end_price n row.1) (sym is) (omega arith))
        (λ here.
        let rest = named_pays n e ms row there fresh (rw here at named) in
        let is : with_answer cmp i e row ≡ row = rw here refl in
        subst (λ (r : ℕ × Ask K). price n + left cmp tokens price end_price n (after e ms r).1 ≤ left cmp tokens price end_price n row.1) (sym is) rest)
    named_pays n e (message.DeclareToken k x None node ∷ ms) row there fresh named = named_pays n e ms row there fresh named
    named_pays n e (message.UndeclareToken id x node ∷ ms) row there fresh named = named_pays n e ms row there fresh named
    named_pays n e (message.DeclareFinal id ∷ ms) row there fresh named = named_pays n e ms row there fresh named
    named_pays n e (message.Interest id mode options x ∷ ms) row there fresh named = named_pays n e ms row there fresh named
    named_pays n e (message.InterestFinal id ∷ ms) row there fresh named = named_pays n e ms row there fresh named
    named_pays n e (message.DeclareSubscriber id x i ∷ ms) row there fresh named = named_pays n e ms row there fresh named
    named_pays n e (message.DeclareQueryable id x info i ∷ ms) row there fresh named = named_pays n e ms row there fresh named

    -- ---- all asks of a face

    module _ (n id : ℕ) (e : K) (f : Face K) (there : is_among cmp e tokens ≡ true) where
      answer_of : ℕ × Ask K → List (Message K)
      unfolding answer_to
      answer_of row = if is_answered_by cmp matching n id e row.1 then answers_from cmp matching f.next f.told row.1.interest.mode row.0 (e ∷ []) else []

      -- one answer
      record IsOne (row : ℕ) (ms : List (Message K)) : Type 0 where
        answers : Each (Answers e) ms
        named : list_any (names row) ms ≡ true
        one : times (price f.number) ms ≡ price f.number

      is_one : (row : ℕ) (mode : InterestMode) → IsOne row (answers_from cmp matching f.next f.told mode row (e ∷ []))
      unfolding answers_from
      is_one row mode = by_test (is_future mode) (λ here. rw here (by_told (told_id cmp e f.told))) (λ here. rw here (record { answers = (refl, tt); named = rw (eq-eqb row row refl) refl; one = omega arith }))
        where
          by_told : (o : Option ℕ) → IsOne row (elim o [ None ↦ message.DeclareToken f.next e (Some row) 0 ∷ [] | Some old ↦ message.DeclareToken old e (Some row) 0 ∷ [] ])
          by_told None = record { answers = (refl, tt); named = rw (eq-eqb row row refl) refl; one = omega arith }
          by_told (Some old) = record { answers = (refl, tt); named = rw (eq-eqb row row refl) refl; one = omega arith }

      all_answers : (asks : ById (Ask K)) → Each (Answers e) (flat_map answer_of asks)
      unfolding answer_of
      all_answers [] = tt
      all_answers (row ∷ asks) =
          each_append (Answers e) (answer_of row) (flat_map answer_of asks)
          (of_cond (Each (Answers e)) (is_answered_by cmp matching n id e row.1) (answers_from cmp matching f.next f.told row.1.interest.mode row.0 (e ∷ [])) [] (λ _. (is_one row.0 row.1.interest.mode).answers) (λ _. tt)) (all_answers asks)

      answers_pay : (ms : List (Message K)) (asks : ById (Ask K)) → Each (λ row. (test : Message K → Bool) → list_any test (answer_of row) ≡ true → list_any test ms ≡ true) asks
          → times (price f.number) (flat_map answer_of asks) + total (λ row. left cmp tokens price end_price f.number (after e ms row).1) asks ≤ total (λ row. left cmp tokens price end_price f.number row.1) asks
      unfolding answer_of
      answers_pay ms [] parts = omega arith
      answers_pay ms (row ∷ asks) parts =
          let rest = answers_pay ms asks parts.1 in
          let one = answers_from cmp matching f.next f.told row.1.interest.mode row.0 (e ∷ []) in
          let sum = total-append-of (answer_of row) (flat_map answer_of asks) in
          let first : times (price f.number) (answer_of row) + left cmp tokens price end_price f.number (after e ms row).1 ≤ left cmp tokens price end_price f.number row.1 =
          by_test (is_answered_by cmp matching n id e row.1)
          (λ here.
          let is = is_one row.0 row.1.interest.mode in
          let named : list_any (names row.0) (answer_of row) ≡ true = rw here is.named in
          let fresh : is_among cmp e row.1.answered ≡ false = not_true (and_parts (asks_token matching row.1.interest e) (not (is_among cmp e row.1.answered)) (and_parts (was_sent_as n id row.1) _ here).1).1 in
          let pays = named_pays f.number e ms row there fresh (parts.0 (names row.0) named) in
          let count = is.one in
          rw here (omega arith))
          (λ here. let less = after_owes_less f.number e ms row in rw here (omega arith)) in
          omega arith
        where
          total-append-of : (xs ys : List (Message K)) → times (price f.number) (xs ++ ys) ≡ times (price f.number) xs + times (price f.number) ys
          total-append-of [] ys = omega arith
          total-append-of (x ∷ xs) ys = let rest = total-append-of xs ys in omega arith

          not_true : {b : Bool} → not b ≡ true → b ≡ false
          not_true {b} h = by_test b (λ e. let bad : not b ≡ false = ap not e in let clash : true ≡ false = sym h ∙ bad in cc) (λ e. e)

      pub answer_pays : (now : ℕ) → Pays cmp tokens price end_price now f 0 (answer_to cmp matching n id e f)
      unfolding answer_of answer_to
      answer_pays now =
          let ms = flat_map answer_of f.asks in
          let all = all_answers f.asks in
          let one = answers_price f.number e ms all in
          let two = answers_heard now e ms f all in
          let three = answers_pay ms f.asks (each_part answer_of f.asks) in
          omega arith
