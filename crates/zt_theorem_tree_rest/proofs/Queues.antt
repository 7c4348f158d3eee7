-- Every line leaves one queue for each end of an open link, and no other.
use Rattle.std.proofs.Common.{◌≡◌, ℕ, ◌+◌, ◌-◌, ◌≤◌, ◌<◌, Bool, true, false, not, ◌&&◌, ◌||◌, ◌==◌, nat_lt, List, [], ◌∷◌, ◌++◌, length, map, filter, Option, Some, None, Ok, Err, refl, sym, ap, ◌∙◌, subst, arith, eq-eqb, eqb-true, ⊎_elim}
use Rattle.std.proofs.lemmas.Bool.{or_cases, or_left, or_right}
use Rattle.std.specs.List.{list_any}
use Rattle.std.specs.declared.cmp.Ordering.{Ordering}
use Rattle.zt_protocol.specs.Plain.{PlainEntry, PlainLine, Gateway, Session, Face as FaceLine, Link as LinkLine, Unlink, Step, Speak, Moment, SetTreesAt}
use Rattle.zt_protocol.specs.Refusal.{number_of}
use Rattle.zt_protocol.specs.declared.entries.Sent.{Sent}
use Rattle.zt_protocol.specs.declared.messages.Message.{Message}
use Rattle.zt_model.specs.Fabric.{CallAt, Fabric, Link, altered_at, altered_by_line, at_nth, both_ends, call_of, closed_ends, closing_call, fabric_after, opened_at, opened_ends, opening_at, without_message}
use Rattle.zt_model.specs.Linking.{LinkEnd, link_ends, sending_end, with_link, without_link}
use Rattle.zt_model.specs.Lists.{nth, rest_of, without_id}
use Rattle.zt_model.specs.Rows.{ById}
use Rattle.zt_model.specs.Transcript.{Each}
use Rattle.zt_laws.specs.Sound.{RiseFrom}
use Rattle.zt_laws.proofs.Lists.{any-append, by_test, each_append, each_both, each_filter, each_map, each_passes, each_weaker, never, of_cond, rise_filter}
use Rattle.zt_laws.proofs.PartsOrder.{each_of_map}
use Rattle.zt_theorem_tree_invariant.proofs.Stepping.{taken}
use Rattle.zt_theorem_tree_knowledge.proofs.Queues.{added}
use Rattle.zt_theorem_tree_rest.specs.Steps.{QueuesStand}

-- ---- the faces that messages wait for

abbrev pub numbers_of : {A : Type 0} → ById A → List ℕ
numbers_of rows = map (λ row. row.0) rows

pub numbers_taken : {K : Type 0} (q : ℕ) (w : ById (List (Message K))) → numbers_of (taken q w) ≡ numbers_of w
numbers_taken q [] = refl
numbers_taken q (row ∷ w) =
    ap (λ n. n ∷ numbers_of (taken q w)) (of_cond (λ (r : ℕ × List (Message _)). r.0 ≡ row.0) (q == row.0) (row.0, rest_of row.1) row (λ _. refl) (λ _. refl)) ∙ ap (λ ns. row.0 ∷ ns) (numbers_taken q w)

pub numbers_added : {K : Type 0} (ms : List (Sent K)) (w : ById (List (Message K))) → numbers_of (added ms w) ≡ numbers_of w
numbers_added ms [] = refl
numbers_added ms (row ∷ w) = ap (λ ns. row.0 ∷ ns) (numbers_added ms w)

rise_of : {A : Type 0} (low : ℕ) (rows : ById A) → RiseFrom (λ n. n) low (numbers_of rows) → RiseFrom (λ row. row.0) low rows
rise_of low [] rises = tt
rise_of low (row ∷ rows) rises = (rises.0, rise_of (row.0 + 1) rows rises.1)

of_rise : {A : Type 0} (low : ℕ) (rows : ById A) → RiseFrom (λ row. row.0) low rows → RiseFrom (λ n. n) low (numbers_of rows)
of_rise low [] rises = tt
of_rise low (row ∷ rows) rises = (rises.0, of_rise (row.0 + 1) rows rises.1)

pub rise_by_numbers : {A B : Type 0} (low : ℕ) (rows : ById A) (others : ById B) → numbers_of rows ≡ numbers_of others → RiseFrom (λ row. row.0) low others → RiseFrom (λ row. row.0) low rows
rise_by_numbers low rows others same_ rises = rise_of low rows (subst (RiseFrom (λ n. n) low) (sym same_) (of_rise low others rises))

-- the face ends an open link
abbrev IsEnd : List Link → ℕ → Type 0
IsEnd links k = list_any (λ link. link.is_open && (k == link.one || k == link.two)) links ≡ true

any_closed : (test : Link → Bool) (close : Link → Link) (n : ℕ) (links : List Link) (l : Link) → nth n links ≡ Some l → test l ≡ false → list_any test links ≡ true → list_any test (at_nth n close links) ≡ true
any_closed test close n [] l at_ fails some = some
any_closed test close n (x ∷ links) l at_ fails some =
    by_test (n == 1)
    (λ here.
    let first : Some x ≡ Some l = rw here at at_ in
    let is : x ≡ l = cc in
    let later : list_any test links ≡ true = ⊎_elim (λ own. never own (ap test is ∙ fails)) (λ more. more) (or_cases (test x) (list_any test links) some) in
    rw here (or_right (test (close x)) (list_any test links) later))
    (λ here.
    rw here
    (⊎_elim (λ own. or_left (test x) (list_any test (at_nth (n - 1) close links)) own) (λ more. or_right (test x) (list_any test (at_nth (n - 1) close links)) (any_closed test close (n - 1) links l (rw here at at_) fails more)) (or_cases (test x) (list_any test links) some)))

module _ {K : Type 0} where
  pub stand_by : (t s : Fabric K) → t.links ≡ s.links → numbers_of t.waiting ≡ numbers_of s.waiting → QueuesStand s → QueuesStand t
  stand_by t s links_ numbers_ stand = record {
    rise = rise_by_numbers 0 t.waiting s.waiting numbers_ stand.rise;
    ends =
        each_of_map (IsEnd t.links) (λ (row : ℕ × List (Message K)). row.0) t.waiting
        (subst (λ ls. Each (IsEnd ls) (numbers_of t.waiting)) (sym links_) (subst (Each (IsEnd s.links)) (sym numbers_) (each_map (IsEnd s.links) (λ (row : ℕ × List (Message K)). row.0) s.waiting stand.ends)));
  }

  -- ---- a link opens

  rise_last : (low : ℕ) (a : ℕ) (w : ById (List (Message K))) → low ≤ a → Each (λ row. row.0 < a) w → RiseFrom (λ row. row.0) low w → RiseFrom (λ row. row.0) low (w ++ (a, []) ∷ (a + 1, []) ∷ [])
  rise_last low a [] le below rises = (le, (omega arith, tt))
  rise_last low a (row ∷ w) le below rises = let less : row.0 < a = below.0 in (rises.0, rise_last (row.0 + 1) a w (omega arith) below.1 rises.1)

  stand_with_link : (s : Fabric K) → Each (λ row. row.0 ≤ length s.faces) s.waiting → QueuesStand s → QueuesStand (with_link s)
  stand_with_link s within stand =
      let a = length s.faces + 1 in
      let new_ : Link = record { one = a; two = a + 1; is_open = true } in
      let test = λ (k : ℕ) (link : Link). link.is_open && (k == link.one || k == link.two) in
      record {
        rise = rise_last 0 a s.waiting (omega arith) (each_weaker (λ (row : ℕ × List (Message K)). row.0 ≤ length s.faces) (λ row. row.0 < a) (λ row le. omega arith) s.waiting within) stand.rise;
        ends =
            each_append (λ (row : ℕ × List (Message K)). IsEnd (s.links ++ new_ ∷ []) row.0) s.waiting ((a, []) ∷ (a + 1, []) ∷ [])
            (each_weaker (λ (row : ℕ × List (Message K)). IsEnd s.links row.0) (λ row. IsEnd (s.links ++ new_ ∷ []) row.0) (λ row own. any-append (test row.0) s.links (new_ ∷ []) ∙ or_left (list_any (test row.0) s.links) (list_any (test row.0) (new_ ∷ [])) own) s.waiting stand.ends) (
              any-append (test a) s.links (new_ ∷ []) ∙ or_right (list_any (test a) s.links) (list_any (test a) (new_ ∷ [])) (or_left (true && ((a == a) || (a == a + 1))) false (or_left (a == a) (a == a + 1) (eq-eqb a a refl))),
              (any-append (test (a + 1)) s.links (new_ ∷ []) ∙ or_right (list_any (test (a + 1)) s.links) (list_any (test (a + 1)) (new_ ∷ [])) (or_left (true && ((a + 1 == a) || (a + 1 == a + 1))) false (or_right (a + 1 == a) (a + 1 == a + 1) (eq-eqb (a + 1) (a + 1) refl))), tt),
            );
      }

  -- ---- a link closes

  stand_without_link : (n : ℕ) (s : Fabric K) → QueuesStand s → QueuesStand (without_link n s)
  stand_without_link n s stand = by_link (nth n s.links) refl
    where
      not_true : (b : Bool) → not b ≡ true → b ≡ false
      not_true true h = cc
      not_true false h = refl

      by_link : (o : Option Link) → nth n s.links ≡ o
          → QueuesStand (let t : Fabric K = elim o [ None ↦ s | Some link ↦ record s { links = at_nth n (λ l. record l { is_open = false }) s.links; waiting = without_id link.one (without_id link.two s.waiting) } ] in t)
      by_link None at_ = stand
      by_link (Some link) at_ =
          let close = λ (l : Link). record l { is_open = false } in
          let test = λ (k : ℕ) (l : Link). l.is_open && (k == l.one || k == l.two) in
          let one_out = λ (row : ℕ × List (Message K)). not (link.one == row.0) in
          let two_out = λ (row : ℕ × List (Message K)). not (link.two == row.0) in
          let two = filter two_out s.waiting in
          let IsOther = λ (row : ℕ × List (Message K)). (two_out row ≡ true) × IsEnd s.links row.0 in
          let others : Each IsOther two = each_both (λ (row : ℕ × List (Message K)). two_out row ≡ true) (λ row. IsEnd s.links row.0) IsOther (λ row a b. (a, b)) two (each_passes two_out s.waiting) (each_filter (λ (row : ℕ × List (Message K)). IsEnd s.links row.0) two_out s.waiting stand.ends) in
          record {
            rise = rise_filter (λ row. row.0) 0 one_out two (rise_filter (λ row. row.0) 0 two_out s.waiting stand.rise);
            ends =
                each_both (λ (row : ℕ × List (Message K)). one_out row ≡ true) IsOther (λ row. IsEnd (at_nth n close s.links) row.0)
                (λ row first both.
                any_closed (test row.0) close n s.links link at_
                (apart link row.0 (not_true (link.one == row.0) first) (not_true (link.two == row.0) both.0))
                both.1)
                (filter one_out two) (each_passes one_out two) (each_filter IsOther one_out two others);
          }
        where
          apart : (link : Link) (k : ℕ) → (link.one == k) ≡ false → (link.two == k) ≡ false → (link.is_open && (k == link.one || k == link.two)) ≡ false
          apart link k one two =
              let first : (k == link.one) ≡ false = by_test (k == link.one) (λ is. never (eq-eqb link.one k (sym (eqb-true k link.one is))) one) (λ h. h) in
              let second : (k == link.two) ≡ false = by_test (k == link.two) (λ is. never (eq-eqb link.two k (sym (eqb-true k link.two is))) two) (λ h. h) in
              rw (first, second) (and_no link.is_open)
            where
              and_no : (b : Bool) → (b && false) ≡ false
              and_no true = refl
              and_no false = refl

  module _ (cmp : K → K → Ordering) (matching : K → K → Bool) where
    -- ---- what calls leave

    -- the links and queues of another fabric
    pub record SameQueues (t s : Fabric K) : Type 0 where
      pub links : t.links ≡ s.links
      pub waiting : t.waiting ≡ s.waiting

    opened_same : (o : Option (CallAt K)) (s : Fabric K) → SameQueues (opened_at cmp matching o s) s
    opened_same None s = record { links = refl; waiting = refl }
    opened_same (Some at) s = record { links = refl; waiting = refl }

    altered_same : (s : Fabric K) (o : Option (CallAt K)) → SameQueues (altered_at cmp matching s o) s
    altered_same s None = record { links = refl; waiting = refl }
    altered_same s (Some at) = record { links = refl; waiting = refl }

    opened_ends_same : (ends : List (LinkEnd K)) (s : Fabric K) → SameQueues (opened_ends cmp matching ends s) s
    unfolding opened_ends
    opened_ends_same [] s = record { links = refl; waiting = refl }
    opened_ends_same (end ∷ ends) s =
        let one = opened_same (opening_at cmp matching s end) s in
        let more = opened_ends_same ends (opened_at cmp matching (opening_at cmp matching s end) s) in
        record { links = more.links ∙ one.links; waiting = more.waiting ∙ one.waiting }

    closed_ends_same : (faces : List ℕ) (s : Fabric K) → SameQueues (closed_ends cmp matching faces s) s
    unfolding closed_ends
    closed_ends_same [] s = record { links = refl; waiting = refl }
    closed_ends_same (face ∷ faces) s =
        let one = altered_same s (closing_call s face) in
        let more = closed_ends_same faces (altered_at cmp matching s (closing_call s face)) in
        record { links = more.links ∙ one.links; waiting = more.waiting ∙ one.waiting }

    stand_same : (t s : Fabric K) → SameQueues t s → QueuesStand s → QueuesStand t
    stand_same t s same_ stand = stand_by t s same_.links (ap numbers_of same_.waiting) stand

    stand_taken : (n : ℕ) (back : Bool) (s : Fabric K) → QueuesStand s → QueuesStand (without_message n back s)
    stand_taken n back s stand = by_link (nth n s.links)
      where
        by_link : (o : Option Link) → QueuesStand (let t : Fabric K = elim o [ None ↦ s | Some link ↦ record s { waiting = taken (sending_end link back) s.waiting } ] in t)
        by_link None = stand
        by_link (Some link) = stand_by (record s { waiting = taken (sending_end link back) s.waiting }) s refl (numbers_taken (sending_end link back) s.waiting) stand

    -- ---- lines

    stand_altered : (line : PlainLine K) (s : Fabric K) → Each (λ row. row.0 ≤ length s.faces) s.waiting → QueuesStand s → QueuesStand (altered_by_line cmp matching line s)
    unfolding altered_by_line
    stand_altered (Gateway mode zid regions south name timeout refused) s within stand = stand_by _ s refl refl stand
    stand_altered (Session gateway first) s within stand = stand_by _ s refl refl stand
    stand_altered (FaceLine gateway mode zid region bound first) s within stand = stand_same _ s (opened_same (call_of (FaceLine gateway mode zid region bound first) s) s) stand
    stand_altered (LinkLine one two first back) s within stand = stand_same _ (with_link s) (opened_ends_same (link_ends s one two first back) (with_link s)) (stand_with_link s within stand)
    stand_altered (Unlink link) s within stand = stand_without_link link (closed_ends cmp matching (both_ends cmp matching s link) s) (stand_same _ s (closed_ends_same (both_ends cmp matching s link) s) stand)
    stand_altered (Step link back) s within stand = stand_same _ (without_message link back s) (altered_same (without_message link back s) (call_of (Step link back) s)) (stand_taken link back s stand)
    stand_altered (Speak call) s within stand = stand_same _ s (altered_same s (call_of (Speak call) s)) stand
    stand_altered (Moment gateway now) s within stand = stand_same _ s (altered_same s (call_of (Moment gateway now) s)) stand
    stand_altered (SetTreesAt gateway region table) s within stand = stand_same _ s (altered_same s (call_of (SetTreesAt gateway region table) s)) stand

    -- Each line, accepted or refused, leaves queues as they should be.
    pub queues_after : (line : PlainLine K) (entry : PlainEntry K) (s : Fabric K) → Each (λ row. row.0 ≤ length s.faces) s.waiting → QueuesStand s → QueuesStand (fabric_after cmp matching line entry s)
    unfolding fabric_after
    queues_after line (Ok ms) s within stand =
        let t = altered_by_line cmp matching line s in
        stand_by _ t refl (numbers_added ms t.waiting) (stand_altered line s within stand)
    queues_after (Step n back) (Err r) s within stand = of_cond QueuesStand (nat_lt 3 (number_of r)) (without_message n back s) s (λ _. stand_taken n back s stand) (λ _. stand)
    queues_after (Gateway mode zid regions south name timeout refused) (Err r) s within stand = stand
    queues_after (Session gateway first) (Err r) s within stand = stand
    queues_after (FaceLine gateway mode zid region bound first) (Err r) s within stand = stand
    queues_after (LinkLine one two first back) (Err r) s within stand = stand
    queues_after (Unlink link) (Err r) s within stand = stand
    queues_after (Speak call) (Err r) s within stand = stand
    queues_after (Moment gateway now) (Err r) s within stand = stand
    queues_after (SetTreesAt gateway region table) (Err r) s within stand = stand
