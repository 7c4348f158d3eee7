-- Messages that an ask of an id may be sent: while it stands, expressions that it wasn't answered, and then its final.
use Rattle.std.proofs.Common.{◌≡◌, ℕ, ◌+◌, ◌≤◌, Bool, true, false, not, if◌then◌else◌, ◌&&◌, ◌||◌, ◌==◌, List, [], ◌∷◌, ◌++◌, map, filter, Option, Some, None, option_map, is_some, refl, sym, ap, ◌∙◌, subst, arith, eqb-true, eq-eqb, ne_eqb}
use Rattle.std.proofs.lemmas.Bool.{and_from, and_parts}
use Rattle.std.specs.Cmp.{IsTotalOrder}
use Rattle.std.specs.List.{flat_map}
use Rattle.std.specs.declared.cmp.Ordering.{Ordering}
use Rattle.zt_protocol.specs.Interest.{is_future}
use Rattle.zt_protocol.specs.declared.interests.InterestMode.{InterestMode}
use Rattle.zt_protocol.specs.declared.messages.Message.{Message}
use Rattle.zt_protocol.specs.declared.messages.Message.TheVariants as message
use Rattle.zt_model.specs.Hearing.{heard, heard_all, with_answer}
use Rattle.zt_model.specs.Lists.{at_id, is_among, is_some_and, same, without_id}
use Rattle.zt_model.specs.Rows.{Ask, ById, Face}
use Rattle.zt_model.specs.Says.{answers_from, told_id}
use Rattle.zt_model.specs.Telling.{is_answered_by}
use Rattle.zt_model.specs.Transcript.{Each}
use Rattle.zt_laws.specs.Order.{KeysOnce}
use Rattle.zt_laws.specs.Sound.{RiseFrom}
use Rattle.zt_laws.proofs.Keys.{same_back}
use Rattle.zt_laws.proofs.Lists.{any-append, by_test, each_append, each_both, each_fails, each_filter, each_map, each_weaker, never, of_cond, rise_above}
use Rattle.zt_theorem_soundness.proofs.ById.{at_without_other}

gone_at : {A : Type 0} (id : ℕ) (rows : ById A) → at_id id (without_id id rows) ≡ None
gone_at id [] = refl
gone_at id (row ∷ rows) = by_test (id == row.0) (λ here. rw here (gone_at id rows)) (λ here. rw (here, here) (gone_at id rows))

module _ {K : Type 0} (cmp : K → K → Ordering) (id : ℕ) where
  -- what the ask was answered, while it stands
  abbrev pub answered_at : ById (Ask K) → Option (List K)
  answered_at asks = option_map (λ ask. ask.answered) (at_id id asks)

  abbrev pub answered_then : K → List K → List K
  answered_then e es = if is_among cmp e es then es else es ++ e ∷ []

  -- and after a message
  abbrev pub state_then : Message K → Option (List K) → Option (List K)
  state_then (message.DeclareToken number e (Some i) node) s = if id == i then option_map (answered_then e) s else s
  state_then (message.DeclareFinal i) s = if id == i then None else s
  state_then m s = s

  abbrev pub state_after : List (Message K) → Option (List K) → Option (List K)
  state_after [] s = s
  state_after (m ∷ ms) s = state_after ms (state_then m s)

  abbrev pub is_due : Message K → Option (List K) → Bool
  is_due (message.DeclareToken number e (Some i) node) s = not (id == i) || is_some_and s (λ es. not (is_among cmp e es))
  is_due (message.DeclareFinal i) s = not (id == i) || is_some s
  is_due m s = true

  abbrev pub are_due : List (Message K) → Option (List K) → Bool
  are_due [] s = true
  are_due (m ∷ ms) s = is_due m s && are_due ms (state_then m s)

  pub state-append : (ms ns : List (Message K)) (s : Option (List K)) → state_after (ms ++ ns) s ≡ state_after ns (state_after ms s)
  state-append [] ns s = refl
  state-append (m ∷ ms) ns s = state-append ms ns (state_then m s)

  pub due_append : (ms ns : List (Message K)) (s : Option (List K)) → are_due ms s ≡ true → are_due ns (state_after ms s) ≡ true → are_due (ms ++ ns) s ≡ true
  due_append [] ns s first second = second
  due_append (m ∷ ms) ns s first second =
      let parts = and_parts (is_due m s) (are_due ms (state_then m s)) first in
      and_from (is_due m s) (are_due (ms ++ ns) (state_then m s)) parts.0 (due_append ms ns (state_then m s) parts.1 second)

  -- ---- messages that are nothing to the ask

  abbrev pub IsSilent : Message K → Type 0
  IsSilent (message.DeclareToken number e (Some i) node) = (id == i) ≡ false
  IsSilent (message.DeclareFinal i) = (id == i) ≡ false
  IsSilent m = Unit {0}

  silent_one : (m : Message K) (s : Option (List K)) → IsSilent m → (is_due m s ≡ true) × (state_then m s ≡ s)
  silent_one (message.DeclareToken number e (Some i) node) s silent = rw silent (refl, refl)
  silent_one (message.DeclareToken number e None node) s silent = (refl, refl)
  silent_one (message.UndeclareToken number e node) s silent = (refl, refl)
  silent_one (message.DeclareFinal i) s silent = rw silent (refl, refl)
  silent_one (message.Interest number mode options e) s silent = (refl, refl)
  silent_one (message.InterestFinal number) s silent = (refl, refl)
  silent_one (message.DeclareSubscriber number e i) s silent = (refl, refl)
  silent_one (message.DeclareQueryable number e info i) s silent = (refl, refl)

  pub silent_state : (ms : List (Message K)) (s : Option (List K)) → Each IsSilent ms → state_after ms s ≡ s
  silent_state [] s silent = refl
  silent_state (m ∷ ms) s silent = ap (state_after ms) (silent_one m s silent.0).1 ∙ silent_state ms s silent.1

  pub silent_due : (ms : List (Message K)) (s : Option (List K)) → Each IsSilent ms → are_due ms s ≡ true
  silent_due [] s silent = refl
  silent_due (m ∷ ms) s silent =
      let one = silent_one m s silent.0 in
      and_from (is_due m s) (are_due ms (state_then m s)) one.0 (ap (are_due ms) one.1 ∙ silent_due ms s silent.1)

  -- ---- what hearing leaves of the ask

  answered_here : (row : ℕ × Ask K) (i : ℕ) (e : K) → (id == row.0) ≡ true → (let one = with_answer cmp i e row in (one.0 ≡ row.0) × (one.1.answered ≡ (if id == i then answered_then e row.1.answered else row.1.answered)))
  answered_here row i e here =
      by_test (id == i)
      (λ own.
      let is : (i == row.0) ≡ true = eq-eqb i row.0 (sym (eqb-true id i own) ∙ eqb-true id row.0 here) in
      by_test (is_among cmp e row.1.answered) (λ known. rw (own, is, known) (refl, refl)) (λ known. rw (own, is, known) (refl, refl)))
      (λ own.
      let other : (i == row.0) ≡ false = by_test (i == row.0) (λ there. never (eq-eqb id i (eqb-true id row.0 here ∙ sym (eqb-true i row.0 there))) own) (λ there. there) in
      rw (own, other) (refl, refl))

  same_id : (i : ℕ) (e : K) (row : ℕ × Ask K) → (with_answer cmp i e row).0 ≡ row.0
  same_id i e row = of_cond (λ (r : ℕ × Ask K). r.0 ≡ row.0) _ (row.0, record row.1 { answered = row.1.answered ++ e ∷ [] }) row (λ _. refl) (λ _. refl)

  answered_heard : (i : ℕ) (e : K) (rows : ById (Ask K)) → answered_at (map (with_answer cmp i e) rows) ≡ (if id == i then option_map (answered_then e) (answered_at rows) else answered_at rows)
  answered_heard i e [] = by_test (id == i) (λ own. rw own refl) (λ own. rw own refl)
  answered_heard i e (row ∷ rows) =
      let id_ : (id == (with_answer cmp i e row).0) ≡ (id == row.0) = ap (λ k. id == k) (same_id i e row) in
      by_test (id == row.0)
      (λ here.
      let there : (id == (with_answer cmp i e row).0) ≡ true = id_ ∙ here in
      rw (there, here) (ap (λ es. Some es) (answered_here row i e here).1 ∙ either (id == i) row.1.answered))
      (λ here.
      let there : (id == (with_answer cmp i e row).0) ≡ false = id_ ∙ here in
      rw (there, here) (answered_heard i e rows))
    where
      either : (b : Bool) (es : List K) → (let o : Option (List K) = Some (if b then answered_then e es else es) in o ≡ (if b then Some (answered_then e es) else Some es))
      either true es = refl
      either false es = refl

  without_heard : (i : ℕ) (rows : ById (Ask K)) → answered_at (without_id i rows) ≡ (if id == i then None else answered_at rows)
  without_heard i rows =
      by_test (id == i)
      (λ own. rw own (subst (λ k. answered_at (without_id k rows) ≡ None) (eqb-true id i own) (ap (option_map (λ (ask : Ask K). ask.answered)) (gone_at id rows))))
      (λ own.
      let other : (i == id) ≡ false = by_test (i == id) (λ there. never (eq-eqb id i (sym (eqb-true i id there))) own) (λ there. there) in
      rw own (ap (option_map (λ (ask : Ask K). ask.answered)) (at_without_other id i rows other)))

  heard_one : (now : ℕ) (m : Message K) (f : Face K) → answered_at (heard cmp now m f).asks ≡ state_then m (answered_at f.asks)
  heard_one now (message.DeclareToken number e (Some i) node) f = answered_heard i e f.asks
  heard_one now (message.DeclareToken number e None node) f = refl
  heard_one now (message.UndeclareToken number e node) f = refl
  heard_one now (message.DeclareFinal i) f = without_heard i f.asks
  heard_one now (message.Interest number mode options e) f = refl
  heard_one now (message.InterestFinal number) f = refl
  heard_one now (message.DeclareSubscriber number e i) f = refl
  heard_one now (message.DeclareQueryable number e info i) f = refl

  pub heard_state : (now : ℕ) (ms : List (Message K)) (f : Face K) → answered_at (heard_all cmp now ms f).asks ≡ state_after ms (answered_at f.asks)
  unfolding heard_all
  heard_state now [] f = refl
  heard_state now (m ∷ ms) f = heard_state now ms (heard cmp now m f) ∙ ap (state_after ms) (heard_one now m f)

  -- ---- rules

  -- rows behind the ask's own are others'
  others_behind : {A : Type 0} (k : ℕ) (rows : ById A) → (id == k) ≡ true → RiseFrom (λ row. row.0) (k + 1) rows → Each (λ row. (id == row.0) ≡ false) rows
  others_behind k rows own rises =
      let is = eqb-true id k own in
      each_weaker (λ row. k + 1 ≤ row.0) (λ row. (id == row.0) ≡ false) (λ row up. ne_eqb id row.0 (λ same_. omega (arith, is, same_, up))) rows (rise_above (λ row. row.0) (k + 1) rows rises)

  -- finals of asks, each once
  pub finals_due : (q : ℕ × Ask K → Bool) (low : ℕ) (rows : ById (Ask K)) → RiseFrom (λ row. row.0) low rows
      → are_due (map (λ row. message.DeclareFinal row.0) (filter q rows)) (answered_at rows) ≡ true
  finals_due q low [] rises = refl
  finals_due q low (row ∷ rows) rises =
      by_test (id == row.0)
      (λ own. by_test (q row) (λ ends. rw (ends, own) (rest own None)) (λ ends. rw (ends, own) (rest own (Some row.1.answered))))
      (λ own. by_test (q row) (λ ends. rw (ends, own) (finals_due q (row.0 + 1) rows rises.1)) (λ ends. rw (ends, own) (finals_due q (row.0 + 1) rows rises.1)))
    where
      rest : (id == row.0) ≡ true → (s : Option (List K)) → are_due (map (λ r. message.DeclareFinal r.0) (filter q rows)) s ≡ true
      rest own s =
          silent_due (map (λ r. message.DeclareFinal r.0) (filter q rows)) s
          (each_map IsSilent (λ r. message.DeclareFinal r.0) (filter q rows) (each_filter (λ r. (id == r.0) ≡ false) q rows (others_behind row.0 rows own rises.1)))

module _ {K : Type 0} (cmp : K → K → Ordering) (matching : K → K → Bool) (id : ℕ) where
  -- answers to another interest
  pub others_silent : (next : ℕ) (told : ById K) (mode : InterestMode) (i : ℕ) (es : List K) → (id == i) ≡ false → Each (IsSilent cmp id) (answers_from cmp matching next told mode i es)
  unfolding answers_from
  others_silent next told mode i [] other = tt
  others_silent next told mode i (e ∷ es) other =
      by_test (is_future mode)
      (λ future. rw future (by_id (told_id cmp e told) (others_silent (next + 1) told mode i es other) (others_silent next told mode i es other)))
      (λ future. rw future (other, others_silent next told mode i es other))
    where
      by_id : (o : Option ℕ) → Each (IsSilent cmp id) (answers_from cmp matching (next + 1) told mode i es) → Each (IsSilent cmp id) (answers_from cmp matching next told mode i es)
          → Each (IsSilent cmp id) (elim o [ None ↦ message.DeclareToken next e (Some i) 0 ∷ answers_from cmp matching (next + 1) told mode i es | Some old ↦ message.DeclareToken old e (Some i) 0 ∷ answers_from cmp matching next told mode i es ])
      by_id None more same_ = (other, more)
      by_id (Some old) more same_ = (other, same_)

  module _ (total : IsTotalOrder cmp) where
    -- expressions that it wasn't answered, each once
    pub answers_due : (next : ℕ) (told : ById K) (mode : InterestMode) (es known : List K) → KeysOnce cmp es → Each (λ x. is_among cmp x known ≡ false) es
        → are_due cmp id (answers_from cmp matching next told mode id es) (Some known) ≡ true
    unfolding answers_from
    answers_due next told mode [] known once new_ = refl
    answers_due next told mode (e ∷ es) known once new_ =
        by_test (is_future mode)
        (λ future. rw future (by_id (told_id cmp e told) (answers_due (next + 1) told mode es (known ++ e ∷ []) once.1 later) (answers_due next told mode es (known ++ e ∷ []) once.1 later)))
        (λ future. rw future (one 0 (answers_from cmp matching next told mode id es) (answers_due next told mode es (known ++ e ∷ []) once.1 later)))
      where
        later : Each (λ x. is_among cmp x (known ++ e ∷ []) ≡ false) es
        later =
            each_both (λ x. same cmp e x ≡ false) (λ x. is_among cmp x known ≡ false) (λ x. is_among cmp x (known ++ e ∷ []) ≡ false)
            (λ x apart none_.
            let miss : same cmp x e ≡ false = same_back cmp total x e ∙ apart in
            any-append (same cmp x) known (e ∷ []) ∙ rw (none_, miss) refl) es (each_fails (same cmp e) es once.0) new_.1

        one : (k : ℕ) (ms : List (Message K)) → are_due cmp id ms (Some (known ++ e ∷ [])) ≡ true → are_due cmp id (message.DeclareToken k e (Some id) 0 ∷ ms) (Some known) ≡ true
        one k ms rest = let unknown : is_among cmp e known ≡ false = new_.0 in rw (eq-eqb id id refl, unknown) rest

        by_id : (o : Option ℕ) → are_due cmp id (answers_from cmp matching (next + 1) told mode id es) (Some (known ++ e ∷ [])) ≡ true → are_due cmp id (answers_from cmp matching next told mode id es) (Some (known ++ e ∷ [])) ≡ true
            → are_due cmp id (elim o [ None ↦ message.DeclareToken next e (Some id) 0 ∷ answers_from cmp matching (next + 1) told mode id es | Some old ↦ message.DeclareToken old e (Some id) 0 ∷ answers_from cmp matching next told mode id es ]) (Some known) ≡ true
        by_id None more same_ = one next (answers_from cmp matching (next + 1) told mode id es) more
        by_id (Some old) more same_ = one old (answers_from cmp matching next told mode id es) same_

    -- what a declaration answers the asks of a face
    abbrev answers_row : ℕ → ById K → ℕ → ℕ → K → ℕ × Ask K → List (Message K)
    answers_row next told n i e row = if is_answered_by cmp matching n i e row.1 then answers_from cmp matching next told row.1.interest.mode row.0 (e ∷ []) else []

    row_silent : (next : ℕ) (told : ById K) (n i : ℕ) (e : K) (row : ℕ × Ask K) → (id == row.0) ≡ false → Each (IsSilent cmp id) (answers_row next told n i e row)
    row_silent next told n i e row other =
        of_cond (Each (IsSilent cmp id)) (is_answered_by cmp matching n i e row.1) (answers_from cmp matching next told row.1.interest.mode row.0 (e ∷ [])) [] (λ _. others_silent next told row.1.interest.mode row.0 (e ∷ []) other) (λ _. tt)

    rows_silent : (next : ℕ) (told : ById K) (n i : ℕ) (e : K) (rows : ById (Ask K)) → Each (λ row. (id == row.0) ≡ false) rows → Each (IsSilent cmp id) (flat_map (answers_row next told n i e) rows)
    rows_silent next told n i e [] others = tt
    rows_silent next told n i e (row ∷ rows) others =
        each_append (IsSilent cmp id) (answers_row next told n i e row) (flat_map (answers_row next told n i e) rows) (row_silent next told n i e row others.0) (rows_silent next told n i e rows others.1)

    own_row : (next : ℕ) (told : ById K) (n i : ℕ) (e : K) (row : ℕ × Ask K) → (id == row.0) ≡ true → are_due cmp id (answers_row next told n i e row) (Some row.1.answered) ≡ true
    own_row next told n i e row own =
        of_cond (λ (ms : List (Message K)). are_due cmp id ms (Some row.1.answered) ≡ true) (is_answered_by cmp matching n i e row.1) (answers_from cmp matching next told row.1.interest.mode row.0 (e ∷ [])) []
        (λ answers.
        subst (λ k. are_due cmp id (answers_from cmp matching next told row.1.interest.mode k (e ∷ [])) (Some row.1.answered) ≡ true) (eqb-true id row.0 own)
        (answers_due next told row.1.interest.mode (e ∷ []) row.1.answered (refl, tt) (unknown (and_parts _ _ (and_parts _ _ answers).1).1, tt)))
        (λ _. refl)
      where
        unknown : not (is_among cmp e row.1.answered) ≡ true → is_among cmp e row.1.answered ≡ false
        unknown new_ = by_test (is_among cmp e row.1.answered) (λ known. let wrong : not (is_among cmp e row.1.answered) ≡ false = rw known refl in never new_ wrong) (λ known. known)

    pub rows_due : (next : ℕ) (told : ById K) (n i : ℕ) (e : K) (low : ℕ) (rows : ById (Ask K)) → RiseFrom (λ row. row.0) low rows
        → are_due cmp id (flat_map (answers_row next told n i e) rows) (answered_at cmp id rows) ≡ true
    rows_due next told n i e low [] rises = refl
    rows_due next told n i e low (row ∷ rows) rises =
        by_test (id == row.0)
        (λ own. rw own
        (due_append cmp id (answers_row next told n i e row) rest (Some row.1.answered) (own_row next told n i e row own)
        (silent_due cmp id rest (state_after cmp id (answers_row next told n i e row) (Some row.1.answered)) (rows_silent next told n i e rows (others_behind cmp id row.0 rows own rises.1)))))
        (λ own. rw own
        (due_append cmp id (answers_row next told n i e row) rest (answered_at cmp id rows) (silent_due cmp id (answers_row next told n i e row) (answered_at cmp id rows) (row_silent next told n i e row own))
        (ap (are_due cmp id rest) (silent_state cmp id (answers_row next told n i e row) (answered_at cmp id rows) (row_silent next told n i e row own)) ∙ rows_due next told n i e (row.0 + 1) rows rises.1)))
      where
        rest : List (Message K)
        rest = flat_map (answers_row next told n i e) rows
