-- A face of a joint hears one message more: the joint still agrees.
use Rattle.std.proofs.Common.{◌≡◌, ◌⊎◌, inl, inr, ℕ, ◌+◌, ◌≤◌, ◌<◌, max, Bool, true, false, if◌then◌else◌, ◌&&◌, ◌==◌, not, List, [], ◌∷◌, ◌++◌, map, Option, Some, None, refl, sym, ap, ◌∙◌, subst, arith, eqb-true, le_trans, ⊎_elim, le_refl}
use Rattle.std.proofs.lemmas.Bool.{and_parts, or_cases}
use Rattle.std.specs.List.{list_any}
use Rattle.std.specs.declared.cmp.Ordering.{Ordering}
use Rattle.zt_region.specs.declared.region.WhatAmI.TheVariants.{Client}
use Rattle.zt_protocol.specs.Interest.{is_current, is_future, has_tokens}
use Rattle.zt_protocol.specs.declared.messages.Message.{Message}
use Rattle.zt_protocol.specs.declared.messages.Message.TheVariants.{DeclareToken, UndeclareToken, DeclareFinal, Interest, InterestFinal, DeclareSubscriber, DeclareQueryable}
use Rattle.zt_model.specs.Hearing.{asks_answered, heard, put_if, told_pair, untold, with_answer}
use Rattle.zt_model.specs.Lists.{is_among, same, without_id}
use Rattle.zt_model.specs.Rows.{Ask, ById, Face, InterestRow, Pending}
use Rattle.zt_model.specs.Transcript.{Each}
use Rattle.zt_model.specs.Wants.{kept_options}
use Rattle.zt_laws.proofs.Lists.{each_append, each_filter, each_map, each_weaker, never, of_cond}
use Rattle.zt_theorem_tree_invariant.specs.Facts.{FitsAsk, FitsFalling, FitsModes, FitsRising, InterestsRise, IsClear, IsForAbove, IsForBelow, JointAgrees, token_interests, tokens_after, tokens_by, top_of}
use Rattle.zt_theorem_tree_invariant.proofs.Waiting.{IsBelow, below_top, clear_last, each_below_later, each_put_if, interests_last, rise_below, rise_last, rise_low, rise_within, told_pair_below, tokens_last, tokens_put, tokens_without, top_filter, untold_each}

-- an answer under the id 0 is to an ask in what is there now alone, one under a real id to one in what comes later too
abbrev pub is_of_mode : {K : Type 0} → ℕ → Ask K → Bool
is_of_mode id ask = if id == 0 then not (is_future ask.interest.mode) else is_future ask.interest.mode

module _ {K : Type 0} (cmp : K → K → Ordering) where
  -- What a face is sent, where it leads up or down, with what it was told and the asks that stand there. Downwards go
  -- answers to asks, in their mode, and undeclarations by expression of what it wasn't told; upwards interests.
  abbrev pub IsWell : Bool → ById K → ById (Ask K) → Message K → Type 0
  IsWell up told asks (DeclareToken id e None node) = Unit {0}
  IsWell up told asks (DeclareToken id e (Some interest) node) = (up ≡ false) × (list_any (λ row. (interest == row.0) && is_of_mode id row.1) asks ≡ true)
  IsWell up told asks (UndeclareToken id None node) = Unit {0}
  IsWell up told asks (UndeclareToken id (Some e) node) = (up ≡ false) × (id ≡ 0) × (list_any (λ row. same cmp e row.1) told ≡ false)
  IsWell up told asks (Interest id mode options e) = (up ≡ true) × (kept_options Client options ≡ options)
  IsWell up told asks (InterestFinal id) = up ≡ true
  IsWell up told asks _ = up ≡ false

  -- a real id is the next one, or that of the pair
  abbrev pub DrawsNext : ℕ → ById K → Message K → Type 0
  DrawsNext next told (DeclareToken id e interest node) = (id ≡ 0) ⊎ ((id ≡ next) ⊎ (list_any (λ row. (id == row.0) && same cmp e row.1) told ≡ true))
  DrawsNext next told (Interest id mode options e) = id ≡ next
  DrawsNext next told _ = Unit {0}

  clear_if_drawn : (id next : ℕ) (e : K) (told : ById K) → Each (λ row. row.0 < next) told
      → (id ≡ 0) ⊎ ((id ≡ next) ⊎ (list_any (λ row. (id == row.0) && same cmp e row.1) told ≡ true))
      → (id ≡ 0) ⊎ ((list_any (λ row. (id == row.0) && same cmp e row.1) told ≡ true) ⊎ Each (λ row. row.0 < id) told)
  clear_if_drawn id next e told below (inl zero_) = inl zero_
  clear_if_drawn id next e told below (inr (inl is)) = inr (inr (subst (λ n. Each (λ row. row.0 < n) told) (sym is) below))
  clear_if_drawn id next e told below (inr (inr there)) = inr (inl there)

  -- ---- the lower face

  each_fits : (P Q : ℕ × Pending → Type 0) (rows : ById Pending) → ((row : ℕ × Pending) → P row → Q row) → Each P rows → Each Q rows
  each_fits P Q rows h all = each_weaker P Q h rows all

  -- one more message rises that isn't an interest
  fits_more : (upper : Face K) (rising falling : List (Message K)) (m : Message K) (rows : ById Pending) → ((row : ℕ × Pending) → FitsRising row m) → Each (FitsModes upper rising falling) rows → Each (FitsModes upper (rising ++ m ∷ []) falling) rows
  fits_more upper rising falling m rows fits all =
      each_weaker (FitsModes upper rising falling) (FitsModes upper (rising ++ m ∷ []) falling)
      (λ row one. record { asked = one.asked; rises = each_append (FitsRising row) rising (m ∷ []) one.rises (fits row, tt); falls = one.falls }) rows all

  for_below_later : (next later : ℕ) (m : Message K) → next ≤ later → IsForBelow next m → IsForBelow later m
  for_below_later next later (DeclareToken id e None node) up h = tt
  for_below_later next later (DeclareToken id e (Some interest) node) up h = le_trans h up
  for_below_later next later (UndeclareToken id e node) up h = tt
  for_below_later next later (DeclareFinal interest) up h = tt
  for_below_later next later (Interest id mode options e) up h = absurd h
  for_below_later next later (InterestFinal id) up h = absurd h
  for_below_later next later (DeclareSubscriber id e interest) up h = tt
  for_below_later next later (DeclareQueryable id e info interest) up h = tt

  all_for_below_later : (next later : ℕ) (ms : List (Message K)) → next ≤ later → Each (IsForBelow next) ms → Each (IsForBelow later) ms
  all_for_below_later next later ms up all = each_weaker (IsForBelow next) (IsForBelow later) (λ m h. for_below_later next later m up h) ms all

  pub lower_hears : (now : ℕ) (m : Message K) (lower upper : Face K) (rising falling : List (Message K)) → IsWell true lower.told lower.asks m → DrawsNext lower.next lower.told m
      → JointAgrees cmp lower upper rising falling → JointAgrees cmp (heard cmp now m lower) upper (rising ++ m ∷ []) falling
  lower_hears now (DeclareToken id e None node) lower upper rising falling well drawn j =
      let m : Message K = DeclareToken id e None node in
      let later : lower.next ≤ max lower.next (id + 1) = omega arith in
      record {
        tokens_above = tokens_last cmp rising m upper.live ∙ ap (told_pair cmp id e) j.tokens_above;
        tokens_below = j.tokens_below;
        interests_above = interests_last rising m (token_interests upper.held) ∙ j.interests_above;
        clear_above = clear_last cmp rising m upper.live j.clear_above (subst (IsClear cmp m) (sym j.tokens_above) (clear_if_drawn id lower.next e lower.told j.told_below drawn));
        clear_below = j.clear_below;
        ids_rise = rise_last (max (top_of upper.held) (top_of upper.asks)) rising m lower.next (max lower.next (id + 1)) j.ids_rise later;
        locals_below = each_below_later lower.next (max lower.next (id + 1)) lower.locals later j.locals_below;
        pendings_below = each_below_later lower.next (max lower.next (id + 1)) lower.pendings later j.pendings_below;
        told_below_above = j.told_below_above;
        told_below = told_pair_below cmp id e lower.told lower.next j.told_below;
        live_real = j.live_real;
        for_above = each_append IsForAbove rising (m ∷ []) j.for_above (refl, tt);
        for_below = all_for_below_later lower.next (max lower.next (id + 1)) falling later j.for_below;
        modes = fits_more upper rising falling m lower.pendings (λ row. tt) j.modes;
      }
  lower_hears now (UndeclareToken id None node) lower upper rising falling well drawn j =
      let m : Message K = UndeclareToken id None node in
      record {
        tokens_above = tokens_last cmp rising m upper.live ∙ ap (without_id id) j.tokens_above;
        tokens_below = j.tokens_below;
        interests_above = interests_last rising m (token_interests upper.held) ∙ j.interests_above;
        clear_above = clear_last cmp rising m upper.live j.clear_above tt;
        clear_below = j.clear_below;
        ids_rise = rise_last (max (top_of upper.held) (top_of upper.asks)) rising m lower.next lower.next j.ids_rise (le_refl lower.next);
        locals_below = j.locals_below;
        pendings_below = j.pendings_below;
        told_below_above = j.told_below_above;
        told_below = untold_each cmp (λ row. row.0 < lower.next) id None lower.told j.told_below;
        live_real = j.live_real;
        for_above = each_append IsForAbove rising (m ∷ []) j.for_above (refl, tt);
        for_below = j.for_below;
        modes = fits_more upper rising falling m lower.pendings (λ row. tt) j.modes;
      }
  lower_hears now (InterestFinal id) lower upper rising falling well drawn j =
      let m : Message K = InterestFinal id in
      record {
        tokens_above = tokens_last cmp rising m upper.live ∙ j.tokens_above;
        tokens_below = j.tokens_below;
        interests_above = interests_last rising m (token_interests upper.held) ∙ ap (without_id id) j.interests_above ∙ sym (tokens_without id lower.locals);
        clear_above = clear_last cmp rising m upper.live j.clear_above tt;
        clear_below = j.clear_below;
        ids_rise = rise_last (max (top_of upper.held) (top_of upper.asks)) rising m lower.next lower.next j.ids_rise (le_refl lower.next);
        locals_below = each_filter (λ (row : ℕ × InterestRow K). row.0 < lower.next) (λ row. not (id == row.0)) lower.locals j.locals_below;
        pendings_below = j.pendings_below;
        told_below_above = j.told_below_above;
        told_below = j.told_below;
        live_real = j.live_real;
        for_above = each_append IsForAbove rising (m ∷ []) j.for_above (tt, tt);
        for_below = j.for_below;
        modes = fits_more upper rising falling m lower.pendings (λ row. tt) j.modes;
      }
  lower_hears now (Interest id mode options e) lower upper rising falling well drawn j =
      let m : Message K = Interest id mode options e in
      let row : InterestRow K = record { mode = mode; options = options; expr = e } in
      let pending : Pending = record { mode = mode; since = now } in
      let is : id ≡ lower.next = drawn in
      let next : ℕ = max lower.next (id + 1) in
      let later : lower.next ≤ next = omega arith in
      let low = max (top_of upper.held) (top_of upper.asks) in
      let within : low ≤ lower.next = rise_within low rising lower.next j.ids_rise in
      let locals_free : Each (λ (r : ℕ × InterestRow K). r.0 < id) lower.locals = subst (λ n. Each (λ (r : ℕ × InterestRow K). r.0 < n) lower.locals) (sym is) j.locals_below in
      let pendings_free : Each (λ (r : ℕ × Pending). r.0 < id) lower.pendings = subst (λ n. Each (λ (r : ℕ × Pending). r.0 < n) lower.pendings) (sym is) j.pendings_below in
      record {
        tokens_above = tokens_last cmp rising m upper.live ∙ j.tokens_above;
        tokens_below = j.tokens_below;
        interests_above = interests_last rising m (token_interests upper.held) ∙ ap (put_if (is_future mode && has_tokens options) id row) j.interests_above ∙ sym (tokens_put (is_future mode) id row lower.locals locals_free);
        clear_above = clear_last cmp rising m upper.live j.clear_above tt;
        clear_below = j.clear_below;
        ids_rise = rise_last low rising m lower.next next j.ids_rise (omega arith, omega arith);
        locals_below = each_put_if (λ (r : ℕ × InterestRow K). r.0 < next) (is_future mode) id row lower.locals (omega arith) locals_free (each_below_later lower.next next lower.locals later j.locals_below);
        pendings_below = each_put_if (λ (r : ℕ × Pending). r.0 < next) (is_current mode) id pending lower.pendings (omega arith) pendings_free (each_below_later lower.next next lower.pendings later j.pendings_below);
        told_below_above = j.told_below_above;
        told_below = each_below_later lower.next next lower.told later j.told_below;
        live_real = j.live_real;
        for_above = each_append IsForAbove rising (m ∷ []) j.for_above (well.1, tt);
        for_below = all_for_below_later lower.next next falling later j.for_below;
        modes =
            each_put_if (FitsModes upper (rising ++ m ∷ []) falling) (is_current mode) id pending lower.pendings (new_fits is within) pendings_free
            (old_fits lower.pendings pendings_free j.modes);
      }
    where
      apart : {A : Type 0} (n k : ℕ) → k < n → n ≡ k → A
      apart n k less is = absurd (omega arith)

      rising_fits : (pending : Pending) (x : Message K) → IsBelow id x → FitsRising (id, pending) x
      rising_fits pending (Interest k other o k2) less = λ same_. apart id k less same_
      rising_fits pending (DeclareToken k k2 interest n2) less = tt
      rising_fits pending (UndeclareToken k k2 n2) less = tt
      rising_fits pending (DeclareFinal interest) less = tt
      rising_fits pending (InterestFinal k) less = tt
      rising_fits pending (DeclareSubscriber k k2 interest) less = tt
      rising_fits pending (DeclareQueryable k k2 info interest) less = tt

      falling_fits : (pending : Pending) (x : Message K) → IsForBelow id x → FitsFalling (id, pending) x
      falling_fits pending (DeclareToken k k2 None n2) less = tt
      falling_fits pending (DeclareToken k k2 (Some interest) n2) less = λ same_. apart id interest less same_
      falling_fits pending (Interest k other o k2) less = tt
      falling_fits pending (UndeclareToken k k2 n2) less = tt
      falling_fits pending (DeclareFinal interest) less = tt
      falling_fits pending (InterestFinal k) less = tt
      falling_fits pending (DeclareSubscriber k k2 interest) less = tt
      falling_fits pending (DeclareQueryable k k2 info interest) less = tt

      new_fits : id ≡ lower.next → max (top_of upper.held) (top_of upper.asks) ≤ lower.next → FitsModes upper (rising ++ Interest id mode options e ∷ []) falling (id, record { mode = mode; since = now })
      new_fits is within = record {
        asked = each_weaker (λ (r : ℕ × Ask K). r.0 < id) (FitsAsk (id, record { mode = mode; since = now })) (λ r less. λ same_. apart id r.0 less same_) upper.asks (below_top id upper.asks (omega arith));
        rises =
            each_append (FitsRising (id, record { mode = mode; since = now })) rising (Interest id mode options e ∷ [])
            (each_weaker (IsBelow id) (FitsRising (id, record { mode = mode; since = now })) (rising_fits (record { mode = mode; since = now })) rising (subst (λ n. Each (IsBelow n) rising) (sym is) (rise_below (max (top_of upper.held) (top_of upper.asks)) rising lower.next j.ids_rise)))
            ((λ same_. refl), tt);
        falls = each_weaker (IsForBelow id) (FitsFalling (id, record { mode = mode; since = now })) (falling_fits (record { mode = mode; since = now })) falling (subst (λ n. Each (IsForBelow n) falling) (sym is) j.for_below);
      }

      old_fits : (rows : ById Pending) → Each (λ (r : ℕ × Pending). r.0 < id) rows → Each (FitsModes upper rising falling) rows → Each (FitsModes upper (rising ++ Interest id mode options e ∷ []) falling) rows
      old_fits [] free all = tt
      old_fits (r ∷ rows) free all = (
        record {
          asked = all.0.asked;
          rises = each_append (FitsRising r) rising (Interest id mode options e ∷ []) all.0.rises ((λ same_. apart id r.0 free.0 (sym same_)), tt);
          falls = all.0.falls;
        },
        old_fits rows free.1 all.1,
      )
  lower_hears now (DeclareToken id e (Some interest) node) lower upper rising falling well drawn j = never refl well.0
  lower_hears now (UndeclareToken id (Some e) node) lower upper rising falling well drawn j = never refl well.0
  lower_hears now (DeclareFinal interest) lower upper rising falling well drawn j = never refl well
  lower_hears now (DeclareSubscriber id e interest) lower upper rising falling well drawn j = never refl well
  lower_hears now (DeclareQueryable id e info interest) lower upper rising falling well drawn j = never refl well

  -- ---- the upper face

  -- one more message falls
  falls_more : (upper : Face K) (rising falling : List (Message K)) (m : Message K) (rows : ById Pending) → ((row : ℕ × Pending) → FitsModes upper rising falling row → FitsFalling row m) → Each (FitsModes upper rising falling) rows → Each (FitsModes upper rising (falling ++ m ∷ [])) rows
  falls_more upper rising falling m rows fits all =
      each_weaker (FitsModes upper rising falling) (FitsModes upper rising (falling ++ m ∷ []))
      (λ row one. record { asked = one.asked; rises = one.rises; falls = each_append (FitsFalling row) falling (m ∷ []) one.falls (fits row one, tt) }) rows all

  -- the asks of the upper face change
  asks_fit : (upper after : Face K) (rising falling : List (Message K)) (rows : ById Pending) → ((row : ℕ × Pending) → Each (FitsAsk row) upper.asks → Each (FitsAsk row) after.asks) → Each (FitsModes upper rising falling) rows → Each (FitsModes after rising falling) rows
  asks_fit upper after rising falling rows h all =
      each_weaker (FitsModes upper rising falling) (FitsModes after rising falling) (λ row one. record { asked = h row one.asked; rises = one.rises; falls = one.falls }) rows all

  answered_id : (id : ℕ) (e : K) (row : ℕ × Ask K) → (with_answer cmp id e row).0 ≡ row.0
  answered_id id e row = of_cond (λ (r : ℕ × Ask K). r.0 ≡ row.0) ((id == row.0) && not (is_among cmp e row.1.answered)) (row.0, record row.1 { answered = row.1.answered ++ e ∷ [] }) row (λ _. refl) (λ _. refl)

  answered_interest : (id : ℕ) (e : K) (row : ℕ × Ask K) → (with_answer cmp id e row).1.interest ≡ row.1.interest
  answered_interest id e row = of_cond (λ (r : ℕ × Ask K). r.1.interest ≡ row.1.interest) ((id == row.0) && not (is_among cmp e row.1.answered)) (row.0, record row.1 { answered = row.1.answered ++ e ∷ [] }) row (λ _. refl) (λ _. refl)

  pub top_answered : (interest : Option ℕ) (e : K) (asks : ById (Ask K)) → top_of (asks_answered cmp interest e asks) ≡ top_of asks
  top_answered None e asks = refl
  top_answered (Some id) e asks = go asks
    where
      go : (rows : ById (Ask K)) → top_of (map (with_answer cmp id e) rows) ≡ top_of rows
      go [] = refl
      go (row ∷ rows) = ap (λ n. max (n + 1) (top_of (map (with_answer cmp id e) rows))) (answered_id id e row) ∙ ap (max (row.0 + 1)) (go rows)

  fits_answered : (id : ℕ) (e : K) (pending : ℕ × Pending) (asks : ById (Ask K)) → Each (FitsAsk pending) asks → Each (FitsAsk pending) (map (with_answer cmp id e) asks)
  fits_answered id e pending asks all =
      each_map (FitsAsk pending) (with_answer cmp id e) asks
      (each_weaker (FitsAsk pending) (λ row. FitsAsk pending (with_answer cmp id e row))
      (λ row one. λ same_. one (same_ ∙ answered_id id e row) ∙ ap (λ (i : InterestRow K). is_future i.mode) (sym (answered_interest id e row))) asks all)

  -- an answer names an ask, which is that of its pending
  fits_named : (interest id node : ℕ) (e : K) (pending : ℕ × Pending) (asks : ById (Ask K)) → list_any (λ row. (interest == row.0) && is_of_mode id row.1) asks ≡ true → Each (FitsAsk pending) asks → FitsFalling pending (DeclareToken id e (Some interest) node)
  fits_named interest id node e pending [] some all = cc
  fits_named interest id node e pending (row ∷ asks) some all =
      ⊎_elim
      (λ here. λ same_.
      let parts = and_parts (interest == row.0) (is_of_mode id row.1) here in
      let agree = all.0 (same_ ∙ eqb-true interest row.0 parts.0) in
      mode_is (id == 0) (is_future row.1.interest.mode) parts.1 ∙ ap not (sym agree))
      (λ there. fits_named interest id node e pending asks there all.1)
      (or_cases ((interest == row.0) && is_of_mode id row.1) (list_any (λ r. (interest == r.0) && is_of_mode id r.1) asks) some)
    where
      mode_is : (zero_ future : Bool) → (if zero_ then not future else future) ≡ true → zero_ ≡ not future
      mode_is true true h = cc
      mode_is true false h = refl
      mode_is false true h = refl
      mode_is false false h = cc

  named_below : (interest id low : ℕ) (asks : ById (Ask K)) → top_of asks ≤ low → list_any (λ row. (interest == row.0) && is_of_mode id row.1) asks ≡ true → interest < low
  named_below interest id low [] h some = cc
  named_below interest id low (row ∷ asks) h some =
      let h2 : max (row.0 + 1) (top_of asks) ≤ low = h in
      ⊎_elim (λ here. let is : interest ≡ row.0 = eqb-true interest row.0 (and_parts (interest == row.0) (is_of_mode id row.1) here).0 in omega arith)
      (λ there. named_below interest id low asks (omega arith) there)
      (or_cases ((interest == row.0) && is_of_mode id row.1) (list_any (λ r. (interest == r.0) && is_of_mode id r.1) asks) some)

  pub upper_hears : (now : ℕ) (m : Message K) (lower upper : Face K) (rising falling : List (Message K)) → IsWell false upper.told upper.asks m → DrawsNext upper.next upper.told m
      → JointAgrees cmp lower upper rising falling → JointAgrees cmp lower (heard cmp now m upper) rising (falling ++ m ∷ [])
  upper_hears now (DeclareToken id e None node) lower upper rising falling well drawn j =
      let m : Message K = DeclareToken id e None node in
      record {
        tokens_above = j.tokens_above;
        tokens_below = tokens_last cmp falling m lower.live ∙ ap (told_pair cmp id e) j.tokens_below;
        interests_above = j.interests_above;
        clear_above = j.clear_above;
        clear_below = clear_last cmp falling m lower.live j.clear_below (subst (IsClear cmp m) (sym j.tokens_below) (clear_if_drawn id upper.next e upper.told j.told_below_above drawn));
        ids_rise = j.ids_rise;
        locals_below = j.locals_below;
        pendings_below = j.pendings_below;
        told_below_above = told_pair_below cmp id e upper.told upper.next j.told_below_above;
        told_below = j.told_below;
        live_real = j.live_real;
        for_above = j.for_above;
        for_below = each_append (IsForBelow lower.next) falling (m ∷ []) j.for_below (tt, tt);
        modes = asks_fit upper (heard cmp now m upper) rising (falling ++ m ∷ []) lower.pendings (λ row all. all) (falls_more upper rising falling m lower.pendings (λ row one. tt) j.modes);
      }
  upper_hears now (DeclareToken id e (Some interest) node) lower upper rising falling well drawn j =
      let m : Message K = DeclareToken id e (Some interest) node in
      let low = max (top_of upper.held) (top_of upper.asks) in
      let within : low ≤ lower.next = rise_within low rising lower.next j.ids_rise in
      record {
        tokens_above = j.tokens_above;
        tokens_below = tokens_last cmp falling m lower.live ∙ ap (told_pair cmp id e) j.tokens_below;
        interests_above = j.interests_above;
        clear_above = j.clear_above;
        clear_below = clear_last cmp falling m lower.live j.clear_below (subst (IsClear cmp m) (sym j.tokens_below) (clear_if_drawn id upper.next e upper.told j.told_below_above drawn));
        ids_rise = subst (λ n. InterestsRise (max (top_of upper.held) n) rising lower.next) (sym (top_answered (Some interest) e upper.asks)) j.ids_rise;
        locals_below = j.locals_below;
        pendings_below = j.pendings_below;
        told_below_above = told_pair_below cmp id e upper.told upper.next j.told_below_above;
        told_below = j.told_below;
        live_real = j.live_real;
        for_above = j.for_above;
        for_below = each_append (IsForBelow lower.next) falling (m ∷ []) j.for_below (named_below interest id lower.next upper.asks (omega arith) well.1, tt);
        modes = asks_fit upper (heard cmp now m upper) rising (falling ++ m ∷ []) lower.pendings (λ row all. fits_answered interest e row upper.asks all) (falls_more upper rising falling m lower.pendings (λ row one. fits_named interest id node e row upper.asks well.1 one.asked) j.modes);
      }
  upper_hears now (UndeclareToken id None node) lower upper rising falling well drawn j =
      let m : Message K = UndeclareToken id None node in
      record {
        tokens_above = j.tokens_above;
        tokens_below = tokens_last cmp falling m lower.live ∙ ap (without_id id) j.tokens_below;
        interests_above = j.interests_above;
        clear_above = j.clear_above;
        clear_below = clear_last cmp falling m lower.live j.clear_below tt;
        ids_rise = j.ids_rise;
        locals_below = j.locals_below;
        pendings_below = j.pendings_below;
        told_below_above = untold_each cmp (λ row. row.0 < upper.next) id None upper.told j.told_below_above;
        told_below = j.told_below;
        live_real = j.live_real;
        for_above = j.for_above;
        for_below = each_append (IsForBelow lower.next) falling (m ∷ []) j.for_below (tt, tt);
        modes = asks_fit upper (heard cmp now m upper) rising (falling ++ m ∷ []) lower.pendings (λ row all. all) (falls_more upper rising falling m lower.pendings (λ row one. tt) j.modes);
      }
  upper_hears now (UndeclareToken id (Some e) node) lower upper rising falling well drawn j =
      let m : Message K = UndeclareToken id (Some e) node in
      record {
        tokens_above = j.tokens_above;
        tokens_below = tokens_last cmp falling m lower.live ∙ ap (untold cmp id (Some e)) j.tokens_below;
        interests_above = j.interests_above;
        clear_above = j.clear_above;
        clear_below = clear_last cmp falling m lower.live j.clear_below (subst (IsClear cmp m) (sym j.tokens_below) (well.1, well.2));
        ids_rise = j.ids_rise;
        locals_below = j.locals_below;
        pendings_below = j.pendings_below;
        told_below_above = untold_each cmp (λ row. row.0 < upper.next) id (Some e) upper.told j.told_below_above;
        told_below = j.told_below;
        live_real = j.live_real;
        for_above = j.for_above;
        for_below = each_append (IsForBelow lower.next) falling (m ∷ []) j.for_below (tt, tt);
        modes = asks_fit upper (heard cmp now m upper) rising (falling ++ m ∷ []) lower.pendings (λ row all. all) (falls_more upper rising falling m lower.pendings (λ row one. tt) j.modes);
      }
  upper_hears now (DeclareFinal interest) lower upper rising falling well drawn j =
      let m : Message K = DeclareFinal interest in
      let less = top_filter (λ (row : ℕ × Ask K). not (interest == row.0)) upper.asks in
      record {
        tokens_above = j.tokens_above;
        tokens_below = tokens_last cmp falling m lower.live ∙ j.tokens_below;
        interests_above = j.interests_above;
        clear_above = j.clear_above;
        clear_below = clear_last cmp falling m lower.live j.clear_below tt;
        ids_rise = rise_low (max (top_of upper.held) (top_of upper.asks)) (max (top_of upper.held) (top_of (without_id interest upper.asks))) rising lower.next (omega arith) j.ids_rise;
        locals_below = j.locals_below;
        pendings_below = j.pendings_below;
        told_below_above = j.told_below_above;
        told_below = j.told_below;
        live_real = j.live_real;
        for_above = j.for_above;
        for_below = each_append (IsForBelow lower.next) falling (m ∷ []) j.for_below (tt, tt);
        modes = asks_fit upper (heard cmp now m upper) rising (falling ++ m ∷ []) lower.pendings (λ row all. each_filter (FitsAsk row) (λ (r : ℕ × Ask K). not (interest == r.0)) upper.asks all) (falls_more upper rising falling m lower.pendings (λ row one. tt) j.modes);
      }
  upper_hears now (DeclareSubscriber id e interest) lower upper rising falling well drawn j = more_falls (DeclareSubscriber id e interest) lower upper rising falling refl tt tt (λ row. tt) j
    where
      more_falls : (m : Message K) (lower upper : Face K) (rising falling : List (Message K)) → tokens_by cmp m (tokens_after cmp falling lower.live) ≡ tokens_after cmp falling lower.live → IsClear cmp m (tokens_after cmp falling lower.live) → IsForBelow lower.next m → ((row : ℕ × Pending) → FitsFalling row m)
          → JointAgrees cmp lower upper rising falling → JointAgrees cmp lower upper rising (falling ++ m ∷ [])
      more_falls m lower upper rising falling still clear for_ fits j = record {
        tokens_above = j.tokens_above;
        tokens_below = tokens_last cmp falling m lower.live ∙ still ∙ j.tokens_below;
        interests_above = j.interests_above;
        clear_above = j.clear_above;
        clear_below = clear_last cmp falling m lower.live j.clear_below clear;
        ids_rise = j.ids_rise;
        locals_below = j.locals_below;
        pendings_below = j.pendings_below;
        told_below_above = j.told_below_above;
        told_below = j.told_below;
        live_real = j.live_real;
        for_above = j.for_above;
        for_below = each_append (IsForBelow lower.next) falling (m ∷ []) j.for_below (for_, tt);
        modes = falls_more upper rising falling m lower.pendings (λ row one. fits row) j.modes;
      }
  upper_hears now (DeclareQueryable id e info interest) lower upper rising falling well drawn j =
      let m : Message K = DeclareQueryable id e info interest in
      record {
        tokens_above = j.tokens_above;
        tokens_below = tokens_last cmp falling m lower.live ∙ j.tokens_below;
        interests_above = j.interests_above;
        clear_above = j.clear_above;
        clear_below = clear_last cmp falling m lower.live j.clear_below tt;
        ids_rise = j.ids_rise;
        locals_below = j.locals_below;
        pendings_below = j.pendings_below;
        told_below_above = j.told_below_above;
        told_below = j.told_below;
        live_real = j.live_real;
        for_above = j.for_above;
        for_below = each_append (IsForBelow lower.next) falling (m ∷ []) j.for_below (tt, tt);
        modes = falls_more upper rising falling m lower.pendings (λ row one. tt) j.modes;
      }
  upper_hears now (Interest id mode options e) lower upper rising falling well drawn j = never well.0 refl
  upper_hears now (InterestFinal id) lower upper rising falling well drawn j = never well refl
