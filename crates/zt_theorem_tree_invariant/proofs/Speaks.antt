-- An end of a joint speaks the oldest message that waits for it to: its rows become what the message makes of them.
use Rattle.std.proofs.Common.{◌≡◌, inl, inr, ℕ, ◌+◌, ◌≤◌, ◌<◌, max, Bool, true, false, ◌&&◌, ◌==◌, not, List, [], ◌∷◌, Option, Some, refl, sym, ap, ◌∙◌, subst, arith, eq-eqb, eqb-true, ne_eqb, ⊎_elim}
use Rattle.std.proofs.lemmas.Bool.{and_parts, or_cases}
use Rattle.std.specs.Cmp.{IsTotalOrder}
use Rattle.std.specs.FinMap.Entries.{put}
use Rattle.std.specs.List.{list_any}
use Rattle.std.specs.Ordering.{nat_cmp}
use Rattle.std.specs.declared.cmp.Ordering.{Ordering}
use Rattle.std.specs.declared.cmp.Ordering.TheVariants.{Equal}
use Rattle.zt_protocol.specs.Interest.{is_current, is_future, has_tokens}
use Rattle.zt_protocol.specs.declared.interests.InterestMode.{InterestMode}
use Rattle.zt_protocol.specs.declared.interests.InterestOptions.{InterestOptions}
use Rattle.zt_protocol.specs.declared.messages.Message.{Message}
use Rattle.zt_protocol.specs.declared.messages.Message.TheVariants.{DeclareToken, Interest, InterestFinal}
use Rattle.zt_model.specs.Hearing.{put_if, told_pair}
use Rattle.zt_model.specs.Lists.{at_id, has_id, same, without_id}
use Rattle.zt_model.specs.Routing.{asked_as, unheld}
use Rattle.zt_model.specs.Rows.{Ask, ById, Face, InterestRow, Pending}
use Rattle.zt_model.specs.Transcript.{Each}
use Rattle.zt_laws.specs.Sound.{RiseFrom}
use Rattle.zt_laws.proofs.Keys.{same_is}
use Rattle.zt_laws.proofs.Lists.{by_test, each_fails, each_weaker, filter_all, never}
use Rattle.zt_laws.proofs.Registering.{put_there}
use Rattle.zt_theorem_tree_invariant.specs.Facts.{AreClear, FitsAsk, FitsModes, InterestsRise, IsClear, IsForBelow, JointAgrees, interests_after, interests_by, token_interests, tokens_after, tokens_by, top_of}
use Rattle.zt_theorem_tree_invariant.proofs.Waiting.{below_top, each_put_if, put_last, rise_low, tokens_put, tokens_without, top_filter, top_of_below}

-- ---- rows

pub without_none : {A : Type 0} (id : ℕ) (rows : ById A) → has_id id rows ≡ false → without_id id rows ≡ rows
without_none {A} id rows none_ = filter_all (λ (row : ℕ × A). not (id == row.0)) rows (each_weaker (λ (row : ℕ × A). (id == row.0) ≡ false) (λ row. not (id == row.0) ≡ true) (λ row h. ap not h) rows (each_fails (λ (row : ℕ × A). id == row.0) rows none_))

top_put_if : {A : Type 0} (b : Bool) (id : ℕ) (v : A) (rows : ById A) → top_of rows ≤ id → top_of (put_if b id v rows) ≤ id + 1
top_put_if b id v rows h = top_of_below (id + 1) (put_if b id v rows) (each_put_if (λ row. row.0 < id + 1) b id v rows (omega arith) (below_top id rows h) (below_top (id + 1) rows (omega arith)))

-- the row of an id that stands there as a pair
pair_at : {K : Type 0} (cmp : K → K → Ordering) (total : IsTotalOrder cmp) (equal_is_same : (a b : K) → cmp a b ≡ Equal → a ≡ b) (id low : ℕ) (e : K) (rows : ById K) → RiseFrom (λ row. row.0) low rows → list_any (λ row. (id == row.0) && same cmp e row.1) rows ≡ true → at_id id rows ≡ Some e
pair_at cmp total equal_is_same id low e [] rises some = cc
pair_at cmp total equal_is_same id low e (row ∷ rows) rises some =
    by_test (id == row.0)
    (λ here.
    by_test (same cmp e row.1)
    (λ own. rw here (ap Some (sym (same_is cmp total equal_is_same e row.1 own))))
    (λ own.
    let later : list_any (λ r. (id == r.0) && same cmp e r.1) rows ≡ true = rw (here, own) at some in
    let is : id ≡ row.0 = eqb-true id row.0 here in
    absurd (above id (row.0 + 1) rows rises.1 later (omega arith))))
    (λ here. rw here (pair_at cmp total equal_is_same id (row.0 + 1) e rows rises.1 (rw here at some)))
  where
    above : (k low : ℕ) (rows : ById _) → RiseFrom (λ row. row.0) low rows → list_any (λ r. (k == r.0) && same cmp e r.1) rows ≡ true → k < low → ⊥
    above k low [] rises some less = cc
    above k low (r ∷ rows) rises some less =
        let up : low ≤ r.0 = rises.0 in
        ⊎_elim (λ here. let is : k ≡ r.0 = eqb-true k r.0 (and_parts (k == r.0) (same cmp e r.1) here).0 in omega arith)
        (λ there. above k (r.0 + 1) rows rises.1 there (omega arith))
        (or_cases ((k == r.0) && same cmp e r.1) (list_any (λ x. (k == x.0) && same cmp e x.1) rows) some)

module _ {K : Type 0} (cmp : K → K → Ordering) where
  -- What agrees is seen in some fields of the ends alone, and pendings may go.
  pub lower_like : (lower after upper : Face K) (rising falling : List (Message K)) → after.live ≡ lower.live → after.told ≡ lower.told → after.next ≡ lower.next → after.locals ≡ lower.locals
      → ((P : ℕ × Pending → Type 0) → Each P lower.pendings → Each P after.pendings) → JointAgrees cmp lower upper rising falling → JointAgrees cmp after upper rising falling
  lower_like lower after upper rising falling live_ told_ next_ locals_ thin j = record {
    tokens_above = j.tokens_above ∙ sym told_;
    tokens_below = ap (tokens_after cmp falling) live_ ∙ j.tokens_below;
    interests_above = j.interests_above ∙ ap token_interests (sym locals_);
    clear_above = j.clear_above;
    clear_below = subst (AreClear cmp falling) (sym live_) j.clear_below;
    ids_rise = subst (InterestsRise (max (top_of upper.held) (top_of upper.asks)) rising) (sym next_) j.ids_rise;
    locals_below = subst (λ n. Each (λ row. row.0 < n) after.locals) (sym next_) (subst (λ (rows : ById (InterestRow K)). Each (λ row. row.0 < lower.next) rows) (sym locals_) j.locals_below);
    pendings_below = subst (λ n. Each (λ row. row.0 < n) after.pendings) (sym next_) (thin (λ row. row.0 < lower.next) j.pendings_below);
    told_below_above = j.told_below_above;
    told_below = subst (λ n. Each (λ row. row.0 < n) after.told) (sym next_) (subst (λ (rows : ById K). Each (λ row. row.0 < lower.next) rows) (sym told_) j.told_below);
    live_real = subst (λ (rows : ById K). Each (λ row. 1 ≤ row.0) rows) (sym live_) j.live_real;
    for_above = j.for_above;
    for_below = subst (λ n. Each (IsForBelow n) falling) (sym next_) j.for_below;
    modes = thin (FitsModes upper rising falling) j.modes;
  }

  pub upper_like : (lower upper after : Face K) (rising falling : List (Message K)) → after.live ≡ upper.live → after.told ≡ upper.told → after.next ≡ upper.next → after.held ≡ upper.held → after.asks ≡ upper.asks
      → JointAgrees cmp lower upper rising falling → JointAgrees cmp lower after rising falling
  upper_like lower upper after rising falling live_ told_ next_ held_ asks_ j = record {
    tokens_above = ap (tokens_after cmp rising) live_ ∙ j.tokens_above;
    tokens_below = j.tokens_below ∙ sym told_;
    interests_above = ap (λ (rows : ById (InterestRow K)). interests_after rising (token_interests rows)) held_ ∙ j.interests_above;
    clear_above = subst (AreClear cmp rising) (sym live_) j.clear_above;
    clear_below = j.clear_below;
    ids_rise = subst (λ (rows : ById (InterestRow K)). InterestsRise (max (top_of rows) (top_of after.asks)) rising lower.next) (sym held_) (subst (λ (rows : ById (Ask K)). InterestsRise (max (top_of upper.held) (top_of rows)) rising lower.next) (sym asks_) j.ids_rise);
    locals_below = j.locals_below;
    pendings_below = j.pendings_below;
    told_below_above = subst (λ n. Each (λ row. row.0 < n) after.told) (sym next_) (subst (λ (rows : ById K). Each (λ row. row.0 < upper.next) rows) (sym told_) j.told_below_above);
    told_below = j.told_below;
    live_real = j.live_real;
    for_above = j.for_above;
    for_below = j.for_below;
    modes = each_weaker (FitsModes upper rising falling) (FitsModes after rising falling) (λ row one. record { asked = subst (λ (rows : ById (Ask K)). Each (FitsAsk row) rows) (sym asks_) one.asked; rises = one.rises; falls = one.falls }) lower.pendings j.modes;
  }

  -- ---- the upper end speaks

  -- a token, or that one is gone
  pub upper_speaks_token : (m : Message K) (live : ById K) (lower upper : Face K) (rising falling : List (Message K)) → live ≡ tokens_by cmp m upper.live → ((rows : ById (InterestRow K)) → interests_by m rows ≡ rows)
      → ((low : ℕ) → InterestsRise low (m ∷ rising) lower.next → InterestsRise low rising lower.next) → JointAgrees cmp lower upper (m ∷ rising) falling → JointAgrees cmp lower (record upper { live = live }) rising falling
  upper_speaks_token m live lower upper rising falling is still rises j = record {
    tokens_above = ap (tokens_after cmp rising) is ∙ j.tokens_above;
    tokens_below = j.tokens_below;
    interests_above = ap (interests_after rising) (sym (still (token_interests upper.held))) ∙ j.interests_above;
    clear_above = subst (AreClear cmp rising) (sym is) j.clear_above.1;
    clear_below = j.clear_below;
    ids_rise = rises (max (top_of upper.held) (top_of upper.asks)) j.ids_rise;
    locals_below = j.locals_below;
    pendings_below = j.pendings_below;
    told_below_above = j.told_below_above;
    told_below = j.told_below;
    live_real = j.live_real;
    for_above = j.for_above.1;
    for_below = j.for_below;
    modes = each_weaker (FitsModes upper (m ∷ rising) falling) (FitsModes (record upper { live = live }) rising falling) (λ row one. record { asked = one.asked; rises = one.rises.1; falls = one.falls }) lower.pendings j.modes;
  }

  -- an interest, which is held and asked
  pub upper_asks : (pendings : List (ℕ × ℕ)) (id : ℕ) (mode : InterestMode) (options : InterestOptions) (e : Option K) (lower upper : Face K) (rising falling : List (Message K))
      → JointAgrees cmp lower upper (Interest id mode options e ∷ rising) falling → JointAgrees cmp lower (asked_as pendings id (record { mode = mode; options = options; expr = e }) upper) rising falling
  upper_asks pendings id mode options e lower upper rising falling j =
      let row : InterestRow K = record { mode = mode; options = options; expr = e } in
      let ask : Ask K = record { interest = row; pendings = pendings; answered = [] } in
      let low : max (top_of upper.held) (top_of upper.asks) ≤ id = j.ids_rise.0 in
      let held_top = top_put_if (is_future mode) id row upper.held (omega arith) in
      let asks_top = top_put_if (is_current mode) id ask upper.asks (omega arith) in
      record {
        tokens_above = j.tokens_above;
        tokens_below = j.tokens_below;
        interests_above = ap (interests_after rising) (tokens_put (is_future mode) id row upper.held (below_top id upper.held (omega arith))) ∙ j.interests_above;
        clear_above = j.clear_above.1;
        clear_below = j.clear_below;
        ids_rise = rise_low (id + 1) (max (top_of (put_if (is_future mode) id row upper.held)) (top_of (put_if (is_current mode) id ask upper.asks))) rising lower.next (omega arith) j.ids_rise.1;
        locals_below = j.locals_below;
        pendings_below = j.pendings_below;
        told_below_above = j.told_below_above;
        told_below = j.told_below;
        live_real = j.live_real;
        for_above = j.for_above.1;
        for_below = j.for_below;
        modes =
            each_weaker (FitsModes upper (Interest id mode options e ∷ rising) falling) (FitsModes (asked_as pendings id row upper) rising falling)
            (λ pending one. record {
              asked = each_put_if (FitsAsk pending) (is_current mode) id ask upper.asks one.rises.0 (below_top id upper.asks (omega arith)) one.asked;
              rises = one.rises.1;
              falls = one.falls;
            }) lower.pendings j.modes;
      }

  -- an interest that is refused, since it doesn't ask for tokens to come
  pub upper_is_refused : (id : ℕ) (mode : InterestMode) (options : InterestOptions) (e : Option K) (lower upper : Face K) (rising falling : List (Message K)) → (is_future mode && has_tokens options) ≡ false
      → JointAgrees cmp lower upper (Interest id mode options e ∷ rising) falling → JointAgrees cmp lower upper rising falling
  upper_is_refused id mode options e lower upper rising falling none_ j =
      let row : InterestRow K = record { mode = mode; options = options; expr = e } in
      let low : max (top_of upper.held) (top_of upper.asks) ≤ id = j.ids_rise.0 in
      record {
        tokens_above = j.tokens_above;
        tokens_below = j.tokens_below;
        interests_above = ap (λ b. interests_after rising (put_if b id row (token_interests upper.held))) (sym none_) ∙ j.interests_above;
        clear_above = j.clear_above.1;
        clear_below = j.clear_below;
        ids_rise = rise_low (id + 1) (max (top_of upper.held) (top_of upper.asks)) rising lower.next (omega arith) j.ids_rise.1;
        locals_below = j.locals_below;
        pendings_below = j.pendings_below;
        told_below_above = j.told_below_above;
        told_below = j.told_below;
        live_real = j.live_real;
        for_above = j.for_above.1;
        for_below = j.for_below;
        modes = each_weaker (FitsModes upper (Interest id mode options e ∷ rising) falling) (FitsModes upper rising falling) (λ row one. record { asked = one.asked; rises = one.rises.1; falls = one.falls }) lower.pendings j.modes;
      }

  -- the end of an interest
  pub upper_ends : (id : ℕ) (lower upper : Face K) (rising falling : List (Message K)) → JointAgrees cmp lower upper (InterestFinal id ∷ rising) falling → JointAgrees cmp lower (unheld id upper) rising falling
  upper_ends id lower upper rising falling j =
      let less = top_filter (λ (row : ℕ × InterestRow K). not (id == row.0)) upper.held in
      record {
        tokens_above = j.tokens_above;
        tokens_below = j.tokens_below;
        interests_above = ap (interests_after rising) (tokens_without id upper.held) ∙ j.interests_above;
        clear_above = j.clear_above.1;
        clear_below = j.clear_below;
        ids_rise = rise_low (max (top_of upper.held) (top_of upper.asks)) (max (top_of (without_id id upper.held)) (top_of upper.asks)) rising lower.next (omega arith) j.ids_rise;
        locals_below = j.locals_below;
        pendings_below = j.pendings_below;
        told_below_above = j.told_below_above;
        told_below = j.told_below;
        live_real = j.live_real;
        for_above = j.for_above.1;
        for_below = j.for_below;
        modes = each_weaker (FitsModes upper (InterestFinal id ∷ rising) falling) (FitsModes (unheld id upper) rising falling) (λ row one. record { asked = one.asked; rises = one.rises.1; falls = one.falls }) lower.pendings j.modes;
      }

  -- ---- the lower end speaks

  -- whatever is spoken there, the live rows alone change
  pub lower_speaks : (m : Message K) (live : ById K) (lower upper : Face K) (rising falling : List (Message K)) → live ≡ tokens_by cmp m lower.live → Each (λ row. 1 ≤ row.0) live
      → JointAgrees cmp lower upper rising (m ∷ falling) → JointAgrees cmp (record lower { live = live }) upper rising falling
  lower_speaks m live lower upper rising falling is real j = record {
    tokens_above = j.tokens_above;
    tokens_below = ap (tokens_after cmp falling) is ∙ j.tokens_below;
    interests_above = j.interests_above;
    clear_above = j.clear_above;
    clear_below = subst (AreClear cmp falling) (sym is) j.clear_below.1;
    ids_rise = j.ids_rise;
    locals_below = j.locals_below;
    pendings_below = j.pendings_below;
    told_below_above = j.told_below_above;
    told_below = j.told_below;
    live_real = real;
    for_above = j.for_above;
    for_below = j.for_below.1;
    modes = each_weaker (FitsModes upper rising (m ∷ falling)) (FitsModes upper rising falling) (λ row one. record { asked = one.asked; rises = one.rises; falls = one.falls.1 }) lower.pendings j.modes;
  }

  -- ---- what a token makes of live rows

  module _ (total : IsTotalOrder cmp) (equal_is_same : (a b : K) → cmp a b ≡ Equal → a ≡ b) where
    -- a token that is clear is put where its pair is, or last
    pub put_is_told : (id : ℕ) (e : K) (interest : Option ℕ) (node : ℕ) (rows : ById K) → (id == 0) ≡ false → RiseFrom (λ row. row.0) 0 rows → IsClear cmp (DeclareToken id e interest node) rows → put nat_cmp id e rows ≡ told_pair cmp id e rows
    put_is_told id e interest node rows real rises (inl zero_) = never (eq-eqb id 0 zero_) real
    put_is_told id e interest node rows real rises (inr (inl there)) = rw (real, there) (put_there id 0 e rows rises (pair_at cmp total equal_is_same id 0 e rows rises there))
    put_is_told id e interest node rows real rises (inr (inr below)) =
        put_last id e rows below ∙ sym (rw (real, absent rows below) refl)
      where
        absent : (xs : ById K) → Each (λ row. row.0 < id) xs → list_any (λ row. (id == row.0) && same cmp e row.1) xs ≡ false
        absent [] all = refl
        absent (row ∷ xs) all = let less : row.0 < id = all.0 in let miss : (id == row.0) ≡ false = ne_eqb id row.0 (λ is. omega arith) in rw miss (absent xs all.1)

    -- it names no id of another expression
    pub not_in_use : (id : ℕ) (e x : K) (interest : Option ℕ) (node : ℕ) (rows : ById K) → (id == 0) ≡ false → RiseFrom (λ row. row.0) 0 rows → IsClear cmp (DeclareToken id e interest node) rows → at_id id rows ≡ Some x → x ≡ e
    not_in_use id e x interest node rows real rises (inl zero_) at_ = never (eq-eqb id 0 zero_) real
    not_in_use id e x interest node rows real rises (inr (inl there)) at_ = let own = pair_at cmp total equal_is_same id 0 e rows rises there in let both : Some x ≡ Some e = sym at_ ∙ own in cc
    not_in_use id e x interest node rows real rises (inr (inr below)) at_ = absurd (no_row rows below at_)
      where
        no_row : (xs : ById K) → Each (λ row. row.0 < id) xs → at_id id xs ≡ Some x → ⊥
        no_row [] all found = cc
        no_row (row ∷ xs) all found = let less : row.0 < id = all.0 in let miss : (id == row.0) ≡ false = ne_eqb id row.0 (λ is. omega arith) in no_row xs all.1 (rw miss at found)
