-- What the answers to an interest leave at the face that asked, and that it keeps what it should then.
use Rattle.std.proofs.Common.{◌≡◌, ℕ, ◌+◌, ◌≤◌, ◌<◌, max, Bool, true, false, not, ◌&&◌, ◌||◌, ◌==◌, List, [], ◌∷◌, ◌++◌, filter, length, Option, Some, None, refl, sym, ap, ◌∙◌, subst, arith, append_assoc, append-nil, ⊎_elim, eq-eqb}
use Rattle.std.proofs.Math.Bool.{or-false}
use Rattle.std.proofs.lemmas.Bool.{and_parts, and_from, or_left, or_right, or_cases, or_parts, not_from_false, not-true}
use Rattle.std.proofs.lemmas.Cmp.{ranked}
use Rattle.std.specs.Cmp.{IsTotalOrder}
use Rattle.std.specs.List.{list_any}
use Rattle.std.specs.Ordering.{nat_cmp}
use Rattle.std.specs.FinMap.Entries.{put, by_order}
use Rattle.std.specs.declared.cmp.Ordering.{Ordering}
use Rattle.std.specs.declared.cmp.Ordering.TheVariants.{Less, Equal, Greater}
use Rattle.zt_region.specs.declared.region.WhatAmI.{WhatAmI}
use Rattle.zt_protocol.specs.Interest.{is_current, is_future, has_tokens}
use Rattle.zt_protocol.specs.declared.interests.InterestMode.{InterestMode}
use Rattle.zt_protocol.specs.declared.messages.Message.TheVariants.{DeclareFinal, DeclareToken}
use Rattle.zt_model.specs.Hat.{hat_of}
use Rattle.zt_model.specs.Hearing.{heard, heard_all, put_if}
use Rattle.zt_model.specs.Lists.{at_id, has_id, is_among, same}
use Rattle.zt_model.specs.Rows.{Ask, ById, Face, InterestRow, Rows}
use Rattle.zt_model.specs.Says.{answered_expressions, answers_from, asked, final_of, told_id}
use Rattle.zt_model.specs.Transcript.{Each}
use Rattle.zt_model.specs.Visible.{is_admitted, is_visible, keeps, visible_expressions}
use Rattle.zt_model.specs.Wants.{asks_token, covers, is_about, seeks, wants}
use Rattle.zt_laws.specs.Keeping.{KeepsRight}
use Rattle.zt_laws.specs.Sound.{IsToldInOrder}
use Rattle.zt_laws.proofs.Keys.{InKeyOrder, among-filter, in_order_filter, once_in_order}
use Rattle.zt_laws.proofs.Lists.{by_test, never, each_append, each_passes, each_weaker, any-append}
use Rattle.zt_laws.proofs.Told.{names, in_order_numbered, names-numbered, numbered, told_id_each, told_id_names, told_id_none, told_id_row, told_pair_new, told_pair_old}
pub use Rattle.zt_laws.specs.Effects.{next_after_answers, not_named, told_after_answers}
use Rattle.zt_laws.proofs.Visible.{admitted_visible, among-visible_expressions, visible_expressions_in_order}

-- ---- a row put under a new id

or_back : (a b : Bool) → (a || b) ≡ (b || a)
or_back true true = refl
or_back true false = refl
or_back false true = refl
or_back false false = refl

or_later : (a b t : Bool) → (a || (b || t)) ≡ ((a || b) || t)
or_later true b t = refl
or_later false b t = refl

pub any_put_new : {A : Type 0} (test : ℕ × A → Bool) (id : ℕ) (v : A) (rows : ById A) → has_id id rows ≡ false → list_any test (put nat_cmp id v rows) ≡ (list_any test rows || test (id, v))
any_put_new test id v [] new_ = or_back (test (id, v)) false
any_put_new test id v (row ∷ rows) new_ =
    let apart = or_parts (id == row.0) (has_id id rows) new_ in
    elim (nat_cmp id row.0) as (λ o. nat_cmp id row.0 ≡ o → list_any test (by_order o ((id, v) ∷ row ∷ rows) ((row.0, v) ∷ rows) (row ∷ put nat_cmp id v rows)) ≡ ((test row || list_any test rows) || test (id, v))) [
      | Less ↦ λ is. or_back (test (id, v)) (test row || list_any test rows)
      | Equal ↦ λ is. never (eq-eqb id row.0 (ranked id row.0 Equal (sym is))) apart.0
      | Greater ↦ λ is. ap (λ b. test row || b) (any_put_new test id v rows apart.1) ∙ or_later (test row) (list_any test rows) (test (id, v))
    ] refl

-- whether some interest that is held passes a test, after one more is held where it asks for what comes later
any_put_if : {A : Type 0} (b : Bool) (test : ℕ × A → Bool) (id : ℕ) (v : A) (rows : ById A) → (b && has_id id rows) ≡ false → list_any test (put_if b id v rows) ≡ (list_any test rows || (b && test (id, v)))
any_put_if true test id v rows new_ = any_put_new test id v rows new_
any_put_if false test id v rows new_ = or_back false (list_any test rows)

module _ {K : Type 0} (matching : K → K → Bool) where
  pub seeks_asked : (mode : WhatAmI) (id : ℕ) (interest : InterestRow K) (f : Face K) (e : K) → (is_future interest.mode && has_id id f.held) ≡ false
      → seeks matching mode (asked id interest f) e ≡ (seeks matching mode f e || (is_future interest.mode && asks_token matching interest e))
  unfolding seeks wants
  seeks_asked mode id interest f e new_ =
      ap (λ b. (hat_of mode f.region).is_told_unasked f.region || b) (any_put_if (is_future interest.mode) (λ row. asks_token matching row.1 e) id interest f.held new_)
      ∙ or_later ((hat_of mode f.region).is_told_unasked f.region) (list_any (λ row. asks_token matching row.1 e) f.held) (is_future interest.mode && asks_token matching interest e)

  pub covers_asked : (mode : WhatAmI) (id : ℕ) (interest : InterestRow K) (f : Face K) (e : K) → (is_future interest.mode && has_id id f.held) ≡ false
      → covers matching mode (asked id interest f) e ≡ (covers matching mode f e || (is_future interest.mode && (is_current interest.mode && asks_token matching interest e)))
  unfolding covers
  covers_asked mode id interest f e new_ =
      ap (λ b. (hat_of mode f.region).is_told_unasked f.region || b) (any_put_if (is_future interest.mode) (λ row. is_current row.1.mode && asks_token matching row.1 e) id interest f.held new_)
      ∙ or_later ((hat_of mode f.region).is_told_unasked f.region) (list_any (λ row. is_current row.1.mode && asks_token matching row.1 e) f.held) (is_future interest.mode && (is_current interest.mode && asks_token matching interest e))

module _ {K : Type 0} (cmp : K → K → Ordering) where
  -- ---- answers with ids

  -- what holds of the rows while answers from `next` on are heard, where the first of them saw `told`
  record CanAnswer (told : ById K) (next : ℕ) (f : Face K) : Type 0 where
    next_is : f.next ≡ next
    next_is_real : 1 ≤ next
    below : Each (λ row. row.0 < next) f.told
    old_below : (e : K) (id : ℕ) → told_id cmp e told ≡ Some id → id < next
    old_there : (e : K) (id : ℕ) → told_id cmp e told ≡ Some id → list_any (λ row. (id == row.0) && same cmp e row.1) f.told ≡ true

  can_answer_old : (told : ById K) (next : ℕ) (f h : Face K) → h.next ≡ f.next → h.told ≡ f.told → CanAnswer told next f → CanAnswer told next h
  can_answer_old told next f h next_ told_ can = record {
    next_is = next_ ∙ can.next_is;
    next_is_real = can.next_is_real;
    below = subst (Each (λ row. row.0 < next)) (sym told_) can.below;
    old_below = can.old_below;
    old_there = λ e id is. ap (λ (rows : ById K). list_any (λ row. (id == row.0) && same cmp e row.1) rows) told_ ∙ can.old_there e id is;
  }

  can_answer_new : (told : ById K) (next : ℕ) (e : K) (f h : Face K) → h.next ≡ next + 1 → h.told ≡ f.told ++ (next, e) ∷ [] → CanAnswer told next f → CanAnswer told (next + 1) h
  can_answer_new told next e f h next_ told_ can =
      let real : 1 ≤ next = can.next_is_real in
      record {
        next_is = next_;
        next_is_real = omega arith;
        below = subst (Each (λ row. row.0 < next + 1)) (sym told_) (each_append (λ row. row.0 < next + 1) f.told ((next, e) ∷ []) (each_weaker (λ row. row.0 < next) (λ row. row.0 < next + 1) (λ row less. omega arith) f.told can.below) (omega arith, tt));
        old_below = λ x id is. let less : id < next = can.old_below x id is in omega arith;
        old_there = λ x id is.
            ap (λ (rows : ById K). list_any (λ row. (id == row.0) && same cmp x row.1) rows) told_
            ∙ any-append (λ row. (id == row.0) && same cmp x row.1) f.told ((next, e) ∷ [])
            ∙ or_left (list_any (λ row. (id == row.0) && same cmp x row.1) f.told) (list_any {X = ℕ × K} (λ row. (id == row.0) && same cmp x row.1) ((next, e) ∷ [])) (can.old_there x id is);
      }

  abbrev Answered : ById K → ℕ → List K → Face K → Face K → Type 0
  Answered told next es f after = (after.told ≡ f.told ++ numbered next (not_named cmp told es)) × (after.next ≡ next + length (not_named cmp told es))

  module _ (matching : K → K → Bool) where
    heard_answers_from : (now : ℕ) (told : ById K) (mode : InterestMode) (id : ℕ) → is_future mode ≡ true → (es : List K) (next : ℕ) (f : Face K) → CanAnswer told next f
        → Answered told next es f (heard_all cmp now (answers_from cmp matching next told mode id es) f)
    unfolding answers_from heard_all
    heard_answers_from now told mode id future [] next f can = (sym (append-nil f.told), can.next_is ∙ omega arith)
    heard_answers_from now told mode id future (e ∷ es) next f can =
        rw future
        (elim (told_id cmp e told) as (λ o. told_id cmp e told ≡ o
        → Answered told next (e ∷ es) f (heard_all cmp now (elim o [ None ↦ DeclareToken next e (Some id) 0 ∷ answers_from cmp matching (next + 1) told mode id es | Some old ↦ DeclareToken old e (Some id) 0 ∷ answers_from cmp matching next told mode id es ]) f)) [
          | None ↦ λ is.
              let h = heard cmp now (DeclareToken next e (Some id) 0) f in
              let f_next : f.next ≡ next = can.next_is in
              let next_ : h.next ≡ next + 1 = ap (λ n. max n (next + 1)) f_next ∙ omega arith in
              let told_ : h.told ≡ f.told ++ (next, e) ∷ [] = told_pair_new cmp next e f.told can.next_is_real can.below in
              let more = heard_answers_from now told mode id future es (next + 1) h (can_answer_new told next e f h next_ told_ can) in
              let new_ : not (names cmp e told) ≡ true = not_from_false (names cmp e told) (told_id_none cmp e told is) in
              rw new_ (
                more.0 ∙ ap (λ rows. rows ++ numbered (next + 1) (not_named cmp told es)) told_ ∙ append_assoc f.told ((next, e) ∷ []) (numbered (next + 1) (not_named cmp told es)),
                more.1 ∙ omega arith,
              )
          | Some old ↦ λ is.
              let h = heard cmp now (DeclareToken old e (Some id) 0) f in
              let f_next : f.next ≡ next = can.next_is in
              let less : old < next = can.old_below e old is in
              let next_ : h.next ≡ f.next = omega arith in
              let told_ : h.told ≡ f.told = told_pair_old cmp old e f.told (can.old_there e old is) in
              let more = heard_answers_from now told mode id future es next h (can_answer_old told next f h next_ told_ can) in
              let there : names cmp e told ≡ true = told_id_names cmp e told old is in
              rw there
              (more.0 ∙ ap (λ rows. rows ++ numbered next (not_named cmp told es)) told_, more.1)
        ] refl)

    -- answers with the id 0 leave the face as it was, but for its asks
    heard_zero_answers : (now : ℕ) (told : ById K) (mode : InterestMode) (id : ℕ) → is_future mode ≡ false → (es : List K) (next : ℕ) (f : Face K) → 1 ≤ f.next
        → ((heard_all cmp now (answers_from cmp matching next told mode id es) f).told ≡ f.told) × ((heard_all cmp now (answers_from cmp matching next told mode id es) f).next ≡ f.next)
    unfolding answers_from heard_all
    heard_zero_answers now told mode id future [] next f real = (refl, refl)
    heard_zero_answers now told mode id future (e ∷ es) next f real =
        let h = heard cmp now (DeclareToken 0 e (Some id) 0) f in
        let next_ : h.next ≡ f.next = omega arith in
        let more = heard_zero_answers now told mode id future es next h (subst (λ n. 1 ≤ n) (sym next_) real) in
        rw future (more.0, more.1 ∙ next_)

    pub heard_answers : (now : ℕ) (mode : InterestMode) (id : ℕ) (es : List K) (f : Face K) → IsToldInOrder cmp f.told f.next
        → ((heard_all cmp now (answers_from cmp matching f.next f.told mode id es) f).told ≡ told_after_answers cmp matching mode es f) × ((heard_all cmp now (answers_from cmp matching f.next f.told mode id es) f).next ≡ next_after_answers cmp matching mode es f)
    heard_answers now mode id es f ordered =
        by_test (is_future mode)
        (λ future. rw future (heard_answers_from now f.told mode id future es f.next f (record {
          next_is = refl;
          next_is_real = ordered.next_is_real;
          below = ordered.below;
          old_below = λ e old is. told_id_each cmp (λ k. k < f.next) e f.told old ordered.below is;
          old_there = λ e old is. told_id_row cmp e f.told old is;
        })))
        (λ future. rw future (heard_zero_answers now f.told mode id future es f.next f ordered.next_is_real))

    -- a final changes no told row
    pub heard_final : (now id : ℕ) (f : Face K) → ((heard_all cmp now (final_of id f) f).told ≡ f.told) × ((heard_all cmp now (final_of id f) f).next ≡ f.next)
    unfolding heard_all
    heard_final now id f = cases (at_id id f.asks)
      where
        cases : (o : Option (Ask K)) → ((heard_all cmp now (elim o [ None ↦ [] | Some ask ↦ elim ask.pendings [ [] ↦ DeclareFinal id ∷ [] | pending ∷ pendings ↦ [] ] ]) f).told ≡ f.told) × ((heard_all cmp now (elim o [ None ↦ [] | Some ask ↦ elim ask.pendings [ [] ↦ DeclareFinal id ∷ [] | pending ∷ pendings ↦ [] ] ]) f).next ≡ f.next)
        cases None = (refl, refl)
        cases (Some ask) = elim ask.pendings as (λ ps. ((heard_all cmp now (elim ps [ [] ↦ DeclareFinal id ∷ [] | pending ∷ pendings ↦ [] ]) f).told ≡ f.told) × ((heard_all cmp now (elim ps [ [] ↦ DeclareFinal id ∷ [] | pending ∷ pendings ↦ [] ]) f).next ≡ f.next)) [
          | [] ↦ (refl, refl)
          | pending ∷ pendings ↦ (refl, refl)
        ]

absorbed : (a b : Bool) → (a || (not a && b)) ≡ (a || b)
absorbed true b = refl
absorbed false b = refl

module _ {K : Type 0} (cmp : K → K → Ordering) (matching : K → K → Bool) (total : IsTotalOrder cmp) where
  -- the answers stand in key order
  pub answered_in_order : (g : Rows K) (interest : InterestRow K) (f : Face K) → InKeyOrder cmp (answered_expressions cmp matching g interest f)
  unfolding answered_expressions
  answered_in_order g interest f =
      by_test (is_current interest.mode && has_tokens interest.options)
      (λ here. rw here (in_order_filter cmp (is_about matching interest.expr) (visible_expressions cmp g f.region) (visible_expressions_in_order cmp total g f.region)))
      (λ here. rw here tt)

  -- the told rows are in order after an interest is answered
  pub told_in_order_after_answers : (mode : InterestMode) (es : List K) (f : Face K) → InKeyOrder cmp es → IsToldInOrder cmp f.told f.next → IsToldInOrder cmp (told_after_answers cmp matching mode es f) (next_after_answers cmp matching mode es f)
  told_in_order_after_answers mode es f keys ordered =
      by_test (is_future mode)
      (λ future. rw future
      (in_order_numbered cmp total (not_named cmp f.told es) f.told f.next
      (once_in_order cmp (not_named cmp f.told es) (in_order_filter cmp (λ e. not (names cmp e f.told)) es keys))
      (each_passes_not (λ e. names cmp e f.told) es) ordered))
      (λ future. rw future ordered)
    where
      each_passes_not : (p : K → Bool) (xs : List K) → Each (λ x. p x ≡ false) (filter (λ x. not (p x)) xs)
      each_passes_not p xs = each_weaker (λ x. not (p x) ≡ true) (λ x. p x ≡ false) (λ x h. not-true (p x) h) (filter (λ x. not (p x)) xs) (each_passes (λ x. not (p x)) xs)

  module _ (equal_is_same : (a b : K) → cmp a b ≡ Equal → a ≡ b) where
    -- an expression is among the answers exactly where it is visible and asked for
    pub among-answered : (g : Rows K) (interest : InterestRow K) (f : Face K) (x : K) → is_among cmp x (answered_expressions cmp matching g interest f) ≡ ((is_current interest.mode && has_tokens interest.options) && (is_about matching interest.expr x && is_visible cmp g f.region x))
    unfolding answered_expressions
    among-answered g interest f x =
        by_test (is_current interest.mode && has_tokens interest.options)
        (λ here. rw here
        (among-filter cmp total equal_is_same (is_about matching interest.expr) x (visible_expressions cmp g f.region)
        ∙ ap (λ b. is_about matching interest.expr x && b) (among-visible_expressions cmp total g f.region x)))
        (λ here. rw here refl)

    -- after the answers a face keeps what it kept, and the answers too where it asked for what comes later
    pub names_after_answers : (mode : InterestMode) (es : List K) (f : Face K) (x : K) → names cmp x (told_after_answers cmp matching mode es f) ≡ (names cmp x f.told || (is_future mode && is_among cmp x es))
    names_after_answers mode es f x =
        by_test (is_future mode)
        (λ future. rw future
        (any-append (λ row. same cmp x row.1) f.told (numbered f.next (not_named cmp f.told es))
        ∙ ap (λ b. names cmp x f.told || b) (names-numbered cmp x f.next (not_named cmp f.told es) ∙ among-filter cmp total equal_is_same (λ e. not (names cmp e f.told)) x es)
        ∙ absorbed (names cmp x f.told) (is_among cmp x es)))
        (λ future. rw future (sym (or-false (names cmp x f.told))))

    -- After an interest is held and answered the face keeps what it should.
    pub keeps_after_asking : (g0 g2 : Rows K) (f0 f2 : Face K) (interest : InterestRow K)
        → ((x : K) → keeps cmp f2 x ≡ (keeps cmp f0 x || (is_future interest.mode && ((is_current interest.mode && has_tokens interest.options) && (is_about matching interest.expr x && is_visible cmp g0 f0.region x)))))
        → ((x : K) → is_visible cmp g2 f2.region x ≡ is_visible cmp g0 f0.region x)
        → ((x : K) → is_admitted cmp g2 f2.region x ≡ is_admitted cmp g0 f0.region x)
        → ((x : K) → seeks matching g2.mode f2 x ≡ (seeks matching g0.mode f0 x || (is_future interest.mode && asks_token matching interest x)))
        → ((x : K) → covers matching g2.mode f2 x ≡ (covers matching g0.mode f0 x || (is_future interest.mode && (is_current interest.mode && asks_token matching interest x))))
        → KeepsRight cmp matching g0 f0 → KeepsRight cmp matching g2 f2
    keeps_after_asking g0 g2 f0 f2 interest kept_ visible_ admitted_ seeks_ covers_ right = record {
      kept_is_visible = λ x h.
          ⊎_elim (λ old. visible_ x ∙ right.kept_is_visible x old) (λ new_. visible_ x ∙ (told_parts x new_).3)
          (or_cases (keeps cmp f0 x) (told x) (sym (kept_ x) ∙ h));
      kept_is_sought = λ x h.
          ⊎_elim (λ old. seeks_ x ∙ or_left (seeks matching g0.mode f0 x) (is_future interest.mode && asks_token matching interest x) (right.kept_is_sought x old))
          (λ new_.
          let parts = told_parts x new_ in
          seeks_ x ∙ or_right (seeks matching g0.mode f0 x) (is_future interest.mode && asks_token matching interest x)
          (and_from (is_future interest.mode) (asks_token matching interest x) parts.0 (and_from (has_tokens interest.options) (is_about matching interest.expr x) parts.1 parts.2)))
          (or_cases (keeps cmp f0 x) (told x) (sym (kept_ x) ∙ h));
      admitted_is_kept = λ x h c.
          let admitted_before : is_admitted cmp g0 f0.region x ≡ true = sym (admitted_ x) ∙ h in
          ⊎_elim (λ old. kept_ x ∙ or_left (keeps cmp f0 x) (told x) (right.admitted_is_kept x admitted_before old))
          (λ new_.
          let outer = and_parts (is_future interest.mode) (is_current interest.mode && asks_token matching interest x) new_ in
          let inner = and_parts (is_current interest.mode) (asks_token matching interest x) outer.1 in
          let asks = and_parts (has_tokens interest.options) (is_about matching interest.expr x) inner.1 in
          kept_ x ∙ or_right (keeps cmp f0 x) (told x)
          (and_from (is_future interest.mode) ((is_current interest.mode && has_tokens interest.options) && (is_about matching interest.expr x && is_visible cmp g0 f0.region x)) outer.0
          (and_from (is_current interest.mode && has_tokens interest.options) (is_about matching interest.expr x && is_visible cmp g0 f0.region x)
          (and_from (is_current interest.mode) (has_tokens interest.options) inner.0 asks.0)
          (and_from (is_about matching interest.expr x) (is_visible cmp g0 f0.region x) asks.1 (admitted_visible cmp g0 f0.region x admitted_before)))))
          (or_cases (covers matching g0.mode f0 x) (is_future interest.mode && (is_current interest.mode && asks_token matching interest x)) (sym (covers_ x) ∙ c));
    }
      where
        told : K → Bool
        told x = is_future interest.mode && ((is_current interest.mode && has_tokens interest.options) && (is_about matching interest.expr x && is_visible cmp g0 f0.region x))

        told_parts : (x : K) → told x ≡ true → (is_future interest.mode ≡ true) × (has_tokens interest.options ≡ true) × (is_about matching interest.expr x ≡ true) × (is_visible cmp g0 f0.region x ≡ true)
        told_parts x h =
            let outer = and_parts (is_future interest.mode) ((is_current interest.mode && has_tokens interest.options) && (is_about matching interest.expr x && is_visible cmp g0 f0.region x)) h in
            let inner = and_parts (is_current interest.mode && has_tokens interest.options) (is_about matching interest.expr x && is_visible cmp g0 f0.region x) outer.1 in
            let tokens = and_parts (is_current interest.mode) (has_tokens interest.options) inner.0 in
            let sees = and_parts (is_about matching interest.expr x) (is_visible cmp g0 f0.region x) inner.1 in
            (outer.0, tokens.1, sees.0, sees.1)
