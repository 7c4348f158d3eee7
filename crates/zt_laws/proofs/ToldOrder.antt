-- Told rows stay in order, whatever a face is sent of what gateways say.
use Rattle.std.proofs.Common.{◌≡◌, ◌⊎◌, inl, inr, ⊎_elim, ℕ, ◌+◌, ◌≤◌, ◌<◌, max, Bool, true, false, cond, not, if◌then◌else◌, ◌&&◌, ◌||◌, ◌==◌, List, [], ◌∷◌, ◌++◌, Option, Some, None, refl, sym, ap, ◌∙◌, subst, arith, eq-eqb, le_trans}
use Rattle.std.proofs.lemmas.Bool.{and_from, and_parts, or_left, or_right, not-true}
use Rattle.std.specs.Cmp.{IsTotalOrder}
use Rattle.std.specs.List.{flat_map, list_any}
use Rattle.std.specs.declared.cmp.Ordering.{Ordering}
use Rattle.zt_region.specs.declared.region.Region.{Region}
use Rattle.zt_protocol.specs.Interest.{is_future}
use Rattle.zt_protocol.specs.declared.interests.InterestMode.{InterestMode}
use Rattle.zt_protocol.specs.declared.messages.Message.{Message}
use Rattle.zt_protocol.specs.declared.messages.Message.TheVariants.{DeclareToken, UndeclareToken, DeclareFinal, Interest, InterestFinal, DeclareSubscriber, DeclareQueryable}
use Rattle.zt_model.specs.Hearing.{heard_all, told_pair}
use Rattle.zt_model.specs.Lists.{same}
use Rattle.zt_model.specs.Rows.{Ask, ById, Face, InterestRow, Rows}
use Rattle.zt_model.specs.Routing.{interests_from, tokens_from}
use Rattle.zt_model.specs.Says.{answers_from, is_routed, is_told, tell_to, told_id}
use Rattle.zt_model.specs.Telling.{answer_to, is_answered_by}
use Rattle.zt_model.specs.Transcript.{Each}
use Rattle.zt_model.specs.Visible.{keeps, shows}
use Rattle.zt_model.specs.Wants.{seeks}
use Rattle.zt_region.specs.Admission.{admits}
use Rattle.zt_laws.specs.Effects.{next_after_answers}
use Rattle.zt_laws.proofs.Interests.{heard_answers, told_in_order_after_answers}
use Rattle.zt_laws.specs.Kept.{Told, has_pair, told_by, told_by_all, told_of}
use Rattle.zt_laws.specs.Order.{InKeyOrder, KeysOnce}
use Rattle.zt_laws.specs.Sound.{IsToldInOrder}
use Rattle.zt_laws.proofs.Keys.{same_itself}
use Rattle.zt_laws.proofs.Lists.{any-append, by_test, each_append, each_both, each_fails, each_weaker, of_cond}
use Rattle.zt_laws.proofs.Told.{in_order_filter, in_order_push, names, names-append, told_id_each, told_id_none, told_id_row, told_pair_new, told_pair_old}
use Rattle.zt_laws.proofs.Keys.{same_back}
use Rattle.std.proofs.lemmas.Bool.{or_from}

-- the message declares no token under a real id
abbrev pub TellsNothing : {K : Type 0} → Message K → Type 0
TellsNothing (DeclareToken id e interest node) = id ≡ 0
TellsNothing _ = Unit {0}

-- the message draws no id
abbrev pub DrawsNothing : {K : Type 0} → Message K → Type 0
DrawsNothing (DeclareToken id e interest node) = id ≡ 0
DrawsNothing (Interest id mode options e) = ⊥
DrawsNothing _ = Unit {0}

pub tells_if_draws : {K : Type 0} (m : Message K) → DrawsNothing m → TellsNothing m
tells_if_draws (DeclareToken id e interest node) nothing = nothing
tells_if_draws (UndeclareToken id e node) nothing = tt
tells_if_draws (DeclareFinal interest) nothing = tt
tells_if_draws (Interest id mode options e) nothing = tt
tells_if_draws (InterestFinal id) nothing = tt
tells_if_draws (DeclareSubscriber id e interest) nothing = tt
tells_if_draws (DeclareQueryable id e info interest) nothing = tt

module _ {K : Type 0} (cmp : K → K → Ordering) where
  -- what was told stands in order
  abbrev pub IsInOrder : Told K → Type 0
  IsInOrder t = IsToldInOrder cmp t.rows t.next

  in_order_later : (told : ById K) (next later : ℕ) → next ≤ later → IsToldInOrder cmp told next → IsToldInOrder cmp told later
  in_order_later told next later up ordered =
      let real : 1 ≤ next = ordered.next_is_real in
      record {
        next_is_real = le_trans real up;
        rises = ordered.rises;
        below = each_weaker (λ row. row.0 < next) (λ row. row.0 < later) (λ row less. le_trans less up) told ordered.below;
        once = ordered.once;
      }

  -- a declaration under the id 0 tells nothing
  pub zero_told : (id : ℕ) (e : K) (interest : Option ℕ) (node : ℕ) (t : Told K) → id ≡ 0 → 1 ≤ t.next → told_by cmp (DeclareToken id e interest node) t ≡ t
  zero_told id e interest node t zero_ real =
      let next_ : max t.next (id + 1) ≡ t.next = omega arith in
      ap (λ b. record t { next = max t.next (id + 1); rows = cond (b || list_any (λ row. (id == row.0) && same cmp e row.1) t.rows) t.rows (t.rows ++ (id, e) ∷ []) }) (eq-eqb id 0 zero_)
      ∙ ap (λ (n : ℕ). record t { next = n }) next_

  in_order_nothing : (m : Message K) (t : Told K) → TellsNothing m → IsInOrder t → IsInOrder (told_by cmp m t)
  in_order_nothing (DeclareToken id e interest node) t nothing ordered = subst IsInOrder (sym (zero_told id e interest node t nothing ordered.next_is_real)) ordered
  in_order_nothing (UndeclareToken id None node) t nothing ordered = in_order_filter cmp (λ row. not (id == row.0)) t.rows t.next ordered
  in_order_nothing (UndeclareToken id (Some e) node) t nothing ordered = in_order_filter cmp (λ row. not (same cmp e row.1)) t.rows t.next ordered
  in_order_nothing (Interest id mode options e) t nothing ordered = in_order_later t.rows t.next (max t.next (id + 1)) (omega arith) ordered
  in_order_nothing (DeclareFinal interest) t nothing ordered = ordered
  in_order_nothing (InterestFinal id) t nothing ordered = ordered
  in_order_nothing (DeclareSubscriber id e interest) t nothing ordered = ordered
  in_order_nothing (DeclareQueryable id e info interest) t nothing ordered = ordered

  -- a message that draws no id leaves the next one
  next_after_nothing : (m : Message K) (t : Told K) → DrawsNothing m → 1 ≤ t.next → (told_by cmp m t).next ≡ t.next
  next_after_nothing (DeclareToken id e interest node) t nothing real = omega arith
  next_after_nothing (UndeclareToken id e node) t nothing real = refl
  next_after_nothing (DeclareFinal interest) t nothing real = refl
  next_after_nothing (Interest id mode options e) t nothing real = absurd nothing
  next_after_nothing (InterestFinal id) t nothing real = refl
  next_after_nothing (DeclareSubscriber id e interest) t nothing real = refl
  next_after_nothing (DeclareQueryable id e info interest) t nothing real = refl

  pub next_after_nothings : (ms : List (Message K)) (t : Told K) → Each DrawsNothing ms → 1 ≤ t.next → (told_by_all cmp ms t).next ≡ t.next
  next_after_nothings [] t nothing real = refl
  next_after_nothings (m ∷ ms) t nothing real =
      let one = next_after_nothing m t nothing.0 real in
      next_after_nothings ms (told_by cmp m t) nothing.1 (subst (λ n. 1 ≤ n) (sym one) real) ∙ one

  -- messages that tell nothing leave what was told in order
  pub in_order_nothings : (ms : List (Message K)) (t : Told K) → Each TellsNothing ms → IsInOrder t → IsInOrder (told_by_all cmp ms t)
  in_order_nothings [] t nothing ordered = ordered
  in_order_nothings (m ∷ ms) t nothing ordered = in_order_nothings ms (told_by cmp m t) nothing.1 (in_order_nothing m t nothing.0 ordered)

  -- interests tell no token
  pub interests_tell_nothing : (next : ℕ) (is : List (InterestRow K)) → Each TellsNothing (interests_from next is)
  unfolding interests_from
  interests_tell_nothing next [] = tt
  interests_tell_nothing next (i ∷ is) = (tt, interests_tell_nothing (next + 1) is)

  pub interests_leave_rows : (next : ℕ) (is : List (InterestRow K)) (t : Told K) → (told_by_all cmp (interests_from next is) t).rows ≡ t.rows
  unfolding interests_from
  interests_leave_rows next [] t = refl
  interests_leave_rows next (i ∷ is) t = interests_leave_rows (next + 1) is (told_by cmp (Interest next i.mode i.options i.expr) t)

  -- ---- one pair

  -- the id can be told with the expression: it is the next one and the expression is new, or the pair is there
  abbrev pub CanTell : ℕ → K → Told K → Type 0
  CanTell k e t = ((k ≡ t.next) × (names cmp e t.rows ≡ false)) ⊎ ((has_pair cmp k e t.rows ≡ true) × (k < t.next))

  -- the message tells the pair, or nothing
  abbrev pub TellsPair : ℕ → K → Message K → Type 0
  TellsPair k e (DeclareToken id x interest node) = (id ≡ 0) ⊎ ((id ≡ k) × (x ≡ e))
  TellsPair k e _ = ⊥

  module _ (total : IsTotalOrder cmp) where
    pair_told : (k : ℕ) (e : K) (interest : Option ℕ) (node : ℕ) (t : Told K) → CanTell k e t → IsInOrder t → IsInOrder (told_by cmp (DeclareToken k e interest node) t) × CanTell k e (told_by cmp (DeclareToken k e interest node) t)
    pair_told k e interest node t can ordered = ⊎_elim new_ old can
      where
        Told_ : Told K → Type 0
        Told_ u = IsInOrder u × CanTell k e u

        new_ : (k ≡ t.next) × (names cmp e t.rows ≡ false) → Told_ (told_by cmp (DeclareToken k e interest node) t)
        new_ is =
            let next_is : k ≡ t.next = is.0 in
            let real : 1 ≤ t.next = ordered.next_is_real in
            let real_ : 1 ≤ k = omega arith in
            let next_ : max t.next (k + 1) ≡ t.next + 1 = omega arith in
            let rows_ : told_pair cmp k e t.rows ≡ t.rows ++ (t.next, e) ∷ [] =
            told_pair_new cmp k e t.rows real_ (subst (λ n. Each (λ row. row.0 < n) t.rows) (sym next_is) ordered.below) ∙ ap (λ n. t.rows ++ (n, e) ∷ []) next_is in
            let there : has_pair cmp k e (t.rows ++ (t.next, e) ∷ []) ≡ true =
            any-append (λ row. (k == row.0) && same cmp e row.1) t.rows ((t.next, e) ∷ [])
            ∙ or_right (has_pair cmp k e t.rows) (has_pair cmp k e ((t.next, e) ∷ [])) (or_left ((k == t.next) && same cmp e e) false (and_from (k == t.next) (same cmp e e) (eq-eqb k t.next next_is) (same_itself cmp total e))) in
            subst Told_ (sym (ap (λ (n : ℕ). record t { next = n; rows = told_pair cmp k e t.rows }) next_ ∙ ap (λ (rows : ById K). record t { next = t.next + 1; rows = rows }) rows_))
            (in_order_push cmp total e t.rows t.next is.1 ordered, inr (there, omega arith))

        old : (has_pair cmp k e t.rows ≡ true) × (k < t.next) → Told_ (told_by cmp (DeclareToken k e interest node) t)
        old is =
            let less : k < t.next = is.1 in
            let next_ : max t.next (k + 1) ≡ t.next = omega arith in
            subst Told_ (sym (ap (λ (n : ℕ). record t { next = n; rows = told_pair cmp k e t.rows }) next_ ∙ ap (λ (rows : ById K). record t { rows = rows }) (told_pair_old cmp k e t.rows is.0))) (ordered, inr is)

    -- a message that tells the pair or nothing leaves all so
    pub pair_step : (k : ℕ) (e : K) (t : Told K) → CanTell k e t → IsInOrder t → (m : Message K) → TellsPair k e m → IsInOrder (told_by cmp m t) × CanTell k e (told_by cmp m t)
    pair_step k e t can ordered (DeclareToken id x interest node) pair =
        ⊎_elim
        (λ zero_. subst (λ (u : Told K). IsInOrder u × CanTell k e u) (sym (zero_told id x interest node t zero_ ordered.next_is_real)) (ordered, can))
        (λ is. subst (λ i. IsInOrder (told_by cmp (DeclareToken i x interest node) t) × CanTell k e (told_by cmp (DeclareToken i x interest node) t)) (sym is.0)
        (subst (λ y. IsInOrder (told_by cmp (DeclareToken k y interest node) t) × CanTell k e (told_by cmp (DeclareToken k y interest node) t)) (sym is.1) (pair_told k e interest node t can ordered)))
        pair
    pair_step k e t can ordered (UndeclareToken id x node) pair = absurd pair
    pair_step k e t can ordered (DeclareFinal interest) pair = absurd pair
    pair_step k e t can ordered (Interest id mode options x) pair = absurd pair
    pair_step k e t can ordered (InterestFinal id) pair = absurd pair
    pair_step k e t can ordered (DeclareSubscriber id x interest) pair = absurd pair
    pair_step k e t can ordered (DeclareQueryable id x info interest) pair = absurd pair

    in_order_pair : (k : ℕ) (e : K) (ms : List (Message K)) (t : Told K) → Each (TellsPair k e) ms → CanTell k e t → IsInOrder t → IsInOrder (told_by_all cmp ms t)
    in_order_pair k e [] t pairs can ordered = ordered
    in_order_pair k e (m ∷ ms) t pairs can ordered = let both = pair_step k e t can ordered m pairs.0 in in_order_pair k e ms (told_by cmp m t) pairs.1 both.1 both.0

    -- the id under which a face is told an expression: that under which it keeps it, or the next
    abbrev pub id_for : K → Told K → ℕ
    id_for e t = elim (told_id cmp e t.rows) [ None ↦ t.next | Some old ↦ old ]

    pub can_tell : (e : K) (t : Told K) → IsInOrder t → CanTell (id_for e t) e t
    can_tell e t ordered = cases (told_id cmp e t.rows) refl
      where
        cases : (o : Option ℕ) → told_id cmp e t.rows ≡ o → CanTell (elim o [ None ↦ t.next | Some old ↦ old ]) e t
        cases None is = inl (refl, told_id_none cmp e t.rows is)
        cases (Some old) is = inr (told_id_row cmp e t.rows old is, told_id_each cmp (λ k. k < t.next) e t.rows old ordered.below is)

    module _ (matching : K → K → Bool) where
      -- ---- telling

      pub in_order_tell : (g : Rows K) (source : Region) (e : K) (f : Face K) → IsInOrder (told_of f) → IsInOrder (told_by_all cmp (tell_to cmp matching g source e f) (told_of f))
      unfolding tell_to
      in_order_tell g source e f ordered =
          by_test (is_told cmp matching g source e f)
          (λ tells. rw tells (pair_told f.next e None 0 (told_of f) (inl (refl, is_new tells)) ordered).0)
          (λ tells. rw tells ordered)
        where
          is_new : is_told cmp matching g source e f ≡ true → names cmp e f.told ≡ false
          is_new tells =
              let whole = and_parts (not (is_routed g f)) (admits g.refused source f.region && shows g.mode f.region source && not (keeps cmp f e) && seeks matching g.mode f e) tells in
              let sought = and_parts (admits g.refused source f.region && shows g.mode f.region source && not (keeps cmp f e)) (seeks matching g.mode f e) whole.1 in
              not-true (keeps cmp f e) (and_parts (admits g.refused source f.region && shows g.mode f.region source) (not (keeps cmp f e)) sought.0).1

      -- ---- answering

      pub in_order_answers : (now : ℕ) (mode : InterestMode) (id : ℕ) (es : List K) (f : Face K) → InKeyOrder cmp es → IsInOrder (told_of f) → IsInOrder (told_of (heard_all cmp now (answers_from cmp matching f.next f.told mode id es) f))
      in_order_answers now mode id es f keys ordered =
          let both = heard_answers cmp matching now mode id es f ordered in
          subst (λ (n : ℕ). IsToldInOrder cmp (heard_all cmp now (answers_from cmp matching f.next f.told mode id es) f).told n) (sym both.1)
          (subst (λ (rows : ById K). IsToldInOrder cmp rows (next_after_answers cmp matching mode es f)) (sym both.0) (told_in_order_after_answers cmp matching total mode es f keys ordered))

      -- an answer to one ask tells the pair, under the id that the face has for it
      answers_tell_pair : (mode : InterestMode) (id : ℕ) (e : K) (f : Face K) → Each (TellsPair (id_for e (told_of f)) e) (answers_from cmp matching f.next f.told mode id (e ∷ []))
      unfolding answers_from
      answers_tell_pair mode id e f = by_test (is_future mode) (λ future. rw future (cases (told_id cmp e f.told))) (λ future. rw future (inl refl, tt))
        where
          cases : (o : Option ℕ) → Each (TellsPair (elim o [ None ↦ f.next | Some old ↦ old ]) e) (elim o [ None ↦ DeclareToken f.next e (Some id) 0 ∷ [] | Some old ↦ DeclareToken old e (Some id) 0 ∷ [] ])
          cases None = (inr (refl, refl), tt)
          cases (Some old) = (inr (refl, refl), tt)

      pub answer_tells_pair : (n id : ℕ) (e : K) (f : Face K) → Each (TellsPair (id_for e (told_of f)) e) (answer_to cmp matching n id e f)
      unfolding answer_to
      answer_tells_pair n id e f = each_pair f.asks
        where
          each_pair : (asks : ById (Ask K)) → Each (TellsPair (id_for e (told_of f)) e) (flat_map (λ row. if is_answered_by cmp matching n id e row.1 then answers_from cmp matching f.next f.told row.1.interest.mode row.0 (e ∷ []) else []) asks)
          each_pair [] = tt
          each_pair (row ∷ rows) =
              each_append (TellsPair (id_for e (told_of f)) e) (if is_answered_by cmp matching n id e row.1 then answers_from cmp matching f.next f.told row.1.interest.mode row.0 (e ∷ []) else []) _
              (of_cond (Each (TellsPair (id_for e (told_of f)) e)) (is_answered_by cmp matching n id e row.1) (answers_from cmp matching f.next f.told row.1.interest.mode row.0 (e ∷ [])) [] (λ _. answers_tell_pair row.1.interest.mode row.0 e f) (λ _. tt))
              (each_pair rows)

      pub in_order_answer : (n id : ℕ) (e : K) (f : Face K) → IsInOrder (told_of f) → IsInOrder (told_by_all cmp (answer_to cmp matching n id e f) (told_of f))
      in_order_answer n id e f ordered = in_order_pair (id_for e (told_of f)) e (answer_to cmp matching n id e f) (told_of f) (answer_tells_pair n id e f) (can_tell e (told_of f) ordered) ordered

      -- ---- greeting

      -- tokens that weren't told yet, under the ids from the next one on
      pub in_order_tokens : (es : List K) (n : ℕ) (t : Told K) → n ≡ t.next → KeysOnce cmp es → Each (λ e. names cmp e t.rows ≡ false) es → IsInOrder t → IsInOrder (told_by_all cmp (tokens_from n es) t)
      unfolding tokens_from
      in_order_tokens [] n t is once new_ ordered = ordered
      in_order_tokens (e ∷ es) n t is once new_ ordered =
          let u = told_by cmp (DeclareToken n e None 0) t in
          let next_ : n + 1 ≡ u.next = omega arith in
          let real : 1 ≤ t.next = ordered.next_is_real in
          let real_ : 1 ≤ n = omega arith in
          let rows_ : u.rows ≡ t.rows ++ (n, e) ∷ [] = told_pair_new cmp n e t.rows real_ (subst (λ k. Each (λ row. row.0 < k) t.rows) (sym is) ordered.below) in
          let apart = each_fails (same cmp e) es once.0 in
          let still : Each (λ x. names cmp x u.rows ≡ false) es =
          each_both (λ x. same cmp e x ≡ false) (λ x. names cmp x t.rows ≡ false) (λ x. names cmp x u.rows ≡ false)
          (λ x a b. ap (names cmp x) rows_ ∙ names-append cmp x t.rows n e ∙ or_from (names cmp x t.rows) (same cmp x e) b (same_back cmp total x e ∙ a)) es apart new_.1 in
          in_order_tokens es (n + 1) u next_ once.1 still (pair_told n e None 0 t (inl (is, new_.0)) ordered).0
