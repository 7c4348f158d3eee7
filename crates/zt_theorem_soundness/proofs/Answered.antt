-- What a face keeps once it is answered: by a token that a face to the north declares, by its own gateway when it
-- asks, when its interest ends, and when it is greeted.
use Rattle.std.proofs.Common.{◌≡◌, ◌⊎◌, inl, inr, ℕ, ◌+◌, ◌≤◌, ◌<◌, Bool, true, false, not, if◌then◌else◌, ◌&&◌, ◌||◌, ◌==◌, List, [], ◌∷◌, ◌++◌, filter, map, Option, Some, None, refl, sym, ap, ◌∙◌, subst, arith, ⊎_elim}
use Rattle.std.proofs.Math.Bool.{or-false}
use Rattle.std.proofs.lemmas.Bool.{and_parts, and_from, or_left, or_right, or_cases, or_parts, not_from_false}
use Rattle.std.specs.Cmp.{IsTotalOrder}
use Rattle.std.specs.List.{flat_map, list_any}
use Rattle.std.specs.declared.cmp.Ordering.{Ordering}
use Rattle.std.specs.declared.cmp.Ordering.TheVariants.{Equal}
use Rattle.zt_region.specs.declared.region.Region.{Region}
use Rattle.zt_region.specs.declared.region.Region.TheVariants.{North, Local, South}
use Rattle.zt_region.specs.declared.region.WhatAmI.TheVariants.{Router, Peer, Client}
use Rattle.zt_region.specs.Region.{is_north, whatami_eq}
use Rattle.zt_protocol.specs.Interest.{is_current, is_future}
use Rattle.zt_protocol.specs.declared.interests.InterestMode.{InterestMode}
use Rattle.zt_protocol.specs.declared.messages.Message.{Message}
use Rattle.zt_protocol.specs.declared.messages.Message.TheVariants as message
use Rattle.zt_model.specs.Hat.{hat_of}
use Rattle.zt_model.specs.Hearing.{heard, heard_all}
use Rattle.zt_model.specs.Lists.{at_id, has_id, in_key_order, is_among, is_some_and, same}
use Rattle.zt_model.specs.Refusals.{is_interest_id_in_use}
use Rattle.zt_model.specs.Routing.{asked_as, final_of, final_of_both, is_greeted, opening_tokens, tokens_from, unheld, untell_to}
use Rattle.zt_model.specs.Rows.{Ask, ById, Face, InterestRow, Rows}
use Rattle.zt_model.specs.Says.{answered_expressions, answers_from, answers_of, asked, is_routed, told_id}
use Rattle.zt_model.specs.Seen.{sees}
use Rattle.zt_model.specs.Telling.{answer_to, is_answered_by, was_sent_as}
use Rattle.zt_model.specs.Transcript.{Each}
use Rattle.zt_model.specs.Visible.{is_admitted, is_visible, keeps, visible_expressions}
use Rattle.zt_model.specs.Wants.{asks_token, covers, seeks, wants}
use Rattle.zt_model.proofs.Hats.{covers_is, greeted_is, seeks_is, told_unasked_north, untell_is}
use Rattle.zt_laws.specs.Keeping.{KeepsRight}
use Rattle.zt_laws.specs.Sound.{IsToldInOrder, NamesOnce, RiseFrom}
use Rattle.zt_laws.specs.Effects.{told_after_answers}
use Rattle.zt_laws.proofs.Hearing.{heard_all-append, heard_all-held, heard_all-region}
use Rattle.zt_laws.proofs.Interests.{among-answered, covers_asked, heard_answers, heard_final, keeps_after_asking, names_after_answers, seeks_asked}
use Rattle.zt_laws.proofs.Keys.{among-filter, among-in_key_order, and_back, any_and, same_back, same_is}
use Rattle.zt_laws.proofs.Lists.{any-filter, any-map, any_alike, any_from_filter, by_test, each_append, each_fails, each_weaker, each_always, filter_all, filter_alike, never, of_cond}
use Rattle.zt_laws.proofs.Telling.{covers_alike, covers_seeks, seeks_alike}
use Rattle.zt_laws.proofs.Told.{names, names-append, told_id_none, told_pair_new, without_told}
use Rattle.zt_laws.proofs.Visible.{admitted_visible, among-visible_expressions}
use Rattle.zt_theorem_soundness.specs.Sound.{AskIsHeld, KeepsBut, nothing_left, shown_from}

and_not_or : (a b c : Bool) → ((a && not b) && not c) ≡ (a && not (b || c))
and_not_or true true c = refl
and_not_or true false c = refl
and_not_or false b c = refl

and_true : (a : Bool) → (a && true) ≡ a
and_true true = refl
and_true false = refl

filters_join : {A : Type 0} (p q : A → Bool) (xs : List A) → filter p (filter q xs) ≡ filter (λ x. p x && q x) xs
filters_join p q [] = refl
filters_join p q (x ∷ xs) =
    by_test (q x)
    (λ here. rw here (by_test (p x) (λ passes. rw passes (ap (λ ys. x ∷ ys) (filters_join p q xs))) (λ passes. rw passes (filters_join p q xs))))
    (λ here. rw here (filters_join p q xs ∙ by_test (p x) (λ passes. rw passes refl) (λ passes. rw passes refl)))

filters_swap : {A : Type 0} (p q : A → Bool) (xs : List A) → filter p (filter q xs) ≡ filter q (filter p xs)
filters_swap p q xs = filters_join p q xs ∙ filter_alike (λ x. p x && q x) (λ x. q x && p x) xs (each_always (λ x. (p x && q x) ≡ (q x && p x)) (λ x. and_back (p x) (q x)) xs) ∙ sym (filters_join q p xs)

module _ {K : Type 0} (cmp : K → K → Ordering) (matching : K → K → Bool) where
  -- ---- what should be kept, with nothing left to be done

  pub should_keep : (g : Rows K) (f : Face K) → KeepsBut cmp matching nothing_left nothing_left g f → KeepsRight cmp matching g f
  should_keep g f right = record {
    kept_is_visible = λ e kept. right.kept_is_visible e kept refl;
    kept_is_sought = right.kept_is_sought;
    admitted_is_kept = λ e admitted covered. right.admitted_is_kept e admitted covered refl;
  }

  pub with_nothing_left : (g : Rows K) (f : Face K) → KeepsRight cmp matching g f → KeepsBut cmp matching nothing_left nothing_left g f
  with_nothing_left g f right = record {
    kept_is_visible = λ e kept _. right.kept_is_visible e kept;
    kept_is_sought = right.kept_is_sought;
    admitted_is_kept = λ e admitted covered _. right.admitted_is_kept e admitted covered;
  }

  -- ---- answers to asks

  -- a declaration under any id leaves what was kept, and adds its own expression at the most
  kept_still : (now id : ℕ) (e x : K) (interest : Option ℕ) (f : Face K) → keeps cmp f x ≡ true → keeps cmp (heard cmp now (message.DeclareToken id e interest 0) f) x ≡ true
  kept_still now id e x interest f kept =
      of_cond (λ (rows : ById K). names cmp x rows ≡ true) (id == 0 || list_any (λ row. (id == row.0) && same cmp e row.1) f.told) f.told (f.told ++ (id, e) ∷ [])
      (λ _. kept) (λ _. names-append cmp x f.told id e ∙ or_left (names cmp x f.told) (same cmp x e) kept)

  kept_before : (now id : ℕ) (e x : K) (interest : Option ℕ) (f : Face K) → keeps cmp (heard cmp now (message.DeclareToken id e interest 0) f) x ≡ true → (keeps cmp f x ≡ true) ⊎ (same cmp x e ≡ true)
  kept_before now id e x interest f kept =
      of_cond (λ (rows : ById K). names cmp x rows ≡ true → (names cmp x f.told ≡ true) ⊎ (same cmp x e ≡ true)) (id == 0 || list_any (λ row. (id == row.0) && same cmp e row.1) f.told) f.told (f.told ++ (id, e) ∷ [])
      (λ _ old. inl old) (λ _ more. or_cases (names cmp x f.told) (same cmp x e) (sym (names-append cmp x f.told id e) ∙ more)) kept

  -- one answer, of an ask of this mode
  answer_kept : (now next : ℕ) (told : ById K) (mode : InterestMode) (id : ℕ) (e x : K) (f : Face K)
      → (keeps cmp f x ≡ true → keeps cmp (heard_all cmp now (answers_from cmp matching next told mode id (e ∷ [])) f) x ≡ true)
      × (keeps cmp (heard_all cmp now (answers_from cmp matching next told mode id (e ∷ [])) f) x ≡ true → (keeps cmp f x ≡ true) ⊎ ((same cmp x e && is_future mode) ≡ true))
  unfolding answers_from heard_all
  answer_kept now next told mode id e x f =
      by_test (is_future mode)
      (λ future. rw future (by_id (told_id cmp e told)))
      (λ future. rw future ((λ kept. kept), (λ kept. inl kept)))
    where
      Both : List (Message K) → Type 0
      Both ms = (keeps cmp f x ≡ true → keeps cmp (heard_all cmp now ms f) x ≡ true) × (keeps cmp (heard_all cmp now ms f) x ≡ true → (keeps cmp f x ≡ true) ⊎ ((same cmp x e && true) ≡ true))

      under : (j : ℕ) → Both (message.DeclareToken j e (Some id) 0 ∷ [])
      under j = (
        kept_still now j e x (Some id) f,
        λ kept. ⊎_elim (λ old. inl old) (λ own. inr (and_from (same cmp x e) true own refl)) (kept_before now j e x (Some id) f kept),
      )

      by_id : (o : Option ℕ) → Both (elim o [ None ↦ message.DeclareToken next e (Some id) 0 ∷ [] | Some old ↦ message.DeclareToken old e (Some id) 0 ∷ [] ])
      by_id None = under next
      by_id (Some old) = under old

  -- the ask is answered, and is to hear of later too
  abbrev pub is_answered_later : ℕ → ℕ → K → ℕ × Ask K → Bool
  is_answered_later n id e row = is_future row.1.interest.mode && is_answered_by cmp matching n id e row.1

  asks_kept : (now next n id : ℕ) (told : ById K) (e x : K) (asks : ById (Ask K)) (f : Face K)
      → (let ms = flat_map (λ row. if is_answered_by cmp matching n id e row.1 then answers_from cmp matching next told row.1.interest.mode row.0 (e ∷ []) else []) asks in
      (keeps cmp f x ≡ true → keeps cmp (heard_all cmp now ms f) x ≡ true)
      × (keeps cmp (heard_all cmp now ms f) x ≡ true → (keeps cmp f x ≡ true) ⊎ ((same cmp x e && list_any (is_answered_later n id e) asks) ≡ true)))
  unfolding heard_all
  asks_kept now next n id told e x [] f = ((λ kept. kept), (λ kept. inl kept))
  asks_kept now next n id told e x (row ∷ rows) f =
      let ms = if is_answered_by cmp matching n id e row.1 then answers_from cmp matching next told row.1.interest.mode row.0 (e ∷ []) else [] in
      let more = flat_map (λ row. if is_answered_by cmp matching n id e row.1 then answers_from cmp matching next told row.1.interest.mode row.0 (e ∷ []) else []) rows in
      let h = heard_all cmp now ms f in
      let one = first row f in
      let rest = asks_kept now next n id told e x rows h in
      let whole : keeps cmp (heard_all cmp now (ms ++ more) f) x ≡ keeps cmp (heard_all cmp now more h) x = ap (λ (k : Face K). keeps cmp k x) (heard_all-append cmp now ms more f) in (
        (λ kept. whole ∙ rest.0 (one.0 kept)),
        (λ kept.
            ⊎_elim (λ here. ⊎_elim (λ old. inl old) (λ own. let parts = and_parts (same cmp x e) (is_answered_later n id e row) own in inr (and_from (same cmp x e) (is_answered_later n id e row || list_any (is_answered_later n id e) rows) parts.0 (or_left (is_answered_later n id e row) (list_any (is_answered_later n id e) rows) parts.1))) (one.1 here))
            (λ later. let parts = and_parts (same cmp x e) (list_any (is_answered_later n id e) rows) later in inr (and_from (same cmp x e) (is_answered_later n id e row || list_any (is_answered_later n id e) rows) parts.0 (or_right (is_answered_later n id e row) (list_any (is_answered_later n id e) rows) parts.1)))
            (rest.1 (sym whole ∙ kept))),
      )
    where
      first : (row : ℕ × Ask K) (f : Face K)
          → (let ms = if is_answered_by cmp matching n id e row.1 then answers_from cmp matching next told row.1.interest.mode row.0 (e ∷ []) else [] in
          (keeps cmp f x ≡ true → keeps cmp (heard_all cmp now ms f) x ≡ true)
          × (keeps cmp (heard_all cmp now ms f) x ≡ true → (keeps cmp f x ≡ true) ⊎ ((same cmp x e && is_answered_later n id e row) ≡ true)))
      first row f =
          by_test (is_answered_by cmp matching n id e row.1)
          (λ here.
          let both = answer_kept now next told row.1.interest.mode row.0 e x f in
          rw here (both.0, (λ kept. ⊎_elim (λ old. inl old) (λ own. let parts = and_parts (same cmp x e) (is_future row.1.interest.mode) own in inr (and_from (same cmp x e) (is_future row.1.interest.mode && true) parts.0 (and_from (is_future row.1.interest.mode) true parts.1 refl))) (both.1 kept))))
          (λ here. rw here ((λ kept. kept), (λ kept. inl kept)))

  -- a held interest is one that passes
  held_any : (test : InterestRow K → Bool) (id : ℕ) (rows : ById (InterestRow K)) (v : InterestRow K) → at_id id rows ≡ Some v → test v ≡ true → list_any (λ row. test row.1) rows ≡ true
  held_any test id [] v found passes = cc
  held_any test id (row ∷ rows) v found passes =
      by_test (id == row.0)
      (λ here. let e : Some row.1 ≡ Some v = rw here at found in let is : row.1 ≡ v = cc in or_left (test row.1) (list_any (λ row. test row.1) rows) (ap test is ∙ passes))
      (λ here. or_right (test row.1) (list_any (λ row. test row.1) rows) (held_any test id rows v (rw here at found) passes))

  none_sent : (n id : ℕ) (ask : Ask K) → ask.pendings ≡ [] → was_sent_as n id ask ≡ true → ⊥
  none_sent n id ask none_ sent =
      let no_one : was_sent_as n id ask ≡ false = ap (λ (ps : List (ℕ × ℕ)). list_any (λ p. (n == p.0) && (id == p.1)) ps) none_ in
      never sent no_one

  sees_north : (own : Region) → is_north own ≡ false → sees own North ≡ true
  sees_north North south = never refl south
  sees_north Local south = refl
  sees_north (South id Client) south = refl
  sees_north (South id Router) south = refl
  sees_north (South id Peer) south = refl

  -- of asks that are answered an expression and hear of later too: the face isn't to the north, and wants it
  answered_wants : (n id : ℕ) (e : K) (f : Face K) (asks : ById (Ask K)) → Each (AskIsHeld f) asks → list_any (is_answered_later n id e) asks ≡ true → (is_north f.region ≡ false) × (wants matching f e ≡ true)
  unfolding wants
  answered_wants n id e f [] held some = never some refl
  answered_wants n id e f (row ∷ rows) held some =
      ⊎_elim (λ here.
      let future = and_parts (is_future row.1.interest.mode) (is_answered_by cmp matching n id e row.1) here in
      let sent = and_parts (was_sent_as n id row.1) (asks_token matching row.1.interest e && not (is_among cmp e row.1.answered)) future.1 in
      let asks_ = (and_parts (asks_token matching row.1.interest e) (not (is_among cmp e row.1.answered)) sent.1).0 in (
        by_test (is_north f.region) (λ north. absurd (none_sent n id row.1 (held.0.from_south north) sent.0)) (λ south. south),
        held_any (λ interest. asks_token matching interest e) row.0 f.held row.1.interest (held.0.held future.0) asks_,
      ))
      (λ there. answered_wants n id e f rows held.1 there)
      (or_cases (is_answered_later n id e row) (list_any (is_answered_later n id e) rows) some)

  module _ (total : IsTotalOrder cmp) (equal_is_same : (a b : K) → cmp a b ≡ Equal → a ≡ b) where
    -- A token from the north answers the asks that it names: where they are to hear of later too, the face keeps it,
    -- and sees it once it is registered.
    pub keeps_answered : (now n id : ℕ) (e : K) (g : Rows K) (f : Face K) → Each (AskIsHeld f) f.asks → KeepsBut cmp matching nothing_left nothing_left g f → KeepsBut cmp matching (shown_from cmp North e) nothing_left g (heard_all cmp now (answer_to cmp matching n id e f) f)
    unfolding answer_to
    keeps_answered now n id e g f held right =
        let h = heard_all cmp now (answer_to cmp matching n id e f) f in
        let region_ = heard_all-region cmp now (answer_to cmp matching n id e f) f in
        let held_ = heard_all-held cmp now (answer_to cmp matching n id e f) f in
        let kept_ = λ (x : K). asks_kept now f.next n id f.told e x f.asks f in
        let new_ = λ (x : K) (own : (same cmp x e && list_any (is_answered_later n id e) f.asks) ≡ true). and_parts (same cmp x e) (list_any (is_answered_later n id e) f.asks) own in
        record {
          kept_is_visible = λ x kept seen.
              ap (λ r. is_visible cmp g r x) region_
              ∙ ⊎_elim (λ old. right.kept_is_visible x old refl)
              (λ own.
              let both = new_ x own in
              never (ap (λ r. same cmp x e && sees r North) region_ ∙ and_from (same cmp x e) (sees f.region North) both.0 (sees_north f.region (answered_wants n id e f f.asks held both.1).0)) seen)
              ((kept_ x).1 kept);
          kept_is_sought = λ x kept.
              seeks_alike matching g.mode h f x region_ held_
              ∙ ⊎_elim (λ old. right.kept_is_sought x old)
              (λ own. let both = new_ x own in seeks_is matching g.mode f x ∙ or_right (is_north f.region) (wants matching f x) (ap (wants matching f) (same_is cmp total equal_is_same x e both.0) ∙ (answered_wants n id e f f.asks held both.1).1))
              ((kept_ x).1 kept);
          admitted_is_kept = λ x admitted covered _.
              (kept_ x).0 (right.admitted_is_kept x (ap (λ r. is_admitted cmp g r x) (sym region_) ∙ admitted) (sym (covers_alike matching g.mode h f x region_ held_) ∙ covered) refl);
        }

    -- an answer to asks for what is there now alone changes nothing that is kept
    pub keeps_answered_now : (now n id : ℕ) (e : K) (g : Rows K) (f : Face K) → list_any (is_answered_later n id e) f.asks ≡ false → KeepsBut cmp matching nothing_left nothing_left g f → KeepsBut cmp matching nothing_left nothing_left g (heard_all cmp now (answer_to cmp matching n id e f) f)
    unfolding answer_to
    keeps_answered_now now n id e g f none_ right =
        let h = heard_all cmp now (answer_to cmp matching n id e f) f in
        let region_ = heard_all-region cmp now (answer_to cmp matching n id e f) f in
        let held_ = heard_all-held cmp now (answer_to cmp matching n id e f) f in
        let kept_ = λ (x : K). asks_kept now f.next n id f.told e x f.asks f in
        let old_ : (x : K) → keeps cmp h x ≡ true → keeps cmp f x ≡ true =
        λ x kept. ⊎_elim (λ old. old) (λ own. never (and_parts (same cmp x e) (list_any (is_answered_later n id e) f.asks) own).1 none_) ((kept_ x).1 kept) in
        record {
          kept_is_visible = λ x kept _. ap (λ r. is_visible cmp g r x) region_ ∙ right.kept_is_visible x (old_ x kept) refl;
          kept_is_sought = λ x kept. seeks_alike matching g.mode h f x region_ held_ ∙ right.kept_is_sought x (old_ x kept);
          admitted_is_kept = λ x admitted covered _.
              (kept_ x).0 (right.admitted_is_kept x (ap (λ r. is_admitted cmp g r x) (sym region_) ∙ admitted) (sym (covers_alike matching g.mode h f x region_ held_) ∙ covered) refl);
        }

    -- ---- an interest

    -- the face that asks, before it is answered, once it is, and once it has its final
    pub keeps_asked : (now id : ℕ) (pendings : List (ℕ × ℕ)) (interest : InterestRow K) (g : Rows K) (f : Face K) → is_interest_id_in_use id interest.mode f ≡ false → IsToldInOrder cmp f.told f.next
        → (let one = asked_as pendings id interest f in
        let two = heard_all cmp now (answers_of cmp matching g id interest one) one in
        let three = heard_all cmp now (final_of id two) two in
        KeepsBut cmp matching nothing_left nothing_left g f → KeepsBut cmp matching nothing_left nothing_left g three)
    keeps_asked now id pendings interest g f unused ordered right =
        let one = asked_as pendings id interest f in
        let es = answered_expressions cmp matching g interest one in
        let two = heard_all cmp now (answers_of cmp matching g id interest one) one in
        let three = heard_all cmp now (final_of id two) two in
        let region_ : three.region ≡ f.region = heard_all-region cmp now (final_of id two) two ∙ heard_all-region cmp now (answers_of cmp matching g id interest one) one in
        let held_ : three.held ≡ one.held = heard_all-held cmp now (final_of id two) two ∙ heard_all-held cmp now (answers_of cmp matching g id interest one) one in
        let told_ : three.told ≡ told_after_answers cmp matching interest.mode es f = (heard_final cmp matching now id two).0 ∙ (heard_answers cmp matching now interest.mode id es one ordered).0 in
        let new_ : (is_future interest.mode && has_id id f.held) ≡ false = (or_parts (is_future interest.mode && has_id id f.held) (is_current interest.mode && has_id id f.asks) unused).0 in
        with_nothing_left g three
        (keeps_after_asking cmp matching total equal_is_same g g f three interest
        (λ x. ap (names cmp x) told_
        ∙ names_after_answers cmp matching total equal_is_same interest.mode es f x
        ∙ ap (λ b. names cmp x f.told || (is_future interest.mode && b)) (among-answered cmp matching total equal_is_same g interest one x))
        (λ x. ap (λ r. is_visible cmp g r x) region_)
        (λ x. ap (λ r. is_admitted cmp g r x) region_)
        (λ x. seeks_alike matching g.mode three (asked id interest f) x region_ held_ ∙ seeks_asked matching g.mode id interest f x new_)
        (λ x. covers_alike matching g.mode three (asked id interest f) x region_ held_ ∙ covers_asked matching g.mode id interest f x new_)
        (should_keep g f right))

    -- ---- the end of an interest

    -- told rows but those of some keys
    abbrev but_keys : List K → ℕ × K → Bool
    but_keys es row = not (list_any (λ e. same cmp e row.1) es)

    untold_from : (now : ℕ) (told : ById K) (p : ℕ × K → Bool) (es : List K) (f : Face K) → RiseFrom (λ row. row.0) 1 told → NamesOnce cmp told → f.told ≡ filter p told
        → (heard_all cmp now (flat_map (λ e. elim (told_id cmp e told) [ None ↦ [] | Some id ↦ message.UndeclareToken id None 0 ∷ [] ]) es) f).told ≡ filter (λ row. p row && but_keys es row) told
    unfolding heard_all
    untold_from now told p [] f rises once is = is ∙ filter_alike p (λ row. p row && true) told (each_always (λ row. p row ≡ (p row && true)) (λ row. sym (and_true (p row))) told)
    untold_from now told p (e ∷ es) f rises once is =
        let rest : List (Message K) = flat_map (λ e. elim (told_id cmp e told) [ None ↦ [] | Some id ↦ message.UndeclareToken id None 0 ∷ [] ]) es in
        let fewer = λ (row : ℕ × K). p row && not (same cmp e row.1) in
        let grouped = filter_alike (λ row. fewer row && but_keys es row) (λ row. p row && but_keys (e ∷ es) row) told (each_always (λ row. (fewer row && but_keys es row) ≡ (p row && but_keys (e ∷ es) row)) (λ row. and_not_or (p row) (same cmp e row.1) (list_any (λ k. same cmp k row.1) es)) told) in
        elim (told_id cmp e told) as (λ o. told_id cmp e told ≡ o → (heard_all cmp now (elim o [ None ↦ [] | Some id ↦ message.UndeclareToken id None 0 ∷ [] ] ++ rest) f).told ≡ filter (λ row. p row && but_keys (e ∷ es) row) told) [
          | None ↦ λ none_.
              untold_from now told fewer es f rises once
              (is ∙ filter_alike p fewer told
              (each_weaker (λ row. same cmp e row.1 ≡ false) (λ row. p row ≡ fewer row) (λ row apart. sym (and_true (p row)) ∙ ap (λ b. p row && not b) (sym apart)) told (each_fails (λ row. same cmp e row.1) told (told_id_none cmp e told none_))))
              ∙ grouped
          | Some id ↦ λ some.
              untold_from now told fewer es (heard cmp now (message.UndeclareToken id None 0) f) rises once
              (ap (λ (rows : ById K). filter (λ row. not (id == row.0)) rows) is
              ∙ filters_swap (λ row. not (id == row.0)) p told
              ∙ ap (filter p) (without_told cmp total e 1 told id rises once some)
              ∙ filters_join p (λ row. not (same cmp e row.1)) told)
              ∙ grouped
        ] refl

    -- what a face to the south was told and doesn't want any more is gone
    untold_kept : (at : Rows K) (now : ℕ) (f : Face K) (x : K) → IsToldInOrder cmp f.told f.next → is_north f.region ≡ false → keeps cmp (heard_all cmp now (untell_to cmp matching at f) f) x ≡ (keeps cmp f x && wants matching f x)
    untold_kept at now f x ordered south =
        let keys = in_key_order cmp (map (λ row. row.1) f.told) in
        let es = filter (λ e. not (wants matching f e)) keys in
        let ms : List (Message K) = flat_map (λ e. elim (told_id cmp e f.told) [ None ↦ [] | Some id ↦ message.UndeclareToken id None 0 ∷ [] ]) es in
        let told_ : (heard_all cmp now ms f).told ≡ filter (λ row. true && but_keys es row) f.told =
        untold_from now f.told (λ row. true) es f ordered.rises ordered.once (sym (filter_all (λ row. true) f.told (each_always (λ row. true ≡ true) (λ row. refl) f.told))) in
        let among_ : list_any (λ e. same cmp e x) es ≡ (not (wants matching f x) && keeps cmp f x) =
        any_alike (λ e. same cmp e x) (same cmp x) (λ e. same_back cmp total e x) es
        ∙ among-filter cmp total equal_is_same (λ e. not (wants matching f e)) x keys
        ∙ ap (λ b. not (wants matching f x) && b) (among-in_key_order cmp total x (map (λ row. row.1) f.told) ∙ any-map (same cmp x) (λ (row : ℕ × K). row.1) f.told) in
        ap (λ sent. keeps cmp (heard_all cmp now sent f) x) (untell_is cmp matching at f)
        ∙ ap (λ b. keeps cmp (heard_all cmp now (if b then [] else ms) f) x) south
        ∙ ap (names cmp x) told_
        ∙ any-filter (λ row. same cmp x row.1) (but_keys es) f.told
        ∙ any_alike (λ row. but_keys es row && same cmp x row.1) (λ row. not (list_any (λ e. same cmp e x) es) && same cmp x row.1)
        (λ row. by_test (same cmp x row.1)
        (λ here. ap (λ k. not (list_any (λ e. same cmp e k) es) && same cmp x row.1) (sym (same_is cmp total equal_is_same x row.1 here)))
        (λ here. rw here (and_back (but_keys es row) false ∙ and_back false (not (list_any (λ e. same cmp e x) es)))))
        f.told
        ∙ any_and (not (list_any (λ e. same cmp e x) es)) (λ row. same cmp x row.1) f.told
        ∙ ap (λ b. not b && keeps cmp f x) among_
        ∙ regroup (keeps cmp f x) (wants matching f x)
      where
        regroup : (k w : Bool) → (not (not w && k) && k) ≡ (k && w)
        regroup true true = refl
        regroup true false = refl
        regroup false true = refl
        regroup false false = refl

    none_untold : (at : Rows K) (now : ℕ) (f : Face K) → is_north f.region ≡ true → heard_all cmp now (untell_to cmp matching at f) f ≡ f
    unfolding heard_all
    none_untold at now f north =
        let ms : List (Message K) = flat_map (λ e. elim (told_id cmp e f.told) [ None ↦ [] | Some id ↦ message.UndeclareToken id None 0 ∷ [] ]) (filter (λ e. not (wants matching f e)) (in_key_order cmp (map (λ row. row.1) f.told))) in
        ap (λ sent. heard_all cmp now sent f) (untell_is cmp matching at f) ∙ ap (λ b. heard_all cmp now (if b then [] else ms) f) north

    final_told : (now id : ℕ) (interest : InterestRow K) (f : Face K) → (heard_all cmp now (final_of_both id interest f) f).told ≡ f.told
    unfolding heard_all
    final_told now id interest f =
        of_cond (λ (ms : List (Message K)). (heard_all cmp now ms f).told ≡ f.told) (is_current interest.mode && is_some_and (at_id id f.asks) (λ ask. is_future ask.interest.mode)) (message.DeclareFinal id ∷ []) [] (λ _. refl) (λ _. refl)

    -- the face whose interest ends, before it is untold what it doesn't want any more, once it is, and once its ask ends
    pub keeps_finalised : (at : Rows K) (now id : ℕ) (interest : InterestRow K) (g : Rows K) (f : Face K) → IsToldInOrder cmp f.told f.next
        → (let one = unheld id f in
        let two = heard_all cmp now (untell_to cmp matching at one) one in
        let three = heard_all cmp now (final_of_both id interest two) two in
        KeepsBut cmp matching nothing_left nothing_left g f → KeepsBut cmp matching nothing_left nothing_left g three)
    keeps_finalised at now id interest g f ordered right = by_test (is_north f.region) north south
      where
        one : Face K
        one = unheld id f

        two : Face K
        two = heard_all cmp now (untell_to cmp matching at one) one

        three : Face K
        three = heard_all cmp now (final_of_both id interest two) two

        region_ : three.region ≡ f.region
        region_ = heard_all-region cmp now (final_of_both id interest two) two ∙ heard_all-region cmp now (untell_to cmp matching at one) one

        held_ : three.held ≡ one.held
        held_ = heard_all-held cmp now (final_of_both id interest two) two ∙ heard_all-held cmp now (untell_to cmp matching at one) one

        kept_ : (x : K) → keeps cmp three x ≡ keeps cmp two x
        kept_ x = ap (names cmp x) (final_told now id interest two)

        sought : (x : K) → seeks matching g.mode three x ≡ (is_north f.region || wants matching one x)
        sought x = seeks_alike matching g.mode three one x region_ held_ ∙ seeks_is matching g.mode one x

        covered_before : (x : K) → covers matching g.mode three x ≡ true → covers matching g.mode f x ≡ true
        covered_before x covered =
            covers_is matching g.mode f x
            ∙ ⊎_elim (λ north_. or_left (is_north f.region) (list_any (λ row. is_current row.1.mode && asks_token matching row.1 x) f.held) north_)
            (λ asked_. or_right (is_north f.region) (list_any (λ row. is_current row.1.mode && asks_token matching row.1 x) f.held) (any_from_filter (λ (row : ℕ × InterestRow K). is_current row.1.mode && asks_token matching row.1 x) (λ row. not (id == row.0)) f.held asked_))
            (or_cases (is_north f.region) (list_any (λ row. is_current row.1.mode && asks_token matching row.1 x) one.held) (sym (covers_alike matching g.mode three one x region_ held_ ∙ covers_is matching g.mode one x) ∙ covered))

        north : is_north f.region ≡ true → KeepsBut cmp matching nothing_left nothing_left g three
        north is =
            let same_kept = λ (x : K). kept_ x ∙ ap (λ (k : Face K). keeps cmp k x) (none_untold at now one is) in
            record {
              kept_is_visible = λ x kept _. ap (λ r. is_visible cmp g r x) region_ ∙ right.kept_is_visible x (sym (same_kept x) ∙ kept) refl;
              kept_is_sought = λ x kept. sought x ∙ or_left (is_north f.region) (wants matching one x) is;
              admitted_is_kept = λ x admitted covered _. same_kept x ∙ right.admitted_is_kept x (ap (λ r. is_admitted cmp g r x) (sym region_) ∙ admitted) (covered_before x covered) refl;
            }

        south : is_north f.region ≡ false → KeepsBut cmp matching nothing_left nothing_left g three
        south is =
            let parts = λ (x : K). kept_ x ∙ untold_kept at now one x ordered is in
            record {
              kept_is_visible = λ x kept _. ap (λ r. is_visible cmp g r x) region_ ∙ right.kept_is_visible x (and_parts (keeps cmp f x) (wants matching one x) (sym (parts x) ∙ kept)).0 refl;
              kept_is_sought = λ x kept. sought x ∙ or_right (is_north f.region) (wants matching one x) (and_parts (keeps cmp f x) (wants matching one x) (sym (parts x) ∙ kept)).1;
              admitted_is_kept = λ x admitted covered _.
                  parts x
                  ∙ and_from (keeps cmp f x) (wants matching one x) (right.admitted_is_kept x (ap (λ r. is_admitted cmp g r x) (sym region_) ∙ admitted) (covered_before x covered) refl)
                  (⊎_elim (λ north_. never north_ is) (λ wanted. wanted) (or_cases (is_north f.region) (wants matching one x) (sym (sought x) ∙ covers_seeks matching g.mode three x covered)));
            }

    -- ---- greeting

    -- tokens under fresh ids are kept, and what was kept is
    tokens_kept : (now n : ℕ) (es : List K) (f : Face K) (x : K) → 1 ≤ n → Each (λ row. row.0 < n) f.told → keeps cmp (heard_all cmp now (tokens_from n es) f) x ≡ (keeps cmp f x || is_among cmp x es)
    unfolding tokens_from heard_all
    tokens_kept now n [] f x real below = sym (or-false (keeps cmp f x))
    tokens_kept now n (e ∷ es) f x real below =
        let h = heard cmp now (message.DeclareToken n e None 0) f in
        let told_ : h.told ≡ f.told ++ (n, e) ∷ [] = told_pair_new cmp n e f.told real below in
        tokens_kept now (n + 1) es h x (omega arith) (subst (Each (λ row. row.0 < n + 1)) (sym told_) (each_append (λ row. row.0 < n + 1) f.told ((n, e) ∷ []) (each_weaker (λ row. row.0 < n) (λ row. row.0 < n + 1) (λ row less. omega arith) f.told below) (omega arith, tt)))
        ∙ ap (λ b. b || is_among cmp x es) (ap (names cmp x) told_ ∙ names-append cmp x f.told n e)
        ∙ or_grouped (keeps cmp f x) (same cmp x e) (is_among cmp x es)
      where
        or_grouped : (a b c : Bool) → ((a || b) || c) ≡ (a || (b || c))
        or_grouped true b c = refl
        or_grouped false b c = refl

    -- a new face, which keeps and holds nothing yet: one to the north is told all that is visible
    pub keeps_greeted : (now : ℕ) (g h : Rows K) (f : Face K) → 1 ≤ f.next → f.told ≡ [] → f.held ≡ [] → is_routed g f ≡ false → h.mode ≡ g.mode → ((x : K) → is_visible cmp h f.region x ≡ is_visible cmp g f.region x)
        → KeepsBut cmp matching nothing_left nothing_left g (heard_all cmp now (tokens_from f.next (opening_tokens cmp matching h f)) f)
    keeps_greeted now g h f real told_ held_ plain mode_ visible_ =
        subst (λ es. KeepsBut cmp matching nothing_left nothing_left g (heard_all cmp now (tokens_from f.next es) f)) (sym (by_test (is_north f.region) (λ is. to_north is) (λ is. to_south is))) (by_test (is_north f.region) north south)
      where
        tokens : List K
        tokens = if is_north f.region then visible_expressions cmp h f.region else []

        to_north : is_north f.region ≡ true → opening_tokens cmp matching h f ≡ tokens
        to_north is =
            let plain_ : is_routed h f ≡ false = ap (λ m. (hat_of m f.region).goes_by_trees) mode_ ∙ plain in
            let greets : is_greeted cmp matching h f ≡ true = and_from (not (is_routed h f)) ((hat_of h.mode f.region).is_told_unasked f.region) (not_from_false (is_routed h f) plain_) (told_unasked_north h.mode f.region ∙ is) in
            ap (λ b. if b then visible_expressions cmp h f.region else []) greets ∙ ap (λ b. if b then visible_expressions cmp h f.region else []) (sym is)

        to_south : is_north f.region ≡ false → opening_tokens cmp matching h f ≡ tokens
        to_south is = ap (λ b. if b then visible_expressions cmp h f.region else []) (greeted_is cmp matching h f) ∙ ap (λ b. if b && not (whatami_eq h.mode Router) then visible_expressions cmp h f.region else []) is ∙ ap (λ b. if b then visible_expressions cmp h f.region else []) (sym is)

        none_kept : (x : K) → keeps cmp f x ≡ false
        none_kept x = ap (names cmp x) told_

        north : is_north f.region ≡ true → KeepsBut cmp matching nothing_left nothing_left g (heard_all cmp now (tokens_from f.next tokens) f)
        north is =
            let k = heard_all cmp now (tokens_from f.next tokens) f in
            let region_ : k.region ≡ f.region = heard_all-region cmp now (tokens_from f.next tokens) f in
            let kept_ : (x : K) → keeps cmp k x ≡ is_visible cmp g f.region x =
            λ x. tokens_kept now f.next tokens f x real (subst (Each (λ row. row.0 < f.next)) (sym told_) tt)
            ∙ ap (λ b. b || is_among cmp x tokens) (none_kept x)
            ∙ ap (λ b. is_among cmp x (if b then visible_expressions cmp h f.region else [])) is
            ∙ among-visible_expressions cmp total h f.region x
            ∙ visible_ x in
            record {
              kept_is_visible = λ x kept _. ap (λ r. is_visible cmp g r x) region_ ∙ sym (kept_ x) ∙ kept;
              kept_is_sought = λ x kept. seeks_is matching g.mode k x ∙ or_left (is_north k.region) (wants matching k x) (ap is_north region_ ∙ is);
              admitted_is_kept = λ x admitted covered _. kept_ x ∙ ap (λ r. is_visible cmp g r x) (sym region_) ∙ admitted_visible cmp g k.region x admitted;
            }

        south : is_north f.region ≡ false → KeepsBut cmp matching nothing_left nothing_left g (heard_all cmp now (tokens_from f.next tokens) f)
        south is =
            subst (λ es. KeepsBut cmp matching nothing_left nothing_left g (heard_all cmp now (tokens_from f.next es) f)) (sym (ap (λ b. if b then visible_expressions cmp h f.region else []) is))
            (unfold tokens_from heard_all in record {
              kept_is_visible = λ x kept _. never kept (none_kept x);
              kept_is_sought = λ x kept. never kept (none_kept x);
              admitted_is_kept = λ x admitted covered _.
                  never (sym (covers_is matching g.mode f x) ∙ covered) (ap (λ b. b || list_any (λ row. is_current row.1.mode && asks_token matching row.1 x) f.held) is ∙ ap (λ (rows : ById (InterestRow K)). list_any (λ row. is_current row.1.mode && asks_token matching row.1 x) rows) held_);
            })
