-- A call that needs more ids than are left is one that could, as the transcript shows it, spend them.
use Rattle.std.proofs.Common.{◌≡◌, ℕ, ◌+◌, ◌≤◌, ◌<◌, Bool, true, false, not, nat_lt, if◌then◌else◌, ◌&&◌, ◌||◌, ◌==◌, List, [], ◌∷◌, length, sum_by, Option, Some, None, is_none, is_some, refl, sym, ap, ◌∙◌, subst, arith, ne_eqb, eq-eqb, lt-ltb, ltb-true, ⊎_elim}
use Rattle.std.proofs.lemmas.Bool.{and_parts, and_from, or_left, or_right, or_cases, not-true, not-false}
use Rattle.std.specs.Cmp.{IsTotalOrder}
use Rattle.std.specs.List.{list_any}
use Rattle.std.specs.declared.cmp.Ordering.{Ordering}
use Rattle.std.specs.declared.cmp.Ordering.TheVariants.{Equal}
use Rattle.zt_region.specs.declared.region.Bound.{Bound}
use Rattle.zt_region.specs.declared.region.Region.{Region}
use Rattle.zt_region.specs.declared.region.Region.TheVariants.{North, Local, South}
use Rattle.zt_region.specs.declared.region.WhatAmI.{WhatAmI}
use Rattle.zt_region.specs.declared.region.Zid.{Zid}
use Rattle.zt_region.specs.Region.{is_north, region_eq-same}
use Rattle.zt_protocol.specs.Interest.{is_future}
use Rattle.zt_protocol.specs.Plain.{PlainCall, NewSession, NewTransport, DeclareToken, UndeclareToken, Interest, InterestFinal, DeclareFinal, CloseFace, Expire, SetTrees, SetEntities}
use Rattle.zt_protocol.specs.declared.errors.Refusal.{Refusal}
use Rattle.zt_protocol.specs.declared.errors.Refusal.TheVariants as refusal
use Rattle.zt_protocol.specs.declared.interests.InterestMode.{InterestMode}
use Rattle.zt_protocol.specs.declared.interests.InterestOptions.{InterestOptions}
use Rattle.zt_model.specs.Entities.{numbered_by, with_numbers}
use Rattle.zt_model.specs.Lists.{has_id, same}
use Rattle.zt_model.specs.Refusals.{Causes, adds_row, answers_nothing, asks_upstream, call_causes, can_draw, could, could_spend_ids, faces_with, first_cause, ids_for_interest, ids_for_opening, is_answered_anew, is_token_id_in_use, is_unknown_ask, is_unknown_router, left_ids, need, spends_ids}
use Rattle.zt_model.specs.Routing.{asked_as, face_opened, held_south, is_greeted, is_target, leads_up, opened, opening_interests, opening_tokens, sent_as}
use Rattle.zt_model.specs.Rows.{Ask, ById, Face, InterestRow, Rows}
use Rattle.zt_model.specs.Says.{find_face, is_routed, is_told, registered, registers, row_of, with_face}
use Rattle.zt_model.specs.Seen.{sees}
use Rattle.zt_model.specs.Shown.{interest_kept, rows_shown, with_declared, with_interest, with_new_transport, with_source}
use Rattle.zt_model.specs.Telling.{is_answered_by, was_sent_as}
use Rattle.zt_model.specs.Transcript.{Each}
use Rattle.zt_model.specs.Trees.{source_of, with_routed}
use Rattle.zt_model.specs.Visible.{is_visible, keeps, shows, visible_expressions}
use Rattle.zt_model.proofs.Hats.{shows_others}
use Rattle.zt_laws.proofs.Calls.{not_on_face}
use Rattle.zt_laws.proofs.Keys.{same_itself}
use Rattle.zt_laws.proofs.Lists.{by_test, each_always, each_append, each_weaker, never, of_cond}
use Rattle.zt_laws.proofs.Seen.{sees_is}
use Rattle.zt_laws.proofs.ShownRows.{opened_is_made}
use Rattle.zt_theorem_soundness.specs.Sound.{AskIsHeld, IsSound, shown_from}
use Rattle.zt_theorem_soundness.proofs.Answered.{is_answered_later}
use Rattle.zt_theorem_soundness.proofs.Ends.{with_face_same}
use Rattle.zt_theorem_soundness.proofs.Keeping.{ShowsMore, visible_more}
use Rattle.zt_theorem_soundness.proofs.Opening.{new_same}
use Rattle.zt_theorem_soundness.proofs.Showing.{registered_more, routed_more}
use Rattle.zt_theorem_soundness.proofs.Tokens.{source_is_other}
use Rattle.zt_theorem_drawn_ids.proofs.Could.{answers_could, asked_could, could_from, held_south_less, nothing_kept, sent_some, told_could, unkept_could}
use Rattle.zt_theorem_drawn_ids.proofs.Needs.{held_opened, none_of, visible_as}

-- the cause is too few ids: no earlier one holds
not_yet : (b : Bool) (r : Refusal) (cs : Causes) → (Some r ≡ Some refusal.IdsSpent → ⊥) → first_cause ((b, r) ∷ cs) ≡ Some refusal.IdsSpent → (b ≡ false) × (first_cause cs ≡ Some refusal.IdsSpent)
unfolding first_cause
not_yet true r cs apart h = absurd (apart h)
not_yet false r cs apart h = (refl, h)

shows_north : (mode : WhatAmI) (own : Region) → is_north own ≡ false → shows mode own North ≡ true
shows_north mode North south = never refl south
shows_north mode Local south = shows_others mode Local North refl
shows_north mode (South id m) south = shows_others mode (South id m) North refl

any_weaker_of : {A : Type 0} (P : A → Type 0) (p q : A → Bool) → ((x : A) → P x → p x ≡ true → q x ≡ true) → (xs : List A) → Each P xs → list_any p xs ≡ true → list_any q xs ≡ true
any_weaker_of P p q h [] all some = some
any_weaker_of P p q h (x ∷ xs) all some =
    by_test (p x) (λ here. or_left (q x) (list_any q xs) (h x all.0 here)) (λ here. or_right (q x) (list_any q xs) (any_weaker_of P p q h xs all.1 (rw here at some)))

module _ {K : Type 0} (cmp : K → K → Ordering) (matching : K → K → Bool) where
  -- a face whose ask is answered, and is to hear of later too, isn't one to the north
  later_south : (n id : ℕ) (e : K) (f : Face K) (asks : ById (Ask K)) → Each (AskIsHeld f) asks → list_any (is_answered_later cmp matching n id e) asks ≡ true → is_north f.region ≡ false
  later_south n id e f [] held some = never some refl
  later_south n id e f (row ∷ rows) held some =
      ⊎_elim (λ here.
      let sent = (and_parts (was_sent_as n id row.1) _ (and_parts (is_future row.1.interest.mode) (is_answered_by cmp matching n id e row.1) here).1).0 in
      by_test (is_north f.region)
      (λ north. let none_ : was_sent_as n id row.1 ≡ false = ap (λ (ps : List (ℕ × ℕ)). list_any (λ p. (n == p.0) && (id == p.1)) ps) (held.0.from_south north) in never sent none_) (λ south. south))
      (λ there. later_south n id e f rows held.1 there)
      (or_cases (is_answered_later cmp matching n id e row) (list_any (is_answered_later cmp matching n id e) rows) some)

  module _ (total : IsTotalOrder cmp) (equal_is_same : (a b : K) → cmp a b ≡ Equal → a ≡ b) where
    -- ---- tokens

    -- once a row of the expression is shown from a region, what is needed for it is within what could be drawn
    shown_could : (source : Region) (e : K) (g after : Rows K) (f : Face K) → ShowsMore source e g after → (anew : Bool) → (anew ≡ true → (shows g.mode f.region source ≡ true) × (keeps cmp f e ≡ false))
        → (if is_told cmp matching g source e f || anew then 1 else 0) ≤ could_from cmp matching after f
    shown_could source e g after f more anew fresh =
        let seen : shows g.mode f.region source ≡ true → is_visible cmp after f.region e ≡ true =
        λ shown. visible_more cmp source e g after f.region e more ∙ or_right (is_visible cmp g f.region e) (shown_from cmp source e f.region e) (and_from (same cmp e e) (sees f.region source) (same_itself cmp total e) (sees_is g.mode f.region source ∙ shown)) in
        by_test (is_told cmp matching g source e f)
        (λ told. let one = told_could cmp matching total equal_is_same source e g after f seen told in rw told one)
        (λ told.
        by_test anew
        (λ here. let both = fresh here in let one = unkept_could cmp matching total equal_is_same e after f (seen both.0) both.1 in rw (told, here) one)
        (λ here. rw (told, here) (omega arith)))

    token_could : (n id node : ℕ) (e : K) (interest : Option ℕ) (from : Face K) (g : Rows K) → find_face n g ≡ Some from → IsSound cmp matching g
        → ((i : ℕ) → interest ≡ Some i → is_north from.region ≡ true) → is_unknown_ask id interest g from ≡ false → is_unknown_router node g from ≡ false → (is_routed g from ≡ false → registers from interest ≡ true → is_token_id_in_use cmp id e from ≡ false)
        → Each (λ f. (if registers from interest && (is_told cmp matching g from.region e f || is_answered_anew cmp matching n interest e from f) then 1 else 0) ≤ could_from cmp matching (with_declared cmp n id e node interest g from) f) g.faces
    unfolding source_of
    token_could n id node e interest from g found sound north known router free = by_test (is_routed g from) routed plain
      where
        need_of : Face K → ℕ
        need_of f = if registers from interest && (is_told cmp matching g from.region e f || is_answered_anew cmp matching n interest e from f) then 1 else 0

        within : Rows K → Type 0
        within after = Each (λ f. need_of f ≤ could_from cmp matching after f) g.faces

        anew_is : (f : Face K) → Each (AskIsHeld f) f.asks → (o : Option ℕ) → interest ≡ o → is_answered_anew cmp matching n o e from f ≡ true → (shows g.mode f.region from.region ≡ true) × (keeps cmp f e ≡ false)
        anew_is f held None is anew = never anew refl
        anew_is f held (Some i) is anew =
            let parts = and_parts (has_id i from.pendings) (not (keeps cmp f e) && list_any (is_answered_later cmp matching n i e) f.asks) anew in
            let both = and_parts (not (keeps cmp f e)) (list_any (is_answered_later cmp matching n i e) f.asks) parts.1 in
            let source_ : from.region ≡ North = region_eq-same from.region North (north i is) in
            (ap (shows g.mode f.region) source_ ∙ shows_north g.mode f.region (later_south n i e f f.asks held both.1), not-true (keeps cmp f e) both.0)

        under : (after : Rows K) → ShowsMore from.region e g after → registers from interest ≡ true → within after
        under after more registers_ =
            each_weaker (λ f. false ≡ false → Each (AskIsHeld f) f.asks) (λ f. need_of f ≤ could_from cmp matching after f)
            (λ f held.
            subst (λ b. (if b && (is_told cmp matching g from.region e f || is_answered_anew cmp matching n interest e from f) then 1 else 0) ≤ could_from cmp matching after f) (sym registers_)
            (shown_could from.region e g after f more (is_answered_anew cmp matching n interest e from f) (anew_is f (held refl) interest refl))) g.faces sound.held

        none_needed : (after : Rows K) → registers from interest ≡ false → within after
        none_needed after none_ =
            each_always (λ f. need_of f ≤ could_from cmp matching after f)
            (λ f. let zero_ : need_of f ≡ 0 = ap (λ b. if b && (is_told cmp matching g from.region e f || is_answered_anew cmp matching n interest e from f) then 1 else 0) none_ in omega arith) g.faces

        plain : is_routed g from ≡ false → within (with_declared cmp n id e node interest g from)
        plain is =
            subst (λ b. within (if b then with_source cmp from (source_of g from node) e g else if registers from interest then with_face n (registered id e) g else g)) (sym is)
            (by_test (registers from interest)
            (λ registers_. subst (λ b. within (if b then with_face n (registered id e) g else g)) (sym registers_)
            (under (with_face n (registered id e) g) (registered_more cmp total equal_is_same n id e from g sound.ordered.lists.faces_rise found (free is registers_)) registers_))
            (λ registers_. subst (λ b. within (if b then with_face n (registered id e) g else g)) (sym registers_) (none_needed g registers_)))

        from_source : (o : Option Zid) → source_of g from node ≡ o → is_none o ≡ false → registers from interest ≡ true → within (with_source cmp from o e g)
        from_source None is known_ registers_ = never refl known_
        from_source (Some zid) is known_ registers_ = under (with_routed cmp from.region zid e g) (routed_more cmp equal_is_same from.region zid e g (source_is_other g from node zid is)) registers_

        routed : is_routed g from ≡ true → within (with_declared cmp n id e node interest g from)
        routed is =
            let alone = none_of cmp matching total interest (ap (λ b. if b then is_some interest else answers_nothing id interest from) (sym is) ∙ known) in
            subst (λ b. within (if b then with_source cmp from (source_of g from node) e g else if registers from interest then with_face n (registered id e) g else g)) (sym is)
            (from_source (source_of g from node) refl (ap (λ b. b && is_none (source_of g from node)) (sym is) ∙ router) (ap (registers from) alone))

    -- ---- interests

    interest_could : (n id : ℕ) (mode : InterestMode) (options : InterestOptions) (e : Option K) (from : Face K) (g : Rows K) → find_face n g ≡ Some from
        → Each (λ f. ids_for_interest cmp matching n mode options e g f + (if is_target g from.region mode f then 1 else 0) ≤ could_from cmp matching (with_interest cmp n id (sent_as g from.region mode) (interest_kept from mode options e) g) f) g.faces
    unfolding sent_as
    interest_could n id mode options e from g found =
        let interest = interest_kept from mode options e in
        let pendings = sent_as g from.region mode in
        let h = with_numbers cmp (numbered_by cmp interest) g in
        let after = with_face n (asked_as pendings id interest) h in
        let live_ = (with_face_same n (asked_as pendings id interest) h (λ f. refl) (λ f. refl)).live in
        each_weaker (λ f. is_target g from.region mode f ≡ true → 1 ≤ length pendings) (λ f. ids_for_interest cmp matching n mode options e g f + (if is_target g from.region mode f then 1 else 0) ≤ could_from cmp matching after f)
        (λ f some.
        let more : ℕ = if is_target g from.region mode f then 1 else 0 in
        let less : more ≤ sum_by (λ x. length x.held) after.faces + sum_by (asks_upstream cmp matching) after.faces =
        of_cond (λ k. k ≤ sum_by (λ x. length x.held) after.faces + sum_by (asks_upstream cmp matching) after.faces) (is_target g from.region mode f) 1 0 (λ target. asked_could cmp matching pendings n id interest from h found (some target)) (λ _. omega arith) in
        let answers = answers_could cmp matching (row_of cmp matching f mode options e) g after f more (visible_as cmp matching g after f.region live_) less in
        by_test (n == f.number && is_future mode)
        (λ here. rw here answers)
        (λ here. rw here (omega arith)))
        g.faces (sent_some cmp matching g from.region mode g.faces)

    -- ---- openings

    opening_could : (zid : Zid) (whatami : WhatAmI) (region : Region) (bound : Bound) (first : ℕ) (g : Rows K) → Each (λ f. f.number ≤ g.made) g.faces
        → (let after = opened zid whatami region bound first g in Each (λ f. ids_for_opening cmp matching g f ≤ could_from cmp matching after f) after.faces)
    opening_could zid whatami region bound first g made =
        let new_ = face_opened zid whatami region bound first g in
        let after = opened zid whatami region bound first g in
        let interests = held_south_less cmp matching after in
        let same_held : length (held_south cmp matching after) ≡ length (held_south cmp matching g) = ap length (held_opened cmp matching total new_ g refl) in
        each_append (λ f. ids_for_opening cmp matching g f ≤ could_from cmp matching after f) g.faces (new_ ∷ [])
        (each_weaker (λ f. f.number ≤ g.made) (λ f. ids_for_opening cmp matching g f ≤ could_from cmp matching after f)
        (λ f up.
        let other : (f.number == g.made + 1) ≡ false = ne_eqb f.number (g.made + 1) (λ is. omega arith) in
        let zero_ : ids_for_opening cmp matching g f ≡ 0 = ap (λ b. if b then length (opening_interests cmp matching g f) + length (opening_tokens cmp matching g f) else 0) other in
        omega arith) g.faces made) (
          let own : (new_.number == g.made + 1) ≡ true = eq-eqb (g.made + 1) (g.made + 1) refl in
              let sum : ids_for_opening cmp matching g new_ ≡ length (opening_interests cmp matching g new_) + length (opening_tokens cmp matching g new_) = ap (λ b. if b then length (opening_interests cmp matching g new_) + length (opening_tokens cmp matching g new_) else 0) own in
              let lacks = nothing_kept cmp matching after new_ refl in
              let seen : length (visible_expressions cmp after new_.region) ≡ length (visible_expressions cmp g new_.region) = ap length (visible_as cmp matching g after new_.region (new_same new_ g refl refl refl).live) in
              let tokens : length (opening_tokens cmp matching g new_) ≤ length (visible_expressions cmp g new_.region) = of_cond (λ (es : List K). length es ≤ length (visible_expressions cmp g new_.region)) (is_greeted cmp matching g new_) (visible_expressions cmp g new_.region) [] (λ _. omega arith) (λ _. omega arith) in
              let asked_ : length (opening_interests cmp matching g new_) ≤ length (held_south cmp matching g) = of_cond (λ (is : List (InterestRow K)). length is ≤ length (held_south cmp matching g)) (leads_up g.mode new_) (held_south cmp matching g) [] (λ _. omega arith) (λ _. omega arith) in
              omega arith,
          tt,
        )

    -- and so once the face is made as a transcript shows it
    opening_within : (zid : Zid) (whatami : WhatAmI) (region : Region) (bound : Bound) (first : ℕ) (g : Rows K) → Each (λ f. f.number ≤ g.made) g.faces
        → Each (λ f. ids_for_opening cmp matching g f ≤ could_from cmp matching (with_new_transport zid whatami region bound first g) f) (opened zid whatami region bound first g).faces
    opening_within zid whatami region bound first g made =
        subst (λ (after : Rows K). Each (λ f. ids_for_opening cmp matching g f ≤ could_from cmp matching after f) (opened zid whatami region bound first g).faces)
        (opened_is_made zid whatami region bound first g)
        (opening_could zid whatami region bound first g made)

    -- ---- calls

    abbrev Within : PlainCall K → Rows K → Type 0
    Within c g = Each (λ f. need cmp matching c g f ≤ could cmp matching c g f) (faces_with cmp matching c g)

    pub need_within_could : (c : PlainCall K) (g : Rows K) → first_cause (call_causes cmp matching true c g) ≡ Some refusal.IdsSpent → IsSound cmp matching g → Within c g
    unfolding need could rows_shown call_causes
    need_within_could (NewTransport zid whatami region bound first) g spent sound = opening_within zid whatami region bound first g sound.ordered.lists.faces_made
    need_within_could (DeclareToken n id e node interest) g spent sound =
        let one = not_yet _ _ _ (λ h. cc) spent in
        let two = not_yet _ _ _ (λ h. cc) one.1 in
        let three = not_yet _ _ _ (λ h. cc) two.1 in
        let four = not_yet _ _ _ (λ h. cc) three.1 in
        let five = not_yet _ _ _ (λ h. cc) four.1 in
        let six = not_yet _ _ _ (λ h. cc) five.1 in
        elim (find_face n g) as (λ o. find_face n g ≡ o
        → Each (λ f. elim o [ None ↦ 0 | Some from ↦ if registers from interest && (is_told cmp matching g from.region e f || is_answered_anew cmp matching n interest e from f) then 1 else 0 ]
        ≤ could_from cmp matching (elim o [ None ↦ g | Some from ↦ with_declared cmp n id e node interest g from ]) f) g.faces) [
          | None ↦ λ found. each_always (λ f. 0 ≤ could_from cmp matching g f) (λ f. omega arith) g.faces
          | Some from ↦ λ found.
              token_could n id node e interest from g found sound
              (λ i is. from_north i interest (is_north from.region) (not_on_face n g (λ k. is_some interest && not (is_north k.region)) from found two.0) is)
              (not_on_face n g (is_unknown_ask id interest g) from found three.0)
              (not_on_face n g (is_unknown_router node g) from found four.0)
              (λ plain registers_. not_in_use (is_routed g from) (registers from interest) (is_token_id_in_use cmp id e from) (not_on_face n g (λ k. adds_row interest g k && is_token_id_in_use cmp id e k) from found six.0) plain registers_)
        ] refl
      where
        not_in_use : (a b c : Bool) → ((not a && b) && c) ≡ false → a ≡ false → b ≡ true → c ≡ false
        not_in_use a b c h plain registers_ = sym (ap (λ x. (not x && b) && c) plain ∙ ap (λ x. (true && x) && c) registers_) ∙ h

        from_north : (i : ℕ) (o : Option ℕ) (north : Bool) → (is_some o && not north) ≡ false → o ≡ Some i → north ≡ true
        from_north i o north h is = not-false north (sym (ap (λ (p : Option ℕ). is_some p && not north) is) ∙ h)
    need_within_could (Interest n id mode options e) g spent sound =
        let sends : Option (Face K) → List (ℕ × ℕ) = λ p. elim p [ None ↦ [] | Some k ↦ sent_as g k.region mode ] in
        elim (find_face n g) as (λ o. find_face n g ≡ o
        → (let sent = sends o in
        Each (λ f. ids_for_interest cmp matching n mode options e g f + elim o [ None ↦ 0 | Some from ↦ if is_target g from.region mode f then 1 else 0 ]
        ≤ could_from cmp matching (elim o [ None ↦ g | Some from ↦ with_interest cmp n id sent (interest_kept from mode options e) g ]) f) g.faces)) [
          | None ↦ λ found. never (ap is_none found) (not_yet _ _ _ (λ h. cc) spent).0
          | Some from ↦ λ found. interest_could n id mode options e from g found
        ] refl
    need_within_could (NewSession first) g spent sound = each_always (λ f. 0 ≤ could cmp matching (NewSession first) g f) (λ f. omega arith) g.faces
    need_within_could (UndeclareToken n id given node) g spent sound = each_always (λ f. 0 ≤ could cmp matching (UndeclareToken n id given node) g f) (λ f. omega arith) g.faces
    need_within_could (InterestFinal n id) g spent sound = each_always (λ f. 0 ≤ could cmp matching (InterestFinal n id) g f) (λ f. omega arith) g.faces
    need_within_could (DeclareFinal n id) g spent sound = each_always (λ f. 0 ≤ could cmp matching (DeclareFinal n id) g f) (λ f. omega arith) g.faces
    need_within_could (CloseFace n) g spent sound = each_always (λ f. 0 ≤ could cmp matching (CloseFace n) g f) (λ f. omega arith) g.faces
    need_within_could (Expire now) g spent sound = each_always (λ f. 0 ≤ could cmp matching (Expire now) g f) (λ f. omega arith) g.faces
    need_within_could (SetTrees region t) g spent sound = each_always (λ f. 0 ≤ could cmp matching (SetTrees region t) g f) (λ f. omega arith) g.faces
    need_within_could (SetEntities n subscribers queryables) g spent sound = each_always (λ f. 0 ≤ could cmp matching (SetEntities n subscribers queryables) g f) (λ f. omega arith) g.faces

    pub opening_within_could : (zid : Zid) (whatami : WhatAmI) (region : Region) (bound : Bound) (first : ℕ) (g : Rows K) → Each (λ f. f.number ≤ g.made) g.faces → Within (NewTransport zid whatami region bound first) g
    unfolding need could rows_shown
    opening_within_could zid whatami region bound first g made = opening_within zid whatami region bound first g made

    -- where the ids needed aren't left, those that could be drawn aren't
    pub spends_could : (c : PlainCall K) (g : Rows K) → can_draw cmp matching c ≡ true → Within c g → spends_ids cmp matching c g ≡ true → could_spend_ids cmp matching c g ≡ true
    unfolding spends_ids could_spend_ids
    spends_could c g draws within spent =
        let lacks = λ (k : Face K → ℕ) (f : Face K). not (is_routed g f) && nat_lt (left_ids f) (k f) in
        and_from (can_draw cmp matching c) (list_any (lacks (could cmp matching c g)) (faces_with cmp matching c g)) draws
        (any_weaker_of (λ f. need cmp matching c g f ≤ could cmp matching c g f) (lacks (need cmp matching c g)) (lacks (could cmp matching c g))
        (λ f less both.
        let parts = and_parts (not (is_routed g f)) (nat_lt (left_ids f) (need cmp matching c g f)) both in
        let short : left_ids f < need cmp matching c g f = ltb-true (left_ids f) (need cmp matching c g f) parts.1 in
        and_from (not (is_routed g f)) (nat_lt (left_ids f) (could cmp matching c g f)) parts.0 (lt-ltb (left_ids f) (could cmp matching c g f) (omega arith)))
        (faces_with cmp matching c g) within spent)
