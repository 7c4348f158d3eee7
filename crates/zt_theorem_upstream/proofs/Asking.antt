-- Interests and openings send upstream what south-bound faces hold.
use Rattle.std.proofs.Common.{◌≡◌, ℕ, ◌+◌, ◌≤◌, Bool, true, false, not, ◌&&◌, ◌||◌, ◌==◌, if◌then◌else◌, List, [], ◌∷◌, map, Option, Some, None, refl, sym, ap, ◌∙◌, subst, arith, eqb-true, ne_eqb}
use Rattle.std.proofs.lemmas.Bool.{and_parts}
use Rattle.std.specs.List.{list_any}
use Rattle.std.specs.declared.cmp.Ordering.{Ordering}
use Rattle.zt_region.specs.declared.region.WhatAmI.TheVariants.{Router}
use Rattle.zt_region.specs.Region.{is_north, whatami_eq}
use Rattle.zt_protocol.specs.Interest.{is_current, is_future}
use Rattle.zt_protocol.specs.Plain.{Interest}
use Rattle.zt_protocol.specs.declared.interests.InterestMode.{InterestMode}
use Rattle.zt_protocol.specs.declared.interests.InterestOptions.{InterestOptions}
use Rattle.zt_protocol.specs.declared.messages.Message.{Message}
use Rattle.zt_protocol.specs.declared.messages.Message.TheVariants as message
use Rattle.zt_model.specs.Entities.{entities_for, numbered_by, with_numbers}
use Rattle.zt_model.specs.Hearing.{heard_all, messages_for, put_if, rows_heard}
use Rattle.zt_model.specs.Lists.{first_where, has_id}
use Rattle.zt_model.specs.Promises.{is_sent_all}
use Rattle.zt_model.specs.Refusals.{is_interest_id_in_use}
use Rattle.zt_model.specs.Routing.{asked_as, asks_same, is_asked, is_held_south, is_target, route_to, sent_as}
use Rattle.zt_model.specs.Rows.{Face, InterestRow, Rows}
use Rattle.zt_model.specs.Says.{Part, Say, Sends, answered_expressions, answers_of, asking, final_of, find_face, is_routed, parts_of, row_of, to_each, to_face, with_face}
use Rattle.zt_model.specs.Transcript.{Each}
use Rattle.zt_laws.specs.Order.{HasRowsInOrder}
use Rattle.zt_laws.specs.Sound.{RiseFrom}
use Rattle.zt_laws.proofs.Hearing.{each_ruled_one, find_only, heard_all-held, heard_all-number, heard_all-region, messages_for_each}
use Rattle.zt_laws.proofs.Lists.{map_same, by_test, each_both, each_fails, each_map, each_weaker, never, of_cond, rise_above, rise_map}
use Rattle.zt_laws.proofs.PartsOrder.{rise_put_if}
use Rattle.zt_theorem_soundness.specs.Ran.{ran}
use Rattle.zt_theorem_soundness.proofs.ById.{find_mapped}
use Rattle.zt_theorem_soundness.proofs.CallsRun.{call_runs, each_entity}
use Rattle.zt_theorem_soundness.proofs.Parts.{nobody}
use Rattle.zt_theorem_visibility.proofs.Saying.{answers_say, final_says}
use Rattle.zt_theorem_upstream.proofs.Calls.{Quiet, Stays, leaves_same, ran_quiet}
use Rattle.zt_theorem_upstream.proofs.Ending.{each_three}
use Rattle.zt_theorem_upstream.proofs.Locals.{IsUpstream, LocalsBelow, Stands, any_put, fresh_next, heard_all_mode, held_heard, local_any, sent_all_same, sent_leads_up, south_any, stands_alike, stands_heard, stands_leaves, stands_quiet}

-- a test of faces, where one of them grows
any_one_grown : {K : Type 0} (q : Face K → Bool) (change : Face K → Face K) (n : ℕ) (b : Bool) (from : Face K) (low : ℕ) (fs : List (Face K)) → RiseFrom (λ f. f.number) low fs → first_where (λ f. n == f.number) fs ≡ Some from → q (change from) ≡ (q from || b)
    → list_any q (map (λ f. if n == f.number then change f else f) fs) ≡ (list_any q fs || b)
any_one_grown {K} q change n b from low [] rises found own = cc
any_one_grown {K} q change n b from low (f ∷ fs) rises found own =
    by_test (n == f.number)
    (λ here.
    let e : Some f ≡ Some from = rw here at found in
    let is : f ≡ from = cc in
    let rest : map (λ (x : Face K). if n == x.number then change x else x) fs ≡ fs = map_same (λ x. if n == x.number then change x else x) fs (each_weaker (λ x. f.number + 1 ≤ x.number) (λ x. (if n == x.number then change x else x) ≡ x) (λ x up. let n_is : n ≡ f.number = eqb-true n f.number here in let miss : (n == x.number) ≡ false = ne_eqb n x.number (λ y. omega arith) in rw miss refl) fs (rise_above (λ x. x.number) (f.number + 1) fs rises.1)) in
    let first : q (change f) ≡ (q f || b) = ap (λ x. q (change x)) is ∙ own ∙ ap (λ x. q x || b) (sym is) in
    rw here (ap (λ xs. q (change f) || list_any q xs) rest ∙ ap (λ c. c || list_any q fs) first ∙ or_last (q f) b (list_any q fs)))
    (λ here. rw here (ap (λ c. q f || c) (any_one_grown q change n b from (f.number + 1) fs rises.1 (rw here at found) own) ∙ or_in (q f) (list_any q fs) b))
  where
    or_last : (a b c : Bool) → ((a || b) || c) ≡ ((a || c) || b)
    or_last true b c = refl
    or_last false true true = refl
    or_last false true false = refl
    or_last false false true = refl
    or_last false false false = refl

    or_in : (a b c : Bool) → (a || (b || c)) ≡ ((a || b) || c)
    or_in true b c = refl
    or_in false b c = refl

or_back : (a b : Bool) → (a || b) ≡ (b || a)
or_back true true = refl
or_back true false = refl
or_back false true = refl
or_back false false = refl

or_none : (b : Bool) → (b || false) ≡ b
or_none true = refl
or_none false = refl

module _ {K : Type 0} (cmp : K → K → Ordering) (matching : K → K → Bool) where
  -- a face that is sent all interests in what comes later is asked for it
  sent_is_asked : (g : Rows K) (mode : InterestMode) (f : Face K) → is_future mode ≡ true → is_sent_all cmp matching g.mode f ≡ true → is_asked g mode f ≡ true
  sent_is_asked g mode f future sent = rw future (sent_leads_up cmp matching g.mode f sent)

  -- the face of a number is no router's
  abbrev NoRouter : ℕ → Rows K → Type 0
  NoRouter n g = Each (λ f. (n == f.number) ≡ true → whatami_eq f.mode Router ≡ false) g.faces

  no_router_heard : (n : ℕ) (ss : Sends K) (g : Rows K) → NoRouter n g → NoRouter n (rows_heard cmp ss g)
  unfolding rows_heard
  no_router_heard n ss g all =
      let hears = λ (f : Face K). heard_all cmp g.moment (messages_for f.number ss) f in
      each_map (λ f. (n == f.number) ≡ true → whatami_eq f.mode Router ≡ false) hears g.faces
      (each_weaker (λ f. (n == f.number) ≡ true → whatami_eq f.mode Router ≡ false) (λ f. (n == (hears f).number) ≡ true → whatami_eq (hears f).mode Router ≡ false)
      (λ f own here. ap (λ w. whatami_eq w Router) (heard_all_mode cmp matching g.moment (messages_for f.number ss) f) ∙ own (ap (λ k. n == k) (sym (heard_all-number cmp g.moment (messages_for f.number ss) f)) ∙ here)) g.faces all)

  module _ (n id : ℕ) (mode : InterestMode) (options : InterestOptions) (e : Option K) (from : Face K) (g : Rows K) (found : find_face n g ≡ Some from) where
    abbrev interest : InterestRow K
    interest = row_of cmp matching from mode options e

    abbrev T : InterestRow K → Bool
    T = is_held_south cmp matching g

    -- what is held to the south, with this one
    abbrev more : InterestRow K → Bool
    more i = is_future mode && (not (is_north from.region) && asks_same cmp matching i interest)

    abbrev U : InterestRow K → Bool
    U i = T i || more i

    asks : Face K → Face K
    asks f = asked_as (sent_as g from.region mode) id interest f

    -- the interest is sent
    routed_stands : IsUpstream cmp matching nobody g
        → (let g1 = with_numbers cmp (numbered_by cmp interest) g in Stands cmp matching nobody U (rows_heard cmp (to_each (route_to g1 from.region interest) g1.faces) g1))
    unfolding route_to is_target heard_all
    routed_stands up =
        let g1 = with_numbers cmp (numbered_by cmp interest) g in
        let ss = to_each (route_to g1 from.region interest) g1.faces in
        let s1 = stands_leaves cmp matching nobody T g g1 (leaves_same cmp matching g g1 refl refl) up in
        stands_heard cmp matching nobody nobody T U ss g1 s1
        (each_three (λ f. messages_for f.number ss ≡ route_to g1 from.region interest f) (LocalsBelow cmp matching) (λ f. nobody f.number ≡ false → is_sent_all cmp matching g.mode f ≡ true → (i : InterestRow K) → local_any cmp matching f i ≡ T i) (λ f. nobody f.number ≡ false → is_sent_all cmp matching g.mode f ≡ true → (i : InterestRow K) → local_any cmp matching (heard_all cmp g1.moment (messages_for f.number ss) f) i ≡ U i)
        (λ f says below own counts sent i. ap (λ ms. local_any cmp matching (heard_all cmp g1.moment ms f) i) says ∙ one f below (own counts sent) sent i)
        g1.faces (messages_for_each 1 (route_to g1 from.region interest) g1.faces s1.rises) s1.below s1.locals)
      where
        sends : Face K → List (Message K)
        sends f = message.Interest f.next interest.mode interest.options interest.expr ∷ []

        after : Rows K → List (Message K) → Face K → InterestRow K → Bool
        after h ms f i = local_any cmp matching (heard_all cmp h.moment ms f) i

        one : (f : Face K) → LocalsBelow cmp matching f → ((i : InterestRow K) → local_any cmp matching f i ≡ T i) → is_sent_all cmp matching g.mode f ≡ true → (i : InterestRow K)
            → (let g1 = with_numbers cmp (numbered_by cmp interest) g in after g1 (route_to g1 from.region interest f) f i ≡ U i)
        one f below own sent i = by_test (is_target g1 from.region mode f) target beside
          where
            g1 : Rows K
            g1 = with_numbers cmp (numbered_by cmp interest) g

            told : Bool → Bool
            told b = list_any (λ row. asks_same cmp matching i row.1) (put_if b f.next interest f.locals)

            target : is_target g1 from.region mode f ≡ true → after g1 (route_to g1 from.region interest f) f i ≡ U i
            target here =
                let south : not (is_north from.region) ≡ true = (and_parts (not (is_north from.region)) (is_asked g1 mode f) here).0 in
                ap (λ b. after g1 (if b then sends f else []) f i) here
                ∙ by_test (is_future mode)
                (λ future. ap told future ∙ any_put (λ row. asks_same cmp matching i row.1) f.next interest f.locals (fresh_next cmp matching f below) ∙ ap (λ b. asks_same cmp matching i interest || b) (own i) ∙ or_back (asks_same cmp matching i interest) (T i) ∙ ap (λ b. T i || b) (sym (rw (future, south) refl)))
                (λ future. ap told future ∙ own i ∙ sym (or_none (T i)) ∙ ap (λ b. T i || b) (sym (rw future refl)))

            beside : is_target g1 from.region mode f ≡ false → after g1 (route_to g1 from.region interest f) f i ≡ U i
            beside here = ap (λ b. after g1 (if b then sends f else []) f i) here ∙ own i ∙ sym (or_none (T i)) ∙ ap (λ b. T i || b) (sym (by_test (is_future mode) future_ (λ future. rw future refl)))
              where
                future_ : is_future mode ≡ true → more i ≡ false
                future_ future =
                    by_test (is_north from.region)
                    (λ up_. rw (future, up_) refl)
                    (λ south.
                    let asked_ = sent_is_asked g1 mode f future sent in
                    let is : is_target g1 from.region mode f ≡ true = rw south asked_ in
                    never is here)

    -- the interest is held
    asked_stands : (h : Rows K) (k : Face K) → find_face n h ≡ Some k → k.region ≡ from.region → k.held ≡ from.held → NoRouter n h → is_interest_id_in_use id mode from ≡ false
        → ((i : InterestRow K) → is_held_south cmp matching h i ≡ T i) → Stands cmp matching nobody U h → IsUpstream cmp matching nobody (with_face n asks h)
    unfolding is_held_south with_face asks
    asked_stands h k there region_ held_ plain free same_ stands =
        stands_alike cmp matching nobody U (is_held_south cmp matching (with_face n asks h)) (with_face n asks h) (λ i. sym (grown i))
        (record {
          rises = rise_map (λ f. f.number) 1 chosen h.faces (λ f. of_cond (λ (x : Face K). x.number ≡ f.number) (n == f.number) (asks f) f (λ _. refl) (λ _. refl)) stands.rises;
          rows = over HasRowsInOrder (λ f rows. of_cond HasRowsInOrder (n == f.number) (asks f) f (λ _. record { live = rows.live; held = rise_put_if (is_future mode) id interest f.held rows.held; locals = rows.locals; pendings = rows.pendings; asks = rise_put_if (is_current mode) id (record { interest = interest; pendings = sent_as g from.region mode; answered = [] }) f.asks rows.asks }) (λ _. rows)) stands.rows;
          below = over (LocalsBelow cmp matching) (λ f below. of_cond (LocalsBelow cmp matching) (n == f.number) (asks f) f (λ _. below) (λ _. below)) stands.below;
          locals = over Sent (λ f own. of_cond Sent (n == f.number) (asks f) f (λ _ counts sent i. own counts (sym (sent_all_same cmp matching h.mode f (asks f) refl refl) ∙ sent) i) (λ _. own)) stands.locals;
          routed = each_map Nothing chosen h.faces (each_both (λ f. (n == f.number) ≡ true → whatami_eq f.mode Router ≡ false) Nothing (λ f. Nothing (chosen f)) (λ f apart own. of_cond Nothing (n == f.number) (asks f) f (λ here routed. never (ap (λ w. whatami_eq w Router) (own routed).0) (apart here)) (λ _. own)) h.faces plain stands.routed);
        })
      where
        chosen : Face K → Face K
        chosen f = if n == f.number then asks f else f

        Sent : Face K → Type 0
        Sent f = nobody f.number ≡ false → is_sent_all cmp matching h.mode f ≡ true → (i : InterestRow K) → local_any cmp matching f i ≡ U i

        Nothing : Face K → Type 0
        Nothing f = is_routed h f ≡ true → (f.mode ≡ Router) × (f.held ≡ [])

        over : (P : Face K → Type 0) → ((f : Face K) → P f → P (chosen f)) → Each P h.faces → Each P (map chosen h.faces)
        over P one all = each_map P chosen h.faces (each_weaker P (λ f. P (chosen f)) one h.faces all)

        and_over : (a b c : Bool) → (a && (b || c)) ≡ ((a && c) || (a && b))
        and_over true b c = or_back b c
        and_over false b c = refl

        unheld : is_future mode ≡ true → Each (λ row. (id == row.0) ≡ false) k.held
        unheld future =
            let none_ : has_id id from.held ≡ false = by_test (has_id id from.held) (λ has. let used : is_interest_id_in_use id mode from ≡ true = rw (future, has) refl in never used free) (λ b. b) in
            subst (Each (λ row. (id == row.0) ≡ false)) (sym held_) (each_fails (λ row. id == row.0) from.held none_)

        own_grown : (i : InterestRow K) → south_any cmp matching (asks k) i ≡ (south_any cmp matching k i || more i)
        own_grown i =
            by_test (is_future mode)
            (λ future.
            ap (λ b. not (is_north k.region) && list_any (λ row. asks_same cmp matching i row.1) (put_if b id interest k.held)) future
            ∙ ap (λ b. not (is_north k.region) && b) (any_put (λ row. asks_same cmp matching i row.1) id interest k.held (unheld future))
            ∙ and_over (not (is_north k.region)) (asks_same cmp matching i interest) (list_any (λ row. asks_same cmp matching i row.1) k.held)
            ∙ ap (λ r. south_any cmp matching k i || (not (is_north r) && asks_same cmp matching i interest)) region_
            ∙ ap (λ b. south_any cmp matching k i || b) (sym (rw future refl)))
            (λ future.
            ap (λ b. not (is_north k.region) && list_any (λ row. asks_same cmp matching i row.1) (put_if b id interest k.held)) future
            ∙ sym (or_none (south_any cmp matching k i)) ∙ ap (λ b. south_any cmp matching k i || b) (sym (rw future refl)))

        grown : (i : InterestRow K) → is_held_south cmp matching (with_face n asks h) i ≡ U i
        grown i = any_one_grown (λ f. south_any cmp matching f i) asks n (more i) k 1 h.faces stands.rises there (own_grown i) ∙ ap (λ b. b || more i) (same_ i)

  pub interest_stays : (n id : ℕ) (mode : InterestMode) (options : InterestOptions) (e : Option K) (from : Face K) (g : Rows K) → find_face n g ≡ Some from → whatami_eq from.mode Router ≡ false → is_interest_id_in_use id mode from ≡ false → Stays cmp matching (Interest n id mode options e) g
  unfolding parts_of ran rows_heard with_face asks
  interest_stays n id mode options e from g found plain free up =
      subst (IsUpstream cmp matching nobody) (sym (call_runs cmp matching (Interest n id mode options e) g ∙ ap (λ (o : Option (Face K)). ran cmp (elim o [ None ↦ [] | Some f ↦ asking cmp matching n id (row_of cmp matching f mode options e) f.region g ]) g) found))
      (ran_quiet cmp matching nobody rest g4 (
        (λ h. each_ruled_one (Quiet cmp matching) n (answers_of cmp matching h id interest_) h (λ f. answers_say cmp matching (Quiet cmp matching) (λ k x i. tt) f.next f.told interest_.mode id (answered_expressions cmp matching h interest_ f))),
        ((λ h. each_ruled_one (Quiet cmp matching) n (final_of id) h (final_says cmp matching (Quiet cmp matching) (λ k. tt) id)), tt),
      )
      (asked_stands n id mode options e from g found g3 k3 found3 region3 held3 plain3 free same3 s3))
    where
      interest_ : InterestRow K
      interest_ = row_of cmp matching from mode options e

      rest : List (Part K)
      rest = Say (λ h. to_face n (answers_of cmp matching h id interest_) h) ∷ Say (to_face n (final_of id)) ∷ []

      g1 : Rows K
      g1 = with_numbers cmp (numbered_by cmp interest_) g

      ss1 : Sends K
      ss1 = to_each (route_to g1 from.region interest_) g1.faces

      g2 : Rows K
      g2 = rows_heard cmp ss1 g1

      ss2 : Sends K
      ss2 = to_face n (entities_for cmp matching g2 id interest_) g2

      g3 : Rows K
      g3 = rows_heard cmp ss2 g2

      g4 : Rows K
      g4 = with_face n (asks n id mode options e from g found) g3

      k2 : Face K
      k2 = heard_all cmp g1.moment (messages_for from.number ss1) from

      k3 : Face K
      k3 = heard_all cmp g2.moment (messages_for k2.number ss2) k2

      found3 : find_face n g3 ≡ Some k3
      found3 =
          find_mapped n (λ f. heard_all cmp g2.moment (messages_for f.number ss2) f) g2.faces k2 (λ f. heard_all-number cmp g2.moment (messages_for f.number ss2) f)
          (find_mapped n (λ f. heard_all cmp g1.moment (messages_for f.number ss1) f) g1.faces from (λ f. heard_all-number cmp g1.moment (messages_for f.number ss1) f) found)

      region3 : k3.region ≡ from.region
      region3 = heard_all-region cmp g2.moment (messages_for k2.number ss2) k2 ∙ heard_all-region cmp g1.moment (messages_for from.number ss1) from

      held3 : k3.held ≡ from.held
      held3 = heard_all-held cmp g2.moment (messages_for k2.number ss2) k2 ∙ heard_all-held cmp g1.moment (messages_for from.number ss1) from

      plain3 : NoRouter n g3
      plain3 =
          no_router_heard n ss2 g2 (no_router_heard n ss1 g1
          (each_weaker (λ f. (n == f.number) ≡ true → f ≡ from) (λ f. (n == f.number) ≡ true → whatami_eq f.mode Router ≡ false) (λ f only_ here. ap (λ (x : Face K). whatami_eq x.mode Router) (only_ here) ∙ plain) g.faces (find_only n 1 g.faces from up.rises found)))

      same3 : (i : InterestRow K) → is_held_south cmp matching g3 i ≡ is_held_south cmp matching g i
      same3 i = held_heard cmp matching ss2 g2 i ∙ held_heard cmp matching ss1 g1 i ∙ held_numbers i
        where
          held_numbers : (i : InterestRow K) → is_held_south cmp matching g1 i ≡ is_held_south cmp matching g i
          held_numbers i = unfold is_held_south in refl

      s3 : Stands cmp matching nobody (U n id mode options e from g found) g3
      s3 = stands_quiet cmp matching nobody (U n id mode options e from g found) ss2 g2 (routed_stands n id mode options e from g found up) (each_ruled_one (Quiet cmp matching) n (entities_for cmp matching g2 id interest_) g2 (each_entity cmp (Quiet cmp matching) (λ number x j. tt) (λ number x info j. tt) matching g2 id interest_))
