-- Each call finishes the asks that it ends, and so leaves each ask with a pending that stands.
use Rattle.std.proofs.Common.{◌≡◌, ℕ, ◌+◌, ◌≤◌, ◌<◌, Bool, true, false, not, if◌then◌else◌, ◌&&◌, ◌||◌, ◌==◌, List, [], ◌∷◌, ◌++◌, Option, Some, None, is_none, refl, sym, ap, ◌∙◌, subst, arith, eqb-true, eq-eqb, ne_eqb}
use Rattle.std.proofs.lemmas.Bool.{and_parts, not-false, or_left, or_right}
use Rattle.std.specs.Cmp.{IsTotalOrder}
use Rattle.std.specs.List.{list_any}
use Rattle.std.specs.declared.cmp.Ordering.{Ordering}
use Rattle.std.specs.declared.cmp.Ordering.TheVariants.{Equal}
use Rattle.zt_region.specs.declared.region.Bound.{Bound}
use Rattle.zt_region.specs.declared.region.Region.{Region}
use Rattle.zt_region.specs.declared.region.Region.TheVariants.{North, Local, South}
use Rattle.zt_region.specs.declared.region.WhatAmI.{WhatAmI}
use Rattle.zt_region.specs.declared.region.WhatAmI.TheVariants.{Router, Peer, Client}
use Rattle.zt_region.specs.declared.region.Zid.{Zid}
use Rattle.zt_region.specs.Region.{is_north}
use Rattle.zt_protocol.specs.Interest.{is_current, is_future}
use Rattle.zt_protocol.specs.Plain.{PlainCall, NewSession, NewTransport, DeclareToken, UndeclareToken, Interest, InterestFinal, DeclareFinal, CloseFace, Expire, SetTrees, SetEntities}
use Rattle.zt_protocol.specs.declared.interests.InterestMode.{InterestMode}
use Rattle.zt_protocol.specs.declared.messages.Message.{Message}
use Rattle.zt_model.specs.Closing.{closing, expiring, leaving, without_face}
use Rattle.zt_model.specs.Entities.{entities_for, numbered_by, with_numbers}
use Rattle.zt_model.specs.Hat.{hat_of, north_hat}
use Rattle.zt_model.specs.Hearing.{heard_all, messages_for, rows_heard}
use Rattle.zt_model.specs.Lists.{at_id, first_where, has_id, is_some_and}
use Rattle.zt_model.specs.Parts.{unsaid_to}
use Rattle.zt_model.specs.Promises.{finals_in}
use Rattle.zt_model.specs.Refusals.{call_causes, first_cause, is_interest_id_in_use}
use Rattle.zt_model.specs.Routing.{asked_as, face_opened, final_of, finalising, finishing, interests_from, is_target, leads_up, opened, opening_final, opening_interests, opening_tokens, route, route_to, sent_as, stands, tokens_from}
use Rattle.zt_model.specs.Rows.{Ask, ById, Face, InterestRow, Rows}
use Rattle.zt_model.specs.Says.{Alter, Part, Say, Sends, altered, altered_by, answered_expressions, answers_of, asking, finalising_held, find_face, is_routed, opened_session, parts_of, row_of, said, said_by, to_face, with_face}
use Rattle.zt_model.specs.Transcript.{Each}
use Rattle.zt_model.proofs.Hats.{asked_in, asked_is}
use Rattle.zt_laws.specs.Order.{RowsAreInOrder}
use Rattle.zt_laws.specs.Sound.{RiseFrom, opens_face, rows_after_call}
use Rattle.zt_laws.proofs.Calls.{no_cause, not_on_face}
use Rattle.zt_laws.proofs.Hearing.{each_ruled_one, messages_for_each}
use Rattle.zt_laws.proofs.Lists.{any_weaker, by_test, each_append, each_both, each_filter, each_map, each_weaker, never, of_cond, rise_push}
use Rattle.zt_laws.proofs.ToldFrom.{found_by_number}
use Rattle.zt_theorem_soundness.specs.Ran.{ran}
use Rattle.zt_theorem_soundness.specs.Sound.{AsksAreHeld}
use Rattle.zt_theorem_soundness.proofs.CallsRun.{call_runs, each_entity}
use Rattle.zt_theorem_soundness.proofs.Going.{MakesNoPending, asks_heard}
use Rattle.zt_theorem_soundness.proofs.Lines.{IsLeftByCalls}
use Rattle.zt_theorem_soundness.proofs.Parts.{nobody, only}
use Rattle.zt_theorem_soundness.proofs.Running.{ran-append}
use Rattle.zt_theorem_soundness.proofs.Sound.{sound_is_left}
use Rattle.zt_theorem_visibility.proofs.Saying.{answers_say, final_says, opening_final_says, tokens_say}
use Rattle.zt_theorem_finals.specs.Open.{AsksAreOpen, AsksStand}
use Rattle.zt_theorem_finals.proofs.Asks.{IsAsk, LeavesAsks, any_final, has_ask_heard}
use Rattle.zt_theorem_finals.proofs.Calls.{FinishesBy, GetsFinal, closing_finishes, each_ask, expiring_keeps, expiry_finishes, final_finishes, finishing_keeps, gets_final, is_this, nothing_ended, still_finish}
use Rattle.zt_theorem_finals.proofs.Ending.{Stays, face_finals, outcome_stays, stays_nothing, stays_say}
use Rattle.zt_theorem_finals.proofs.Initial.{to_face_none, to_face_own}
use Rattle.zt_theorem_finals.proofs.Interests.{asking_finishes, interest_end_finishes}
use Rattle.zt_theorem_finals.proofs.Still.{PartKeeps, RoutedAskNothing, declaration_still, entities_still, finalising_keeps, keep_if_still, leaving_keeps, routed_heard, routed_quietly, routed_ran, table_still, undeclaration_still, unsaid_keeps}

-- each row's id is there
own_ids : {A : Type 0} (rows : ById A) → Each (λ row. has_id row.0 rows ≡ true) rows
own_ids [] = tt
own_ids (r ∷ rows) = (
  or_left (r.0 == r.0) (has_id r.0 rows) (eq-eqb r.0 r.0 refl),
  each_weaker (λ row. has_id row.0 rows ≡ true) (λ row. has_id row.0 (r ∷ rows) ≡ true) (λ row there. or_right (row.0 == r.0) (has_id row.0 rows) there) rows (own_ids rows),
)

find_front : {A : Type 0} (p : A → Bool) (xs ys : List A) (x : A) → first_where p xs ≡ Some x → first_where p (xs ++ ys) ≡ Some x
find_front p [] ys x found = cc
find_front p (y ∷ xs) ys x found = by_test (p y) (λ here. rw here (rw here at found)) (λ here. rw here (find_front p xs ys x (rw here at found)))

some_front : {A : Type 0} (p q : A → Bool) (xs ys : List A) → is_some_and (first_where p xs) q ≡ true → is_some_and (first_where p (xs ++ ys)) q ≡ true
some_front p q [] ys has = never has refl
some_front p q (x ∷ xs) ys has = by_test (p x) (λ here. rw here (rw here at has)) (λ here. rw here (some_front p q xs ys (rw here at has)))

module _ {K : Type 0} (cmp : K → K → Ordering) (matching : K → K → Bool) where
  -- the interest that a call ends
  abbrev pub ended_by : PlainCall K → ℕ → ℕ → Bool
  ended_by (InterestFinal n id) = is_this n id
  ended_by c = nothing_ended

  pub call_finishes : (spent : Bool) (c : PlainCall K) (g : Rows K) → opens_face c ≡ false → first_cause (call_causes cmp matching spent c g) ≡ None → RowsAreInOrder cmp matching g → AsksStand g → AsksAreHeld (λ k. false) g
      → FinishesBy cmp matching (ended_by c) (parts_of cmp matching c g) g
  unfolding call_causes parts_of
  call_finishes spent (NewSession first) g still accepted ordered stand held = never refl still
  call_finishes spent (NewTransport zid whatami region bound first) g still accepted ordered stand held = never refl still
  call_finishes spent (DeclareToken n id e node interest) g still accepted ordered stand held = still_finish cmp matching (parts_of cmp matching (DeclareToken n id e node interest) g) g ordered stand (declaration_still cmp matching n id node e interest g)
  call_finishes spent (UndeclareToken n id given node) g still accepted ordered stand held = still_finish cmp matching (parts_of cmp matching (UndeclareToken n id given node) g) g ordered stand (undeclaration_still cmp matching n id node given g)
  call_finishes spent (Interest n id mode options e) g still accepted ordered stand held = by_face (find_face n g) refl
    where
      Goal : Option (Face K) → Type 0
      Goal o = FinishesBy cmp matching nothing_ended (elim o [ None ↦ [] | Some f ↦ asking cmp matching n id (row_of cmp matching f mode options e) f.region g ]) g

      by_face : (o : Option (Face K)) → find_face n g ≡ o → Goal (find_face n g)
      by_face None found = let one = (no_cause _ _ _ accepted).0 in never (ap (λ (o : Option (Face K)). is_none o) found) one
      by_face (Some from) found =
          let one = no_cause _ _ _ accepted in
          let two = no_cause _ _ _ one.1 in
          let three = no_cause _ _ _ two.1 in
          let four = no_cause _ _ _ three.1 in
          let five = no_cause _ _ _ four.1 in
          let free = not_on_face n g (is_interest_id_in_use id mode) from found five.0 in
          subst Goal (sym found) (asking_finishes cmp matching n id (row_of cmp matching from mode options e) from g found ordered stand (λ current. unused from free current))
        where
          unused : (from : Face K) → is_interest_id_in_use id mode from ≡ false → is_current mode ≡ true → has_id id from.asks ≡ false
          unused from free current =
              by_test (has_id id from.asks)
              (λ there. let used : is_interest_id_in_use id mode from ≡ true = rw (current, there) (by_test (is_future mode && has_id id from.held) (λ b. rw b refl) (λ b. rw b refl)) in never used free)
              (λ none_. none_)
  call_finishes spent (InterestFinal n id) g still accepted ordered stand held = by_face (find_face n g) refl
    where
      by_face : (o : Option (Face K)) → find_face n g ≡ o → FinishesBy cmp matching (is_this n id) (parts_of cmp matching (InterestFinal n id) g) g
      by_face None found = let one = (no_cause _ _ _ accepted).0 in never (ap (λ (o : Option (Face K)). is_none o) found) one
      by_face (Some from) found =
          let one = no_cause _ _ _ accepted in
          let two = no_cause _ _ _ one.1 in
          interest_end_finishes cmp matching n id from g found (not-false (has_id id from.held) (not_on_face n g (λ f. not (has_id id f.held)) from found two.0)) ordered stand held
  call_finishes spent (DeclareFinal n id) g still accepted ordered stand held = final_finishes cmp matching n id g ordered stand
  call_finishes spent (CloseFace n) g still accepted ordered stand held = closing_finishes cmp matching n g ordered stand
  call_finishes spent (Expire now) g still accepted ordered stand held = expiry_finishes cmp matching now g ordered stand
  call_finishes spent (SetTrees region t) g still accepted ordered stand held = still_finish cmp matching (parts_of cmp matching (SetTrees region t) g) g ordered stand (table_still cmp matching region t g)
  call_finishes spent (SetEntities n subscribers queryables) g still accepted ordered stand held = still_finish cmp matching (parts_of cmp matching (SetEntities n subscribers queryables) g) g ordered stand (entities_still cmp matching n subscribers queryables g)

  -- ---- openings

  -- a face more, without asks
  module _ (new_ : Face K) (g h : Rows K) (faces_ : h.faces ≡ g.faces ++ new_ ∷ []) (number_ : new_.number ≡ g.made + 1) (ordered : RowsAreInOrder cmp matching g) where
    rises_opened : RiseFrom (λ f. f.number) 1 h.faces
    rises_opened =
        subst (RiseFrom (λ (f : Face K). f.number) 1) (sym faces_)
        (rise_push (λ f. f.number) 1 g.faces new_ (let n : new_.number ≡ g.made + 1 = number_ in omega (arith, n)) (each_weaker (λ f. f.number ≤ g.made) (λ f. f.number < new_.number) (λ f low. let n : new_.number ≡ g.made + 1 = number_ in omega (arith, n, low)) g.faces ordered.lists.faces_made) ordered.lists.faces_rise)

    ask_opened : (k i : ℕ) (ask : Ask K) → IsAsk cmp k i ask true g → IsAsk cmp k i ask true h
    ask_opened k i ask is = record {
      at = record {
        face = is.at.face;
        rises = rises_opened;
        found = ap (λ (fs : List (Face K)). first_where (λ f. k == f.number) fs) faces_ ∙ find_front (λ f. k == f.number) g.faces (new_ ∷ []) is.at.face is.at.found;
        asks_rise = is.at.asks_rise;
        own = is.at.own;
        has = is.at.has;
      };
      stand = any_weaker (stands g) (stands h) (λ p has. ap (λ (fs : List (Face K)). is_some_and (first_where (λ f. p.0 == f.number) fs) (λ f. has_id p.1 f.pendings)) faces_ ∙ some_front (λ (f : Face K). p.0 == f.number) (λ f. has_id p.1 f.pendings) g.faces (new_ ∷ []) has) ask.pendings is.stand;
    }

  opening_finishes : (zid : Zid) (whatami : WhatAmI) (region : Region) (bound : Bound) (first : ℕ) (g : Rows K) → RowsAreInOrder cmp matching g → AsksStand g → FinishesBy cmp matching nothing_ended (parts_of cmp matching (NewTransport zid whatami region bound first) g) g
  unfolding parts_of altered_by said_by ran
  opening_finishes zid whatami region bound first g ordered stand =
      each_append (λ f. Each (GetsFinal cmp matching nothing_ended parts g f.number) f.asks) g.faces (new_ ∷ [])
      (each_both (λ f. f.number ≤ g.made) (λ f. Each (λ row. IsAsk cmp f.number row.0 row.1 true g) f.asks) (λ f. Each (GetsFinal cmp matching nothing_ended parts g f.number) f.asks)
      (λ f low all.
      each_weaker (λ row. IsAsk cmp f.number row.0 row.1 true g) (GetsFinal cmp matching nothing_ended parts g f.number)
      (λ row is.
      gets_final cmp matching nothing_ended parts g f.number row refl (outcome_stays cmp matching f.number row.0 row.1 says h (stays f.number row.0 row.1 (ne_eqb f.number made (λ e. omega (arith, e, low)))) (ask_opened new_ g h refl refl ordered f.number row.0 row.1 is)))
      f.asks all) g.faces ordered.lists.faces_made (each_ask cmp matching g ordered stand))
      (tt, tt)
    where
      made : ℕ
      made = g.made + 1

      parts : List (Part K)
      parts = parts_of cmp matching (NewTransport zid whatami region bound first) g

      new_ : Face K
      new_ = face_opened zid whatami region bound first g

      h : Rows K
      h = opened zid whatami region bound first g

      last : List (Part K)
      last = Say (to_face made (opening_final cmp matching)) ∷ []

      later : List (Part K)
      later = Say (λ h. to_face made (λ f. tokens_from f.next (opening_tokens cmp matching h f)) h) ∷ last

      says : List (Part K)
      says = Say (λ h. to_face made (λ f. interests_from f.next (opening_interests cmp matching h f)) h) ∷ later

      stays : (k i : ℕ) (ask : Ask K) → (k == made) ≡ false → Stays cmp matching k i ask says
      stays k i ask apart =
          stays_say cmp matching k i ask (λ h. to_face made (λ f. interests_from f.next (opening_interests cmp matching h f)) h) later (λ x is. face_finals cmp matching k i ask made (λ f. interests_from f.next (opening_interests cmp matching x f)) x true is.at (λ own. never own apart))
          (stays_say cmp matching k i ask (λ h. to_face made (λ f. tokens_from f.next (opening_tokens cmp matching h f)) h) last (λ x is. face_finals cmp matching k i ask made (λ f. tokens_from f.next (opening_tokens cmp matching x f)) x true is.at (λ own. never own apart))
          (stays_say cmp matching k i ask (to_face made (opening_final cmp matching)) [] (λ x is. face_finals cmp matching k i ask made (opening_final cmp matching) x true is.at (λ own. never own apart)) (stays_nothing cmp matching k i ask)))

  session_finishes : (first : ℕ) (g : Rows K) → RowsAreInOrder cmp matching g → AsksStand g → FinishesBy cmp matching nothing_ended (parts_of cmp matching (NewSession first) g) g
  unfolding parts_of altered_by said_by ran
  session_finishes first g ordered stand =
      each_append (λ f. Each (GetsFinal cmp matching nothing_ended parts g f.number) f.asks) g.faces (_ ∷ [])
      (each_weaker (λ f. Each (λ row. IsAsk cmp f.number row.0 row.1 true g) f.asks) (λ f. Each (GetsFinal cmp matching nothing_ended parts g f.number) f.asks)
      (λ f all.
      each_weaker (λ row. IsAsk cmp f.number row.0 row.1 true g) (GetsFinal cmp matching nothing_ended parts g f.number)
      (λ row is. gets_final cmp matching nothing_ended parts g f.number row refl (outcome_stays cmp matching f.number row.0 row.1 [] (opened_session first g) (stays_nothing cmp matching f.number row.0 row.1) (ask_opened _ g (opened_session first g) refl refl ordered f.number row.0 row.1 is)))
      f.asks all) g.faces (each_ask cmp matching g ordered stand))
      (tt, tt)
    where
      parts : List (Part K)
      parts = parts_of cmp matching (NewSession first) g

  pub opens_finish : (c : PlainCall K) (g : Rows K) → opens_face c ≡ true → RowsAreInOrder cmp matching g → AsksStand g → FinishesBy cmp matching (ended_by c) (parts_of cmp matching c g) g
  opens_finish (NewSession first) g opens ordered stand = session_finishes first g ordered stand
  opens_finish (NewTransport zid whatami region bound first) g opens ordered stand = opening_finishes zid whatami region bound first g ordered stand
  opens_finish (DeclareToken n id e node interest) g opens ordered stand = never opens refl
  opens_finish (UndeclareToken n id given node) g opens ordered stand = never opens refl
  opens_finish (Interest n id mode options e) g opens ordered stand = never opens refl
  opens_finish (InterestFinal n id) g opens ordered stand = never opens refl
  opens_finish (DeclareFinal n id) g opens ordered stand = never opens refl
  opens_finish (CloseFace n) g opens ordered stand = never opens refl
  opens_finish (Expire now) g opens ordered stand = never opens refl
  opens_finish (SetTrees region t) g opens ordered stand = never opens refl
  opens_finish (SetEntities n subscribers queryables) g opens ordered stand = never opens refl

  -- ---- what stands then

  -- where each ask got what it should, those that are left have a pending
  asks_stand_after : (c : PlainCall K) (g : Rows K) → FinishesBy cmp matching (ended_by c) (parts_of cmp matching c g) g
      → (let h = rows_after_call cmp matching c g in Each (λ f. Each (λ row. list_any (stands h) row.1.pendings ≡ true) f.asks) h.faces)
  unfolding rows_heard
  asks_stand_after c g all =
      each_map (λ f. Each (λ row. list_any (stands h) row.1.pendings ≡ true) f.asks) hears a.faces
      (each_weaker (λ f. Each (GetsFinal cmp matching (ended_by c) (parts_of cmp matching c g) g f.number) f.asks) (λ f. Each (λ row. list_any (stands h) row.1.pendings ≡ true) (hears f).asks) one a.faces all)
    where
      a : Rows K
      a = altered cmp matching c g

      ss : Sends K
      ss = said cmp matching c g

      h : Rows K
      h = rows_heard cmp ss a

      hears : Face K → Face K
      hears f = heard_all cmp a.moment (messages_for f.number ss) f

      left_standing : (st fut end : Bool) (n : ℕ) → n ≡ (if not st || (fut && end) then 1 else 0) → n ≡ 0 → st ≡ true
      left_standing true fut end n is none_ = refl
      left_standing false fut end n is none_ = absurd (omega (arith, is, none_))

      no_final : (b : Bool) (n : ℕ) → (b && not (not (n == 0))) ≡ true → n ≡ 0
      no_final b n has = eqb-true n 0 (twice (n == 0) ((and_parts b (not (not (n == 0))) has).1))
        where
          twice : (x : Bool) → not (not x) ≡ true → x ≡ true
          twice true is = refl
          twice false is = is

      one : (f : Face K) → Each (GetsFinal cmp matching (ended_by c) (parts_of cmp matching c g) g f.number) f.asks → Each (λ row. list_any (stands h) row.1.pendings ≡ true) (hears f).asks
      one f got =
          let ms = messages_for f.number ss in
          each_both (λ row. has_id row.0 (hears f).asks ≡ true) (λ row. finals_in row.0 ms ≡ 0 → list_any (stands h) row.1.pendings ≡ true) (λ row. list_any (stands h) row.1.pendings ≡ true)
          (λ row there standing.
          standing (no_final (has_id row.0 f.asks) (finals_in row.0 ms) (ap (λ b. has_id row.0 f.asks && not b) (sym (any_final row.0 ms)) ∙ sym (has_ask_heard cmp row.0 a.moment ms f) ∙ there)))
          (hears f).asks (own_ids (hears f).asks)
          (asks_heard cmp (λ row. finals_in row.0 ms ≡ 0 → list_any (stands h) row.1.pendings ≡ true) (λ row es p. p) a.moment ms f
          (each_weaker (GetsFinal cmp matching (ended_by c) (parts_of cmp matching c g) g f.number) (λ row. finals_in row.0 ms ≡ 0 → list_any (stands h) row.1.pendings ≡ true)
          (λ row is none_. ap (λ (x : Rows K). list_any (stands x) row.1.pendings) (call_runs cmp matching c g) ∙ left_standing (list_any (stands (ran cmp (parts_of cmp matching c g) g)) row.1.pendings) (is_future row.1.interest.mode) (ended_by c f.number row.0) (finals_in row.0 ms) is none_)
          f.asks got))

  -- ---- faces of router regions

  routed_not_asked : (g : Rows K) (mode : InterestMode) (f : Face K) (w : WhatAmI) (r : Region) → f.region ≡ r → (hat_of w r).goes_by_trees ≡ true → asked_in w g mode f ≡ false
  routed_not_asked g mode f Router r region_ is = refl
  routed_not_asked g mode f Peer North region_ is = never is refl
  routed_not_asked g mode f Client North region_ is = never is refl
  routed_not_asked g mode f Peer Local region_ is = never is refl
  routed_not_asked g mode f Client Local region_ is = never is refl
  routed_not_asked g mode f Peer (South id remote) region_ is = by_test (is_future mode) (λ b. rw (b, region_) refl) (λ b. rw (b, region_) refl)
  routed_not_asked g mode f Client (South id remote) region_ is = rw region_ refl

  routed_no_target : (g : Rows K) (asker : Region) (mode : InterestMode) (f : Face K) → is_routed g f ≡ true → is_target g asker mode f ≡ false
  unfolding is_target
  routed_no_target g asker mode f routed = by_test (is_north asker) (λ north. rw north refl) (λ south. rw south (asked_is g mode f ∙ routed_not_asked g mode f g.mode f.region refl routed))

  routed_leads_nowhere : (g : Rows K) (f : Face K) → is_routed g f ≡ true → leads_up g.mode f ≡ false
  routed_leads_nowhere g f routed = of_region g.mode f.region routed
    where
      of_region : (w : WhatAmI) (r : Region) → (hat_of w r).goes_by_trees ≡ true → (is_north r && (north_hat w).leads_up f.bound) ≡ false
      of_region Router North is = refl
      of_region Peer North is = never is refl
      of_region Client North is = never is refl
      of_region w Local is = refl
      of_region w (South id remote) is = refl

  routed_route : (asker : Region) (interest : InterestRow K) (g : Rows K) → RiseFrom (λ f. f.number) 1 g.faces → RoutedAskNothing cmp matching g → RoutedAskNothing cmp matching (rows_heard cmp (route asker interest g) g)
  unfolding route_to
  routed_route asker interest g rises all =
      routed_heard cmp matching (route asker interest g) g
      (each_weaker (λ f. messages_for f.number (route asker interest g) ≡ route_to g asker interest f) (λ f. is_routed g f ≡ true → Each MakesNoPending (messages_for f.number (route asker interest g)))
      (λ f own routed. let away : is_target g asker interest.mode f ≡ false = routed_no_target g asker interest.mode f routed in subst (Each MakesNoPending) (sym own) (rw away tt)) g.faces (messages_for_each 1 (route_to g asker interest) g.faces rises)) all

  routed_asking : (n id : ℕ) (interest : InterestRow K) (asker : Region) (g : Rows K) → RowsAreInOrder cmp matching g → RoutedAskNothing cmp matching g → RoutedAskNothing cmp matching (ran cmp (asking cmp matching n id interest asker g) g)
  unfolding ran with_face
  routed_asking n id interest asker g ordered all =
      let g1 = with_numbers cmp (numbered_by cmp interest) g in
      routed_ran cmp matching (only n) rest (rows_heard cmp (route asker interest g1) g1) (
        (λ h. each_ruled_one MakesNoPending n (entities_for cmp matching h id interest) h (each_entity cmp MakesNoPending (λ number k j. tt) (λ number k info j. tt) matching h id interest)),
        (
          (λ h. leaves_asked h),
          (
            (λ h. each_ruled_one MakesNoPending n (answers_of cmp matching h id interest) h (λ f. answers_say cmp matching MakesNoPending (λ k e j. tt) f.next f.told interest.mode id (answered_expressions cmp matching h interest f))),
            ((λ h. each_ruled_one MakesNoPending n (final_of id) h (final_says cmp matching MakesNoPending (λ j. tt) id)), tt),
          ),
        ),
      ) (routed_route asker interest g1 ordered.lists.faces_rise all)
    where
      pendings : List (ℕ × ℕ)
      pendings = sent_as g asker interest.mode

      rest : List (Part K)
      rest =
          Say (λ h. to_face n (entities_for cmp matching h id interest) h)
          ∷ Alter (with_face n (asked_as pendings id interest))
          ∷ Say (λ h. to_face n (answers_of cmp matching h id interest) h)
          ∷ Say (to_face n (final_of id))
          ∷ []

      leaves_asked : (h : Rows K) → LeavesAsks cmp (only n) h (with_face n (asked_as pendings id interest) h)
      leaves_asked h = record {
        mode = refl;
        change = λ f. if n == f.number then asked_as pendings id interest f else f;
        faces = refl;
        number = λ f. of_cond (λ (x : Face K). x.number ≡ f.number) (n == f.number) (asked_as pendings id interest f) f (λ _. refl) (λ _. refl);
        region = λ f. of_cond (λ (x : Face K). x.region ≡ f.region) (n == f.number) (asked_as pendings id interest f) f (λ _. refl) (λ _. refl);
        asks = λ f apart. of_cond (λ (x : Face K). x.asks ≡ f.asks) (n == f.number) (asked_as pendings id interest f) f (λ here. never here apart) (λ _. refl);
        none = λ f none_. of_cond (λ (x : Face K). x.pendings ≡ []) (n == f.number) (asked_as pendings id interest f) f (λ _. none_) (λ _. none_);
      }

  at_face_routed : (n : ℕ) (g : Rows K) (parts : Face K → List (Part K)) → RoutedAskNothing cmp matching g → ((f : Face K) → find_face n g ≡ Some f → RoutedAskNothing cmp matching (ran cmp (parts f) g)) → RoutedAskNothing cmp matching (ran cmp (elim (find_face n g) [ None ↦ [] | Some f ↦ parts f ]) g)
  unfolding ran
  at_face_routed n g parts all one = cases (find_face n g) refl
    where
      cases : (o : Option (Face K)) → find_face n g ≡ o → RoutedAskNothing cmp matching (ran cmp (elim o [ None ↦ [] | Some f ↦ parts f ]) g)
      cases None found = all
      cases (Some f) found = one f found

  routed_opening : (zid : Zid) (whatami : WhatAmI) (region : Region) (bound : Bound) (first : ℕ) (g : Rows K) → RowsAreInOrder cmp matching g → RoutedAskNothing cmp matching g → RoutedAskNothing cmp matching (ran cmp (parts_of cmp matching (NewTransport zid whatami region bound first) g) g)
  unfolding parts_of ran interests_from
  routed_opening zid whatami region bound first g ordered all =
      routed_quietly cmp matching (to_face made (opening_final cmp matching) h2) h2 (each_ruled_one MakesNoPending made (opening_final cmp matching) h2 (opening_final_says cmp matching MakesNoPending (λ j. tt)))
      (routed_quietly cmp matching (to_face made (λ f. tokens_from f.next (opening_tokens cmp matching h1 f)) h1) h1 (each_ruled_one MakesNoPending made (λ f. tokens_from f.next (opening_tokens cmp matching h1 f)) h1 (λ f. tokens_say cmp matching MakesNoPending (λ j e. tt) f.next (opening_tokens cmp matching h1 f)))
      (routed_heard cmp matching (to_face made (rule h) h) h
      (each_weaker (λ f. find_face f.number h ≡ Some f) (λ f. is_routed h f ≡ true → Each MakesNoPending (messages_for f.number (to_face made (rule h) h)))
      (λ f found routed.
      by_test (f.number == made)
      (λ own.
      let is : f.number ≡ made = eqb-true f.number made own in
      let away : leads_up h.mode f ≡ false = routed_leads_nowhere h f routed in
      subst (λ k. Each MakesNoPending (messages_for k (to_face made (rule h) h))) (sym is)
      (subst (Each MakesNoPending) (sym (to_face_own made (rule h) h f (subst (λ k. find_face k h ≡ Some f) is found))) (rw away tt)))
      (λ other. subst (Each MakesNoPending) (sym (to_face_none f.number made (rule h) h other)) tt))
      h.faces (found_by_number 1 h.faces (rises_opened new_ g h refl refl ordered)))
      (each_append (λ f. is_routed g f ≡ true → f.pendings ≡ []) g.faces (new_ ∷ []) all ((λ _. refl), tt))))
    where
      made : ℕ
      made = g.made + 1

      new_ : Face K
      new_ = face_opened zid whatami region bound first g

      h : Rows K
      h = opened zid whatami region bound first g

      rule : Rows K → Face K → List (Message K)
      rule x f = interests_from f.next (opening_interests cmp matching x f)

      h1 : Rows K
      h1 = rows_heard cmp (to_face made (rule h) h) h

      h2 : Rows K
      h2 = rows_heard cmp (to_face made (λ f. tokens_from f.next (opening_tokens cmp matching h1 f)) h1) h1

  routed_closing : (n : ℕ) (g : Rows K) → RoutedAskNothing cmp matching g → RoutedAskNothing cmp matching (ran cmp (parts_of cmp matching (CloseFace n) g) g)
  unfolding parts_of
  routed_closing n g all =
      at_face_routed n g (closing cmp matching n g) all
      (λ from found.
      let parts : List (Part K) = if is_routed g from then [] else unsaid_to n (leaving cmp matching n from) in
      let keep = of_cond (Each (PartKeeps cmp matching (only n))) (is_routed g from) [] (unsaid_to n (leaving cmp matching n from)) (λ _. tt) (λ _. unsaid_keeps cmp matching (only n) n (leaving cmp matching n from) (leaving_keeps cmp matching n from)) in
      subst (RoutedAskNothing cmp matching) (sym (ran-append cmp parts (Alter (without_face n) ∷ []) g)) (gone (ran cmp parts g) (routed_ran cmp matching (only n) parts g keep all)))
    where
      gone : (h : Rows K) → RoutedAskNothing cmp matching h → RoutedAskNothing cmp matching (ran cmp (Alter (without_face n) ∷ []) h)
      gone h own = unfold ran in each_filter (λ f. is_routed h f ≡ true → f.pendings ≡ []) (λ f. not (n == f.number)) h.faces own

  routed_after : (c : PlainCall K) (g : Rows K) → RowsAreInOrder cmp matching g → RoutedAskNothing cmp matching g → RoutedAskNothing cmp matching (ran cmp (parts_of cmp matching c g) g)
  routed_after (NewSession first) g ordered all = unfold parts_of in unfold ran in each_append (λ f. is_routed g f ≡ true → f.pendings ≡ []) g.faces (_ ∷ []) all ((λ _. refl), tt)
  routed_after (NewTransport zid whatami region bound first) g ordered all = routed_opening zid whatami region bound first g ordered all
  routed_after (DeclareToken n id e node interest) g ordered all = let c : PlainCall K = DeclareToken n id e node interest in routed_ran cmp matching nobody (parts_of cmp matching c g) g (keep_if_still cmp matching nobody (parts_of cmp matching c g) (declaration_still cmp matching n id node e interest g)) all
  routed_after (UndeclareToken n id given node) g ordered all = let c : PlainCall K = UndeclareToken n id given node in routed_ran cmp matching nobody (parts_of cmp matching c g) g (keep_if_still cmp matching nobody (parts_of cmp matching c g) (undeclaration_still cmp matching n id node given g)) all
  routed_after (Interest n id mode options e) g ordered all = unfold parts_of in at_face_routed n g (λ f. asking cmp matching n id (row_of cmp matching f mode options e) f.region g) all (λ f found. routed_asking n id (row_of cmp matching f mode options e) f.region g ordered all)
  routed_after (InterestFinal n id) g ordered all = unfold parts_of in at_face_routed n g (finalising_held cmp matching n id) all (λ f found. by_held (at_id id f.held))
    where
      by_held : (o : Option (InterestRow K)) → RoutedAskNothing cmp matching (ran cmp (elim o [ None ↦ [] | Some interest ↦ finalising cmp matching n id interest ]) g)
      by_held None = unfold ran in all
      by_held (Some interest) = routed_ran cmp matching nobody (finalising cmp matching n id interest) g (finalising_keeps cmp matching nobody n id interest) all
  routed_after (DeclareFinal n id) g ordered all = unfold parts_of in at_face_routed n g (finishing n id) all (λ f found. routed_ran cmp matching nobody (finishing n id f) g (finishing_keeps cmp matching n id f) all)
  routed_after (CloseFace n) g ordered all = routed_closing n g all
  routed_after (Expire now) g ordered all = unfold parts_of in routed_ran cmp matching nobody (expiring now g) g (expiring_keeps cmp matching now g) all
  routed_after (SetTrees region t) g ordered all = let c : PlainCall K = SetTrees region t in routed_ran cmp matching nobody (parts_of cmp matching c g) g (keep_if_still cmp matching nobody (parts_of cmp matching c g) (table_still cmp matching region t g)) all
  routed_after (SetEntities n subscribers queryables) g ordered all = let c : PlainCall K = SetEntities n subscribers queryables in routed_ran cmp matching nobody (parts_of cmp matching c g) g (keep_if_still cmp matching nobody (parts_of cmp matching c g) (entities_still cmp matching n subscribers queryables g)) all

  stand_after : (c : PlainCall K) (g : Rows K) → RowsAreInOrder cmp matching g → RoutedAskNothing cmp matching g → FinishesBy cmp matching (ended_by c) (parts_of cmp matching c g) g → AsksStand (rows_after_call cmp matching c g)
  stand_after c g ordered routed finishes = record {
    asks = asks_stand_after c g finishes;
    routed = subst (RoutedAskNothing cmp matching) (sym (call_runs cmp matching c g)) (routed_after c g ordered routed);
  }

  -- ---- gateways

  pub open_is_left : (total : IsTotalOrder cmp) (equal_is_same : (a b : K) → cmp a b ≡ Equal → a ≡ b) → IsLeftByCalls cmp matching (AsksAreOpen cmp matching)
  open_is_left total equal_is_same =
      let left = sound_is_left cmp matching total equal_is_same in record {
        fresh = λ mode zid regions timeout refused. record { sound = left.fresh mode zid regions timeout refused; stand = record { asks = tt; routed = tt } };
        opens = λ c g opens real ordered open_. record { sound = left.opens c g opens real ordered open_.sound; stand = stand_after c g ordered open_.stand.routed (opens_finish c g opens ordered open_.stand) };
        closes = λ n g ordered open_. record { sound = left.closes n g ordered open_.sound; stand = stand_after (CloseFace n) g ordered open_.stand.routed (closing_finishes cmp matching n g ordered open_.stand) };
        calls = λ spent c g still accepted ordered open_. record { sound = left.calls spent c g still accepted ordered open_.sound; stand = stand_after c g ordered open_.stand.routed (call_finishes spent c g still accepted ordered open_.stand open_.sound.held) };
      }
