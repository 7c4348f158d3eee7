-- Each turn of a transcript finishes the asks that it ends, and no others.
use Rattle.std.proofs.Common.{◌≡◌, ◌≢◌, ℕ, ◌+◌, ◌-◌, ◌≤◌, ◌<◌, Bool, true, false, not, if◌then◌else◌, ◌&&◌, ◌||◌, ◌==◌, List, [], ◌∷◌, ◌++◌, length, filter, Option, Some, None, refl, sym, ap, ◌∙◌, subst, arith, append-nil, eqb-true, eq-eqb, ne_eqb}
use Rattle.std.proofs.lemmas.Bool.{eqb-false}
use Rattle.std.specs.Cmp.{IsTotalOrder}
use Rattle.std.specs.List.{flat_map, list_any}
use Rattle.std.specs.Option.{option_to_list}
use Rattle.std.specs.declared.cmp.Ordering.{Ordering}
use Rattle.std.specs.declared.cmp.Ordering.TheVariants.{Equal}
use Rattle.zt_protocol.specs.Interest.{is_future}
use Rattle.zt_protocol.specs.Plain.{PlainCall, NewSession, NewTransport, DeclareToken, UndeclareToken, Interest, InterestFinal, DeclareFinal, CloseFace, Expire, SetTrees, SetEntities, PlainLine}
use Rattle.zt_protocol.specs.declared.entries.Sent.{Sent}
use Rattle.zt_protocol.specs.declared.messages.Message.{Message}
use Rattle.zt_model.specs.Closing.{closing}
use Rattle.zt_model.specs.Fabric.{CallAt, Fabric, Node, Place, after_hearing, at_nth, both_ends, call_at, closed_ends, closing_call, empty_fabric, entries_from, entry_of, fabric_after, next_face, number_from, number_of_place, opened_ends, opening_at, printed_for, rows_after_hearing, said_closing, said_opening, sorted_by_face, with_place, with_rows}
use Rattle.zt_model.specs.Hearing.{heard_all, messages_for}
use Rattle.zt_model.specs.Linking.{LinkEnd, link_ends}
use Rattle.zt_model.specs.Lists.{at_id, is_some_and, nth}
use Rattle.zt_model.specs.Promises.{FinishesAsks, Turn, calls_in, ends_ask, finals_in, has_no_pending, is_finalising, printed, printed_to, turns_from, with_line}
use Rattle.zt_model.specs.Routing.{stands}
use Rattle.zt_model.specs.Rows.{Ask, ById, Face, Rows}
use Rattle.zt_model.specs.Says.{Part, altered, altered_by, find_face, parts_of, said, said_by}
use Rattle.zt_model.specs.Transcript.{Each, openings, with_opening}
use Rattle.zt_laws.specs.Order.{FabricIsInOrder, HasRowsInOrder, RowsAreInOrder}
use Rattle.zt_laws.specs.Shown.{as_shown, node_shown}
use Rattle.zt_laws.specs.Sound.{EachFrom, HasFirstIds, is_placed, opens_face, rows_after_call}
use Rattle.zt_laws.proofs.AllLines.{starts_real}
use Rattle.zt_laws.proofs.CallsOrder.{altered_faces}
use Rattle.zt_laws.proofs.Ends.{by_end}
use Rattle.zt_laws.proofs.Entries.{nth_of_number}
use Rattle.zt_laws.proofs.Gateways.{prints_sorted}
use Rattle.zt_laws.proofs.Hearing.{heard_all-number}
use Rattle.zt_laws.proofs.LinesOrder.{called_at, faces_placed, faces_still_placed, gateway_in_order, in_order_empty, opened_faces}
use Rattle.zt_laws.proofs.Lists.{by_test, each_always, each_append, each_both, each_from_weaker, each_map, each_weaker}
use Rattle.zt_laws.proofs.Numbered.{each_from_nth, nth_real, nth_within}
use Rattle.zt_laws.proofs.PartsOrder.{each_flat_map, each_of_map}
use Rattle.zt_laws.proofs.Places.{placed_new, placed_still}
use Rattle.zt_laws.proofs.ShownLines.{turns_have}
use Rattle.zt_laws.proofs.Sorting.{sorted_each}
use Rattle.zt_laws.proofs.Unlinking.{closing_case, each_from_both}
use Rattle.zt_theorem_soundness.specs.Lines.{EachGatewayIs}
use Rattle.zt_theorem_soundness.specs.Ran.{ran}
use Rattle.zt_theorem_soundness.proofs.ById.{each_at}
use Rattle.zt_theorem_soundness.proofs.CallsRun.{call_runs}
use Rattle.zt_theorem_soundness.proofs.Lines.{each_after_line}
use Rattle.zt_theorem_visibility.proofs.Calls.{IsOfCalls, IsShownTurn, Shown, messages_at, turn_is_shown}
use Rattle.zt_theorem_visibility.proofs.Faces.{FacesHave, each_face_weaker, faces_called, faces_hear_nothing, faces_shown}
use Rattle.zt_theorem_visibility.proofs.Future.{nth_at, nth_map}
use Rattle.zt_theorem_visibility.proofs.Printed.{unlinked_go_on}
use Rattle.zt_theorem_finals.specs.Open.{AsksAreOpen}
use Rattle.zt_theorem_finals.proofs.Asks.{IsAsk, finals-append}
use Rattle.zt_theorem_finals.proofs.Calls.{FinishesBy, GetsFinal, closing_away, each_ask}
use Rattle.zt_theorem_finals.proofs.Closing.{closing_ends}
use Rattle.zt_theorem_finals.proofs.Ending.{Outcome, count}
use Rattle.zt_theorem_finals.proofs.Initial.{from_nth, heard_numbers, opened_stay}
use Rattle.zt_theorem_finals.proofs.Linked.{asks_are, asks_of, closed_asks, heard_back, opened_asks, openings_beyond, printed_beyond}
use Rattle.zt_theorem_finals.proofs.Standing.{call_finishes, ended_by, open_is_left, opens_finish}

-- what holds of each row holds of that at an id
each_at_id : {A : Type 0} (P : ℕ × A → Type 0) (id : ℕ) (rows : ById A) (v : A) → Each P rows → at_id id rows ≡ Some v → P (id, v)
each_at_id P id [] v all found = cc
each_at_id P id (row ∷ rows) v all found =
    by_test (id == row.0)
    (λ here.
    let e : Some row.1 ≡ Some v = rw here at found in
    let is : row.1 ≡ v = cc in
    subst (λ x. P (id, x)) is (subst (λ k. P (k, row.1)) (sym (eqb-true id row.0 here)) all.0))
    (λ here. each_at_id P id rows v all.1 (rw here at found))

nth_other : {A : Type 0} (j n : ℕ) (change : A → A) (xs : List A) (x : A) → j ≢ n → nth j xs ≡ Some x → nth j (at_nth n change xs) ≡ Some x
nth_other j n change [] x apart at_ = cc
nth_other j n change (y ∷ xs) x apart at_ =
    by_test (n == 1)
    (λ here.
    let first : n ≡ 1 = eqb-true n 1 here in
    let miss : (j == 1) ≡ false = ne_eqb j 1 (λ e. apart (e ∙ sym first)) in
    rw (here, miss) (rw miss at at_))
    (λ here.
    rw here
    (by_test (j == 1)
    (λ own. rw own (rw own at at_))
    (λ own.
    let later : nth (j - 1) xs ≡ Some x = rw own at at_ in
    let real : 1 ≤ j - 1 = nth_real (j - 1) xs x later in
    rw own (by_test (n == 0)
    (λ none_. let zero : n ≡ 0 = eqb-true n 0 none_ in nth_other (j - 1) (n - 1) change xs x (λ e. omega (arith, e, real, zero)) later)
    (λ some_. let positive : n ≢ 0 = eqb-false n 0 some_ in nth_other (j - 1) (n - 1) change xs x (λ e. apart (omega (arith, e, real, positive))) later)))))

module _ {K : Type 0} (cmp : K → K → Ordering) (matching : K → K → Bool) where
  -- no pending of the ask stands at its gateway
  abbrev none_stands : List (Node K) → ℕ → Ask K → Bool
  none_stands gs j ask = is_some_and (nth j gs) (λ (x : Node K). not (list_any (stands x.rows) ask.pendings))

  abbrev Finished : List (CallAt K) → List (Node K) → ℕ → Face K → List (Message K) → ℕ × Ask K → Type 0
  Finished calls gs j f xs row = finals_in row.0 xs ≡ (if none_stands gs j row.1 || (is_future row.1.interest.mode && list_any (is_finalising cmp matching j f.number row.0) calls) then 1 else 0)

  -- each ask of a face has its final, if it is to have one
  abbrev FinishedAll : List (CallAt K) → List (Node K) → ℕ → Rows K → Face K → List (Message K) → Type 0
  FinishedAll calls gs j g f xs = Each (Finished calls gs j f xs) f.asks

  abbrev Open : List (Node K) → Type 0
  Open gs = Each (λ (x : Node K). AsksAreOpen cmp matching x.rows) gs

  abbrev AsksHold : Node K → Type 0
  AsksHold x = Each (λ f. Each (λ row. list_any (stands x.rows) row.1.pendings ≡ true) f.asks) x.rows.faces

  -- a pending of each ask stands
  abbrev Standing : List (Node K) → Type 0
  Standing gs = Each AsksHold gs

  standing_if_open : (gs : List (Node K)) → Open gs → Standing gs
  standing_if_open gs open_ = each_weaker (λ (x : Node K). AsksAreOpen cmp matching x.rows) AsksHold (λ x is. is.stand.asks) gs open_

  each_nth : (P : Node K → Type 0) (gs : List (Node K)) (j : ℕ) (x : Node K) → Each P gs → nth j gs ≡ Some x → P x
  each_nth P [] j x all at_ = cc
  each_nth P (y ∷ gs) j x all at_ =
      by_test (j == 1)
      (λ here. let e : Some y ≡ Some x = rw here at at_ in let is : y ≡ x = cc in subst P is all.0)
      (λ here. each_nth P gs (j - 1) x all.1 (rw here at at_))

  open_at : (gs : List (Node K)) (j : ℕ) (x : Node K) → Open gs → nth j gs ≡ Some x → AsksAreOpen cmp matching x.rows
  open_at gs j x all at_ = each_nth (λ (y : Node K). AsksAreOpen cmp matching y.rows) gs j x all at_

  -- ---- calls that end no interest

  abbrev EndsNone : CallAt K → Type 0
  EndsNone at = (j k i : ℕ) → is_finalising cmp matching j k i at ≡ false

  none_ended : (calls : List (CallAt K)) → Each EndsNone calls → (j k i : ℕ) → list_any (is_finalising cmp matching j k i) calls ≡ false
  none_ended [] all j k i = refl
  none_ended (at ∷ calls) all j k i = let miss : is_finalising cmp matching j k i at ≡ false = all.0 j k i in rw miss (none_ended calls all.1 j k i)

  ends_elsewhere : (n : ℕ) (node : Node K) (c : PlainCall K) (j k i : ℕ) → j ≢ n → list_any (is_finalising cmp matching j k i) (Shown n node c ∷ []) ≡ false
  ends_elsewhere n node (InterestFinal m id) j k i apart = let miss : (j == n) ≡ false = ne_eqb j n apart in rw miss refl
  ends_elsewhere n node (NewSession first) j k i apart = refl
  ends_elsewhere n node (NewTransport zid whatami region bound first) j k i apart = refl
  ends_elsewhere n node (DeclareToken m id e nd interest) j k i apart = refl
  ends_elsewhere n node (UndeclareToken m id given nd) j k i apart = refl
  ends_elsewhere n node (Interest m id mode options e) j k i apart = refl
  ends_elsewhere n node (DeclareFinal m id) j k i apart = refl
  ends_elsewhere n node (CloseFace m) j k i apart = refl
  ends_elsewhere n node (Expire now) j k i apart = refl
  ends_elsewhere n node (SetTrees region t) j k i apart = refl
  ends_elsewhere n node (SetEntities m subscribers queryables) j k i apart = refl

  ends_own : (n : ℕ) (node : Node K) (c : PlainCall K) (k i : ℕ) → list_any (is_finalising cmp matching n k i) (Shown n node c ∷ []) ≡ ended_by cmp matching c k i
  ends_own n node (InterestFinal m id) k i = rw (eq-eqb n n refl) (or_false ((k == m) && (i == id)))
    where
      or_false : (b : Bool) → (b || false) ≡ b
      or_false true = refl
      or_false false = refl
  ends_own n node (NewSession first) k i = refl
  ends_own n node (NewTransport zid whatami region bound first) k i = refl
  ends_own n node (DeclareToken m id e nd interest) k i = refl
  ends_own n node (UndeclareToken m id given nd) k i = refl
  ends_own n node (Interest m id mode options e) k i = refl
  ends_own n node (DeclareFinal m id) k i = refl
  ends_own n node (CloseFace m) k i = refl
  ends_own n node (Expire now) k i = refl
  ends_own n node (SetTrees region t) k i = refl
  ends_own n node (SetEntities m subscribers queryables) k i = refl

  openings_end_none : (ends : List (LinkEnd K)) (X : Fabric K) → Each EndsNone (openings cmp matching ends X)
  unfolding openings
  openings_end_none [] X = tt
  openings_end_none (end ∷ ends) X =
      let at = opening_at cmp matching X end in
      each_append EndsNone (option_to_list at) (openings cmp matching ends (with_opening cmp matching at X))
      (by_end cmp matching (λ c. Each EndsNone (option_to_list (elim c [ None ↦ None | Some call ↦ call_at X end.gateway call ]))) end tt
      (λ zid whatami region bound. called_at (λ o. Each EndsNone (option_to_list o)) X end.gateway (NewTransport zid whatami region bound end.first) tt (λ node at_. ((λ j k i. refl), tt))))
      (openings_end_none ends (with_opening cmp matching at X))

  closings_end_none : (fs : List ℕ) (X : Fabric K) → Each EndsNone (flat_map (λ face. option_to_list (closing_call X face)) fs)
  closings_end_none fs X =
      each_flat_map EndsNone (λ face. option_to_list (closing_call X face)) fs
      (λ face. closing_case cmp matching (λ o. Each EndsNone (option_to_list o)) X face tt (λ n k node at_. ((λ j i m. refl), tt)))

  -- ---- asks that go on

  -- an ask that goes on has no final, where no call ends its interest
  goes_on : (calls : List (CallAt K)) (gs : List (Node K)) (j : ℕ) (x : Node K) (f : Face K) (xs : List (Message K)) (row : ℕ × Ask K) → nth j gs ≡ Some x → ((k i : ℕ) → list_any (is_finalising cmp matching j k i) calls ≡ false)
      → finals_in row.0 xs ≡ 0 → list_any (stands x.rows) row.1.pendings ≡ true → Finished calls gs j f xs row
  goes_on calls gs j x f xs row at_ none_ no_final standing =
      let goes : none_stands gs j row.1 ≡ false = ap (λ (o : Option (Node K)). is_some_and o (λ (y : Node K). not (list_any (stands y.rows) row.1.pendings))) at_ ∙ ap not standing in
      no_final ∙ (rw (goes, none_ f.number row.0) (by_test (is_future row.1.interest.mode) (λ b. rw b refl) (λ b. rw b refl)))

  -- a gateway at which nothing is printed
  quiet_gateway : (calls : List (CallAt K)) (gs : List (Node K)) (j : ℕ) (x : Node K) → nth j gs ≡ Some x → ((k i : ℕ) → list_any (is_finalising cmp matching j k i) calls ≡ false) → AsksHold x
      → Each (λ f. FinishedAll calls gs j x.rows f []) x.rows.faces
  quiet_gateway calls gs j x at_ none_ open_ =
      each_weaker (λ f. Each (λ row. list_any (stands x.rows) row.1.pendings ≡ true) f.asks) (λ f. FinishedAll calls gs j x.rows f [])
      (λ f all. each_weaker (λ row. list_any (stands x.rows) row.1.pendings ≡ true) (Finished calls gs j f []) (λ row standing. goes_on calls gs j x f [] row at_ none_ refl standing) f.asks all) x.rows.faces open_

  abbrev Quiet : List (CallAt K) → List (Node K) → ℕ → Node K → Type 0
  Quiet calls gs j x = Each (λ f. FinishedAll calls gs j x.rows f []) x.rows.faces

  all_quiet : (calls : List (CallAt K)) (gs : List (Node K)) → Each EndsNone calls → Standing gs → EachFrom (Quiet calls gs) 1 gs
  all_quiet calls gs none_ open_ =
      from_nth (Quiet calls gs) 0 gs
      (λ m x at_. let e : m ≡ 0 + m = omega arith in subst (λ j. Quiet calls gs j x) e (quiet_gateway calls gs m x at_ (none_ended calls none_ m) (each_nth AsksHold gs m x open_ at_)))

  module _ (total : IsTotalOrder cmp) (equal_is_same : (a b : K) → cmp a b ≡ Equal → a ≡ b) where
    -- the other gateways of a call
    others : (n : ℕ) (node : Node K) (c : PlainCall K) (change : Node K → Node K) (gs : List (Node K)) → Open gs → EachFrom (λ j (x : Node K). j ≢ n → Quiet (Shown n node c ∷ []) (at_nth n change gs) j x) 1 gs
    others n node c change gs open_ =
        from_nth (λ j (x : Node K). j ≢ n → Quiet (Shown n node c ∷ []) (at_nth n change gs) j x) 0 gs
        (λ m x at_.
        let e : m ≡ 0 + m = omega arith in
        subst (λ j. j ≢ n → Quiet (Shown n node c ∷ []) (at_nth n change gs) j x) e
        (λ apart. quiet_gateway (Shown n node c ∷ []) (at_nth n change gs) m x (nth_other m n change gs x apart at_) (λ k i. ends_elsewhere n node c m k i apart) (open_at gs m x open_ at_).stand.asks))

    -- its own
    own_finished : (n : ℕ) (node : Node K) (c : PlainCall K) (gs : List (Node K)) → nth n gs ≡ Some node → FinishesBy cmp matching (ended_by cmp matching c) (parts_of cmp matching c node.rows) node.rows
        → (let hs = at_nth n (λ (x : Node K). record x { rows = rows_after_call cmp matching c x.rows }) gs in
        Each (λ f. FinishedAll (Shown n node c ∷ []) hs n (altered cmp matching c node.rows) f (messages_for f.number (said cmp matching c node.rows))) (altered cmp matching c node.rows).faces)
    own_finished n node c gs at_ all =
        each_weaker (λ f. Each (GetsFinal cmp matching (ended_by cmp matching c) (parts_of cmp matching c node.rows) node.rows f.number) f.asks) (λ f. FinishedAll (Shown n node c ∷ []) hs n (altered cmp matching c node.rows) f (messages_for f.number (said cmp matching c node.rows)))
        (λ f got.
        each_weaker (GetsFinal cmp matching (ended_by cmp matching c) (parts_of cmp matching c node.rows) node.rows f.number) (Finished (Shown n node c ∷ []) hs n f (messages_for f.number (said cmp matching c node.rows)))
        (λ row is.
        let stand_ : none_stands hs n row.1 ≡ not (list_any (stands (ran cmp (parts_of cmp matching c node.rows) node.rows)) row.1.pendings) = ap (λ (o : Option (Node K)). is_some_and o (λ (y : Node K). not (list_any (stands y.rows) row.1.pendings))) (nth_at n change gs node at_) ∙ ap (λ (h : Rows K). not (list_any (stands h) row.1.pendings)) (call_runs cmp matching c node.rows) in
        is ∙ ap (λ b. if b then 1 else 0) (ap (λ b. not (list_any (stands (ran cmp (parts_of cmp matching c node.rows) node.rows)) row.1.pendings) || (is_future row.1.interest.mode && b)) (sym (ends_own n node c f.number row.0)) ∙ ap (λ b. b || (is_future row.1.interest.mode && list_any (is_finalising cmp matching n f.number row.0) (Shown n node c ∷ []))) (sym stand_)))
        f.asks got) (altered cmp matching c node.rows).faces all
      where
        change : Node K → Node K
        change x = record x { rows = rows_after_call cmp matching c x.rows }

        hs : List (Node K)
        hs = at_nth n change gs

    abbrev Comes : Fabric K → List (CallAt K) → List (Sent K) → List Place → List (Node K) → List (Node K) → Type 0
    Comes s calls ms places ws gs = Standing gs → FacesHave (FinishedAll calls gs) places ms ws

    opens : (n : ℕ) (node : Node K) (c : PlainCall K) (s : Fabric K) → nth n s.gateways ≡ Some node → opens_face c ≡ true → FabricIsInOrder cmp matching s → Open s.gateways
        → FacesHave (FinishedAll (Shown n node c ∷ []) (with_rows n (rows_after_call cmp matching c) s).gateways) (with_place n s).faces (messages_at cmp matching (with_place n s).faces n c node) (with_rows n (altered cmp matching c) s).gateways
    opens n node c s at_ opens_ fine open_ =
        let g = node.rows in
        let ss = said cmp matching c g in
        let gateway = gateway_in_order cmp matching s n node at_ fine in
        let p : Place = record { gateway = n; face = next_face (nth n s.gateways) } in
        let places = s.faces ++ p ∷ [] in
        let p_face : p.face ≡ g.made + 1 = ap next_face at_ in
        let new_ : is_placed n (g.made + 1) places ≡ true = subst (λ k. is_placed n k places ≡ true) p_face (placed_new n p.face s.faces) in
        let placed = opened_faces cmp matching total (λ k. is_placed n k places ≡ true) c g opens_ new_ (each_weaker (λ f. is_placed n f.number s.faces ≡ true) (λ f. is_placed n f.number places ≡ true) (λ f there. placed_still n f.number s.faces p there) g.faces gateway.placed) in
        faces_called (FinishedAll (Shown n node c ∷ []) (with_rows n (rows_after_call cmp matching c) s).gateways) n node (altered cmp matching c) places ss (messages_at cmp matching places n c node) s.gateways (prints_sorted places n ss) at_ placed.0
        (own_finished n node c s.gateways at_ (opens_finish cmp matching c g opens_ gateway.rows (open_at s.gateways n node open_ at_).stand)) (faces_still_placed cmp matching p s fine)
        (others n node c (λ (x : Node K). record x { rows = rows_after_call cmp matching c x.rows }) s.gateways open_)

    -- ---- links

    linked : (one two first back : ℕ) (s : Fabric K) → 1 ≤ first → 1 ≤ back → FabricIsInOrder cmp matching s
        → (let ends = link_ends s one two first back in
        let X = opened_ends cmp matching ends s in
        let ms = sorted_by_face (said_opening cmp matching ends s) in
        Comes s (openings cmp matching (link_ends (as_shown s) one two first back) (as_shown s)) ms X.faces X.gateways (after_hearing cmp ms X).gateways)
    unfolding heard_all
    linked one two first back s real real_back fine open_ =
        each_from_both Printed Nothing (λ j (x : Node K). Each (λ f. FinishedAll calls gs j x.rows f (printed_for (number_from 1 j f.number X.faces) ms)) x.rows.faces)
        (λ j x all silent.
        each_both (λ f. Each (λ row. list_any (stands (hear j x.rows)) row.1.pendings ≡ true) (hears j x.rows f).asks × ((ask : Ask K) → none_stands gs j ask ≡ not (list_any (stands (hear j x.rows)) ask.pendings))) (λ f. Each (λ row. printed_for (number_from 1 j f.number X.faces) ms ≡ []) f.asks) (λ f. FinishedAll calls gs j x.rows f (printed_for (number_from 1 j f.number X.faces) ms))
        (λ f own quiet. each_row j x f own quiet) x.rows.faces all silent)
        1 X.gateways heard_ quiet_
      where
        ends : List (LinkEnd K)
        ends = link_ends s one two first back

        calls : List (CallAt K)
        calls = openings cmp matching (link_ends (as_shown s) one two first back) (as_shown s)

        X : Fabric K
        X = opened_ends cmp matching ends s

        ms : List (Sent K)
        ms = sorted_by_face (said_opening cmp matching ends s)

        gs : List (Node K)
        gs = (after_hearing cmp ms X).gateways

        hear : ℕ → Rows K → Rows K
        hear j g = rows_after_hearing cmp X ms j g

        hears : ℕ → Rows K → Face K → Face K
        hears j g f = heard_all cmp g.moment (printed_for (number_of_place X j f.number) ms) f

        Printed : ℕ → Node K → Type 0
        Printed j x = Each (λ f. Each (λ row. list_any (stands (hear j x.rows)) row.1.pendings ≡ true) (hears j x.rows f).asks × ((ask : Ask K) → none_stands gs j ask ≡ not (list_any (stands (hear j x.rows)) ask.pendings))) x.rows.faces

        Nothing : ℕ → Node K → Type 0
        Nothing j x = Each (λ f. Each (λ row. printed_for (number_from 1 j f.number X.faces) ms ≡ []) f.asks) x.rows.faces

        After : ℕ → Node K → Type 0
        After j y = Each (λ f. Each (λ row. list_any (stands y.rows) row.1.pendings ≡ true) f.asks × ((ask : Ask K) → none_stands gs j ask ≡ not (list_any (stands y.rows) ask.pendings))) y.rows.faces

        after_ : EachFrom After 1 gs
        after_ =
            from_nth After 0 gs
            (λ m y at_.
            let e : m ≡ 0 + m = omega arith in
            subst (λ j. After j y) e
            (each_weaker (λ f. Each (λ row. list_any (stands y.rows) row.1.pendings ≡ true) f.asks) (λ f. Each (λ row. list_any (stands y.rows) row.1.pendings ≡ true) f.asks × ((ask : Ask K) → none_stands gs m ask ≡ not (list_any (stands y.rows) ask.pendings)))
            (λ f all. (all, λ ask. ap (λ (o : Option (Node K)). is_some_and o (λ (z : Node K). not (list_any (stands z.rows) ask.pendings))) at_)) y.rows.faces (each_nth AsksHold gs m y open_ at_)))

        heard_ : EachFrom Printed 1 X.gateways
        heard_ =
            each_from_weaker (λ j (x : Node K). After j (record x { rows = rows_after_hearing cmp X ms j x.rows })) Printed
            (λ j x own. each_of_map (λ f. Each (λ row. list_any (stands (hear j x.rows)) row.1.pendings ≡ true) f.asks × ((ask : Ask K) → none_stands gs j ask ≡ not (list_any (stands (hear j x.rows)) ask.pendings))) (hears j x.rows) x.rows.faces own)
            1 X.gateways (heard_back cmp matching After X ms 1 X.gateways after_)

        beyond : Each (λ m. length s.faces < m.face) ms
        beyond = sorted_each (λ m. length s.faces < m.face) (said_opening cmp matching ends s) (openings_beyond cmp matching total (length s.faces) ends s le_refl_ (starts_real cmp matching s one two first back real real_back) fine)
          where
            le_refl_ : length s.faces ≤ length s.faces
            le_refl_ = omega arith

        -- a face that was there isn't spoken to
        silent_place : (j k : ℕ) → is_placed j k s.faces ≡ true → printed_for (number_from 1 j k X.faces) ms ≡ []
        silent_place j k there =
            let back : number_from 1 j k s.faces + 1 - 1 ≡ number_from 1 j k s.faces = omega arith in
            let at_ : nth (number_from 1 j k s.faces) s.faces ≡ Some (record { gateway = j; face = k }) = sym (ap (λ i. nth i s.faces) back) ∙ nth_of_number 1 j k s.faces there in
            ap (λ i. printed_for i ms) (opened_stay cmp matching ends s j k there) ∙ printed_beyond (number_from 1 j k s.faces) (length s.faces) ms (nth_within (number_from 1 j k s.faces) s.faces (record { gateway = j; face = k }) at_) beyond

        quiet_ : EachFrom Nothing 1 X.gateways
        quiet_ =
            opened_asks cmp matching (λ j k asks. Each (λ row. printed_for (number_from 1 j k X.faces) ms ≡ []) asks) (λ j k. tt) ends s
            (each_from_weaker (λ j (x : Node K). Each (λ f. is_placed j f.number s.faces ≡ true) x.rows.faces) (λ j (x : Node K). Each (λ f. Each (λ row. printed_for (number_from 1 j f.number X.faces) ms ≡ []) f.asks) x.rows.faces)
            (λ j x placed. each_weaker (λ f. is_placed j f.number s.faces ≡ true) (λ f. Each (λ row. printed_for (number_from 1 j f.number X.faces) ms ≡ []) f.asks) (λ f there. each_always (λ row. printed_for (number_from 1 j f.number X.faces) ms ≡ []) (λ row. silent_place j f.number there) f.asks) x.rows.faces placed)
            1 s.gateways (faces_placed cmp matching s fine))

        each_row : (j : ℕ) (x : Node K) (f : Face K) → Each (λ row. list_any (stands (hear j x.rows)) row.1.pendings ≡ true) (hears j x.rows f).asks × ((ask : Ask K) → none_stands gs j ask ≡ not (list_any (stands (hear j x.rows)) ask.pendings))
            → Each (λ row. printed_for (number_from 1 j f.number X.faces) ms ≡ []) f.asks → FinishedAll calls gs j x.rows f (printed_for (number_from 1 j f.number X.faces) ms)
        each_row j x f own quiet = by_list f.asks quiet (λ none_. subst (λ xs. Each (λ row. list_any (stands (hear j x.rows)) row.1.pendings ≡ true) (heard_all cmp x.rows.moment xs f).asks) none_ own.0)
          where
            by_list : (rows : ById (Ask K)) → Each (λ row. printed_for (number_from 1 j f.number X.faces) ms ≡ []) rows → (printed_for (number_from 1 j f.number X.faces) ms ≡ [] → Each (λ row. list_any (stands (hear j x.rows)) row.1.pendings ≡ true) rows)
                → Each (Finished calls gs j f (printed_for (number_from 1 j f.number X.faces) ms)) rows
            by_list [] quiet_all standing = tt
            by_list (row ∷ rows) quiet_all standing =
                let none_ = quiet_all.0 in
                let goes : none_stands gs j row.1 ≡ false = own.1 row.1 ∙ ap not (standing none_).0 in (
                  ap (finals_in row.0) none_ ∙ (rw (goes, none_ended calls (openings_end_none (link_ends (as_shown s) one two first back) (as_shown s)) j f.number row.0) (by_test (is_future row.1.interest.mode) (λ b. rw b refl) (λ b. rw b refl))),
                  by_list rows quiet_all.1 (λ none__. (standing none__).1),
                )

    -- what each of them came to
    abbrev Tracked : Fabric K → ℕ → Rows K → Face K → List (Message K) → Type 0
    Tracked s j g f xs = Each (λ row. Outcome cmp matching f.number row.0 row.1 true g xs) (asks_of cmp matching s j f.number)

    -- a closing, after what was printed before it
    closing_step : (s : Fabric K) (n k : ℕ) (g : Rows K) → RowsAreInOrder cmp matching g → AsksAreOpen cmp matching g → (before : ℕ → List (Message K)) → Each (λ f. Tracked s n g f (before f.number)) g.faces
        → (let h = rows_after_call cmp matching (CloseFace k) g in Each (λ f. Tracked s n h f (before f.number ++ messages_for f.number (said cmp matching (CloseFace k) g))) h.faces)
    unfolding parts_of altered_by ran said_by messages_for
    closing_step s n k g ordered open_ before all =
        heard_numbers cmp matching Then (said cmp matching c g) (altered cmp matching c g)
        (subst (λ (h : Rows K). Each (λ f. Each (λ row. Outcome cmp matching f.number row.0 row.1 true h (before f.number ++ messages_for f.number (said cmp matching c g))) (asks_of cmp matching s n f.number)) (altered cmp matching c g).faces) (sym (call_runs cmp matching c g)) (by_face (find_face k g) refl (altered_faces cmp matching total (λ i. Each (λ row. Outcome cmp matching i row.0 row.1 true g (before i)) (asks_of cmp matching s n i)) c g refl ordered.lists all).0))
      where
        c : PlainCall K
        c = CloseFace k

        Then : ℕ → Type 0
        Then i = Each (λ row. Outcome cmp matching i row.0 row.1 true (rows_after_call cmp matching c g) (before i ++ messages_for i (said cmp matching c g))) (asks_of cmp matching s n i)

        parts_for : Option (Face K) → List (Part K)
        parts_for o = elim o [ None ↦ [] | Some f ↦ closing cmp matching k g f ]

        two : (i : ℕ) (row : ℕ × Ask K) (xs ys : List (Message K)) (h : Rows K) (one : Outcome cmp matching i row.0 row.1 true g xs) → Outcome cmp matching i row.0 row.1 one.there h ys → Outcome cmp matching i row.0 row.1 true h (xs ++ ys)
        two i row xs ys h one other =
            let a : finals_in row.0 xs + count one.there ≡ count true = one.counts in
            let b : finals_in row.0 ys + count other.there ≡ count one.there = other.counts in
            record { there = other.there; is = other.is; counts = ap (λ m. m + count other.there) (finals-append row.0 xs ys) ∙ added (finals_in row.0 xs) (finals_in row.0 ys) (count other.there) (count one.there) (count true) a b }
          where
            added : (x y z u v : ℕ) → x + u ≡ v → y + z ≡ u → (x + y) + z ≡ v
            added x y z u v first second = omega (arith, first, second)

        by_face : (o : Option (Face K)) → find_face k g ≡ o → (let a = altered_by cmp matching (parts_for o) g in Each (λ f. Each (λ row. Outcome cmp matching f.number row.0 row.1 true g (before f.number)) (asks_of cmp matching s n f.number)) a.faces)
            → (let a = altered_by cmp matching (parts_for o) g in Each (λ f. Each (λ row. Outcome cmp matching f.number row.0 row.1 true (ran cmp (parts_for o) g) (before f.number ++ messages_for f.number (said_by cmp matching (parts_for o) g))) (asks_of cmp matching s n f.number)) a.faces)
        by_face None found before_ =
            each_weaker (λ f. Each (λ row. Outcome cmp matching f.number row.0 row.1 true g (before f.number)) (asks_of cmp matching s n f.number)) (λ f. Each (λ row. Outcome cmp matching f.number row.0 row.1 true g (before f.number ++ [])) (asks_of cmp matching s n f.number))
            (λ f own. subst (λ xs. Each (λ row. Outcome cmp matching f.number row.0 row.1 true g xs) (asks_of cmp matching s n f.number)) (sym (append-nil (before f.number))) own) g.faces before_
        by_face (Some from) found before_ =
            each_both (λ f. (k == f.number) ≡ false) (λ f. Each (λ row. Outcome cmp matching f.number row.0 row.1 true g (before f.number)) (asks_of cmp matching s n f.number)) (λ f. Each (λ row. Outcome cmp matching f.number row.0 row.1 true (ran cmp (closing cmp matching k g from) g) (before f.number ++ messages_for f.number (said_by cmp matching (closing cmp matching k g from) g))) (asks_of cmp matching s n f.number))
            (λ f apart own.
            each_weaker (λ row. Outcome cmp matching f.number row.0 row.1 true g (before f.number)) (λ row. Outcome cmp matching f.number row.0 row.1 true (ran cmp (closing cmp matching k g from) g) (before f.number ++ messages_for f.number (said_by cmp matching (closing cmp matching k g from) g)))
            (λ row one. two f.number row (before f.number) (messages_for f.number (said_by cmp matching (closing cmp matching k g from) g)) (ran cmp (closing cmp matching k g from) g) one (closing_ends cmp matching f.number row.0 row.1 k from one.there g apart found open_.stand.routed one.is))
            (asks_of cmp matching s n f.number) own)
            (altered_by cmp matching (closing cmp matching k g from) g).faces (closing_away cmp matching k from g) before_

    tracked_first : (s : Fabric K) → FabricIsInOrder cmp matching s → Open s.gateways → FacesHave (Tracked s) s.faces [] s.gateways
    tracked_first s fine open_ =
        faces_hear_nothing (Tracked s) s.faces s.gateways
        (from_nth (λ j (x : Node K). Each (λ f. Tracked s j x.rows f []) x.rows.faces) 0 s.gateways
        (λ m x at_.
        let e : m ≡ 0 + m = omega arith in
        let ordered = (gateway_in_order cmp matching s m x at_ fine).rows in
        subst (λ j. Each (λ f. Tracked s j x.rows f []) x.rows.faces) e
        (each_both (λ f. asks_of cmp matching s m f.number ≡ f.asks) (λ f. Each (λ row. IsAsk cmp f.number row.0 row.1 true x.rows) f.asks) (λ f. Tracked s m x.rows f [])
        (λ f same_ all.
        subst (λ (rows : ById (Ask K)). Each (λ row. Outcome cmp matching f.number row.0 row.1 true x.rows []) rows) (sym same_)
        (each_weaker (λ row. IsAsk cmp f.number row.0 row.1 true x.rows) (λ row. Outcome cmp matching f.number row.0 row.1 true x.rows []) (λ row is. record { there = true; is = is; counts = refl }) f.asks all))
        x.rows.faces (asks_are cmp matching s m x at_ ordered) (each_ask cmp matching x.rows ordered (open_at s.gateways m x open_ at_).stand))))

    unlinked : (n : ℕ) (s : Fabric K) → FabricIsInOrder cmp matching s → Open s.gateways
        → (let fs = both_ends cmp matching s n in
        let X = closed_ends cmp matching fs s in
        let ms = sorted_by_face (filter (λ m. not (list_any (λ face. face == m.face) fs)) (said_closing cmp matching fs s)) in
        FacesHave (FinishedAll (flat_map (λ face. option_to_list (closing_call (as_shown s) face)) fs) (after_hearing cmp ms X).gateways) X.faces ms X.gateways)
    unlinked n s fine open_ =
        each_from_both Came Was (λ j (x : Node K). Each (λ f. FinishedAll calls gs j x.rows f (printed_for (number_from 1 j f.number X.faces) ms)) x.rows.faces)
        (λ j x came was. each_both (CameTo j x) (WasAsk j) (λ f. FinishedAll calls gs j x.rows f (printed_for (number_from 1 j f.number X.faces) ms)) (λ f own were. each_row j x f own were) x.rows.faces came was)
        1 X.gateways came_ was_
      where
        fs : List ℕ
        fs = both_ends cmp matching s n

        calls : List (CallAt K)
        calls = flat_map (λ face. option_to_list (closing_call (as_shown s) face)) fs

        X : Fabric K
        X = closed_ends cmp matching fs s

        ms : List (Sent K)
        ms = sorted_by_face (filter (λ m. not (list_any (λ face. face == m.face) fs)) (said_closing cmp matching fs s))

        gs : List (Node K)
        gs = (after_hearing cmp ms X).gateways

        -- a face when it has heard: what its asks came to, and whether their pendings stand at its gateway
        Seen : ℕ → Rows K → ℕ → Type 0
        Seen j h k = Each (λ row. Outcome cmp matching k row.0 row.1 true h (printed_for (number_from 1 j k X.faces) ms)) (asks_of cmp matching s j k) × ((ask : Ask K) → none_stands gs j ask ≡ not (list_any (stands h) ask.pendings))

        After : ℕ → Node K → Type 0
        After j y = Each (λ f. Seen j y.rows f.number) y.rows.faces

        CameTo : ℕ → Node K → Face K → Type 0
        CameTo j x f = Seen j (rows_after_hearing cmp X ms j x.rows) f.number

        Came : ℕ → Node K → Type 0
        Came j x = Each (CameTo j x) x.rows.faces

        WasAsk : ℕ → Face K → Type 0
        WasAsk j f = Each (λ row. at_id row.0 (asks_of cmp matching s j f.number) ≡ Some row.1) f.asks

        Was : ℕ → Node K → Type 0
        Was j x = Each (WasAsk j) x.rows.faces

        tracked : FacesHave (Tracked s) X.faces ms gs
        tracked =
            unlinked_go_on cmp matching total (AsksAreOpen cmp matching) (Tracked s) (λ k g ordered own. (open_is_left cmp matching total equal_is_same).closes k g ordered own)
            (λ j k g ordered own before all. closing_step s j k g ordered own before all) fs s fine open_ (tracked_first s fine open_)

        after_ : EachFrom After 1 gs
        after_ =
            from_nth After 0 gs
            (λ m y at_.
            let e : m ≡ 0 + m = omega arith in
            subst (λ j. After j y) e
            (each_weaker (λ f. Tracked s m y.rows f (printed_for (number_from 1 m f.number X.faces) ms)) (λ f. Seen m y.rows f.number)
            (λ f all. (all, λ ask. ap (λ (o : Option (Node K)). is_some_and o (λ (z : Node K). not (list_any (stands z.rows) ask.pendings))) at_)) y.rows.faces
            (each_from_nth (λ j (z : Node K). Each (λ f. Tracked s j z.rows f (printed_for (number_from 1 j f.number X.faces) ms)) z.rows.faces) 1 m m gs y (omega arith) tracked at_)))

        came_ : EachFrom Came 1 X.gateways
        came_ =
            each_from_weaker (λ j (x : Node K). After j (record x { rows = rows_after_hearing cmp X ms j x.rows })) Came
            (λ j x own.
            let hears = λ (f : Face K). heard_all cmp x.rows.moment (printed_for (number_of_place X j f.number) ms) f in
            each_weaker (λ f. Seen j (rows_after_hearing cmp X ms j x.rows) (hears f).number) (CameTo j x)
            (λ f one. subst (Seen j (rows_after_hearing cmp X ms j x.rows)) (heard_all-number cmp x.rows.moment (printed_for (number_of_place X j f.number) ms) f) one) x.rows.faces
            (each_of_map (λ f. Seen j (rows_after_hearing cmp X ms j x.rows) f.number) hears x.rows.faces own))
            1 X.gateways (heard_back cmp matching After X ms 1 X.gateways after_)

        was_ : EachFrom Was 1 X.gateways
        was_ =
            closed_asks cmp matching (λ j k asks. Each (λ row. at_id row.0 (asks_of cmp matching s j k) ≡ Some row.1) asks) fs s
            (from_nth (λ j (x : Node K). Each (λ f. Each (λ row. at_id row.0 (asks_of cmp matching s j f.number) ≡ Some row.1) f.asks) x.rows.faces) 0 s.gateways
            (λ m x at_.
            let e : m ≡ 0 + m = omega arith in
            let ordered = (gateway_in_order cmp matching s m x at_ fine).rows in
            subst (λ j. Each (λ f. Each (λ row. at_id row.0 (asks_of cmp matching s j f.number) ≡ Some row.1) f.asks) x.rows.faces) e
            (each_both (λ f. asks_of cmp matching s m f.number ≡ f.asks) HasRowsInOrder (λ f. Each (λ row. at_id row.0 (asks_of cmp matching s m f.number) ≡ Some row.1) f.asks)
            (λ f same_ rows. subst (λ (asks : ById (Ask K)). Each (λ row. at_id row.0 asks ≡ Some row.1) f.asks) (sym same_) (each_at 0 f.asks rows.asks)) x.rows.faces (asks_are cmp matching s m x at_ ordered) ordered.lists.rows)))

        each_row : (j : ℕ) (x : Node K) (f : Face K) → CameTo j x f → WasAsk j f → FinishedAll calls gs j x.rows f (printed_for (number_from 1 j f.number X.faces) ms)
        each_row j x f own were =
            each_weaker (λ row. at_id row.0 (asks_of cmp matching s j f.number) ≡ Some row.1) (Finished calls gs j f (printed_for (number_from 1 j f.number X.faces) ms))
            (λ row at_. outcome row (each_at_id (λ r. Outcome cmp matching f.number r.0 r.1 true (rows_after_hearing cmp X ms j x.rows) (printed_for (number_from 1 j f.number X.faces) ms)) row.0 (asks_of cmp matching s j f.number) row.1 own.0 at_))
            f.asks were
          where
            outcome : (row : ℕ × Ask K) → Outcome cmp matching f.number row.0 row.1 true (rows_after_hearing cmp X ms j x.rows) (printed_for (number_from 1 j f.number X.faces) ms) → Finished calls gs j f (printed_for (number_from 1 j f.number X.faces) ms) row
            outcome row one =
                let goes : none_stands gs j row.1 ≡ not one.there = own.1 row.1 ∙ ap not one.is.stand in
                rw (goes, none_ended calls (closings_end_none fs (as_shown s)) j f.number row.0) (cases one.there (is_future row.1.interest.mode) (finals_in row.0 (printed_for (number_from 1 j f.number X.faces) ms)) one.counts)
              where
                cases : (there fut : Bool) (c : ℕ) → c + count there ≡ 1 → c ≡ (if not there || (fut && false) then 1 else 0)
                cases true true c is = omega (arith, is)
                cases true false c is = omega (arith, is)
                cases false fut c is = omega (arith, is)

    -- ---- turns

    none_printed_ : (calls : List (CallAt K)) (gs : List (Node K)) (places : List Place) → Each EndsNone calls → Standing gs → FacesHave (FinishedAll calls gs) places [] gs
    none_printed_ calls gs places none_ open_ = faces_hear_nothing (FinishedAll calls gs) places gs (all_quiet calls gs none_ open_)

    finals_of_calls : IsOfCalls cmp matching (λ s. Open s.gateways) Comes
    unfolding sorted_by_face parts_of said_by
    finals_of_calls = record {
      nothing = λ s fine _ open_. none_printed_ [] s.gateways s.faces tt open_;
      gateway = λ mode zid regions timeout refused node s new_ fine _ open_. none_printed_ [] (s.gateways ++ node ∷ []) s.faces tt open_;
      call = λ spent n node c s at_ still accepted fine before _.
          let gateway = gateway_in_order cmp matching s n node at_ fine in
          let placed = altered_faces cmp matching total (λ k. is_placed n k s.faces ≡ true) c node.rows still gateway.rows.lists gateway.placed in
          let own = open_at s.gateways n node before at_ in
          faces_called (FinishedAll (Shown n node c ∷ []) (with_rows n (rows_after_call cmp matching c) s).gateways) n node (altered cmp matching c) s.faces (said cmp matching c node.rows) (messages_at cmp matching s.faces n c node) s.gateways
          (prints_sorted s.faces n (said cmp matching c node.rows)) at_ placed.0 (own_finished n node c s.gateways at_ (call_finishes cmp matching spent c node.rows still accepted gateway.rows own.stand own.sound.held)) (faces_placed cmp matching s fine)
          (others n node c (λ (x : Node K). record x { rows = rows_after_call cmp matching c x.rows }) s.gateways before);
      session = λ n first node s at_ real fine before _. opens n node (NewSession first) s at_ refl fine before;
      transport = λ spent n node zid whatami region bound first s at_ real accepted fine before _. opens n node (NewTransport zid whatami region bound first) s at_ refl fine before;
      link = λ spent one two first back s real real_back accepted fine before open_. linked one two first back s real real_back fine open_;
      unlink = λ n s fine before _. unlinked n s fine before;
    }

    -- as a turn has it
    finishes_shown : (s : Fabric K) (t : Turn K) → IsShownTurn cmp matching total (λ s. Open s.gateways) Comes finals_of_calls s t → Standing t.after.gateways → FinishesAsks cmp matching t
    finishes_shown s t is open_ =
        each_face_weaker (FinishedIn (calls_in cmp matching t) gs) (λ n g f. Each (λ row. finals_in row.0 (printed_to t n f) ≡ (if ends_ask cmp matching t n f row.0 row.1 then 1 else 0)) f.asks)
        (λ n g f all.
        each_weaker (Finished (calls_in cmp matching t) gs n f (printed_to t n f)) (λ row. finals_in row.0 (printed_to t n f) ≡ (if ends_ask cmp matching t n f row.0 row.1 then 1 else 0))
        (λ row one. one ∙ ap (λ b. if b || (is_future row.1.interest.mode && list_any (is_finalising cmp matching n f.number row.0) (calls_in cmp matching t)) then 1 else 0) (sym (none_shown n row.1)))
        f.asks all) 1 (with_line cmp matching t).gateways
        (faces_shown (FinishedAll (calls_in cmp matching t) gs) (FinishedAll (calls_in cmp matching t) gs) (λ j g f xs one. one)
        is.changed.faces t.after.faces (printed t) is.changed.gateways (with_line cmp matching t).gateways is.after_places (ap (λ (X : Fabric K). X.gateways) is.with_is) (is.comes open_back))
      where
        gs : List (Node K)
        gs = (after_hearing cmp (printed t) is.changed).gateways

        FinishedIn : List (CallAt K) → List (Node K) → ℕ → Rows K → Face K → Type 0
        FinishedIn calls hs n g f = FinishedAll calls hs n g f (printed_to t n f)

        open_back : Standing gs
        open_back = each_of_map AsksHold node_shown gs (subst Standing is.after_gateways open_)

        none_shown : (n : ℕ) (ask : Ask K) → has_no_pending cmp matching t.after n ask ≡ none_stands gs n ask
        none_shown n ask = ap (λ (hs : List (Node K)). none_stands hs n ask) is.after_gateways ∙ ap (λ (o : Option (Node K)). is_some_and o (λ (x : Node K). not (list_any (stands x.rows) ask.pendings))) (nth_map node_shown n gs) ∙ cases (nth n gs)
          where
            cases : (o : Option (Node K)) → is_some_and (let y : Option (Node K) = elim o [ None ↦ None | Some x ↦ Some (node_shown x) ] in y) (λ (x : Node K). not (list_any (stands x.rows) ask.pendings)) ≡ is_some_and o (λ (x : Node K). not (list_any (stands x.rows) ask.pendings))
            cases None = refl
            cases (Some x) = refl

    -- every gateway of the empty fabric, and of what a line leaves
    pub open_first : EachGatewayIs cmp matching (AsksAreOpen cmp matching) empty_fabric
    open_first = record { order = in_order_empty cmp matching; gateways = tt }

    pub open_after_line : (line : PlainLine K) (s : Fabric K) → HasFirstIds line → EachGatewayIs cmp matching (AsksAreOpen cmp matching) s
        → EachGatewayIs cmp matching (AsksAreOpen cmp matching) (fabric_after cmp matching line (entry_of cmp matching line s) s)
    open_after_line line s real is = each_after_line cmp matching (AsksAreOpen cmp matching) (open_is_left cmp matching total equal_is_same) total line s real is

    -- Each turn of a transcript finishes the asks that it ends, from any fabric on whose asks are open.
    pub turns_finish : (lines : List (PlainLine K)) (s : Fabric K) → Each HasFirstIds lines → EachGatewayIs cmp matching (AsksAreOpen cmp matching) s
        → Each (FinishesAsks cmp matching) (turns_from cmp matching lines (entries_from cmp matching lines s) (as_shown s))
    turns_finish lines s real is =
        turns_have cmp matching total (FinishesAsks cmp matching) (λ x. Open x.gateways)
        (λ line x first ordered open_.
        let next = (open_after_line line x first (record { order = ordered; gateways = open_ })).gateways in
        let after = fabric_after cmp matching line (entry_of cmp matching line x) x in (
          finishes_shown x _ (turn_is_shown cmp matching total (λ y. Open y.gateways) Comes finals_of_calls line x first ordered open_) (each_map AsksHold node_shown after.gateways (standing_if_open after.gateways next)),
          next,
        ))
        lines s real is.order is.gateways

    pub turns_finish_first : (lines : List (PlainLine K)) → Each HasFirstIds lines → Each (FinishesAsks cmp matching) (turns_from cmp matching lines (entries_from cmp matching lines empty_fabric) empty_fabric)
    turns_finish_first lines real = turns_finish lines empty_fabric real open_first
