-- Each call sends an ask what is due to it.
use Rattle.std.proofs.Common.{◌≡◌, ℕ, ◌+◌, ◌≤◌, ◌<◌, Bool, true, false, if◌then◌else◌, ◌&&◌, ◌==◌, List, [], ◌∷◌, ◌++◌, filter, Option, Some, None, is_some, option_map, refl, sym, ap, ◌∙◌, subst, arith, eqb-true, eq-eqb, ne_eqb}
use Rattle.std.specs.Cmp.{IsTotalOrder}
use Rattle.std.specs.declared.cmp.Ordering.{Ordering}
use Rattle.zt_region.specs.declared.region.Region.{Region}
use Rattle.zt_protocol.specs.Interest.{is_current, has_tokens}
use Rattle.zt_protocol.specs.Plain.{PlainCall, NewSession, NewTransport, DeclareToken, UndeclareToken, Interest, InterestFinal, DeclareFinal, CloseFace, Expire, SetTrees, SetEntities}
use Rattle.zt_protocol.specs.declared.interests.InterestMode.{InterestMode}
use Rattle.zt_protocol.specs.declared.interests.InterestOptions.{InterestOptions}
use Rattle.zt_protocol.specs.declared.messages.Message.{Message}
use Rattle.zt_protocol.specs.declared.messages.Message.TheVariants as message
use Rattle.zt_model.specs.Entities.{entities_for, numbered_by, with_numbers}
use Rattle.zt_model.specs.Hearing.{heard_all, messages_for, put_if, rows_heard}
use Rattle.zt_model.specs.Lists.{at_id, first_where, has_id, is_among}
use Rattle.zt_model.specs.Closing.{closing}
use Rattle.zt_model.specs.Routing.{asked_as, final_of, finalising, finishing, route_to, sent_as}
use Rattle.zt_model.specs.Rows.{Ask, Face, InterestRow, Rows}
use Rattle.zt_model.specs.Says.{Alter, Part, Say, Sends, altered, altered_by, answered_expressions, answering, answers_of, asking, declaring, declaring_of, find_face, finalising_held, is_routed, parts_of, registers, row_of, said, said_by, to_each, to_face, with_face}
use Rattle.zt_model.specs.Telling.{answer_to}
use Rattle.zt_model.specs.Transcript.{Each}
use Rattle.zt_model.specs.Trees.{showing, source_of}
use Rattle.zt_model.specs.Visible.{visible_expressions}
use Rattle.zt_model.specs.Wants.{is_about}
use Rattle.zt_laws.specs.Order.{KeysOnce, RowsAreInOrder}
use Rattle.zt_laws.specs.Sound.{RiseFrom, rows_after_call}
use Rattle.zt_laws.proofs.CallsOrder.{in_order_after_call}
use Rattle.zt_laws.proofs.Hearing.{each_ruled, each_ruled_one, find_each, find_none, find_passes, heard_all-number, messages_for-append}
use Rattle.zt_laws.proofs.Keys.{in_order_filter, once_in_order}
use Rattle.zt_laws.proofs.Lists.{by_test, each_always, each_front, each_weaker, never, of_cond, rise_map, rise_push}
use Rattle.zt_laws.proofs.PartsOrder.{each_message_for, rise_put_if}
use Rattle.zt_laws.proofs.Registering.{closing_spares}
use Rattle.zt_laws.proofs.Visible.{visible_expressions_in_order}
use Rattle.zt_theorem_soundness.specs.Ran.{ran}
use Rattle.zt_theorem_soundness.proofs.ById.{at_put, at_put_other}
use Rattle.zt_theorem_soundness.proofs.CallsRun.{call_runs, each_entity}
use Rattle.zt_theorem_soundness.proofs.Parts.{nobody}
use Rattle.zt_theorem_visibility.proofs.Saying.{SaysEach, declaring_of_says, route_says, showing_says, table_says, telling_says, undeclaration_says}
use Rattle.zt_theorem_finals.proofs.Calls.{closing_away}
use Rattle.zt_theorem_finals.proofs.Ending.{both_same}
use Rattle.zt_theorem_finals.proofs.Linked.{opening_speaks}
use Rattle.zt_theorem_finals.proofs.Still.{PartKeeps, StillPart, declaration_still, entities_still, keep_if_still, table_still, undeclaration_still}
use Rattle.zt_theorem_replies.specs.Replies.{is_asking_as}
use Rattle.zt_theorem_replies.proofs.Due.{IsSilent, answered_at, answers_due, are_due, due_append, others_silent, rows_due, silent_due, silent_state, state-append, state_after}
use Rattle.zt_theorem_replies.proofs.Faces.{AskIs, ask_heard, ask_heard_silent, ask_in, ask_left, each_due, face_due, mapped_back, state_in}
use Rattle.zt_theorem_replies.proofs.Goes.{Goes, Outcome, due_if_silent, goes_alter, goes_append, goes_closing, goes_expiring, goes_finalising, goes_finishing, goes_nothing, goes_say, goes_silent, outcome_then}

each_back : {A : Type 0} (P : A → Type 0) (xs ys : List A) → Each P (xs ++ ys) → Each P ys
each_back P [] ys all = all
each_back P (x ∷ xs) ys all = each_back P xs ys all.1

module _ {K : Type 0} (cmp : K → K → Ordering) (matching : K → K → Bool) (n id : ℕ) where
  -- the same of a whole call
  abbrev pub CallGoes : Option (List K) → PlainCall K → Rows K → Type 0
  CallGoes s c g = Outcome cmp matching n id s (rows_after_call cmp matching c g) (messages_for n (said cmp matching c g))

  by_ran : (s : Option (List K)) (c : PlainCall K) (g : Rows K) → Outcome cmp matching n id s (ran cmp (parts_of cmp matching c g) g) (messages_for n (said cmp matching c g)) → CallGoes s c g
  by_ran s c g one = subst (λ (h : Rows K). Outcome cmp matching n id s h (messages_for n (said cmp matching c g))) (sym (call_runs cmp matching c g)) one

  -- parts over these rows
  abbrev Went : Option (List K) → List (Part K) → Rows K → Type 0
  Went s parts g = Outcome cmp matching n id s (ran cmp parts g) (messages_for n (said_by cmp matching parts g))

  at_face : (k : ℕ) (g : Rows K) (s : Option (List K)) (parts : Face K → List (Part K)) → AskIs cmp matching n id s g → ((f : Face K) → find_face k g ≡ Some f → Went s (parts f) g) → Went s (elim (find_face k g) [ None ↦ [] | Some f ↦ parts f ]) g
  at_face k g s parts is one = cases (find_face k g) refl
    where
      cases : (o : Option (Face K)) → find_face k g ≡ o → Went s (elim o [ None ↦ [] | Some f ↦ parts f ]) g
      cases None found = goes_nothing cmp matching n id s g is
      cases (Some f) found = one f found

  -- ---- calls whose messages are nothing to the ask

  silent_ran : (s : Option (List K)) (parts : List (Part K)) (g : Rows K) → Each (PartKeeps cmp matching nobody) parts → Each (λ t. IsSilent cmp id t.1) (said_by cmp matching parts g) → AskIs cmp matching n id s g → AskIs cmp matching n id s (ran cmp parts g)
  unfolding ran said_by
  silent_ran s [] g keep silent is = is
  silent_ran s (Alter change ∷ parts) g keep silent is = silent_ran s parts (change g) keep.1 silent (ask_left cmp matching n id nobody s g (change g) refl (keep.0 g) is)
  silent_ran s (Say rule ∷ parts) g keep silent is =
      let h = rows_heard cmp (rule g) g in
      silent_ran s parts h keep.1 (each_back (λ t. IsSilent cmp id t.1) (rule g) (said_by cmp matching parts h) silent)
      (ask_heard_silent cmp matching n id s (rule g) g (each_front (λ t. IsSilent cmp id t.1) (rule g) (said_by cmp matching parts h) silent) is)

  silent_call : (s : Option (List K)) (parts : List (Part K)) (g : Rows K) → Each (PartKeeps cmp matching nobody) parts → Each (λ t. IsSilent cmp id t.1) (said_by cmp matching parts g) → AskIs cmp matching n id s g → Went s parts g
  silent_call s parts g keep silent is =
      let ss = said_by cmp matching parts g in
      record {
        due = due_if_silent cmp matching n id ss s silent;
        ask = subst (λ t. AskIs cmp matching n id t (ran cmp parts g)) (sym (silent_state cmp id (messages_for n ss) s (each_message_for cmp (IsSilent cmp id) n ss silent))) (silent_ran s parts g keep silent is);
      }

  -- ---- calls that open a face

  opens : (s : Option (List K)) (c : PlainCall K) (g : Rows K) (x : Face K) → (altered cmp matching c g).faces ≡ g.faces ++ x ∷ [] → x.number ≡ g.made + 1 → n ≤ g.made → RowsAreInOrder cmp matching g
      → Each (λ t. t.0 ≡ g.made + 1) (said cmp matching c g) → AskIs cmp matching n id s g → CallGoes s c g
  unfolding messages_for
  opens s c g x faces_ number_ old ordered speaks is =
      let ss = said cmp matching c g in
      let none_ : messages_for n ss ≡ [] = nothing_for ss speaks in
      record {
        due = ap (λ (ms : List (Message K)). are_due cmp id ms s) none_;
        ask = ask_heard cmp matching n id s ss (altered cmp matching c g) (record {
          rises = subst (RiseFrom (λ (f : Face K). f.number) 1) (sym faces_)
              (rise_push (λ f. f.number) 1 g.faces x (omega (arith, number_)) (each_weaker (λ h. h.number ≤ g.made) (λ h. h.number < x.number) (λ h up. omega (arith, number_, up)) g.faces ordered.lists.faces_made) is.rises);
          own = λ f found. is.own f (found_before g.faces (subst (λ (fs : List (Face K)). first_where (λ f. n == f.number) fs ≡ Some f) faces_ found));
        });
      }
    where
      apart : (n == x.number) ≡ false
      apart = ne_eqb n x.number (λ e. omega (arith, e, number_, old))

      nothing_for : (ss : Sends K) → Each (λ t. t.0 ≡ g.made + 1) ss → messages_for n ss ≡ []
      nothing_for [] all = refl
      nothing_for (t ∷ ss) all =
          let to : t.0 ≡ g.made + 1 = all.0 in
          let miss : (n == t.0) ≡ false = ne_eqb n t.0 (λ e. omega (arith, e, to, old)) in
          rw miss (nothing_for ss all.1)

      found_before : (fs : List (Face K)) {f : Face K} → first_where (λ f. n == f.number) (fs ++ x ∷ []) ≡ Some f → first_where (λ f. n == f.number) fs ≡ Some f
      found_before [] found = let wrong = rw apart at found in cc
      found_before (y ∷ fs) found = by_test (n == y.number) (λ here. rw here (rw here at found)) (λ here. rw here (found_before fs (rw here at found)))

  -- ---- an interest

  final_due : (i : ℕ) (f : Face K) (s : Option (List K)) → answered_at cmp id f.asks ≡ s → are_due cmp id (final_of i f) s ≡ true
  final_due i f s own = cases (at_id i f.asks) refl
    where
      due_one : (id == i) ≡ true → is_some s ≡ true → are_due cmp id (message.DeclareFinal i ∷ []) s ≡ true
      due_one here there = rw (here, there) refl

      by_pendings : (ps : List (ℕ × ℕ)) → ((id == i) ≡ true → is_some s ≡ true) → are_due cmp id (let ms : List (Message K) = elim ps [ [] ↦ message.DeclareFinal i ∷ [] | p ∷ qs ↦ [] ] in ms) s ≡ true
      by_pendings [] there = by_test (id == i) (λ here. due_one here (there here)) (λ here. rw here refl)
      by_pendings (p ∷ qs) there = refl

      cases : (o : Option (Ask K)) → at_id i f.asks ≡ o → are_due cmp id (let ms : List (Message K) = elim o [ None ↦ [] | Some ask ↦ elim ask.pendings [ [] ↦ message.DeclareFinal i ∷ [] | p ∷ qs ↦ [] ] ] in ms) s ≡ true
      cases None at_ = refl
      cases (Some ask) at_ = by_pendings ask.pendings (λ here. ap is_some (sym own ∙ ap (option_map (λ (a : Ask K). a.answered)) (ap (λ j. at_id j f.asks) (eqb-true id i here) ∙ at_)))

  numbers_left : (es : List K) (s : Option (List K)) (g : Rows K) → AskIs cmp matching n id s g → AskIs cmp matching n id s (with_numbers cmp es g)
  numbers_left es s g is = ask_left cmp matching n id nobody s g (with_numbers cmp es g) refl (both_same cmp matching nobody g (with_numbers cmp es g) refl refl).leaves is

  route_silent : (asker : Region) (interest : InterestRow K) (g : Rows K) → Each (λ t. IsSilent cmp id t.1) (to_each (route_to g asker interest) g.faces)
  route_silent asker interest g = each_ruled (IsSilent cmp id) (route_to g asker interest) g.faces (route_says cmp matching (IsSilent cmp id) (λ j m o e. tt) g asker interest)

  entities_silent : (k i : ℕ) (interest : InterestRow K) (g : Rows K) → Each (λ t. IsSilent cmp id t.1) (to_face k (entities_for cmp matching g i interest) g)
  entities_silent k i interest g = each_ruled_one (IsSilent cmp id) k (entities_for cmp matching g i interest) g (each_entity cmp (IsSilent cmp id) (λ number e j. tt) (λ number e info j. tt) matching g i interest)

  -- the ask of another interest is put
  asked_other : (k i : ℕ) (ps : List (ℕ × ℕ)) (interest : InterestRow K) (s : Option (List K)) (g : Rows K) → ((n == k) ≡ true → (id == i) ≡ false) → AskIs cmp matching n id s g → AskIs cmp matching n id s (with_face k (asked_as ps i interest) g)
  unfolding with_face
  asked_other k i ps interest s g apart is = record {
    rises = rise_map (λ f. f.number) 1 change g.faces number_ is.rises;
    own = λ h found.
        let back = mapped_back n change g.faces h number_ found in
        let f = back.0 in
        let is_n : n ≡ f.number = eqb-true n f.number (find_passes (λ f. n == f.number) g.faces f back.1) in
        subst (λ (x : Face K). (answered_at cmp id x.asks ≡ s) × RiseFrom (λ row. row.0) 0 x.asks) back.2
        (of_cond (λ (x : Face K). (answered_at cmp id x.asks ≡ s) × RiseFrom (λ row. row.0) 0 x.asks) (k == f.number) (asked_as ps i interest f) f
        (λ here. put_ (is_current interest.mode) f (apart (eq-eqb n k (is_n ∙ sym (eqb-true k f.number here)))) (is.own f back.1))
        (λ _. is.own f back.1));
  }
    where
      change : Face K → Face K
      change f = if k == f.number then asked_as ps i interest f else f

      number_ : (f : Face K) → (change f).number ≡ f.number
      number_ f = of_cond (λ (x : Face K). x.number ≡ f.number) (k == f.number) (asked_as ps i interest f) f (λ _. refl) (λ _. refl)

      new_ : Ask K
      new_ = record { interest = interest; pendings = ps; answered = [] }

      put_ : (b : Bool) (f : Face K) → (id == i) ≡ false → (answered_at cmp id f.asks ≡ s) × RiseFrom (λ row. row.0) 0 f.asks
          → (answered_at cmp id (put_if b i new_ f.asks) ≡ s) × RiseFrom (λ row. row.0) 0 (put_if b i new_ f.asks)
      put_ true f other own = (ap (option_map (λ (a : Ask K). a.answered)) (at_put_other id i new_ f.asks other) ∙ own.0, rise_put_if true i new_ f.asks own.1)
      put_ false f other own = own

  goes_asking : (k i : ℕ) (interest : InterestRow K) (asker : Region) (g : Rows K) → ((n == k) ≡ true → (id == i) ≡ false) → Goes cmp matching n id (asking cmp matching k i interest asker g)
  goes_asking k i interest asker g apart =
      goes_alter cmp matching n id (with_numbers cmp (numbered_by cmp interest)) sending (λ s h is. numbers_left (numbered_by cmp interest) s h is)
      (goes_say cmp matching n id (λ h. to_each (route_to h asker interest) h.faces) entities (λ s h is. due_if_silent cmp matching n id (to_each (route_to h asker interest) h.faces) s (route_silent asker interest h))
      (goes_say cmp matching n id (λ h. to_face k (entities_for cmp matching h i interest) h) asks (λ s h is. due_if_silent cmp matching n id (to_face k (entities_for cmp matching h i interest) h) s (entities_silent k i interest h))
      (goes_alter cmp matching n id (with_face k (asked_as pendings i interest)) answers (λ s h is. asked_other k i pendings interest s h apart is)
      (goes_say cmp matching n id (λ h. to_face k (answers_of cmp matching h i interest) h) final
      (λ s h is. face_due cmp matching n id s k (answers_of cmp matching h i interest) h is
      (λ f own _. silent_due cmp id (answers_of cmp matching h i interest f) s (others_silent cmp matching id f.next f.told interest.mode i (answered_expressions cmp matching h interest f) (apart own))))
      (goes_say cmp matching n id (to_face k (final_of i)) [] (λ s h is. face_due cmp matching n id s k (final_of i) h is (λ f _ own. final_due i f s own)) (goes_nothing cmp matching n id))))))
    where
      pendings : List (ℕ × ℕ)
      pendings = sent_as g asker interest.mode

      final : List (Part K)
      final = Say (to_face k (final_of i)) ∷ []

      answers : List (Part K)
      answers = Say (λ h. to_face k (answers_of cmp matching h i interest) h) ∷ final

      asks : List (Part K)
      asks = Alter (with_face k (asked_as pendings i interest)) ∷ answers

      entities : List (Part K)
      entities = Say (λ h. to_face k (entities_for cmp matching h i interest) h) ∷ asks

      sending : List (Part K)
      sending = Say (λ h. to_each (route_to h asker interest) h.faces) ∷ entities

  -- the ask itself is put
  asked_own : (ps : List (ℕ × ℕ)) (interest : InterestRow K) (s : Option (List K)) (g : Rows K) → is_current interest.mode ≡ true → AskIs cmp matching n id s g → AskIs cmp matching n id (Some []) (with_face n (asked_as ps id interest) g)
  unfolding with_face
  asked_own ps interest s g current is = record {
    rises = rise_map (λ f. f.number) 1 change g.faces number_ is.rises;
    own = λ h found.
        let back = mapped_back n change g.faces h number_ found in
        let f = back.0 in
        let here : (n == f.number) ≡ true = find_passes (λ f. n == f.number) g.faces f back.1 in
        subst (λ (x : Face K). (answered_at cmp id x.asks ≡ Some []) × RiseFrom (λ row. row.0) 0 x.asks) back.2
        (of_cond (λ (x : Face K). (answered_at cmp id x.asks ≡ Some []) × RiseFrom (λ row. row.0) 0 x.asks) (n == f.number) (asked_as ps id interest f) f
        (λ _. (
          ap (λ b. answered_at cmp id (put_if b id new_ f.asks)) current ∙ ap (option_map (λ (a : Ask K). a.answered)) (at_put id new_ f.asks),
          rise_put_if (is_current interest.mode) id new_ f.asks (is.own f back.1).1,
        ))
        (λ miss. never here miss));
  }
    where
      change : Face K → Face K
      change f = if n == f.number then asked_as ps id interest f else f

      number_ : (f : Face K) → (change f).number ≡ f.number
      number_ f = of_cond (λ (x : Face K). x.number ≡ f.number) (n == f.number) (asked_as ps id interest f) f (λ _. refl) (λ _. refl)

      new_ : Ask K
      new_ = record { interest = interest; pendings = ps; answered = [] }

  module _ (total : IsTotalOrder cmp) where
    answered_once : (g : Rows K) (interest : InterestRow K) (f : Face K) → KeysOnce cmp (answered_expressions cmp matching g interest f)
    unfolding answered_expressions
    answered_once g interest f =
        of_cond (KeysOnce cmp) (is_current interest.mode && has_tokens interest.options) (filter (is_about matching interest.expr) (visible_expressions cmp g f.region)) []
        (λ _. once_in_order cmp (filter (is_about matching interest.expr) (visible_expressions cmp g f.region)) (in_order_filter cmp (is_about matching interest.expr) (visible_expressions cmp g f.region) (visible_expressions_in_order cmp total g f.region)))
        (λ _. tt)

    -- the interest's own call: it begins with nothing
    own_asking : (interest : InterestRow K) (asker : Region) (s : Option (List K)) (g : Rows K) → is_current interest.mode ≡ true → AskIs cmp matching n id s g → Went (Some []) (asking cmp matching n id interest asker g) g
    unfolding ran said_by
    own_asking interest asker s g current is =
        subst (Outcome cmp matching n id (Some []) h5)
        (sym (messages_for-append n ss1 (ss2 ++ (ss3 ++ (ss4 ++ []))) ∙ ap (λ ms. messages_for n ss1 ++ ms) (messages_for-append n ss2 (ss3 ++ (ss4 ++ [])) ∙ ap (λ ms. messages_for n ss2 ++ ms) (messages_for-append n ss3 (ss4 ++ [])))))
        (quietly (messages_for n ss1) (each_message_for cmp (IsSilent cmp id) n ss1 silent1) (quietly (messages_for n ss2) (each_message_for cmp (IsSilent cmp id) n ss2 silent2) told))
      where
        pendings : List (ℕ × ℕ)
        pendings = sent_as g asker interest.mode

        g1 : Rows K
        g1 = with_numbers cmp (numbered_by cmp interest) g

        ss1 : Sends K
        ss1 = to_each (route_to g1 asker interest) g1.faces

        silent1 : Each (λ t. IsSilent cmp id t.1) ss1
        silent1 = route_silent asker interest g1

        g2 : Rows K
        g2 = rows_heard cmp ss1 g1

        ss2 : Sends K
        ss2 = to_face n (entities_for cmp matching g2 id interest) g2

        silent2 : Each (λ t. IsSilent cmp id t.1) ss2
        silent2 = entities_silent n id interest g2

        g3 : Rows K
        g3 = rows_heard cmp ss2 g2

        is3 : AskIs cmp matching n id s g3
        is3 = ask_heard_silent cmp matching n id s ss2 g2 silent2 (ask_heard_silent cmp matching n id s ss1 g1 silent1 (numbers_left (numbered_by cmp interest) s g is))

        g4 : Rows K
        g4 = with_face n (asked_as pendings id interest) g3

        is4 : AskIs cmp matching n id (Some []) g4
        is4 = asked_own pendings interest s g3 current is3

        ss3 : Sends K
        ss3 = to_face n (answers_of cmp matching g4 id interest) g4

        g5 : Rows K
        g5 = rows_heard cmp ss3 g4

        ss4 : Sends K
        ss4 = to_face n (final_of id) g5

        h5 : Rows K
        h5 = rows_heard cmp ss4 g5

        quietly : {h : Rows K} {ms : List (Message K)} (xs : List (Message K)) → Each (IsSilent cmp id) xs → Outcome cmp matching n id (Some []) h ms → Outcome cmp matching n id (Some []) h (xs ++ ms)
        quietly {h} {ms} xs silent one = record {
          due = due_append cmp id xs ms (Some []) (silent_due cmp id xs (Some []) silent) (ap (are_due cmp id ms) (silent_state cmp id xs (Some []) silent) ∙ one.due);
          ask = subst (λ t. AskIs cmp matching n id t h) (ap (state_after cmp id ms) (sym (silent_state cmp id xs (Some []) silent)) ∙ sym (state-append cmp id xs ms (Some []))) one.ask;
        }

        told : Outcome cmp matching n id (Some []) h5 (messages_for n ss3 ++ messages_for n (ss4 ++ []))
        told =
            let first : Outcome cmp matching n id (Some []) g5 (messages_for n ss3) = record {
              due = face_due cmp matching n id (Some []) n (answers_of cmp matching g4 id interest) g4 is4
                  (λ f _ _. answers_due cmp matching id total f.next f.told interest.mode (answered_expressions cmp matching g4 interest f) [] (answered_once g4 interest f) (each_always (λ x. is_among cmp x [] ≡ false) (λ x. refl) (answered_expressions cmp matching g4 interest f)));
              ask = ask_heard cmp matching n id (Some []) ss3 g4 is4;
            } in
            outcome_then cmp matching n id (Some []) g5 h5 (messages_for n ss3) (messages_for n (ss4 ++ [])) first
            (goes_say cmp matching n id (to_face n (final_of id)) [] (λ t h at_. face_due cmp matching n id t n (final_of id) h at_ (λ f _ own. final_due id f t own)) (goes_nothing cmp matching n id) (state_after cmp id (messages_for n ss3) (Some [])) g5 first.ask)

    pub asking_goes : (mode : InterestMode) (options : InterestOptions) (e : Option K) (g : Rows K) → is_current mode ≡ true → is_some (find_face n g) ≡ true → RowsAreInOrder cmp matching g → CallGoes (Some []) (Interest n id mode options e) g
    unfolding parts_of
    asking_goes mode options e g current open_ ordered = by_ran (Some []) (Interest n id mode options e) g (cases (find_face n g) open_)
      where
        cases : (o : Option (Face K)) → is_some o ≡ true → Went (Some []) (elim o [ None ↦ [] | Some f ↦ asking cmp matching n id (row_of cmp matching f mode options e) f.region g ]) g
        cases None there = never there refl
        cases (Some f) there = own_asking (row_of cmp matching f mode options e) f.region (state_in cmp matching n id g) g current (ask_in cmp matching n id g ordered)

    -- ---- calls

    declaration_goes : (s : Option (List K)) (k i node : ℕ) (e : K) (interest : Option ℕ) (from : Face K) (g : Rows K) → find_face k g ≡ Some from → AskIs cmp matching n id s g
        → (let plain : List (Part K) = if registers from interest then declaring cmp matching k i e from ++ showing cmp from.region e else [] in
        Went s (if is_routed g from then declaring_of cmp matching k (source_of g from node) e from else answering cmp matching k interest e from ++ plain) g)
    unfolding parts_of answer_to
    declaration_goes s k i node e interest from g found is =
        by_test (is_routed g from)
        (λ routed. rw routed (goes_silent cmp matching n id nobody refl routed_parts (kept routed_parts (rw routed at still)) (declaring_of_says cmp matching (IsSilent cmp id) (λ j x. tt) (λ x j. tt) k (source_of g from node) e from) s g is))
        (λ routed.
        let both : Each (PartKeeps cmp matching nobody) (first ++ plain) = kept (first ++ plain) (rw routed at still) in
        rw routed (goes_append cmp matching n id first plain (answers interest (each_front (PartKeeps cmp matching nobody) first plain both)) (goes_silent cmp matching n id nobody refl plain (each_back (PartKeeps cmp matching nobody) first plain both) plain_silent) s g is))
      where
        routed_parts : List (Part K)
        routed_parts = declaring_of cmp matching k (source_of g from node) e from

        first : List (Part K)
        first = answering cmp matching k interest e from

        plain : List (Part K)
        plain = if registers from interest then declaring cmp matching k i e from ++ showing cmp from.region e else []

        still : Each (StillPart cmp matching nobody) (if is_routed g from then routed_parts else first ++ plain)
        still = subst (λ (o : Option (Face K)). Each (StillPart cmp matching nobody) (elim o [ None ↦ [] | Some f ↦ if is_routed g f then declaring_of cmp matching k (source_of g f node) e f else answering cmp matching k interest e f ++ (if registers f interest then declaring cmp matching k i e f ++ showing cmp f.region e else []) ])) found (declaration_still cmp matching k i node e interest g)

        kept : (parts : List (Part K)) → Each (StillPart cmp matching nobody) parts → Each (PartKeeps cmp matching nobody) parts
        kept parts all = keep_if_still cmp matching nobody parts all

        plain_silent : Each (SaysEach cmp matching (IsSilent cmp id)) plain
        plain_silent =
            of_cond (Each (SaysEach cmp matching (IsSilent cmp id))) (registers from interest) (declaring cmp matching k i e from ++ showing cmp from.region e) []
            (λ _. (tt, (telling_says cmp matching (IsSilent cmp id) (λ j x. tt) from.region e, showing_says cmp matching (IsSilent cmp id) (λ x j. tt) from.region e))) (λ _. tt)

        answers : (o : Option ℕ) → Each (PartKeeps cmp matching nobody) (answering cmp matching k o e from) → Goes cmp matching n id (answering cmp matching k o e from)
        answers None keep = goes_nothing cmp matching n id
        answers (Some j) keep =
            of_cond (Goes cmp matching n id) (has_id j from.pendings) (Say (λ h. to_each (answer_to cmp matching k j e) h.faces) ∷ []) []
            (λ _. goes_say cmp matching n id (λ h. to_each (answer_to cmp matching k j e) h.faces) []
            (λ t h at_. each_due cmp matching n id t (answer_to cmp matching k j e) h at_ (λ f own rises. answer_due f k j t own rises)) (goes_nothing cmp matching n id))
            (λ _. goes_nothing cmp matching n id)
          where
            answer_due : (f : Face K) (k j : ℕ) (t : Option (List K)) → answered_at cmp id f.asks ≡ t → RiseFrom (λ row. row.0) 0 f.asks → are_due cmp id (answer_to cmp matching k j e f) t ≡ true
            answer_due f k j t own rises = subst (λ u. are_due cmp id (answer_to cmp matching k j e f) u ≡ true) own (rows_due cmp matching id total f.next f.told k j e 0 f.asks rises)

    closing_own : (s : Option (List K)) (g : Rows K) → RowsAreInOrder cmp matching g → CallGoes s (CloseFace n) g
    unfolding parts_of altered_by rows_heard
    closing_own s g ordered =
        let ss = said cmp matching (CloseFace n) g in
        record {
          due = ap (λ (ms : List (Message K)). are_due cmp id ms s) (closing_spares cmp matching n g);
          ask = record {
            rises = (in_order_after_call cmp matching total (CloseFace n) g tt ordered).lists.faces_rise;
            own = λ f found. absurd (gone f found);
          };
        }
      where
        a : Rows K
        a = altered cmp matching (CloseFace n) g

        away : Each (λ f. (n == f.number) ≡ false) a.faces
        away = cases (find_face n g) refl
          where
            cases : (o : Option (Face K)) → find_face n g ≡ o → Each (λ f. (n == f.number) ≡ false) (altered_by cmp matching (elim o [ None ↦ [] | Some f ↦ closing cmp matching n g f ]) g).faces
            cases None found = find_none (λ f. n == f.number) g.faces found
            cases (Some f) found = closing_away cmp matching n f g

        gone : (f : Face K) → find_face n (rows_after_call cmp matching (CloseFace n) g) ≡ Some f → ⊥
        gone f found =
            let ss = said cmp matching (CloseFace n) g in
            let back = mapped_back n (λ (x : Face K). heard_all cmp a.moment (messages_for x.number ss) x) a.faces f (λ x. heard_all-number cmp a.moment (messages_for x.number ss) x) found in
            never (find_passes (λ x. n == x.number) a.faces back.0 back.1) (find_each (λ x. (n == x.number) ≡ false) (λ x. n == x.number) a.faces back.0 away back.1)

    pub call_goes : (s : Option (List K)) (c : PlainCall K) (g : Rows K) → is_asking_as n id c ≡ false → n ≤ g.made → RowsAreInOrder cmp matching g → AskIs cmp matching n id s g → CallGoes s c g
    unfolding parts_of altered_by said_by
    call_goes s (NewSession first) g other old ordered is = opens s (NewSession first) g _ refl refl old ordered (said_nothing first g) is
      where
        said_nothing : (first : ℕ) (g : Rows K) → Each (λ t. t.0 ≡ g.made + 1) (said cmp matching (NewSession first) g)
        said_nothing first g = tt
    call_goes s (NewTransport zid whatami region bound first) g other old ordered is = opens s (NewTransport zid whatami region bound first) g _ refl refl old ordered (opening_speaks cmp matching zid whatami region bound first g) is
    call_goes s (DeclareToken k i e node interest) g other old ordered is =
        by_ran s (DeclareToken k i e node interest) g (at_face k g s (λ f. if is_routed g f then declaring_of cmp matching k (source_of g f node) e f else answering cmp matching k interest e f ++ (if registers f interest then declaring cmp matching k i e f ++ showing cmp f.region e else [])) is
        (λ f found. declaration_goes s k i node e interest f g found is))
    call_goes s (UndeclareToken k i given node) g other old ordered is =
        let c : PlainCall K = UndeclareToken k i given node in
        by_ran s c g (silent_call s (parts_of cmp matching c g) g (keep_if_still cmp matching nobody (parts_of cmp matching c g) (undeclaration_still cmp matching k i node given g)) (undeclaration_says cmp matching (IsSilent cmp id) (λ j. tt) (λ e j. tt) k i node given g) is)
    call_goes s (Interest k i mode options e) g other old ordered is =
        by_ran s (Interest k i mode options e) g (at_face k g s (λ f. asking cmp matching k i (row_of cmp matching f mode options e) f.region g) is
        (λ f found. goes_asking k i (row_of cmp matching f mode options e) f.region g (λ own. by_test (id == i) (λ same_. never (rw (own, same_) refl) other) (λ apart. apart)) s g is))
    call_goes s (InterestFinal k i) g other old ordered is =
        by_ran s (InterestFinal k i) g (at_face k g s (finalising_held cmp matching k i) is (λ f found. held (at_id i f.held)))
      where
        held : (o : Option (InterestRow K)) → Went s (elim o [ None ↦ [] | Some interest ↦ finalising cmp matching k i interest ]) g
        held None = goes_nothing cmp matching n id s g is
        held (Some interest) = goes_finalising cmp matching n id k i interest s g is
    call_goes s (DeclareFinal k i) g other old ordered is = by_ran s (DeclareFinal k i) g (at_face k g s (finishing k i) is (λ f found. goes_finishing cmp matching n id k i f s g is))
    call_goes s (CloseFace k) g other old ordered is =
        by_test (k == n)
        (λ own. subst (λ (j : ℕ). CallGoes s (CloseFace j) g) (sym (eqb-true k n own)) (closing_own s g ordered))
        (λ apart. by_ran s (CloseFace k) g (at_face k g s (closing cmp matching k g) is (λ f found. goes_closing cmp matching n id k f g apart s g is)))
    call_goes s (Expire now) g other old ordered is = by_ran s (Expire now) g (goes_expiring cmp matching n id now g s g is)
    call_goes s (SetTrees region t) g other old ordered is =
        let c : PlainCall K = SetTrees region t in
        by_ran s c g (silent_call s (parts_of cmp matching c g) g (keep_if_still cmp matching nobody (parts_of cmp matching c g) (table_still cmp matching region t g)) (table_says cmp matching (IsSilent cmp id) (λ j. tt) (λ e j. tt) (λ e j. tt) region t g) is)
    call_goes s (SetEntities k subscribers queryables) g other old ordered is =
        let c : PlainCall K = SetEntities k subscribers queryables in
        by_ran s c g (silent_call s (parts_of cmp matching c g) g (keep_if_still cmp matching nobody (parts_of cmp matching c g) (entities_still cmp matching k subscribers queryables g)) tt is)
