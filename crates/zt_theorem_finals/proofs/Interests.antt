-- Each ask gets its final in the call that ends it: interests, and their ends.
use Rattle.std.proofs.Common.{◌≡◌, ℕ, ◌+◌, Bool, true, false, not, if◌then◌else◌, ◌&&◌, ◌==◌, List, [], ◌∷◌, ◌++◌, map, filter, Option, Some, None, refl, sym, ap, ◌∙◌, subst, arith, append-nil, eqb-true, eq-eqb}
use Rattle.std.proofs.lemmas.Bool.{and_parts, or_left}
use Rattle.std.specs.List.{list_any}
use Rattle.std.specs.declared.cmp.Ordering.{Ordering}
use Rattle.zt_region.specs.declared.region.Region.{Region}
use Rattle.zt_protocol.specs.Interest.{is_current, is_future}
use Rattle.zt_protocol.specs.Plain.{InterestFinal}
use Rattle.zt_protocol.specs.declared.interests.InterestMode.{InterestMode}
use Rattle.zt_protocol.specs.declared.messages.Message.{Message}
use Rattle.zt_protocol.specs.declared.messages.Message.TheVariants as message
use Rattle.zt_model.specs.Entities.{entities_for, numbered_by, with_numbers}
use Rattle.zt_model.specs.Hearing.{heard_all, messages_for, put_if, rows_heard}
use Rattle.zt_model.specs.Lists.{at_id, first_where, has_id, is_some_and}
use Rattle.zt_model.specs.Promises.{finals_in}
use Rattle.zt_model.specs.Routing.{asked_as, end_upstream_to, final_of, final_of_both, finalising, is_target, route, route_to, sent_as, stands, unheld, untell_to}
use Rattle.zt_model.specs.Rows.{Ask, Face, InterestRow, Rows}
use Rattle.zt_model.specs.Says.{Alter, Part, Say, Sends, altered_by, answered_expressions, answers_of, asking, finalising_held, find_face, parts_of, said_by, to_each, to_face, with_face}
use Rattle.zt_model.specs.Transcript.{Each}
use Rattle.zt_laws.specs.Order.{HasRowsInOrder, RowsAreInOrder}
use Rattle.zt_laws.specs.Sound.{RiseFrom}
use Rattle.zt_laws.proofs.Hearing.{each_ruled, each_ruled_one, find_each, find_only, find_passes, heard_all-number, messages_for-append, messages_for_each}
use Rattle.zt_laws.proofs.Lists.{any_alike, by_test, each_always, each_both, each_fails, each_map, each_weaker, filter_alike, never, of_cond, rise_map}
use Rattle.zt_laws.proofs.PartsOrder.{each_message_for, rise_put_if}
use Rattle.zt_laws.proofs.ToldFrom.{found_by_number}
use Rattle.zt_theorem_soundness.specs.Ran.{ran}
use Rattle.zt_theorem_soundness.specs.Sound.{AskIsHeld, AsksAreHeld}
use Rattle.zt_theorem_soundness.proofs.Asking.{each_filtered}
use Rattle.zt_theorem_soundness.proofs.ById.{at_each, at_none_has, find_mapped}
use Rattle.zt_theorem_soundness.proofs.CallsRun.{each_entity}
use Rattle.zt_theorem_soundness.proofs.Going.{each_put_if}
use Rattle.zt_theorem_soundness.proofs.Parts.{nobody}
use Rattle.zt_theorem_soundness.proofs.Running.{ran-append, said_by-append}
use Rattle.zt_theorem_visibility.proofs.Saying.{answers_say, route_says, said_each}
use Rattle.zt_theorem_finals.specs.Open.{AsksStand}
use Rattle.zt_theorem_finals.proofs.Asks.{AskAt, IsAsk, IsLike, NoFinal, any_final, ask_changed, ask_heard, finals-append, has_put, has_put_other, is_changed, none_final, stands_changed, stands_still}
use Rattle.zt_theorem_finals.proofs.Calls.{FinishesBy, GetsFinal, each_ask, gets_final, is_this, nothing_ended}
use Rattle.zt_theorem_finals.proofs.Ending.{Stays, both_same, face_finals, no_final_if_still, outcome_stays, stays_alter, stays_nothing, stays_say, stays_still, still_heard}
use Rattle.zt_theorem_finals.proofs.Initial.{to_face_own}
use Rattle.zt_theorem_finals.proofs.Still.{unheld_still, untell_still, upstream_still}

module _ {K : Type 0} (cmp : K → K → Ordering) (matching : K → K → Bool) where
  at_ask : (i : ℕ) (ask : Ask K) (f : Face K) → Each (λ row. (i == row.0) ≡ true → IsLike cmp ask row.1) f.asks → (a : Ask K) → at_id i f.asks ≡ Some a → IsLike cmp ask a
  at_ask i ask f own a at_ = at_each (IsLike cmp ask) i f.asks a own at_

  other_final : (i id : ℕ) → (i == id) ≡ false → finals_in i (let ms : List (Message K) = message.DeclareFinal id ∷ [] in ms) ≡ 0
  other_final i id apart = rw apart refl

  own_final : (i id : ℕ) → i ≡ id → finals_in i (let ms : List (Message K) = message.DeclareFinal id ∷ [] in ms) ≡ 1
  own_final i id is = let here : (i == id) ≡ true = eq-eqb i id is in rw here refl

  -- ---- the end of an interest

  module _ (n id : ℕ) (interest : InterestRow K) where
    -- an ask that the interest's end leaves
    left_by_end : (k i : ℕ) (ask : Ask K) → (is_this n id k i ≡ true → is_future ask.interest.mode ≡ false) → Stays cmp matching k i ask (finalising cmp matching n id interest)
    left_by_end k i ask now_alone =
        stays_alter cmp matching k i ask (with_face n (unheld id)) _ (λ g is. is_changed cmp nobody k i ask true g (with_face n (unheld id) g) refl (unheld_still cmp matching nobody n id g) is)
        (stays_say cmp matching k i ask (λ g. to_face n (untell_to cmp matching g) g) _ (λ g is. (still_heard cmp matching k i ask true (to_face n (untell_to cmp matching g) g) g (untell_still cmp matching nobody n g) is).1)
        (stays_say cmp matching k i ask (to_face n (final_of_both id interest)) _
        (λ g is. face_finals cmp matching k i ask n (final_of_both id interest) g true is.at (λ own. none_of g is own))
        (stays_still cmp matching k i ask (Say (λ g. to_each (end_upstream_to cmp matching g interest) g.faces) ∷ []) (upstream_still cmp matching nobody interest, tt))))
      where
        none_of : (g : Rows K) (is : IsAsk cmp k i ask true g) → (k == n) ≡ true → finals_in i (final_of_both id interest is.at.face) ≡ 0
        none_of g is own =
            by_test (i == id)
            (λ same_.
            let here : is_this n id k i ≡ true = rw (own, same_) refl in
            subst (λ j. finals_in i (final_of_both j interest is.at.face) ≡ 0) (eqb-true i id same_) (by_row (at_id i is.at.face.asks) refl (now_alone here)))
            (λ apart. of_cond (λ (ms : List (Message K)). finals_in i ms ≡ 0) (is_current interest.mode && is_some_and (at_id id is.at.face.asks) (λ a. is_future a.interest.mode)) (message.DeclareFinal id ∷ []) [] (λ _. other_final i id apart) (λ _. refl))
          where
            by_row : (o : Option (Ask K)) → at_id i is.at.face.asks ≡ o → is_future ask.interest.mode ≡ false
                → finals_in i (final_of_both i interest is.at.face) ≡ 0
            by_row None at_ alone = rw at_ (by_test (is_current interest.mode) (λ b. rw b refl) (λ b. rw b refl))
            by_row (Some a) at_ alone =
                let like = at_ask i ask is.at.face is.at.own a at_ in
                let now_ : is_future a.interest.mode ≡ false = ap (λ (r : InterestRow K). is_future r.mode) like.1 ∙ alone in
                rw (at_, now_) (by_test (is_current interest.mode) (λ b. rw b refl) (λ b. rw b refl))

    -- and one that asked for both gets its final
    ended_with : (i : ℕ) (ask : Ask K) (g : Rows K) → i ≡ id → is_future ask.interest.mode ≡ true → is_current interest.mode ≡ true → IsAsk cmp n i ask true g
        → finals_in i (messages_for n (said_by cmp matching (finalising cmp matching n id interest) g)) ≡ 1
    unfolding said_by
    ended_with i ask g is_id future current is =
        ap (finals_in i) (messages_for-append n ss2 (ss3 ++ (ss4 ++ [])) ∙ ap (λ ms. messages_for n ss2 ++ ms) (messages_for-append n ss3 (ss4 ++ []) ∙ ap (λ ss. messages_for n ss3 ++ messages_for n ss) (append-nil ss4)))
        ∙ finals-append i (messages_for n ss2) (messages_for n ss3 ++ messages_for n ss4)
        ∙ ap (λ c. finals_in i (messages_for n ss2) + c) (finals-append i (messages_for n ss3) (messages_for n ss4))
        ∙ summed (finals_in i (messages_for n ss2)) (finals_in i (messages_for n ss3)) (finals_in i (messages_for n ss4)) two.1 three four
      where
        g1 : Rows K
        g1 = with_face n (unheld id) g

        one : IsAsk cmp n i ask true g1
        one = is_changed cmp nobody n i ask true g g1 refl (unheld_still cmp matching nobody n id g) is

        ss2 : Sends K
        ss2 = to_face n (untell_to cmp matching g1) g1

        g2 : Rows K
        g2 = rows_heard cmp ss2 g1

        two : IsAsk cmp n i ask true g2 × (finals_in i (messages_for n ss2) ≡ 0)
        two = still_heard cmp matching n i ask true ss2 g1 (untell_still cmp matching nobody n g1) one

        ss3 : Sends K
        ss3 = to_face n (final_of_both id interest) g2

        g3 : Rows K
        g3 = rows_heard cmp ss3 g2

        ss4 : Sends K
        ss4 = to_each (end_upstream_to cmp matching g3 interest) g3.faces

        face : Face K
        face = two.0.at.face

        by_row : (o : Option (Ask K)) → at_id i face.asks ≡ o → finals_in i (final_of_both i interest face) ≡ 1
        by_row None at_ = never two.0.at.has (at_none_has i face.asks at_)
        by_row (Some a) at_ =
            let like = at_ask i ask face two.0.at.own a at_ in
            let both_ : is_future a.interest.mode ≡ true = ap (λ (r : InterestRow K). is_future r.mode) like.1 ∙ future in
            let said_ : final_of_both i interest face ≡ message.DeclareFinal i ∷ [] = rw (current, at_, both_) refl in
            ap (finals_in i) said_ ∙ own_final i i refl

        three : finals_in i (messages_for n ss3) ≡ 1
        three = ap (finals_in i) (to_face_own n (final_of_both id interest) g2 face two.0.at.found) ∙ subst (λ j. finals_in i (final_of_both j interest face) ≡ 1) is_id (by_row (at_id i face.asks) refl)

        four : finals_in i (messages_for n ss4) ≡ 0
        four = none_final i (messages_for n ss4) (each_message_for cmp NoFinal n ss4 (each_weaker _ _ (λ s one_. no_final_if_still cmp matching s.1 one_) ss4 (upstream_still cmp matching nobody interest g3)))

        summed : (x y z : ℕ) → x ≡ 0 → y ≡ 1 → z ≡ 0 → x + (y + z) ≡ 1
        summed x y z a b c = omega (arith, a, b, c)

    end_finishes : (from : Face K) (g : Rows K) → find_face n g ≡ Some from → at_id id from.held ≡ Some interest → RowsAreInOrder cmp matching g → AsksStand g → AsksAreHeld (λ k. false) g
        → FinishesBy cmp matching (is_this n id) (finalising cmp matching n id interest) g
    unfolding altered_by with_face
    end_finishes from g found held ordered stand asks_held =
        each_map Finished (λ f. if n == f.number then unheld id f else f) g.faces
        (each_both (λ f. Each (λ row. IsAsk cmp f.number row.0 row.1 true g) f.asks) (λ f. ((n == f.number) ≡ true → f ≡ from) × Each (AskIsHeld f) f.asks) (λ f. Finished (if n == f.number then unheld id f else f))
        (λ f all both.
        of_cond Finished (n == f.number) (unheld id f) f
        (λ here. each_row f all both)
        (λ _. each_row f all both))
        g.faces (each_ask cmp matching g ordered stand)
        (each_both (λ f. (n == f.number) ≡ true → f ≡ from) (λ f. false ≡ false → Each (AskIsHeld f) f.asks) (λ f. ((n == f.number) ≡ true → f ≡ from) × Each (AskIsHeld f) f.asks) (λ f only_ own. (only_, own refl)) g.faces (find_only n 1 g.faces from ordered.lists.faces_rise found) asks_held))
      where
        parts : List (Part K)
        parts = finalising cmp matching n id interest

        Final : ℕ → ℕ × Ask K → Type 0
        Final k row = GetsFinal cmp matching (is_this n id) parts g k row

        Finished : Face K → Type 0
        Finished f = Each (Final f.number) f.asks

        each_row : (f : Face K) → Each (λ row. IsAsk cmp f.number row.0 row.1 true g) f.asks → ((n == f.number) ≡ true → f ≡ from) × Each (AskIsHeld f) f.asks → Each (Final f.number) f.asks
        each_row f all both =
            each_both (λ row. IsAsk cmp f.number row.0 row.1 true g) (AskIsHeld f) (Final f.number)
            (λ row is own.
            by_test (is_this n id f.number row.0)
            (λ here. by_test (is_future row.1.interest.mode) (λ future. whole f row is own both.0 here future) (λ now_alone. stays f row is here now_alone))
            (λ away. gets_final cmp matching (is_this n id) parts g f.number row away (outcome_stays cmp matching f.number row.0 row.1 parts g (left_by_end f.number row.0 row.1 (λ here. never here away)) is)))
            f.asks all both.1
          where
            whole : (f : Face K) (row : ℕ × Ask K) → IsAsk cmp f.number row.0 row.1 true g → AskIsHeld f row → ((n == f.number) ≡ true → f ≡ from) → is_this n id f.number row.0 ≡ true → is_future row.1.interest.mode ≡ true → Final f.number row
            whole f row is own only_ here future =
                let parts_ = and_parts (f.number == n) (row.0 == id) here in
                let n_is : f.number ≡ n = eqb-true f.number n parts_.0 in
                let id_is : row.0 ≡ id = eqb-true row.0 id parts_.1 in
                let f_is : f ≡ from = only_ (eq-eqb n f.number (sym n_is)) in
                let e : Some row.1.interest ≡ Some interest = sym (own.held future) ∙ ap (λ (x : Face K). at_id row.0 x.held) f_is ∙ ap (λ j. at_id j from.held) id_is ∙ held in
                let same_ : row.1.interest ≡ interest = cc in
                let current_ : is_current interest.mode ≡ true = ap (λ (r : InterestRow K). is_current r.mode) (sym same_) ∙ own.current in
                let one = subst (λ k. finals_in row.0 (messages_for k (said_by cmp matching parts g)) ≡ 1) (sym n_is) (ended_with row.0 row.1 g id_is future current_ (subst (λ k. IsAsk cmp k row.0 row.1 true g) n_is is)) in
                one ∙ rw (future, here) (by_test (list_any (stands (ran cmp parts g)) row.1.pendings) (λ b. rw b refl) (λ b. rw b refl))

            stays : (f : Face K) (row : ℕ × Ask K) → IsAsk cmp f.number row.0 row.1 true g → is_this n id f.number row.0 ≡ true → is_future row.1.interest.mode ≡ false → Final f.number row
            stays f row is here alone =
                let after = left_by_end f.number row.0 row.1 (λ _. alone) g is in
                let st : list_any (stands (ran cmp parts g)) row.1.pendings ≡ true = after.0.stand in
                after.1 ∙ rw (alone, st) refl

  pub interest_end_finishes : (n id : ℕ) (from : Face K) (g : Rows K) → find_face n g ≡ Some from → has_id id from.held ≡ true → RowsAreInOrder cmp matching g → AsksStand g → AsksAreHeld (λ k. false) g
      → FinishesBy cmp matching (is_this n id) (parts_of cmp matching (InterestFinal n id) g) g
  unfolding parts_of
  interest_end_finishes n id from g found known ordered stand asks_held =
      subst (λ (o : Option (Face K)). FinishesBy cmp matching (is_this n id) (elim o [ None ↦ [] | Some f ↦ finalising_held cmp matching n id f ]) g) (sym found) (by_held (at_id id from.held) refl)
    where
      by_held : (o : Option (InterestRow K)) → at_id id from.held ≡ o → FinishesBy cmp matching (is_this n id) (elim o [ None ↦ [] | Some interest ↦ finalising cmp matching n id interest ]) g
      by_held None at_ = never known (at_none_has id from.held at_)
      by_held (Some interest) at_ = end_finishes n id interest from g found at_ ordered stand asks_held

  -- ---- an interest

  -- the dictionary says nothing of targets
  sent_numbered : (es : List K) (g : Rows K) (asker : Region) (mode : InterestMode) → sent_as (with_numbers cmp es g) asker mode ≡ sent_as g asker mode
  unfolding sent_as is_target
  sent_numbered es g asker mode =
      ap (map (λ (f : Face K). (f.number, f.next)))
      (filter_alike (is_target (with_numbers cmp es g) asker mode) (is_target g asker mode) g.faces
      (each_always (λ f. is_target (with_numbers cmp es g) asker mode f ≡ is_target g asker mode f) (λ f. refl) g.faces))

  -- what an interest is sent as stands then
  sent_stands : (asker : Region) (interest : InterestRow K) (g : Rows K) → is_current interest.mode ≡ true → RiseFrom (λ f. f.number) 1 g.faces
      → Each (λ p. stands (rows_heard cmp (to_each (route_to g asker interest) g.faces) g) p ≡ true) (sent_as g asker interest.mode)
  unfolding sent_as rows_heard route_to heard_all
  sent_stands asker interest g current rises =
      each_map (λ p. stands h p ≡ true) (λ (f : Face K). (f.number, f.next)) (filter (is_target g asker interest.mode) g.faces)
      (each_filtered (λ f. stands h (f.number, f.next) ≡ true) (is_target g asker interest.mode) g.faces
      (each_both (λ f. first_where (λ k. f.number == k.number) g.faces ≡ Some f) (λ f. messages_for f.number ss ≡ route_to g asker interest f) (λ f. is_target g asker interest.mode f ≡ true → stands h (f.number, f.next) ≡ true)
      (λ f found own target.
      ap (λ (o : Option (Face K)). is_some_and o (λ k. has_id f.next k.pendings)) (find_mapped f.number hears g.faces f (λ k. heard_all-number cmp g.moment (messages_for k.number ss) k) found)
      ∙ ap (λ ms. has_id f.next (heard_all cmp g.moment ms f).pendings) own
      ∙ (rw (target, current) (has_put f.next (record { mode = interest.mode; since = g.moment }) f.pendings)))
      g.faces (found_by_number 1 g.faces rises) (messages_for_each 1 (route_to g asker interest) g.faces rises)))
    where
      ss : Sends K
      ss = to_each (route_to g asker interest) g.faces

      h : Rows K
      h = rows_heard cmp ss g

      hears : Face K → Face K
      hears f = heard_all cmp g.moment (messages_for f.number ss) f

  module _ (n id : ℕ) (interest : InterestRow K) (asker : Region) (pendings : List (ℕ × ℕ)) where
    abbrev new_ask : Ask K
    new_ask = record { interest = interest; pendings = pendings; answered = [] }

    -- what is said before the ask is there
    sending : List (Part K)
    sending = Alter (with_numbers cmp (numbered_by cmp interest)) ∷ Say (route asker interest) ∷ Say (λ h. to_face n (entities_for cmp matching h id interest) h) ∷ []

    -- and then
    answering_ : List (Part K)
    answering_ = Say (λ h. to_face n (answers_of cmp matching h id interest) h) ∷ Say (to_face n (final_of id)) ∷ []

    route_none : (g : Rows K) → Each (λ s. NoFinal s.1) (route asker interest g)
    route_none g = each_ruled NoFinal (route_to g asker interest) g.faces (route_says cmp matching NoFinal (λ k mode options e j. refl) g asker interest)

    entities_none : (g : Rows K) → Each (λ s. NoFinal s.1) (to_face n (entities_for cmp matching g id interest) g)
    entities_none g = each_ruled_one NoFinal n (entities_for cmp matching g id interest) g (each_entity cmp NoFinal (λ number k j i. refl) (λ number k info j i. refl) matching g id interest)

    answers_none : (g : Rows K) → Each (λ s. NoFinal s.1) (to_face n (answers_of cmp matching g id interest) g)
    answers_none g = each_ruled_one NoFinal n (answers_of cmp matching g id interest) g (λ f. answers_say cmp matching NoFinal (λ k e j i. refl) f.next f.told interest.mode id (answered_expressions cmp matching g interest f))

    none_for : (k i : ℕ) (ss : Sends K) → Each (λ s. NoFinal s.1) ss → finals_in i (messages_for k ss) ≡ 0
    none_for k i ss none_ = none_final i (messages_for k ss) (each_message_for cmp NoFinal k ss none_)

    -- the ask is there besides others
    asked_other : (k i : ℕ) (ask : Ask K) (g : Rows K) → ((k == n) ≡ true → is_current interest.mode ≡ true → (i == id) ≡ false) → IsAsk cmp k i ask true g → IsAsk cmp k i ask true (with_face n (asked_as pendings id interest) g)
    unfolding with_face
    asked_other k i ask g apart is = record {
      at = record {
        face = change is.at.face;
        rises = rise_map (λ f. f.number) 1 change g.faces number_ is.at.rises;
        found = find_mapped k change g.faces is.at.face number_ is.at.found;
        asks_rise = of_cond (λ (f : Face K). RiseFrom (λ row. row.0) 0 f.asks) (n == is.at.face.number) (asked_as pendings id interest is.at.face) is.at.face (λ _. rise_put_if (is_current interest.mode) id new_ask is.at.face.asks is.at.asks_rise) (λ _. is.at.asks_rise);
        own = of_cond (λ (f : Face K). Each (λ row. (i == row.0) ≡ true → IsLike cmp ask row.1) f.asks) (n == is.at.face.number) (asked_as pendings id interest is.at.face) is.at.face
            (λ here. each_put_if (λ row. (i == row.0) ≡ true → IsLike cmp ask row.1) (is_current interest.mode) id new_ask is.at.face.asks (λ current hit. never hit (apart (own_ here) current)) is.at.own) (λ _. is.at.own);
        has = of_cond (λ (f : Face K). has_id i f.asks ≡ true) (n == is.at.face.number) (asked_as pendings id interest is.at.face) is.at.face (λ here. by_mode (is_current interest.mode) (apart (own_ here))) (λ _. is.at.has);
      };
      stand = any_alike (stands (with_face n (asked_as pendings id interest) g)) (stands g) (stands_changed g (with_face n (asked_as pendings id interest) g) change refl number_ (λ f. of_cond (λ (x : Face K). x.pendings ≡ f.pendings) (n == f.number) (asked_as pendings id interest f) f (λ _. refl) (λ _. refl))) ask.pendings ∙ is.stand;
    }
      where
        change : Face K → Face K
        change f = if n == f.number then asked_as pendings id interest f else f

        number_ : (f : Face K) → (change f).number ≡ f.number
        number_ f = of_cond (λ (x : Face K). x.number ≡ f.number) (n == f.number) (asked_as pendings id interest f) f (λ _. refl) (λ _. refl)

        k_is : k ≡ is.at.face.number
        k_is = eqb-true k is.at.face.number (find_passes (λ f. k == f.number) g.faces is.at.face is.at.found)

        own_ : (n == is.at.face.number) ≡ true → (k == n) ≡ true
        own_ here = eq-eqb k n (k_is ∙ sym (eqb-true n is.at.face.number here))

        by_mode : (b : Bool) → (b ≡ true → (i == id) ≡ false) → has_id i (put_if b id new_ask is.at.face.asks) ≡ true
        by_mode true other = has_put_other i id new_ask is.at.face.asks (other refl) ∙ is.at.has
        by_mode false other = is.at.has

    final_of_none : (k i : ℕ) (ask : Ask K) (g : Rows K) (is : IsAsk cmp k i ask true g) → (k == n) ≡ true → finals_in i (final_of id is.at.face) ≡ 0
    final_of_none k i ask g is own = by_test (i == id) same_ other
      where
        by_list : (ps : List (ℕ × ℕ)) → list_any (stands g) ps ≡ true → finals_in i (let ms : List (Message K) = elim ps [ [] ↦ message.DeclareFinal i ∷ [] | p ∷ more ↦ [] ] in ms) ≡ 0
        by_list [] standing = never standing refl
        by_list (p ∷ ps) standing = refl

        by_row : (o : Option (Ask K)) → at_id i is.at.face.asks ≡ o → finals_in i (final_of i is.at.face) ≡ 0
        by_row None at_ = never is.at.has (at_none_has i is.at.face.asks at_)
        by_row (Some a) at_ =
            let like = at_ask i ask is.at.face is.at.own a at_ in
            ap (λ (o : Option (Ask K)). finals_in i (let ms : List (Message K) = elim o [ None ↦ [] | Some x ↦ elim x.pendings [ [] ↦ message.DeclareFinal i ∷ [] | p ∷ more ↦ [] ] ] in ms)) at_
            ∙ by_list a.pendings (ap (list_any (stands g)) like.0 ∙ is.stand)

        same_ : (i == id) ≡ true → finals_in i (final_of id is.at.face) ≡ 0
        same_ here = subst (λ j. finals_in i (final_of j is.at.face) ≡ 0) (eqb-true i id here) (by_row (at_id i is.at.face.asks) refl)

        other_list : (ps : List (ℕ × ℕ)) → (i == id) ≡ false → finals_in i (let ms : List (Message K) = elim ps [ [] ↦ message.DeclareFinal id ∷ [] | p ∷ more ↦ [] ] in ms) ≡ 0
        other_list [] apart = other_final i id apart
        other_list (p ∷ ps) apart = refl

        other_row : (o : Option (Ask K)) → (i == id) ≡ false → finals_in i (let ms : List (Message K) = elim o [ None ↦ [] | Some x ↦ elim x.pendings [ [] ↦ message.DeclareFinal id ∷ [] | p ∷ more ↦ [] ] ] in ms) ≡ 0
        other_row None apart = refl
        other_row (Some a) apart = other_list a.pendings apart

        other : (i == id) ≡ false → finals_in i (final_of id is.at.face) ≡ 0
        other apart = other_row (at_id id is.at.face.asks) apart

    answering_stays : (k i : ℕ) (ask : Ask K) → Stays cmp matching k i ask answering_
    unfolding answering_
    answering_stays k i ask =
        stays_say cmp matching k i ask (λ h. to_face n (answers_of cmp matching h id interest) h) _ (λ g is. none_for k i (to_face n (answers_of cmp matching g id interest) g) (answers_none g))
        (stays_say cmp matching k i ask (to_face n (final_of id)) _ (λ g is. face_finals cmp matching k i ask n (final_of id) g true is.at (λ own. final_of_none k i ask g is own)) (stays_nothing cmp matching k i ask))

    other_stays : (k i : ℕ) (ask : Ask K) → ((k == n) ≡ true → is_current interest.mode ≡ true → (i == id) ≡ false) → Stays cmp matching k i ask (sending ++ Alter (with_face n (asked_as pendings id interest)) ∷ answering_)
    unfolding sending
    other_stays k i ask apart =
        stays_alter cmp matching k i ask (with_numbers cmp (numbered_by cmp interest)) _ (λ g is. is_changed cmp nobody k i ask true g (with_numbers cmp (numbered_by cmp interest) g) refl (both_same cmp matching nobody g (with_numbers cmp (numbered_by cmp interest) g) refl refl) is)
        (stays_say cmp matching k i ask (route asker interest) _ (λ g is. none_for k i (route asker interest g) (route_none g))
        (stays_say cmp matching k i ask (λ h. to_face n (entities_for cmp matching h id interest) h) _ (λ g is. none_for k i (to_face n (entities_for cmp matching g id interest) g) (entities_none g))
        (stays_alter cmp matching k i ask (with_face n (asked_as pendings id interest)) answering_ (λ g is. asked_other k i ask g apart is) (answering_stays k i ask))))

    module _ (from : Face K) (g : Rows K) (found : find_face n g ≡ Some from) (ordered : RowsAreInOrder cmp matching g) (current : is_current interest.mode ≡ true) (free : has_id id from.asks ≡ false) (sent : pendings ≡ sent_as g asker interest.mode) where
      g1 : Rows K
      g1 = with_numbers cmp (numbered_by cmp interest) g

      g2 : Rows K
      g2 = rows_heard cmp (route asker interest g1) g1

      g3 : Rows K
      g3 = rows_heard cmp (to_face n (entities_for cmp matching g2 id interest) g2) g2

      g4 : Rows K
      g4 = with_face n (asked_as pendings id interest) g3

      at3 : AskAt cmp n id new_ask false g3
      unfolding g1 g2 g3
      at3 =
          ask_heard cmp n id new_ask false (to_face n (entities_for cmp matching g2 id interest) g2) g2
          (ask_heard cmp n id new_ask false (route asker interest g1) g1
          (ask_changed cmp nobody n id new_ask false g g1 refl (both_same cmp matching nobody g g1 refl refl).leaves
          (record {
            face = from;
            rises = ordered.lists.faces_rise;
            found = found;
            asks_rise = (find_each HasRowsInOrder (λ f. n == f.number) g.faces from ordered.lists.rows found).asks;
            own = each_weaker (λ row. (id == row.0) ≡ false) (λ row. (id == row.0) ≡ true → IsLike cmp new_ask row.1) (λ row miss hit. never hit miss) from.asks (each_fails (λ row. id == row.0) from.asks free);
            has = free;
          })))

      change : Face K → Face K
      change f = if n == f.number then asked_as pendings id interest f else f

      change-number : (f : Face K) → (change f).number ≡ f.number
      unfolding change
      change-number f = of_cond (λ (x : Face K). x.number ≡ f.number) (n == f.number) (asked_as pendings id interest f) f (λ _. refl) (λ _. refl)

      change-pendings : (f : Face K) → (change f).pendings ≡ f.pendings
      unfolding change
      change-pendings f = of_cond (λ (x : Face K). x.pendings ≡ f.pendings) (n == f.number) (asked_as pendings id interest f) f (λ _. refl) (λ _. refl)

      asks_put : (b : Bool) → b ≡ true → (f : Face K) → has_id id (put_if b id new_ask f.asks) ≡ true
      asks_put true is f = has_put id new_ask f.asks
      asks_put false is f = never is refl

      -- the ask is there
      at4 : AskAt cmp n id new_ask true g4
      unfolding g4 change with_face
      at4 =
          let here : (n == at3.face.number) ≡ true = find_passes (λ f. n == f.number) g3.faces at3.face at3.found in
          record {
            face = change at3.face;
            rises = rise_map (λ f. f.number) 1 change g3.faces change-number at3.rises;
            found = find_mapped n change g3.faces at3.face change-number at3.found;
            asks_rise = of_cond (λ (f : Face K). RiseFrom (λ row. row.0) 0 f.asks) (n == at3.face.number) (asked_as pendings id interest at3.face) at3.face (λ _. rise_put_if (is_current interest.mode) id new_ask at3.face.asks at3.asks_rise) (λ away. never here away);
            own = of_cond (λ (f : Face K). Each (λ row. (id == row.0) ≡ true → IsLike cmp new_ask row.1) f.asks) (n == at3.face.number) (asked_as pendings id interest at3.face) at3.face
                (λ _. each_put_if (λ row. (id == row.0) ≡ true → IsLike cmp new_ask row.1) (is_current interest.mode) id new_ask at3.face.asks (λ _ hit. (refl, refl)) at3.own) (λ away. never here away);
            has = of_cond (λ (f : Face K). has_id id f.asks ≡ true) (n == at3.face.number) (asked_as pendings id interest at3.face) at3.face (λ _. asks_put (is_current interest.mode) current at3.face) (λ away. never here away);
          }

      parts : List (Part K)
      parts = sending ++ Alter (with_face n (asked_as pendings id interest)) ∷ answering_

      -- what was sent stands
      each_stands : Each (λ p. stands g4 p ≡ true) pendings
      unfolding g1 g2 g3 g4 change with_face
      each_stands =
          subst (Each (λ p. stands g4 p ≡ true)) (sent_numbered (numbered_by cmp interest) g asker interest.mode ∙ sym sent)
          (each_weaker (λ p. stands g2 p ≡ true) (λ p. stands g4 p ≡ true)
          (λ p has. stands_changed g3 g4 change refl change-number change-pendings p ∙ stands_still cmp (to_face n (entities_for cmp matching g2 id interest) g2) g2 p has)
          (sent_as g1 asker interest.mode) (sent_stands asker interest g1 current ordered.lists.faces_rise))

      -- the finals that are said once it is there
      finals_are : finals_in id (messages_for n (said_by cmp matching parts g)) ≡ finals_in id (messages_for n (said_by cmp matching answering_ g4))
      unfolding parts sending g1 g2 g3 g4 said_by ran
      finals_are =
          let ss = said_by cmp matching sending g in
          let ts = said_by cmp matching answering_ g4 in
          ap (λ xs. finals_in id (messages_for n xs)) (said_by-append cmp matching sending (Alter (with_face n (asked_as pendings id interest)) ∷ answering_) g)
          ∙ ap (finals_in id) (messages_for-append n ss ts)
          ∙ finals-append id (messages_for n ss) (messages_for n ts)
          ∙ no_more (finals_in id (messages_for n ss)) (finals_in id (messages_for n ts)) (none_for n id ss (said_each cmp matching NoFinal sending g (tt, (route_none, (entities_none, tt)))))
        where
          no_more : (x y : ℕ) → x ≡ 0 → x + y ≡ y
          no_more x y none_ = omega (arith, none_)

      ran_is : ran cmp parts g ≡ ran cmp answering_ g4
      unfolding parts sending g1 g2 g3 g4 ran
      ran_is = ran-append cmp sending (Alter (with_face n (asked_as pendings id interest)) ∷ answering_) g

      -- sent to nobody, it gets its final
      sent_to_nobody : pendings ≡ [] → finals_in id (messages_for n (said_by cmp matching answering_ g4)) ≡ 1
      unfolding answering_ said_by
      sent_to_nobody none_ =
          ap (finals_in id) (messages_for-append n ss (ts ++ []) ∙ ap (λ xs. messages_for n ss ++ messages_for n xs) (append-nil ts))
          ∙ finals-append id (messages_for n ss) (messages_for n ts)
          ∙ one_more (finals_in id (messages_for n ss)) (finals_in id (messages_for n ts)) none_said (ap (finals_in id) (to_face_own n (final_of id) g5 at5.face at5.found) ∙ by_row (at_id id at5.face.asks) refl)
        where
          ss : Sends K
          ss = to_face n (answers_of cmp matching g4 id interest) g4

          g5 : Rows K
          g5 = rows_heard cmp ss g4

          ts : Sends K
          ts = to_face n (final_of id) g5

          none_said : finals_in id (messages_for n ss) ≡ 0
          none_said = none_for n id ss (answers_none g4)

          at5 : AskAt cmp n id new_ask true g5
          at5 = subst (λ b. AskAt cmp n id new_ask b g5) (ap not (any_final id (messages_for n ss) ∙ ap (λ c. not (c == 0)) none_said)) (ask_heard cmp n id new_ask true ss g4 at4)

          by_list : (ps : List (ℕ × ℕ)) → ps ≡ [] → finals_in id (let ms : List (Message K) = elim ps [ [] ↦ message.DeclareFinal id ∷ [] | p ∷ more ↦ [] ] in ms) ≡ 1
          by_list [] is = own_final id id refl
          by_list (p ∷ ps) is = cc

          by_row : (o : Option (Ask K)) → at_id id at5.face.asks ≡ o → finals_in id (final_of id at5.face) ≡ 1
          by_row None at_ = never at5.has (at_none_has id at5.face.asks at_)
          by_row (Some a) at_ =
              let like = at_ask id new_ask at5.face at5.own a at_ in
              ap (λ (o : Option (Ask K)). finals_in id (let ms : List (Message K) = elim o [ None ↦ [] | Some x ↦ elim x.pendings [ [] ↦ message.DeclareFinal id ∷ [] | p ∷ more ↦ [] ] ] in ms)) at_
              ∙ by_list a.pendings (like.0 ∙ none_)

          one_more : (x y : ℕ) → x ≡ 0 → y ≡ 1 → x + y ≡ 1
          one_more x y a b = omega (arith, a, b)

      new_gets : GetsFinal cmp matching nothing_ended parts g n (id, new_ask)
      new_gets = by_list pendings refl each_stands
        where
          fut_false : (b : Bool) → (b && false) ≡ false
          fut_false true = refl
          fut_false false = refl

          by_list : (ps : List (ℕ × ℕ)) → pendings ≡ ps → Each (λ p. stands g4 p ≡ true) ps → GetsFinal cmp matching nothing_ended parts g n (id, new_ask)
          by_list [] is all =
              let none_ : list_any (stands (ran cmp parts g)) pendings ≡ false = ap (list_any (stands (ran cmp parts g))) is in
              finals_are ∙ sent_to_nobody is ∙ (rw none_ refl)
          by_list (p ∷ ps) is all =
              let standing : list_any (stands g4) pendings ≡ true = ap (list_any (stands g4)) is ∙ or_left (stands g4 p) (list_any (stands g4) ps) all.0 in
              let after = answering_stays n id new_ask g4 (record { at = at4; stand = standing }) in
              let st : list_any (stands (ran cmp parts g)) pendings ≡ true = ap (λ (h : Rows K). list_any (stands h) pendings) ran_is ∙ after.0.stand in
              finals_are ∙ after.1 ∙ (rw (st, fut_false (is_future interest.mode)) refl)

  pub asking_finishes : (n id : ℕ) (interest : InterestRow K) (from : Face K) (g : Rows K) → find_face n g ≡ Some from → RowsAreInOrder cmp matching g → AsksStand g → (is_current interest.mode ≡ true → has_id id from.asks ≡ false)
      → FinishesBy cmp matching nothing_ended (asking cmp matching n id interest from.region g) g
  unfolding altered_by with_face sending answering_ parts
  asking_finishes n id interest from g found ordered stand free =
      each_map Finished (λ f. if n == f.number then asked_as pendings id interest f else f) g.faces
      (each_both (λ f. Each (λ row. IsAsk cmp f.number row.0 row.1 true g) f.asks) (λ f. (n == f.number) ≡ true → f ≡ from) (λ f. Finished (if n == f.number then asked_as pendings id interest f else f))
      (λ f all only_.
      of_cond Finished (n == f.number) (asked_as pendings id interest f) f
      (λ here.
      let is : n ≡ f.number = eqb-true n f.number here in
      each_put_if (Final f.number) (is_current interest.mode) id (record { interest = interest; pendings = pendings; answered = [] }) f.asks
      (λ current. subst (λ k. Final k (id, record { interest = interest; pendings = pendings; answered = [] })) is (new_gets n id interest from.region pendings from g found ordered current (free current) refl))
      (each_both (λ row. IsAsk cmp f.number row.0 row.1 true g) (λ row. is_current interest.mode ≡ true → (row.0 == id) ≡ false) (Final f.number)
      (λ row own apart. old f.number row own (λ _ current. apart current))
      f.asks all (subst (λ (x : Face K). Each (λ row. is_current interest.mode ≡ true → (row.0 == id) ≡ false) x.asks) (sym (only_ here)) unused)))
      (λ away.
      each_weaker (λ row. IsAsk cmp f.number row.0 row.1 true g) (Final f.number)
      (λ row own. old f.number row own (λ same_ _. never (eq-eqb n f.number (sym (eqb-true f.number n same_))) away)) f.asks all))
      g.faces (each_ask cmp matching g ordered stand) (find_only n 1 g.faces from ordered.lists.faces_rise found))
    where
      pendings : List (ℕ × ℕ)
      pendings = sent_as g from.region interest.mode

      Final : ℕ → ℕ × Ask K → Type 0
      Final k row = GetsFinal cmp matching nothing_ended (asking cmp matching n id interest from.region g) g k row

      Finished : Face K → Type 0
      Finished f = Each (Final f.number) f.asks

      old : (k : ℕ) (row : ℕ × Ask K) → IsAsk cmp k row.0 row.1 true g → ((k == n) ≡ true → is_current interest.mode ≡ true → (row.0 == id) ≡ false) → Final k row
      old k row is apart = gets_final cmp matching nothing_ended (asking cmp matching n id interest from.region g) g k row refl (outcome_stays cmp matching k row.0 row.1 (asking cmp matching n id interest from.region g) g (other_stays n id interest from.region pendings k row.0 row.1 apart) is)

      turn : (a b : ℕ) → (a == b) ≡ false → (b == a) ≡ false
      turn a b miss = by_test (b == a) (λ here. never (eq-eqb a b (sym (eqb-true b a here))) miss) (λ other. other)

      unused : Each (λ row. is_current interest.mode ≡ true → (row.0 == id) ≡ false) from.asks
      unused =
          by_test (is_current interest.mode)
          (λ current. each_weaker (λ row. (id == row.0) ≡ false) (λ row. is_current interest.mode ≡ true → (row.0 == id) ≡ false) (λ row miss _. turn id row.0 miss) from.asks (each_fails (λ row. id == row.0) from.asks (free current)))
          (λ later. each_always (λ row. is_current interest.mode ≡ true → (row.0 == id) ≡ false) (λ row yes_. never yes_ later) from.asks)
