-- An interest that was sent up through a face to the north isn't ended by a call, where a face that leads down goes on
-- holding one that asks for the same.
use Rattle.std.proofs.Common.{◌≡◌, ℕ, ◌<◌, ◌+◌, Bool, true, false, if◌then◌else◌, ◌&&◌, ◌||◌, ◌==◌, not, List, [], ◌∷◌, map, filter, Option, Some, None, refl, sym, ap, ◌∙◌, subst, arith, eqb-true, eq-eqb}
use Rattle.std.proofs.lemmas.Bool.{and_from, and_parts, or_left, or_right}
use Rattle.std.specs.Cmp.{IsTotalOrder}
use Rattle.std.specs.List.{flat_map, list_any}
use Rattle.std.specs.declared.cmp.Ordering.{Ordering}
use Rattle.std.specs.declared.cmp.Ordering.TheVariants.{Equal}
use Rattle.zt_region.specs.declared.region.Region.{Region}
use Rattle.zt_region.specs.Region.{is_north, region_eq}
use Rattle.zt_protocol.specs.Interest.{is_current, is_future}
use Rattle.zt_protocol.specs.Plain.{PlainCall, NewSession, NewTransport, DeclareToken, UndeclareToken, Interest, InterestFinal, DeclareFinal, CloseFace, Expire, SetTrees, SetEntities, Trees}
use Rattle.zt_protocol.specs.declared.interests.InterestMode.{InterestMode}
use Rattle.zt_protocol.specs.declared.messages.Message.{Message}
use Rattle.zt_protocol.specs.declared.messages.QueryableInfo.{QueryableInfo}
use Rattle.zt_protocol.specs.declared.messages.Message.TheVariants as message
use Rattle.zt_model.specs.Closing.{without_asks, without_face}
use Rattle.zt_model.specs.Entities.{entities_for, entity_expressions, numbered_by, with_entities, with_numbers}
use Rattle.zt_model.specs.Hat.{hat_of_face}
use Rattle.zt_model.specs.Hearing.{heard, heard_all, put_if, rows_heard}
use Rattle.zt_model.specs.Lists.{at_id, in_key_order, is_some_and}
use Rattle.zt_model.specs.Parts.{Alter, Part, Say, Sends, to_each, to_face, told_id, with_face}
use Rattle.zt_model.specs.Routing.{asked_as, asks_same, end_upstream_to, ended, final_of, final_of_both, finish_to, initial_finalised, is_finished_by, is_held_south, is_target, route_to, sent_as, unheld, untell_to}
use Rattle.zt_model.specs.Rows.{Ask, ById, Face, InterestRow, Rows}
use Rattle.zt_model.specs.Says.{answered_expressions, asking, forget_to, forget_untold, is_routed, is_told, row_of, said, tell_to}
use Rattle.zt_model.specs.Telling.{answer_to, answers_from, answers_of, is_answered_by, registered, unregistered}
use Rattle.zt_model.specs.Transcript.{Each}
use Rattle.zt_model.specs.Trees.{counted_table, greet_to, hide_to, is_child, is_hidden, is_newly_shown, node_of, pass_to, routed_expressions, router_regions, routers_in_order, show_to, table_of, unpass_to, with_own_rows, with_routed, with_table, without_left_out, without_own_rows}
use Rattle.zt_model.specs.Visible.{is_visible, shows}
use Rattle.zt_model.specs.Wants.{wants}
use Rattle.zt_laws.specs.Sound.{rows_after_call}
use Rattle.zt_laws.proofs.Hearing.{heard_all-held, heard_all-number, heard_all-region}
use Rattle.zt_laws.proofs.Lists.{any_weaker, by_test, each_always, each_filter, each_map, never, of_cond}
use Rattle.zt_laws.proofs.PartsOrder.{each_flat_map}
use Rattle.zt_theorem_soundness.proofs.ById.{at_put_other, at_without_other}
use Rattle.zt_theorem_soundness.proofs.CallsRun.{each_entity}
use Rattle.zt_theorem_soundness.proofs.Going.{each_put_if}
use Rattle.zt_theorem_tree_invariant.proofs.Saying.{TreeRows}
use Rattle.zt_theorem_tree_knowledge.proofs.Upstream.{same_to_all}
use Rattle.zt_theorem_tree_all_that_stays.specs.Steady.{IsSentUp, LeavesInterest}
use Rattle.zt_theorem_tree_all_that_stays.proofs.Parts.{AreFine, Forgets, IsFine, Own, To, any_changed, any_heard, any_left, close_fine, declare_fine, entities_fine, final_fine, finish_fine, interest_fine, own_changed, own_each, own_heard, own_one, trees_fine, undeclare_fine}

-- the row under an id passes a test, so some row does
any_at : {A : Type 0} (test : A → Bool) (id : ℕ) (rows : ById A) → is_some_and (at_id id rows) test ≡ true → list_any (λ row. test row.1) rows ≡ true
any_at test id [] some = cc
any_at test id (row ∷ rows) some =
    by_test (id == row.0)
    (λ here. let own : test row.1 ≡ true = rw here at some in or_left (test row.1) (list_any (λ r. test r.1) rows) own)
    (λ here. or_right (test row.1) (list_any (λ r. test r.1) rows) (any_at test id rows (rw here at some)))

module _ {K : Type 0} (cmp : K → K → Ordering) (matching : K → K → Bool) (total : IsTotalOrder cmp) (equal_is_same : (a b : K) → cmp a b ≡ Equal → a ≡ b) (local : ℕ) (i : InterestRow K) where
  abbrev pub SentUp : Face K → Type 0
  SentUp f = IsSentUp local i f

  abbrev Leaves : Message K → Type 0
  Leaves m = LeavesInterest local m

  sent_heard : (now : ℕ) (m : Message K) (f : Face K) → SentUp f → Leaves m → SentUp (heard cmp now m f)
  sent_heard now (message.DeclareToken k x interest node) f sent leaves = let less : local < f.next = sent.next in record { only = sent.only; next = omega arith }
  sent_heard now (message.UndeclareToken k x node) f sent leaves = record { only = sent.only; next = sent.next }
  sent_heard now (message.DeclareFinal interest) f sent leaves = record { only = sent.only; next = sent.next }
  sent_heard now (message.Interest k mode options x) f sent leaves =
      let less : local < f.next = sent.next in
      record {
        only = each_put_if (λ (row : ℕ × InterestRow K). (local == row.0) ≡ true → row.1 ≡ i) (is_future mode) k (record { mode = mode; options = options; expr = x }) f.locals (λ _ own. never own leaves) sent.only;
        next = omega arith;
      }
  sent_heard now (message.InterestFinal k) f sent leaves = record { only = each_filter (λ (row : ℕ × InterestRow K). (local == row.0) ≡ true → row.1 ≡ i) (λ row. not (k == row.0)) f.locals sent.only; next = sent.next }
  sent_heard now (message.DeclareSubscriber number x interest) f sent leaves = sent
  sent_heard now (message.DeclareQueryable number x info interest) f sent leaves = sent

  module _ (p q id : ℕ) where
    -- the other face, which leads down, holds under the id what asks for the same
    abbrev pub is_held_below : Face K → Bool
    is_held_below f = (q == f.number) && (not (is_north f.region) && is_some_and (at_id id f.held) (asks_same cmp matching i))

    pub record IsUp (g : Rows K) : Type 0 where
      pub sent : Own p Leaves cmp SentUp g.faces
      pub held : list_any is_held_below g.faces ≡ true

    abbrev Fine : Part K → Type 0
    Fine = IsFine cmp matching IsUp (To p Leaves)

    held_heard : (now : ℕ) (ms : List (Message K)) (f : Face K) → is_held_below (heard_all cmp now ms f) ≡ is_held_below f
    held_heard now ms f =
        ap (λ n. (q == n) && (not (is_north (heard_all cmp now ms f).region) && is_some_and (at_id id (heard_all cmp now ms f).held) (asks_same cmp matching i))) (heard_all-number cmp now ms f)
        ∙ ap (λ r. (q == f.number) && (not (is_north r) && is_some_and (at_id id (heard_all cmp now ms f).held) (asks_same cmp matching i))) (heard_all-region cmp now ms f)
        ∙ ap (λ (rows : ById (InterestRow K)). (q == f.number) && (not (is_north f.region) && is_some_and (at_id id rows) (asks_same cmp matching i))) (heard_all-held cmp now ms f)

    up_heard : (ss : Sends K) (g : Rows K) → IsUp g → Each (To p Leaves) ss → IsUp (rows_heard cmp ss g)
    unfolding rows_heard
    up_heard ss g up said_ = record { sent = own_heard p Leaves cmp SentUp sent_heard ss g said_ up.sent; held = any_heard p Leaves cmp is_held_below held_heard ss g up.held }

    by_each : (rule : Rows K → Face K → List (Message K)) → ((g : Rows K) (f : Face K) → IsUp g → SentUp f → Each Leaves (rule g f)) → Fine (Say (λ g. to_each (rule g) g.faces))
    by_each rule says = λ g up. own_each p Leaves cmp SentUp (rule g) g.faces (λ f sent. says g f up sent) up.sent

    by_one : (n : ℕ) (rule : Rows K → Face K → List (Message K)) → ((g : Rows K) (f : Face K) → IsUp g → SentUp f → Each Leaves (rule g f)) → Fine (Say (λ g. to_face n (rule g) g))
    by_one n rule says = λ g up. own_one p Leaves cmp SentUp n (rule g) g (λ f sent. says g f up sent) up.sent

    alike : {A : Type 0} (say : A → Message K) (xs : List A) → ((x : A) → Leaves (say x)) → Each Leaves (map say xs)
    alike say xs h = each_map Leaves say xs (each_always (λ x. Leaves (say x)) h xs)

    -- ---- rules that send no interest and end none

    tell_leaves : (source : Region) (x : K) → Fine (Say (λ g. to_each (tell_to cmp matching g source x) g.faces))
    unfolding tell_to
    tell_leaves source x = by_each (λ g f. tell_to cmp matching g source x f) (λ g f up sent. of_cond (Each Leaves) (is_told cmp matching g source x f) (message.DeclareToken f.next x None 0 ∷ []) [] (λ _. (tt, tt)) (λ _. tt))

    answers_leave : (next : ℕ) (told : ById K) (mode : InterestMode) (k : ℕ) (es : List K) → Each Leaves (answers_from cmp matching next told mode k es)
    unfolding answers_from
    answers_leave next told mode k [] = tt
    answers_leave next told mode k (x ∷ es) =
        of_cond (Each Leaves) (is_future mode) (elim (told_id cmp x told) [ None ↦ message.DeclareToken next x (Some k) 0 ∷ answers_from cmp matching (next + 1) told mode k es | Some old ↦ message.DeclareToken old x (Some k) 0 ∷ answers_from cmp matching next told mode k es ])
        (message.DeclareToken 0 x (Some k) 0 ∷ answers_from cmp matching next told mode k es)
        (λ _. cases (answers_leave (next + 1) told mode k es) (answers_leave next told mode k es) (told_id cmp x told)) (λ _. (tt, answers_leave next told mode k es))
      where
        cases : Each Leaves (answers_from cmp matching (next + 1) told mode k es) → Each Leaves (answers_from cmp matching next told mode k es) → (o : Option ℕ)
            → Each Leaves (elim o [ None ↦ message.DeclareToken next x (Some k) 0 ∷ answers_from cmp matching (next + 1) told mode k es | Some old ↦ message.DeclareToken old x (Some k) 0 ∷ answers_from cmp matching next told mode k es ])
        cases more rest None = (tt, more)
        cases more rest (Some old) = (tt, rest)

    answer_leaves : (k n : ℕ) (x : K) → Fine (Say (λ g. to_each (answer_to cmp matching k n x) g.faces))
    unfolding answer_to
    answer_leaves k n x =
        by_each (λ g f. answer_to cmp matching k n x f)
        (λ g f up sent.
        each_flat_map Leaves (λ row. if is_answered_by cmp matching k n x row.1 then answers_from cmp matching f.next f.told row.1.interest.mode row.0 (x ∷ []) else []) f.asks
        (λ row. of_cond (Each Leaves) (is_answered_by cmp matching k n x row.1) (answers_from cmp matching f.next f.told row.1.interest.mode row.0 (x ∷ [])) [] (λ _. answers_leave f.next f.told row.1.interest.mode row.0 (x ∷ [])) (λ _. tt)))

    show_leaves : (source : Region) (x : K) → Fine (Say (λ g. to_each (show_to cmp g source x) g.faces))
    unfolding show_to pass_to
    show_leaves source x =
        by_each (λ g f. show_to cmp g source x f)
        (λ g f up sent.
        of_cond (Each Leaves) (is_newly_shown cmp g source x f.region) (if region_eq f.region f.region && is_child g (table_of g f.region) g.zid f then message.DeclareToken 0 x None (node_of g.zid (table_of g f.region)) ∷ [] else []) []
        (λ _. of_cond (Each Leaves) (region_eq f.region f.region && is_child g (table_of g f.region) g.zid f) (message.DeclareToken 0 x None (node_of g.zid (table_of g f.region)) ∷ []) [] (λ _. (tt, tt)) (λ _. tt)) (λ _. tt))

    hide_leaves : (source : Region) (x : K) → Fine (Say (λ g. to_each (hide_to cmp g source x) g.faces))
    unfolding hide_to unpass_to
    hide_leaves source x =
        by_each (λ g f. hide_to cmp g source x f)
        (λ g f up sent.
        of_cond (Each Leaves) (is_hidden cmp g source x f.region) (if region_eq f.region f.region && is_child g (table_of g f.region) g.zid f then message.UndeclareToken 0 (Some x) (node_of g.zid (table_of g f.region)) ∷ [] else []) []
        (λ _. of_cond (Each Leaves) (region_eq f.region f.region && is_child g (table_of g f.region) g.zid f) (message.UndeclareToken 0 (Some x) (node_of g.zid (table_of g f.region)) ∷ []) [] (λ _. (tt, tt)) (λ _. tt)) (λ _. tt))

    finish_leaves : (k n : ℕ) → Fine (Say (λ g. to_each (finish_to g k n) g.faces))
    unfolding finish_to
    finish_leaves k n = by_each (λ g f. finish_to g k n f) (λ g f up sent. alike (λ row. message.DeclareFinal row.0) (filter (λ row. is_finished_by g k n row.1) f.asks) (λ row. tt))

    untells : (o : Option ℕ) → (let ms : List (Message K) = elim o [ None ↦ [] | Some k ↦ message.UndeclareToken k None 0 ∷ [] ] in Each Leaves ms)
    untells None = tt
    untells (Some k) = (tt, tt)

    untell_leaves : (n : ℕ) → Fine (Say (λ g. to_face n (untell_to cmp matching g) g))
    unfolding untell_to
    untell_leaves n =
        by_one n (untell_to cmp matching)
        (λ g f up sent.
        let gone = filter (λ x. not (wants matching f x)) (in_key_order cmp (map (λ row. row.1) f.told)) in
        of_cond (Each Leaves) ((hat_of_face g f).is_told_unasked f.region) [] (flat_map (λ x. elim (told_id cmp x f.told) [ None ↦ [] | Some k ↦ message.UndeclareToken k None 0 ∷ [] ]) gone) (λ _. tt)
        (λ _. each_flat_map Leaves (λ x. elim (told_id cmp x f.told) [ None ↦ [] | Some k ↦ message.UndeclareToken k None 0 ∷ [] ]) gone (λ x. untells (told_id cmp x f.told))))

    forget_leaves : Forgets cmp matching IsUp (To p Leaves)
    unfolding forget_to
    forget_leaves source x =
        by_each (λ g f. forget_to cmp matching g source x f)
        (λ g f up sent. of_cond (Each Leaves) (is_routed g f || is_visible cmp g f.region x) [] (elim (told_id cmp x f.told) [ None ↦ forget_untold cmp matching g source x f | Some k ↦ message.UndeclareToken k None 0 ∷ [] ]) (λ _. tt) (λ _. cases g f (told_id cmp x f.told)))
      where
        cases : (g : Rows K) (f : Face K) (o : Option ℕ) → Each Leaves (elim o [ None ↦ forget_untold cmp matching g source x f | Some k ↦ message.UndeclareToken k None 0 ∷ [] ])
        cases g f None = of_cond (Each Leaves) (wants matching f x && (hat_of_face g f).undeclares_untold && shows g.mode f.region source) (message.UndeclareToken 0 (Some x) 0 ∷ []) [] (λ _. (tt, tt)) (λ _. tt)
        cases g f (Some k) = (tt, tt)

    both_leaves : (n k : ℕ) (interest : InterestRow K) → Fine (Say (to_face n (final_of_both k interest)))
    both_leaves n k interest =
        by_one n (λ g f. final_of_both k interest f)
        (λ g f up sent. of_cond (Each Leaves) (is_current interest.mode && is_some_and (at_id k f.asks) (λ ask. is_future ask.interest.mode)) (message.DeclareFinal k ∷ []) [] (λ _. (tt, tt)) (λ _. tt))

    final_leaves : (k : ℕ) (f : Face K) → Each Leaves (final_of k f)
    final_leaves k f = cases (at_id k f.asks)
      where
        by_pendings : (ps : List (ℕ × ℕ)) → (let ms : List (Message K) = elim ps [ [] ↦ message.DeclareFinal k ∷ [] | pending ∷ pendings ↦ [] ] in Each Leaves ms)
        by_pendings [] = (tt, tt)
        by_pendings (_ ∷ ps) = tt

        cases : (o : Option (Ask K)) → (let ms : List (Message K) = elim o [ None ↦ [] | Some ask ↦ elim ask.pendings [ [] ↦ message.DeclareFinal k ∷ [] | pending ∷ pendings ↦ [] ] ] in Each Leaves ms)
        cases None = tt
        cases (Some ask) = by_pendings ask.pendings

    -- ---- the rule that ends interests

    still_held : (g : Rows K) (interest : InterestRow K) → list_any is_held_below g.faces ≡ true → asks_same cmp matching interest i ≡ true → is_held_south cmp matching g interest ≡ true
    unfolding is_held_south
    still_held g interest held same_ =
        any_weaker is_held_below (λ f. not (is_north f.region) && list_any (λ row. asks_same cmp matching interest row.1) f.held)
        (λ f here.
        let both = and_parts (not (is_north f.region)) (is_some_and (at_id id f.held) (asks_same cmp matching i)) (and_parts (q == f.number) _ here).1 in
        and_from (not (is_north f.region)) (list_any (λ row. asks_same cmp matching interest row.1) f.held) both.0
        (any_weaker (λ row. asks_same cmp matching i row.1) (λ row. asks_same cmp matching interest row.1) (λ row own. same_to_all cmp matching total equal_is_same interest i row.1 same_ ∙ own) f.held (any_at (asks_same cmp matching i) id f.held both.1)))
        g.faces held

    ends_others : (g : Rows K) (interest : InterestRow K) → is_held_south cmp matching g interest ≡ false → list_any is_held_below g.faces ≡ true → (rows : ById (InterestRow K)) → Each (λ row. (local == row.0) ≡ true → row.1 ≡ i) rows
        → Each Leaves (map (λ row. message.InterestFinal row.0) (filter (λ row. asks_same cmp matching interest row.1) rows))
    ends_others g interest unheld_ held [] only = tt
    ends_others g interest unheld_ held (row ∷ rows) only =
        by_test (asks_same cmp matching interest row.1)
        (λ here.
        rw here (
          by_test (local == row.0)
              (λ own. never (still_held g interest held (ap (asks_same cmp matching interest) (sym (only.0 own)) ∙ here)) unheld_)
              (λ apart. apart),
          ends_others g interest unheld_ held rows only.1,
        ))
        (λ here. rw here (ends_others g interest unheld_ held rows only.1))

    end_leaves : (interest : InterestRow K) → Fine (Say (λ g. to_each (end_upstream_to cmp matching g interest) g.faces))
    unfolding end_upstream_to
    end_leaves interest =
        by_each (λ g f. end_upstream_to cmp matching g interest f)
        (λ g f up sent.
        by_test (is_held_south cmp matching g interest)
        (λ held. of_cond (Each Leaves) (is_north f.region && not (is_held_south cmp matching g interest)) (map (λ row. message.InterestFinal row.0) (filter (λ row. asks_same cmp matching interest row.1) f.locals)) [] (λ here. never (and_parts (is_north f.region) (not (is_held_south cmp matching g interest)) here).1 (ap not held)) (λ _. tt))
        (λ free. of_cond (Each Leaves) (is_north f.region && not (is_held_south cmp matching g interest)) (map (λ row. message.InterestFinal row.0) (filter (λ row. asks_same cmp matching interest row.1) f.locals)) [] (λ here. ends_others g interest free up.held f.locals sent.only) (λ _. tt)))

    -- ---- what changes

    changed : (n : ℕ) (change : Face K → Face K) → ((f : Face K) → (change f).number ≡ f.number) → ((f : Face K) → SentUp f → SentUp (change f)) → ((f : Face K) → (n == f.number) ≡ true → is_held_below f ≡ true → is_held_below (change f) ≡ true) → Fine (Alter (with_face n change))
    unfolding with_face
    changed n change still sent held = λ g up. record { sent = own_changed p Leaves cmp SentUp n change still (λ f here own. sent f) g up.sent; held = any_changed p Leaves is_held_below n change held g up.held }

    beside : (change : Rows K → Rows K) → ((g : Rows K) → (change g).faces ≡ g.faces) → Fine (Alter change)
    beside change faces_ = λ g up. record { sent = subst (Own p Leaves cmp SentUp) (sym (faces_ g)) up.sent; held = ap (list_any is_held_below) (faces_ g) ∙ up.held }

    own_rows_faces : (rs : List Region) (x : K) (g : Rows K) → (with_own_rows cmp rs x g).faces ≡ g.faces
    unfolding with_own_rows with_routed
    own_rows_faces [] x g = refl
    own_rows_faces (r ∷ rs) x g = own_rows_faces rs x (with_routed cmp r g.zid x g)

    hides_rows : (source : Region) (x : K) → Fine (Alter (without_own_rows cmp source x))
    unfolding without_own_rows
    hides_rows source x = beside (without_own_rows cmp source x) (λ g. refl)

    rules : (n : ℕ) → AreFine cmp matching IsUp (To p Leaves) n
    rules n = record {
      hear = up_heard;
      tell = tell_leaves;
      answer = answer_leaves;
      end_upstream = end_leaves;
      show = show_leaves;
      hide = hide_leaves;
      finish = finish_leaves;
      untell = untell_leaves n;
      initial = λ k. changed n (initial_finalised k) (λ f. refl) (λ f sent. record { only = sent.only; next = sent.next }) (λ f here held. held);
      shown = λ source x. beside (λ g. with_own_rows cmp (filter (is_newly_shown cmp g source x) (router_regions g)) x g) (λ g. own_rows_faces (filter (is_newly_shown cmp g source x) (router_regions g)) x g);
      hidden = hides_rows;
    }

    -- another interest ends, or another is held
    ends_other : (n k : ℕ) → ((n == q) && (k == id)) ≡ false → Fine (Alter (with_face n (unheld k)))
    ends_other n k other =
        changed n (unheld k) (λ f. refl) (λ f sent. record { only = sent.only; next = sent.next })
        (λ f here held.
        let own : q ≡ f.number = eqb-true q f.number (and_parts (q == f.number) _ held).0 in
        let at_q : (n == q) ≡ true = ap (λ j. n == j) own ∙ here in
        let apart : (k == id) ≡ false = by_test (k == id) (λ is. never (and_from (n == q) (k == id) at_q is) other) (λ h. h) in
        ap (λ o. (q == f.number) && (not (is_north f.region) && is_some_and o (asks_same cmp matching i))) (at_without_other id k f.held apart) ∙ held)

    asks_other : (n k : ℕ) (pendings : List (ℕ × ℕ)) (interest : InterestRow K) → ((n == q) ≡ true → (id == k) ≡ true → is_future interest.mode ≡ false) → Fine (Alter (with_face n (asked_as pendings k interest)))
    asks_other n k pendings interest other =
        changed n (asked_as pendings k interest) (λ f. refl) (λ f sent. record { only = sent.only; next = sent.next })
        (λ f here held.
        let own : q ≡ f.number = eqb-true q f.number (and_parts (q == f.number) _ held).0 in
        let at_q : (n == q) ≡ true = ap (λ j. n == j) own ∙ here in
        ap (λ o. (q == f.number) && (not (is_north f.region) && is_some_and o (asks_same cmp matching i))) (still_at f (is_future interest.mode) (λ is. other at_q is)) ∙ held)
      where
        still_at : (f : Face K) (b : Bool) → ((id == k) ≡ true → b ≡ false) → at_id id (put_if b k interest f.held) ≡ at_id id f.held
        still_at f false h = refl
        still_at f true h = by_test (id == k) (λ is. never refl (h is)) (λ apart. at_put_other id k interest f.held apart)

    asking_leaves : (n k : ℕ) (interest : InterestRow K) (asker : Region) (g : Rows K) → ((n == q) ≡ true → (id == k) ≡ true → is_future interest.mode ≡ false) → Each Fine (asking cmp matching n k interest asker g)
    unfolding route_to
    asking_leaves n k interest asker g other = (
      beside (with_numbers cmp (numbered_by cmp interest)) (λ g. refl),
      (
        by_each (λ g f. route_to g asker interest f) (λ g f up sent. of_cond (Each Leaves) (is_target g asker interest.mode f) (message.Interest f.next interest.mode interest.options interest.expr ∷ []) [] (λ _. (apart_next f.next sent.next, tt)) (λ _. tt)),
        (
          by_one n (λ g f. entities_for cmp matching g k interest f) (λ g f up sent. each_entity cmp Leaves (λ number x i. tt) (λ number x info i. tt) matching g k interest f),
          (asks_other n k (sent_as g asker interest.mode) interest other, (by_one n (λ g f. answers_of cmp matching g k interest f) (λ g f up sent. answers_leave f.next f.told interest.mode k (answered_expressions cmp matching g interest f)), (by_one n (λ g f. final_of k f) (λ g f up sent. final_leaves k f), tt))),
        ),
      ),
    )
      where
        apart_next : (next : ℕ) → local < next → (local == next) ≡ false
        apart_next next less = by_test (local == next) (λ is. let bad : local ≡ next = eqb-true local next is in absurd (omega arith)) (λ h. h)

    greets_leave : (region : Region) (before : Trees) → Fine (Say (λ g. to_each (greet_to cmp g region before) g.faces))
    unfolding greet_to
    greets_leave region before =
        by_each (λ g f. greet_to cmp g region before f)
        (λ g f kind own.
        each_flat_map Leaves (λ r. if region_eq f.region region && (is_child g (table_of g region) r.1 f && not (is_child g before r.1 f)) then map (λ x. message.DeclareToken 0 x None r.0) (routed_expressions cmp g region r.1) else []) (routers_in_order cmp (table_of g region))
        (λ r. of_cond (Each Leaves) (region_eq f.region region && (is_child g (table_of g region) r.1 f && not (is_child g before r.1 f))) (map (λ x. message.DeclareToken 0 x None r.0) (routed_expressions cmp g region r.1)) [] (λ _. alike (λ x. message.DeclareToken 0 x None r.0) (routed_expressions cmp g region r.1) (λ x. tt)) (λ _. tt)))

    -- ---- calls

    -- the call doesn't end the interest that is held, and it is one that a face speaks
    abbrev pub Spares : PlainCall K → Type 0
    Spares (InterestFinal n k) = ((n == q) && (k == id)) ≡ false
    Spares (Interest n k mode options x) = (n == q) ≡ true → (id == k) ≡ true → is_future mode ≡ false
    Spares (CloseFace n) = (n == q) ≡ false
    Spares (NewSession first) = ⊥
    Spares (NewTransport zid whatami region bound first) = ⊥
    Spares (Expire now) = ⊥
    Spares _ = Unit {0}

    same_sent : (n : ℕ) (change : Face K → Face K) → ((f : Face K) → (change f).number ≡ f.number) → ((f : Face K) → (change f).locals ≡ f.locals) → ((f : Face K) → (change f).next ≡ f.next) → ((f : Face K) → is_held_below (change f) ≡ is_held_below f) → Fine (Alter (with_face n change))
    same_sent n change still locals_ next_ held_ =
        changed n change still (λ f sent. record { only = subst (λ (rows : ById (InterestRow K)). Each (λ row. (local == row.0) ≡ true → row.1 ≡ i) rows) (sym (locals_ f)) sent.only; next = subst (λ n. local < n) (sym (next_ f)) sent.next })
        (λ f here held. held_ f ∙ held)

    closes_face : (n : ℕ) → (n == q) ≡ false → Fine (Alter (without_face n))
    closes_face n apart = λ g up. record {
      sent = each_filter (λ f. (p == f.number) ≡ true → SentUp f) (λ f. not (n == f.number)) g.faces up.sent;
      held = any_left is_held_below n g.faces (λ f held. by_test (n == f.number) (λ here. never (eq-eqb n q (eqb-true n f.number here ∙ sym (eqb-true q f.number (and_parts (q == f.number) _ held).0))) apart) (λ h. h)) up.held;
    }

    sets_entities : (n : ℕ) (subscribers : List K) (queryables : List (K × QueryableInfo)) → Fine (Alter (with_entities cmp n subscribers queryables))
    sets_entities n subscribers queryables = λ g up.
        same_sent n (λ f. record f { subscribers = subscribers; queryables = queryables }) (λ f. refl) (λ f. refl) (λ f. refl) (λ f. refl)
        (with_numbers cmp (entity_expressions cmp subscribers queryables) g) (record { sent = up.sent; held = up.held })

    pub leaves_interest : (c : PlainCall K) (g : Rows K) → TreeRows cmp g → IsUp g → Spares c → Each (To p Leaves) (said cmp matching c g) × IsUp (rows_after_call cmp matching c g)
    leaves_interest (DeclareToken n k x node interest) g rows up spares = declare_fine cmp matching IsUp (To p Leaves) n (rules n) k node x interest g rows (same_sent n (registered k x) (λ f. refl) (λ f. refl) (λ f. refl) (λ f. refl)) up
    leaves_interest (UndeclareToken n k given node) g rows up spares =
        undeclare_fine cmp matching IsUp (To p Leaves) n (rules n) k node given g rows forget_leaves up (same_sent n (unregistered k) (λ f. refl) (λ f. refl) (λ f. refl) (λ f. refl) g up)
    leaves_interest (Interest n k mode options x) g rows up spares = interest_fine cmp matching IsUp (To p Leaves) n (rules n) k mode options x g (λ f found. asking_leaves n k (row_of cmp matching f mode options x) f.region g spares) up
    leaves_interest (InterestFinal n k) g rows up spares = final_fine cmp matching IsUp (To p Leaves) n (rules n) k g (ends_other n k spares) (both_leaves n k) up
    leaves_interest (DeclareFinal n k) g rows up spares = finish_fine cmp matching IsUp (To p Leaves) n (rules n) k g (same_sent n (ended k) (λ f. refl) (λ f. refl) (λ f. refl) (λ f. refl)) up
    leaves_interest (CloseFace n) g rows up spares =
        close_fine cmp matching IsUp (To p Leaves) n (rules n) g forget_leaves (λ k. same_sent n (unregistered k) (λ f. refl) (λ f. refl) (λ f. refl) (λ f. refl)) (λ k. ends_other n k (rw spares refl)) (both_leaves n) (same_sent n without_asks (λ f. refl) (λ f. refl) (λ f. refl) (λ f. refl)) (λ k. same_sent n (ended k) (λ f. refl) (λ f. refl) (λ f. refl) (λ f. refl)) (closes_face n spares) up
    leaves_interest (SetEntities n subscribers queryables) g rows up spares = entities_fine cmp matching IsUp (To p Leaves) n (rules n) subscribers queryables g (sets_entities n subscribers queryables) up
    leaves_interest (NewSession first) g rows up spares = absurd spares
    leaves_interest (NewTransport zid whatami region bound first) g rows up spares = absurd spares
    leaves_interest (Expire now) g rows up spares = absurd spares
    leaves_interest (SetTrees region t) g rows up spares = trees_fine cmp matching IsUp (To p Leaves) 0 (rules 0) region t g forget_leaves (beside (without_left_out cmp region (counted_table t)) (λ g. refl)) (beside (with_table cmp region t) (λ g. refl)) (greets_leave region) up
