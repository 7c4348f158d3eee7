-- An ask isn't finished by a call, where the pending that it was sent as goes on standing; and none that doesn't stand is.
use Rattle.std.proofs.Common.{◌≡◌, ℕ, ◌+◌, Bool, true, false, if◌then◌else◌, ◌&&◌, ◌||◌, ◌==◌, not, List, [], ◌∷◌, ◌++◌, map, filter, Option, Some, None, refl, sym, ap, ◌∙◌, subst, eqb-true, eq-eqb}
use Rattle.std.proofs.lemmas.Bool.{and_from, and_parts, or_left, or_right}
use Rattle.std.specs.List.{flat_map, list_any}
use Rattle.std.specs.declared.cmp.Ordering.{Ordering}
use Rattle.std.specs.declared.cmp.Ordering.TheVariants.{Less, Equal, Greater}
use Rattle.std.specs.FinMap.Entries.{by_order, put}
use Rattle.std.specs.Ordering.{nat_cmp}
use Rattle.zt_region.specs.declared.region.Region.{Region}
use Rattle.zt_region.specs.Region.{is_north, region_eq}
use Rattle.zt_protocol.specs.Interest.{is_current, is_future}
use Rattle.zt_protocol.specs.Plain.{PlainCall, NewSession, NewTransport, DeclareToken, UndeclareToken, Interest, InterestFinal, DeclareFinal, CloseFace, Expire, SetTrees, SetEntities, Trees}
use Rattle.zt_protocol.specs.declared.interests.InterestMode.{InterestMode}
use Rattle.zt_protocol.specs.declared.messages.Message.{Message}
use Rattle.zt_protocol.specs.declared.messages.QueryableInfo.{QueryableInfo}
use Rattle.zt_protocol.specs.declared.messages.Message.TheVariants as message
use Rattle.zt_model.specs.Closing.{without_asks, without_face}
use Rattle.zt_model.specs.Entities.{entities_for, entity_expressions, numbered_by, with_entities, with_numbers}
use Rattle.zt_model.specs.Hat.{hat_of_face}
use Rattle.zt_model.specs.Hearing.{heard, heard_all, messages_for, put_if, rows_heard, with_answer}
use Rattle.zt_model.specs.Lists.{at_id, first_where, has_id, in_key_order, is_among, is_some_and, without_id}
use Rattle.zt_model.specs.Parts.{Alter, Part, Say, Sends, to_each, to_face, told_id, with_face}
use Rattle.zt_model.specs.Routing.{asked_as, asks_same, end_upstream_to, ended, final_of, final_of_both, finish_to, initial_finalised, is_finished_by, is_held_south, is_target, route_to, sent_as, stands, unheld, untell_to}
use Rattle.zt_model.specs.Rows.{Ask, ById, Face, InterestRow, Rows}
use Rattle.zt_model.specs.Says.{answered_expressions, asking, forget_to, forget_untold, is_routed, is_told, row_of, said, tell_to}
use Rattle.zt_model.specs.Telling.{answer_to, answers_from, answers_of, is_answered_by, registered, unregistered, was_sent_as}
use Rattle.zt_model.specs.Transcript.{Each}
use Rattle.zt_model.specs.Trees.{counted_table, greet_to, hide_to, is_child, is_hidden, is_newly_shown, node_of, pass_to, routed_expressions, router_regions, routers_in_order, show_to, table_of, unpass_to, with_own_rows, with_routed, with_table, without_left_out, without_own_rows}
use Rattle.zt_model.specs.Visible.{is_visible, shows}
use Rattle.zt_model.specs.Wants.{wants}
use Rattle.zt_laws.specs.Sound.{rows_after_call}
use Rattle.zt_laws.proofs.Hearing.{heard_all-number}
use Rattle.zt_laws.proofs.Lists.{any-filter, any_weaker, by_test, each_always, each_filter, each_map, each_weaker, never, of_cond}
use Rattle.zt_laws.proofs.PartsOrder.{each_flat_map}
use Rattle.zt_theorem_soundness.proofs.ById.{at_each}
use Rattle.zt_theorem_soundness.proofs.CallsRun.{each_entity}
use Rattle.zt_theorem_soundness.proofs.Going.{each_put_if}
use Rattle.zt_theorem_tree_invariant.proofs.Saying.{TreeRows}
use Rattle.zt_theorem_tree_all_that_stays.specs.Steady.{IsNoFinal}
use Rattle.zt_theorem_tree_all_that_stays.proofs.Parts.{AreFine, Forgets, IsFine, Own, To, close_fine, declare_fine, entities_fine, final_fine, finish_fine, interest_fine, own_changed, own_each, own_heard, one_to, own_one, trees_fine, undeclare_fine}

-- a row stays under its id, whatever is put
has_put : {A : Type 0} (k id : ℕ) (v : A) (rows : ById A) → has_id k rows ≡ true → has_id k (put nat_cmp id v rows) ≡ true
has_put k id v [] some = cc
has_put k id v (row ∷ rows) some =
    elim (nat_cmp id row.0) as (λ o. has_id k (by_order o ((id, v) ∷ row ∷ rows) ((row.0, v) ∷ rows) (row ∷ put nat_cmp id v rows)) ≡ true) [
      | Less ↦ or_right (k == id) (has_id k (row ∷ rows)) some
      | Equal ↦ some
      | Greater ↦ by_test (k == row.0) (λ here. or_left (k == row.0) (has_id k (put nat_cmp id v rows)) here) (λ here. or_right (k == row.0) (has_id k (put nat_cmp id v rows)) (has_put k id v rows (rw here at some)))
    ]

has_put_if : {A : Type 0} (b : Bool) (k id : ℕ) (v : A) (rows : ById A) → has_id k rows ≡ true → has_id k (put_if b id v rows) ≡ true
has_put_if true k id v rows some = has_put k id v rows some
has_put_if false k id v rows some = some

has_without : {A : Type 0} (k id : ℕ) (rows : ById A) → (id == k) ≡ false → has_id k rows ≡ true → has_id k (without_id id rows) ≡ true
has_without k id rows apart some =
    any-filter (λ (row : ℕ × _). k == row.0) (λ row. not (id == row.0)) rows
    ∙ any_weaker (λ (row : ℕ × _). k == row.0) (λ row. not (id == row.0) && (k == row.0))
    (λ row here.
    let miss : (id == row.0) ≡ false = by_test (id == row.0) (λ is. never (eq-eqb id k (eqb-true id row.0 is ∙ sym (eqb-true k row.0 here))) apart) (λ h. h) in
    and_from (not (id == row.0)) (k == row.0) (ap not miss) here) rows some

module _ {K : Type 0} (cmp : K → K → Ordering) (matching : K → K → Bool) (id : ℕ) (north pending : ℕ) (later standing : Bool) where
  -- the ask was sent as the one pending, and asks for what comes later or doesn't
  pub record IsServed (ask : Ask K) : Type 0 where
    pub stands : standing ≡ true
    pub pendings : ask.pendings ≡ (north, pending) ∷ []
    pub mode : is_future ask.interest.mode ≡ later

  -- each ask under the id is served
  abbrev pub AsksServed : Face K → Type 0
  AsksServed f = Each (λ row. (id == row.0) ≡ true → IsServed row.1) f.asks

  abbrev Leaves : Message K → Type 0
  Leaves m = IsNoFinal id m

  answered_served : (k : ℕ) (x : K) (rows : ById (Ask K)) → Each (λ row. (id == row.0) ≡ true → IsServed row.1) rows → Each (λ row. (id == row.0) ≡ true → IsServed row.1) (map (with_answer cmp k x) rows)
  answered_served k x rows all =
      each_map (λ (row : ℕ × Ask K). (id == row.0) ≡ true → IsServed row.1) (with_answer cmp k x) rows
      (each_weaker (λ (row : ℕ × Ask K). (id == row.0) ≡ true → IsServed row.1) (λ row. (id == (with_answer cmp k x row).0) ≡ true → IsServed (with_answer cmp k x row).1)
      (λ row own.
      of_cond (λ (r : ℕ × Ask K). (id == r.0) ≡ true → IsServed r.1) ((k == row.0) && not (is_among cmp x row.1.answered)) (row.0, record row.1 { answered = row.1.answered ++ x ∷ [] }) row
      (λ _ is. let served = own is in record { stands = served.stands; pendings = served.pendings; mode = served.mode }) (λ _. own)) rows all)

  served_heard : (now : ℕ) (m : Message K) (f : Face K) → AsksServed f → Leaves m → AsksServed (heard cmp now m f)
  served_heard now (message.DeclareToken k x None node) f served leaves = served
  served_heard now (message.DeclareToken k x (Some i) node) f served leaves = answered_served i x f.asks served
  served_heard now (message.UndeclareToken k x node) f served leaves = served
  served_heard now (message.DeclareFinal interest) f served leaves = each_filter (λ (row : ℕ × Ask K). (id == row.0) ≡ true → IsServed row.1) (λ row. not (interest == row.0)) f.asks served
  served_heard now (message.Interest k mode options x) f served leaves = served
  served_heard now (message.InterestFinal k) f served leaves = served
  served_heard now (message.DeclareSubscriber number x interest) f served leaves = served
  served_heard now (message.DeclareQueryable number x info interest) f served leaves = served

  module _ (p : ℕ) where
    -- asks of the face under the id are served by a pending that stands
    pub record Serves (g : Rows K) : Type 0 where
      pub asks : Own p Leaves cmp AsksServed g.faces
      pub stands : standing ≡ true → stands g (north, pending) ≡ true

    abbrev Fine : Part K → Type 0
    Fine = IsFine cmp matching Serves (To p Leaves)

    -- ---- a pending stands

    still_stands : (change : Face K → Face K) → ((f : Face K) → (change f).number ≡ f.number) → ((f : Face K) → (north == f.number) ≡ true → has_id pending f.pendings ≡ true → has_id pending (change f).pendings ≡ true) → (fs : List (Face K))
        → is_some_and (first_where (λ f. north == f.number) fs) (λ f. has_id pending f.pendings) ≡ true → is_some_and (first_where (λ f. north == f.number) (map change fs)) (λ f. has_id pending f.pendings) ≡ true
    still_stands change still keeps_ [] some = some
    still_stands change still keeps_ (f ∷ fs) some =
        by_test (north == f.number)
        (λ here. let there : (north == (change f).number) ≡ true = ap (λ n. north == n) (still f) ∙ here in rw there (keeps_ f here (rw here at some)))
        (λ here. let there : (north == (change f).number) ≡ false = ap (λ n. north == n) (still f) ∙ here in rw there (still_stands change still keeps_ fs (rw here at some)))

    stands_heard : (now : ℕ) (m : Message K) (f : Face K) → has_id pending f.pendings ≡ true → has_id pending (heard cmp now m f).pendings ≡ true
    stands_heard now (message.DeclareToken k x i node) f some = some
    stands_heard now (message.UndeclareToken k x node) f some = some
    stands_heard now (message.DeclareFinal interest) f some = some
    stands_heard now (message.Interest k mode options x) f some = has_put_if (is_current mode) pending k (record { mode = mode; since = now }) f.pendings some
    stands_heard now (message.InterestFinal k) f some = some
    stands_heard now (message.DeclareSubscriber number x interest) f some = some
    stands_heard now (message.DeclareQueryable number x info interest) f some = some

    stands_heard_all : (now : ℕ) (ms : List (Message K)) (f : Face K) → has_id pending f.pendings ≡ true → has_id pending (heard_all cmp now ms f).pendings ≡ true
    unfolding heard_all
    stands_heard_all now [] f some = some
    stands_heard_all now (m ∷ ms) f some = stands_heard_all now ms (heard cmp now m f) (stands_heard now m f some)

    serves_heard : (ss : Sends K) (g : Rows K) → Serves g → Each (To p Leaves) ss → Serves (rows_heard cmp ss g)
    unfolding rows_heard
    serves_heard ss g serves said_ = record {
      asks = own_heard p Leaves cmp AsksServed served_heard ss g said_ serves.asks;
      stands = λ b. still_stands (λ f. heard_all cmp g.moment (messages_for f.number ss) f) (λ f. heard_all-number cmp g.moment (messages_for f.number ss) f) (λ f here some. stands_heard_all g.moment (messages_for f.number ss) f some) g.faces (serves.stands b);
    }

    by_each : (rule : Rows K → Face K → List (Message K)) → ((g : Rows K) (f : Face K) → Serves g → AsksServed f → Each Leaves (rule g f)) → Fine (Say (λ g. to_each (rule g) g.faces))
    by_each rule says = λ g serves. own_each p Leaves cmp AsksServed (rule g) g.faces (λ f served. says g f serves served) serves.asks

    by_one : (n : ℕ) (rule : Rows K → Face K → List (Message K)) → ((g : Rows K) (f : Face K) → Serves g → AsksServed f → Each Leaves (rule g f)) → Fine (Say (λ g. to_face n (rule g) g))
    by_one n rule says = λ g serves. own_one p Leaves cmp AsksServed n (rule g) g (λ f served. says g f serves served) serves.asks

    alike : {A : Type 0} (say : A → Message K) (xs : List A) → ((x : A) → Leaves (say x)) → Each Leaves (map say xs)
    alike say xs h = each_map Leaves say xs (each_always (λ x. Leaves (say x)) h xs)

    -- ---- rules that finish nothing

    tell_leaves : (source : Region) (x : K) → Fine (Say (λ g. to_each (tell_to cmp matching g source x) g.faces))
    unfolding tell_to
    tell_leaves source x = by_each (λ g f. tell_to cmp matching g source x f) (λ g f served asks. of_cond (Each Leaves) (is_told cmp matching g source x f) (message.DeclareToken f.next x None 0 ∷ []) [] (λ _. (tt, tt)) (λ _. tt))

    answers_leave : (next : ℕ) (told : ById K) (mode : InterestMode) (k : ℕ) (es : List K) → Each Leaves (answers_from cmp matching next told mode k es)
    unfolding answers_from
    answers_leave next told mode k [] = tt
    answers_leave next told mode k (x ∷ es) =
        of_cond (Each Leaves) (is_future mode) (elim (told_id cmp x told) [ None ↦ message.DeclareToken next x (Some k) 0 ∷ answers_from cmp matching (next + 1) told mode k es | Some old ↦ message.DeclareToken old x (Some k) 0 ∷ answers_from cmp matching next told mode k es ])
        (message.DeclareToken 0 x (Some k) 0 ∷ answers_from cmp matching next told mode k es)
        (λ _. cases (answers_leave (next + 1) told mode k es) (answers_leave next told mode k es) (told_id cmp x told)) (λ _. (tt, answers_leave next told mode k es))
      where
        cases : Each Leaves (answers_from cmp matching (next + 1) told mode k es) → Each Leaves (answers_from cmp matching next told mode k es) → (o : Option ℕ)
            → Each Leaves (elim o [ None ↦ message.DeclareToken next x (Some k) 0 ∷ answers_from cmp matching (next + 1) told mode k es | Some old ↦ message.DeclareToken old x (Some k) 0 ∷ answers_from cmp matching next told mode k es ])
        cases more rest None = (tt, more)
        cases more rest (Some old) = (tt, rest)

    answer_leaves : (k n : ℕ) (x : K) → Fine (Say (λ g. to_each (answer_to cmp matching k n x) g.faces))
    unfolding answer_to
    answer_leaves k n x =
        by_each (λ g f. answer_to cmp matching k n x f)
        (λ g f served asks.
        each_flat_map Leaves (λ row. if is_answered_by cmp matching k n x row.1 then answers_from cmp matching f.next f.told row.1.interest.mode row.0 (x ∷ []) else []) f.asks
        (λ row. of_cond (Each Leaves) (is_answered_by cmp matching k n x row.1) (answers_from cmp matching f.next f.told row.1.interest.mode row.0 (x ∷ [])) [] (λ _. answers_leave f.next f.told row.1.interest.mode row.0 (x ∷ [])) (λ _. tt)))

    show_leaves : (source : Region) (x : K) → Fine (Say (λ g. to_each (show_to cmp g source x) g.faces))
    unfolding show_to pass_to
    show_leaves source x =
        by_each (λ g f. show_to cmp g source x f)
        (λ g f served asks.
        of_cond (Each Leaves) (is_newly_shown cmp g source x f.region) (if region_eq f.region f.region && is_child g (table_of g f.region) g.zid f then message.DeclareToken 0 x None (node_of g.zid (table_of g f.region)) ∷ [] else []) []
        (λ _. of_cond (Each Leaves) (region_eq f.region f.region && is_child g (table_of g f.region) g.zid f) (message.DeclareToken 0 x None (node_of g.zid (table_of g f.region)) ∷ []) [] (λ _. (tt, tt)) (λ _. tt)) (λ _. tt))

    hide_leaves : (source : Region) (x : K) → Fine (Say (λ g. to_each (hide_to cmp g source x) g.faces))
    unfolding hide_to unpass_to
    hide_leaves source x =
        by_each (λ g f. hide_to cmp g source x f)
        (λ g f served asks.
        of_cond (Each Leaves) (is_hidden cmp g source x f.region) (if region_eq f.region f.region && is_child g (table_of g f.region) g.zid f then message.UndeclareToken 0 (Some x) (node_of g.zid (table_of g f.region)) ∷ [] else []) []
        (λ _. of_cond (Each Leaves) (region_eq f.region f.region && is_child g (table_of g f.region) g.zid f) (message.UndeclareToken 0 (Some x) (node_of g.zid (table_of g f.region)) ∷ []) [] (λ _. (tt, tt)) (λ _. tt)) (λ _. tt))

    untells : (o : Option ℕ) → (let ms : List (Message K) = elim o [ None ↦ [] | Some k ↦ message.UndeclareToken k None 0 ∷ [] ] in Each Leaves ms)
    untells None = tt
    untells (Some k) = (tt, tt)

    untell_leaves : (n : ℕ) → Fine (Say (λ g. to_face n (untell_to cmp matching g) g))
    unfolding untell_to
    untell_leaves n =
        by_one n (untell_to cmp matching)
        (λ g f served asks.
        let gone = filter (λ x. not (wants matching f x)) (in_key_order cmp (map (λ row. row.1) f.told)) in
        of_cond (Each Leaves) ((hat_of_face g f).is_told_unasked f.region) [] (flat_map (λ x. elim (told_id cmp x f.told) [ None ↦ [] | Some k ↦ message.UndeclareToken k None 0 ∷ [] ]) gone) (λ _. tt)
        (λ _. each_flat_map Leaves (λ x. elim (told_id cmp x f.told) [ None ↦ [] | Some k ↦ message.UndeclareToken k None 0 ∷ [] ]) gone (λ x. untells (told_id cmp x f.told))))

    forget_leaves : Forgets cmp matching Serves (To p Leaves)
    unfolding forget_to
    forget_leaves source x =
        by_each (λ g f. forget_to cmp matching g source x f)
        (λ g f served asks. of_cond (Each Leaves) (is_routed g f || is_visible cmp g f.region x) [] (elim (told_id cmp x f.told) [ None ↦ forget_untold cmp matching g source x f | Some k ↦ message.UndeclareToken k None 0 ∷ [] ]) (λ _. tt) (λ _. cases g f (told_id cmp x f.told)))
      where
        cases : (g : Rows K) (f : Face K) (o : Option ℕ) → Each Leaves (elim o [ None ↦ forget_untold cmp matching g source x f | Some k ↦ message.UndeclareToken k None 0 ∷ [] ])
        cases g f None = of_cond (Each Leaves) (wants matching f x && (hat_of_face g f).undeclares_untold && shows g.mode f.region source) (message.UndeclareToken 0 (Some x) 0 ∷ []) [] (λ _. (tt, tt)) (λ _. tt)
        cases g f (Some k) = (tt, tt)

    end_leaves : (interest : InterestRow K) → Fine (Say (λ g. to_each (end_upstream_to cmp matching g interest) g.faces))
    unfolding end_upstream_to
    end_leaves interest =
        by_each (λ g f. end_upstream_to cmp matching g interest f)
        (λ g f served asks.
        of_cond (Each Leaves) (is_north f.region && not (is_held_south cmp matching g interest)) (map (λ row. message.InterestFinal row.0) (filter (λ row. asks_same cmp matching interest row.1) f.locals)) []
        (λ _. alike (λ row. message.InterestFinal row.0) (filter (λ row. asks_same cmp matching interest row.1) f.locals) (λ row. tt)) (λ _. tt))

    -- ---- rules that finish asks

    not_finished : (g : Rows K) (k i : ℕ) → (standing ≡ true → stands g (north, pending) ≡ true) → (rows : ById (Ask K)) → Each (λ row. (id == row.0) ≡ true → IsServed row.1) rows
        → Each Leaves (map (λ row. message.DeclareFinal row.0) (filter (λ row. is_finished_by g k i row.1) rows))
    not_finished g k i stands_ [] all = tt
    not_finished g k i stands_ (row ∷ rows) all =
        by_test (is_finished_by g k i row.1)
        (λ here.
        rw here (
          by_test (id == row.0)
              (λ own.
              let served = all.0 own in
              let some : list_any (stands g) row.1.pendings ≡ true = ap (list_any (stands g)) served.pendings ∙ or_left (stands g (north, pending)) false (stands_ served.stands) in
              never (and_parts (was_sent_as k i row.1) (not (list_any (stands g) row.1.pendings)) here).1 (ap not some))
              (λ apart. apart),
          not_finished g k i stands_ rows all.1,
        ))
        (λ here. rw here (not_finished g k i stands_ rows all.1))

    finish_leaves : (k i : ℕ) → Fine (Say (λ g. to_each (finish_to g k i) g.faces))
    unfolding finish_to
    finish_leaves k i = by_each (λ g f. finish_to g k i f) (λ g f serves served. not_finished g k i serves.stands f.asks served)

    final_leaves : (k : ℕ) (f : Face K) → AsksServed f → Each Leaves (final_of k f)
    final_leaves k f served = by_test (id == k) (λ own. cases own (at_id k f.asks) refl) (λ apart. others apart (at_id k f.asks))
      where
        filled : {A : Type 0} {x : A} {xs : List A} → x ∷ xs ≡ [] → ⊥
        filled bad = cc

        no_pendings : (ask : Ask K) → IsServed ask → (ps : List (ℕ × ℕ)) → ask.pendings ≡ ps → (let ms : List (Message K) = elim ps [ [] ↦ message.DeclareFinal k ∷ [] | q ∷ qs ↦ [] ] in Each Leaves ms)
        no_pendings ask own [] is = absurd (filled (sym own.pendings ∙ is))
        no_pendings ask own (q ∷ qs) is = tt

        cases : (id == k) ≡ true → (o : Option (Ask K)) → at_id k f.asks ≡ o → (let ms : List (Message K) = elim o [ None ↦ [] | Some ask ↦ elim ask.pendings [ [] ↦ message.DeclareFinal k ∷ [] | q ∷ qs ↦ [] ] ] in Each Leaves ms)
        cases own None is = tt
        cases own (Some ask) is = no_pendings ask (at_each IsServed id f.asks ask served (ap (λ n. at_id n f.asks) (eqb-true id k own) ∙ is)) ask.pendings refl

        by_pendings : (id == k) ≡ false → (ps : List (ℕ × ℕ)) → (let ms : List (Message K) = elim ps [ [] ↦ message.DeclareFinal k ∷ [] | q ∷ qs ↦ [] ] in Each Leaves ms)
        by_pendings apart [] = (apart, tt)
        by_pendings apart (_ ∷ ps) = tt

        others : (id == k) ≡ false → (o : Option (Ask K)) → (let ms : List (Message K) = elim o [ None ↦ [] | Some ask ↦ elim ask.pendings [ [] ↦ message.DeclareFinal k ∷ [] | q ∷ qs ↦ [] ] ] in Each Leaves ms)
        others apart None = tt
        others apart (Some ask) = by_pendings apart ask.pendings

    both_leaves : (n k : ℕ) (interest : InterestRow K) → ((n == p) ≡ true → (id == k) ≡ true → later ≡ false) → Fine (Say (to_face n (final_of_both k interest)))
    both_leaves n k interest apart = λ g serves.
        one_to p Leaves n (final_of_both k interest) g
        (each_weaker (λ f. (p == f.number) ≡ true → AsksServed f) (λ f. (n == f.number) ≡ true → (p == n) ≡ true → Each Leaves (final_of_both k interest f))
        (λ f own here is.
        let served = own (ap (λ j. j == f.number) (eqb-true p n is) ∙ here) in
        of_cond (Each Leaves) (is_current interest.mode && is_some_and (at_id k f.asks) (λ ask. is_future ask.interest.mode)) (message.DeclareFinal k ∷ []) []
        (λ both. (by_test (id == k) (λ same_. kept f served (apart (eq-eqb n p (sym (eqb-true p n is))) same_) same_ (at_id k f.asks) refl (and_parts (is_current interest.mode) _ both).1) (λ other. other), tt)) (λ _. tt)) g.faces serves.asks)
      where
        kept : {A : Type 0} (f : Face K) → AsksServed f → later ≡ false → (id == k) ≡ true → (o : Option (Ask K)) → at_id k f.asks ≡ o → is_some_and o (λ ask. is_future ask.interest.mode) ≡ true → A
        kept f served later_ same_ None at_ some = cc
        kept f served later_ same_ (Some ask) at_ some = never some ((at_each IsServed id f.asks ask served (ap (λ n. at_id n f.asks) (eqb-true id k same_) ∙ at_)).mode ∙ later_)

    -- ---- what changes

    changed : (n : ℕ) (change : Face K → Face K) → ((f : Face K) → (change f).number ≡ f.number) → ((f : Face K) → (n == f.number) ≡ true → (p == f.number) ≡ true → AsksServed f → AsksServed (change f)) → ((f : Face K) → (n == f.number) ≡ true → (north == f.number) ≡ true → has_id pending f.pendings ≡ true → has_id pending (change f).pendings ≡ true)
        → Fine (Alter (with_face n change))
    unfolding with_face
    changed n change still asks_ stands_ = λ g serves. record {
      asks = own_changed p Leaves cmp AsksServed n change still asks_ g serves.asks;
      stands = λ b.
          still_stands (λ f. if n == f.number then change f else f) (λ f. of_cond (λ (h : Face K). h.number ≡ f.number) (n == f.number) (change f) f (λ _. still f) (λ _. refl))
          (λ f here some. of_cond (λ (h : Face K). has_id pending h.pendings ≡ true) (n == f.number) (change f) f (λ own. stands_ f own here some) (λ _. some)) g.faces (serves.stands b);
    }

    beside : (change : Rows K → Rows K) → ((g : Rows K) → (change g).faces ≡ g.faces) → Fine (Alter change)
    beside change faces_ = λ g serves. record {
      asks = subst (Own p Leaves cmp AsksServed) (sym (faces_ g)) serves.asks;
      stands = λ b. ap (λ (fs : List (Face K)). is_some_and (first_where (λ f. north == f.number) fs) (λ f. has_id pending f.pendings)) (faces_ g) ∙ serves.stands b;
    }

    same_asks : (n : ℕ) (change : Face K → Face K) → ((f : Face K) → (change f).number ≡ f.number) → ((f : Face K) → (change f).asks ≡ f.asks) → ((f : Face K) → (change f).pendings ≡ f.pendings) → Fine (Alter (with_face n change))
    same_asks n change still asks_ pendings_ =
        changed n change still (λ f here own served. subst (λ (rows : ById (Ask K)). Each (λ row. (id == row.0) ≡ true → IsServed row.1) rows) (sym (asks_ f)) served) (λ f here own some. ap (has_id pending) (pendings_ f) ∙ some)

    own_rows_faces : (rs : List Region) (x : K) (g : Rows K) → (with_own_rows cmp rs x g).faces ≡ g.faces
    unfolding with_own_rows with_routed
    own_rows_faces [] x g = refl
    own_rows_faces (r ∷ rs) x g = own_rows_faces rs x (with_routed cmp r g.zid x g)

    hides_rows : (source : Region) (x : K) → Fine (Alter (without_own_rows cmp source x))
    unfolding without_own_rows
    hides_rows source x = beside (without_own_rows cmp source x) (λ g. refl)

    rules : (n : ℕ) → AreFine cmp matching Serves (To p Leaves) n
    rules n = record {
      hear = serves_heard;
      tell = tell_leaves;
      answer = answer_leaves;
      end_upstream = end_leaves;
      show = show_leaves;
      hide = hide_leaves;
      finish = finish_leaves;
      untell = untell_leaves n;
      initial = λ k. same_asks n (initial_finalised k) (λ f. refl) (λ f. refl) (λ f. refl);
      shown = λ source x. beside (λ g. with_own_rows cmp (filter (is_newly_shown cmp g source x) (router_regions g)) x g) (λ g. own_rows_faces (filter (is_newly_shown cmp g source x) (router_regions g)) x g);
      hidden = hides_rows;
    }

    ends_other : (n k : ℕ) → ((n == north) && (k == pending)) ≡ false → Fine (Alter (with_face n (ended k)))
    ends_other n k other =
        changed n (ended k) (λ f. refl) (λ f here own served. served)
        (λ f here own some.
        let at_north : (n == north) ≡ true = ap (λ j. n == j) (eqb-true north f.number own) ∙ here in
        let apart : (k == pending) ≡ false = by_test (k == pending) (λ is. never (and_from (n == north) (k == pending) at_north is) other) (λ h. h) in
        has_without pending k f.pendings apart some)

    asks_other : (n k : ℕ) (pendings : List (ℕ × ℕ)) (interest : InterestRow K) → ((n == p) ≡ true → (id == k) ≡ true → is_current interest.mode ≡ false) → Fine (Alter (with_face n (asked_as pendings k interest)))
    asks_other n k pendings interest other =
        changed n (asked_as pendings k interest) (λ f. refl)
        (λ f here own served.
        each_put_if (λ (row : ℕ × Ask K). (id == row.0) ≡ true → IsServed row.1) (is_current interest.mode) k (record { interest = interest; pendings = pendings; answered = [] }) f.asks
        (λ current same_. never current (other (ap (λ j. n == j) (eqb-true p f.number own) ∙ here) same_)) served)
        (λ f here own some. some)

    drops_asks : (n : ℕ) → Fine (Alter (with_face n without_asks))
    drops_asks n = changed n without_asks (λ f. refl) (λ f here own served. tt) (λ f here own some. some)

    asking_leaves : (n k : ℕ) (interest : InterestRow K) (asker : Region) (g : Rows K) → ((n == p) ≡ true → (id == k) ≡ true → is_current interest.mode ≡ false) → Each Fine (asking cmp matching n k interest asker g)
    unfolding route_to
    asking_leaves n k interest asker g other = (
      beside (with_numbers cmp (numbered_by cmp interest)) (λ g. refl),
      (
        by_each (λ g f. route_to g asker interest f) (λ g f serves served. of_cond (Each Leaves) (is_target g asker interest.mode f) (message.Interest f.next interest.mode interest.options interest.expr ∷ []) [] (λ _. (tt, tt)) (λ _. tt)),
        (
          by_one n (λ g f. entities_for cmp matching g k interest f) (λ g f serves served. each_entity cmp Leaves (λ number x i. tt) (λ number x info i. tt) matching g k interest f),
          (asks_other n k (sent_as g asker interest.mode) interest other, (by_one n (λ g f. answers_of cmp matching g k interest f) (λ g f serves served. answers_leave f.next f.told interest.mode k (answered_expressions cmp matching g interest f)), (by_one n (λ g f. final_of k f) (λ g f serves served. final_leaves k f served), tt))),
        ),
      ),
    )

    closes_face : (n : ℕ) → (n == north) ≡ false → Fine (Alter (without_face n))
    closes_face n apart = λ g serves. record { asks = each_filter (λ f. (p == f.number) ≡ true → AsksServed f) (λ f. not (n == f.number)) g.faces serves.asks; stands = λ b. left g.faces (serves.stands b) }
      where
        left : (fs : List (Face K)) → is_some_and (first_where (λ f. north == f.number) fs) (λ f. has_id pending f.pendings) ≡ true → is_some_and (first_where (λ f. north == f.number) (filter (λ f. not (n == f.number)) fs)) (λ f. has_id pending f.pendings) ≡ true
        left [] some = some
        left (f ∷ fs) some =
            by_test (n == f.number)
            (λ here.
            let miss : (north == f.number) ≡ false = by_test (north == f.number) (λ own. never (eq-eqb n north (eqb-true n f.number here ∙ sym (eqb-true north f.number own))) apart) (λ h. h) in
            rw here (left fs (rw miss at some)))
            (λ here. rw here (by_test (north == f.number) (λ own. rw own (rw own at some)) (λ own. rw own (left fs (rw own at some)))))

    sets_entities : (n : ℕ) (subscribers : List K) (queryables : List (K × QueryableInfo)) → Fine (Alter (with_entities cmp n subscribers queryables))
    sets_entities n subscribers queryables = λ g serves.
        same_asks n (λ f. record f { subscribers = subscribers; queryables = queryables }) (λ f. refl) (λ f. refl) (λ f. refl) (with_numbers cmp (entity_expressions cmp subscribers queryables) g) (record { asks = serves.asks; stands = serves.stands })

    greets_leave : (region : Region) (before : Trees) → Fine (Say (λ g. to_each (greet_to cmp g region before) g.faces))
    unfolding greet_to
    greets_leave region before =
        by_each (λ g f. greet_to cmp g region before f)
        (λ g f kind own.
        each_flat_map Leaves (λ r. if region_eq f.region region && (is_child g (table_of g region) r.1 f && not (is_child g before r.1 f)) then map (λ x. message.DeclareToken 0 x None r.0) (routed_expressions cmp g region r.1) else []) (routers_in_order cmp (table_of g region))
        (λ r. of_cond (Each Leaves) (region_eq f.region region && (is_child g (table_of g region) r.1 f && not (is_child g before r.1 f))) (map (λ x. message.DeclareToken 0 x None r.0) (routed_expressions cmp g region r.1)) [] (λ _. alike (λ x. message.DeclareToken 0 x None r.0) (routed_expressions cmp g region r.1) (λ x. tt)) (λ _. tt)))

    -- ---- calls

    -- the call doesn't end the pending, asks nothing new under the id and doesn't end an ask by its interest, and it is one
    -- that a face speaks
    abbrev pub Spares : PlainCall K → Type 0
    Spares (DeclareFinal n k) = ((n == north) && (k == pending)) ≡ false
    Spares (InterestFinal n k) = (n == p) ≡ true → (id == k) ≡ true → later ≡ false
    Spares (Interest n k mode options x) = (n == p) ≡ true → (id == k) ≡ true → is_current mode ≡ false
    Spares (CloseFace n) = ((n == p) ≡ false) × ((n == north) ≡ false)
    Spares (NewSession first) = ⊥
    Spares (NewTransport zid whatami region bound first) = ⊥
    Spares (Expire now) = ⊥
    Spares _ = Unit {0}

    pub leaves_asks : (c : PlainCall K) (g : Rows K) → TreeRows cmp g → Serves g → Spares c → Each (To p Leaves) (said cmp matching c g) × Serves (rows_after_call cmp matching c g)
    leaves_asks (DeclareToken n k x node interest) g rows serves spares = declare_fine cmp matching Serves (To p Leaves) n (rules n) k node x interest g rows (same_asks n (registered k x) (λ f. refl) (λ f. refl) (λ f. refl)) serves
    leaves_asks (UndeclareToken n k given node) g rows serves spares = undeclare_fine cmp matching Serves (To p Leaves) n (rules n) k node given g rows forget_leaves serves (same_asks n (unregistered k) (λ f. refl) (λ f. refl) (λ f. refl) g serves)
    leaves_asks (Interest n k mode options x) g rows serves spares = interest_fine cmp matching Serves (To p Leaves) n (rules n) k mode options x g (λ f found. asking_leaves n k (row_of cmp matching f mode options x) f.region g spares) serves
    leaves_asks (InterestFinal n k) g rows serves spares = final_fine cmp matching Serves (To p Leaves) n (rules n) k g (same_asks n (unheld k) (λ f. refl) (λ f. refl) (λ f. refl)) (λ interest. both_leaves n k interest spares) serves
    leaves_asks (DeclareFinal n k) g rows serves spares = finish_fine cmp matching Serves (To p Leaves) n (rules n) k g (ends_other n k spares) serves
    leaves_asks (CloseFace n) g rows serves spares =
        close_fine cmp matching Serves (To p Leaves) n (rules n) g forget_leaves (λ k. same_asks n (unregistered k) (λ f. refl) (λ f. refl) (λ f. refl)) (λ k. same_asks n (unheld k) (λ f. refl) (λ f. refl) (λ f. refl)) (λ k interest. both_leaves n k interest (λ is. never is spares.0)) (drops_asks n)
        (λ k. ends_other n k (rw (spares.1) refl)) (closes_face n spares.1) serves
    leaves_asks (SetEntities n subscribers queryables) g rows serves spares = entities_fine cmp matching Serves (To p Leaves) n (rules n) subscribers queryables g (sets_entities n subscribers queryables) serves
    leaves_asks (NewSession first) g rows serves spares = absurd spares
    leaves_asks (NewTransport zid whatami region bound first) g rows serves spares = absurd spares
    leaves_asks (Expire now) g rows serves spares = absurd spares
    leaves_asks (SetTrees region t) g rows serves spares = trees_fine cmp matching Serves (To p Leaves) 0 (rules 0) region t g forget_leaves (beside (without_left_out cmp region (counted_table t)) (λ g. refl)) (beside (with_table cmp region t) (λ g. refl)) (greets_leave region) serves
