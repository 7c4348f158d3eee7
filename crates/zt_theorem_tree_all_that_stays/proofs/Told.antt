-- A row that a face to the north was told stays there through a call, where its expression stays live at a face that
-- leads down: nothing that the face is sent takes it.
use Rattle.std.proofs.Common.{◌≡◌, ℕ, ◌≤◌, ◌<◌, ◌+◌, Bool, true, false, if◌then◌else◌, ◌&&◌, ◌||◌, ◌==◌, not, List, [], ◌∷◌, ◌++◌, map, filter, Option, Some, None, refl, sym, ap, ◌∙◌, subst, arith, eqb-true, eq-eqb}
use Rattle.std.proofs.lemmas.Bool.{and_from, and_parts, or_left, or_right}
use Rattle.std.specs.Cmp.{IsTotalOrder}
use Rattle.std.specs.List.{list_any}
use Rattle.std.specs.declared.cmp.Ordering.{Ordering}
use Rattle.std.specs.declared.cmp.Ordering.TheVariants.{Equal}
use Rattle.zt_region.specs.declared.region.Region.{Region}
use Rattle.zt_region.specs.declared.region.Region.TheVariants.{North}
use Rattle.zt_region.specs.declared.region.WhatAmI.TheVariants.{Client}
use Rattle.zt_region.specs.Region.{is_north, region_eq, region_eq-same}
use Rattle.zt_protocol.specs.Interest.{is_current, is_future}
use Rattle.zt_protocol.specs.Plain.{PlainCall, NewSession, NewTransport, DeclareToken, UndeclareToken, Interest, InterestFinal, DeclareFinal, CloseFace, Expire, SetTrees, SetEntities, Trees}
use Rattle.zt_protocol.specs.declared.interests.InterestMode.{InterestMode}
use Rattle.zt_protocol.specs.declared.messages.Message.{Message}
use Rattle.zt_protocol.specs.declared.messages.QueryableInfo.{QueryableInfo}
use Rattle.zt_protocol.specs.declared.messages.Message.TheVariants as message
use Rattle.zt_model.specs.Closing.{without_asks, without_face}
use Rattle.zt_model.specs.Entities.{entities_for, entity_expressions, numbered_by, with_entities, with_numbers}
use Rattle.zt_model.specs.Hat.{hat_of, hat_of_face, north_hat}
use Rattle.zt_model.specs.Hearing.{asks_answered, heard, heard_all, rows_heard}
use Rattle.zt_model.specs.Lists.{at_id, is_some_and, same, without_id}
use Rattle.zt_model.specs.Parts.{Alter, Part, Say, Sends, to_each, to_face, told_id, with_face}
use Rattle.zt_model.specs.Routing.{asked_as, asks_same, end_upstream_to, ended, final_of, final_of_both, finish_to, initial_finalised, is_finished_by, is_held_south, is_target, route_to, sent_as, unheld, untell_to}
use Rattle.zt_model.specs.Rows.{Ask, ById, Face, InterestRow, Rows}
use Rattle.zt_model.specs.Refusals.{call_causes, first_cause}
use Rattle.zt_model.specs.Says.{answered_expressions, asking, forget_to, forget_untold, is_routed, is_told, row_of, said, tell_to}
use Rattle.zt_model.specs.Telling.{answer_to, answers_from, answers_of, registered, unregistered}
use Rattle.zt_model.specs.Transcript.{Each}
use Rattle.zt_model.specs.Trees.{counted_table, greet_to, hide_to, is_child, is_hidden, routed_expressions, routers_in_order, table_of, with_table, without_left_out, is_newly_shown, router_regions, show_to, with_own_rows, with_routed, without_own_rows}
use Rattle.zt_model.specs.Visible.{is_visible, rows_of_face, routed_rows, shows}
use Rattle.zt_model.specs.Wants.{wants}
use Rattle.zt_model.proofs.Hats.{untell_is}
use Rattle.zt_laws.specs.Sound.{rows_after_call}
use Rattle.zt_laws.proofs.Hearing.{find_each, find_passes, heard_all-live, heard_all-number, heard_all-region}
use Rattle.zt_laws.proofs.Keys.{same_is, same_itself}
use Rattle.zt_laws.proofs.Lists.{any-append, any-filter, any-map, any_member, any_weaker, by_test, each_always, each_append, each_filter, each_map, never, of_cond}
use Rattle.zt_laws.proofs.PartsOrder.{each_flat_map}
use Rattle.zt_laws.proofs.Told.{told_id_row}
use Rattle.zt_laws.proofs.Visible.{any_live_rows}
use Rattle.zt_theorem_soundness.proofs.CallsRun.{each_entity}
use Rattle.zt_theorem_tree_invariant.proofs.Lines.{interest_from}
use Rattle.zt_theorem_tree_invariant.proofs.Quiet.{is_live}
use Rattle.zt_theorem_tree_invariant.proofs.Saying.{TreeRows}
use Rattle.zt_theorem_tree_all_that_stays.specs.Steady.{IsTold, LeavesRow, has_row}
use Rattle.zt_theorem_tree_all_that_stays.proofs.Parts.{AreFine, Forgets, IsFine, Own, To, any_changed, any_heard, any_left, close_fine, declare_fine, entities_fine, final_fine, finish_fine, interest_fine, own_changed, own_each, own_heard, own_one, trees_fine, undeclare_fine}

module _ {K : Type 0} (cmp : K → K → Ordering) (matching : K → K → Bool) (total : IsTotalOrder cmp) (equal_is_same : (a b : K) → cmp a b ≡ Equal → a ≡ b) (id : ℕ) (e : K) (real : 1 ≤ id) where
  abbrev pub Told : Face K → Type 0
  Told f = IsTold cmp id e f

  abbrev Leaves : Message K → Type 0
  Leaves m = LeavesRow cmp id e m

  -- ---- hearing

  no_asks : (interest : Option ℕ) (x : K) → asks_answered cmp interest x [] ≡ []
  no_asks None x = refl
  no_asks (Some i) x = refl

  told_heard : (now : ℕ) (m : Message K) (f : Face K) → Told f → Leaves m → Told (heard cmp now m f)
  told_heard now (message.DeclareToken k x interest node) f told leaves =
      let less : id < f.next = told.next in
      record {
        north = told.north;
        asks = ap (asks_answered cmp interest x) told.asks ∙ no_asks interest x;
        has = of_cond (λ (rows : ById K). has_row cmp id e rows ≡ true) ((k == 0) || list_any (λ row. (k == row.0) && same cmp x row.1) f.told) f.told (f.told ++ (k, x) ∷ []) (λ _. told.has) (λ _. any-append (λ row. (id == row.0) && same cmp e row.1) f.told ((k, x) ∷ []) ∙ or_left (has_row cmp id e f.told) (has_row cmp id e ((k, x) ∷ [])) told.has);
        only =
            of_cond (Each (λ (row : ℕ × K). (id == row.0) ≡ true → same cmp e row.1 ≡ true)) ((k == 0) || list_any (λ row. (k == row.0) && same cmp x row.1) f.told) f.told (f.told ++ (k, x) ∷ []) (λ _. told.only)
            (λ _. each_append (λ (row : ℕ × K). (id == row.0) ≡ true → same cmp e row.1 ≡ true) f.told ((k, x) ∷ []) told.only (leaves, tt));
        next = omega arith;
      }
  told_heard now (message.UndeclareToken k None node) f told leaves = record {
    north = told.north;
    asks = told.asks;
    has =
        any-filter (λ row. (id == row.0) && same cmp e row.1) (λ row. not (k == row.0)) f.told
        ∙ any_weaker (λ row. (id == row.0) && same cmp e row.1) (λ row. not (k == row.0) && ((id == row.0) && same cmp e row.1))
        (λ row here.
        let own : id ≡ row.0 = eqb-true id row.0 (and_parts (id == row.0) (same cmp e row.1) here).0 in
        let apart : (k == row.0) ≡ false = by_test (k == row.0) (λ is. never (eq-eqb id k (own ∙ sym (eqb-true k row.0 is))) leaves) (λ h. h) in
        and_from (not (k == row.0)) ((id == row.0) && same cmp e row.1) (ap not apart) here) f.told told.has;
    only = each_filter (λ (row : ℕ × K). (id == row.0) ≡ true → same cmp e row.1 ≡ true) (λ row. not (k == row.0)) f.told told.only;
    next = told.next;
  }
  told_heard now (message.UndeclareToken k (Some x) node) f told leaves = absurd leaves
  told_heard now (message.DeclareFinal interest) f told leaves = record { north = told.north; asks = ap (without_id interest) told.asks; has = told.has; only = told.only; next = told.next }
  told_heard now (message.Interest k mode options x) f told leaves = let less : id < f.next = told.next in record { north = told.north; asks = told.asks; has = told.has; only = told.only; next = omega arith }
  told_heard now (message.InterestFinal k) f told leaves = record { north = told.north; asks = told.asks; has = told.has; only = told.only; next = told.next }
  told_heard now (message.DeclareSubscriber number x interest) f told leaves = told
  told_heard now (message.DeclareQueryable number x info interest) f told leaves = told

  -- ---- what is said to the face

  module _ (p q : ℕ) where
    -- the expression is live at the other face, which leads down
    abbrev pub is_live_below : Face K → Bool
    is_live_below f = (q == f.number) && (not (is_north f.region) && is_live cmp e f)

    -- the rows of a client gateway whose face was told; `lives` says whether the expression has to be live
    pub record Tells (lives : Bool) (g : Rows K) : Type 0 where
      pub client : g.mode ≡ Client
      pub told : Own p Leaves cmp Told g.faces
      pub live : lives ≡ true → list_any is_live_below g.faces ≡ true

    module _ (lives : Bool) where
      abbrev Fine : Part K → Type 0
      Fine = IsFine cmp matching (Tells lives) (To p Leaves)

      live_heard : (now : ℕ) (ms : List (Message K)) (f : Face K) → is_live_below (heard_all cmp now ms f) ≡ is_live_below f
      live_heard now ms f =
          ap (λ n. (q == n) && (not (is_north (heard_all cmp now ms f).region) && is_live cmp e (heard_all cmp now ms f))) (heard_all-number cmp now ms f)
          ∙ ap (λ r. (q == f.number) && (not (is_north r) && is_live cmp e (heard_all cmp now ms f))) (heard_all-region cmp now ms f)
          ∙ ap (λ (rows : ById K). (q == f.number) && (not (is_north f.region) && list_any (λ row. same cmp e row.1) rows)) (heard_all-live cmp now ms f)

      tells_heard : (ss : Sends K) (g : Rows K) → Tells lives g → Each (To p Leaves) ss → Tells lives (rows_heard cmp ss g)
      unfolding rows_heard
      tells_heard ss g tells said_ = record {
        client = tells.client;
        told = own_heard p Leaves cmp Told told_heard ss g said_ tells.told;
        live = λ some. any_heard p Leaves cmp is_live_below live_heard ss g (tells.live some);
      }

      -- a rule for each face, and one for one face
      by_each : (rule : Rows K → Face K → List (Message K)) → ((g : Rows K) (f : Face K) → Tells lives g → Told f → Each Leaves (rule g f)) → Fine (Say (λ g. to_each (rule g) g.faces))
      by_each rule says = λ g tells. own_each p Leaves cmp Told (rule g) g.faces (λ f told. says g f tells told) tells.told

      by_one : (n : ℕ) (rule : Rows K → Face K → List (Message K)) → ((g : Rows K) (f : Face K) → Tells lives g → Told f → Each Leaves (rule g f)) → Fine (Say (λ g. to_face n (rule g) g))
      by_one n rule says = λ g tells. own_one p Leaves cmp Told n (rule g) g (λ f told. says g f tells told) tells.told

      alike : {A : Type 0} (say : A → Message K) (xs : List A) → ((x : A) → Leaves (say x)) → Each Leaves (map say xs)
      alike say xs h = each_map Leaves say xs (each_always (λ x. Leaves (say x)) h xs)

      apart_next : (next : ℕ) (x : K) → id < next → (id == next) ≡ true → same cmp e x ≡ true
      apart_next next x less is = let bad : id ≡ next = eqb-true id next is in absurd (omega arith)

      no_router_hat : (g : Rows K) (f : Face K) → Tells lives g → Told f → (hat_of g.mode f.region).goes_by_trees ≡ false
      no_router_hat g f tells told = rw (tells.client, region_eq-same f.region North told.north) refl

      tell_leaves : (source : Region) (x : K) → Fine (Say (λ g. to_each (tell_to cmp matching g source x) g.faces))
      unfolding tell_to
      tell_leaves source x = by_each (λ g f. tell_to cmp matching g source x f) (λ g f tells told. of_cond (Each Leaves) (is_told cmp matching g source x f) (message.DeclareToken f.next x None 0 ∷ []) [] (λ _. (apart_next f.next x told.next, tt)) (λ _. tt))

      answer_leaves : (k i : ℕ) (x : K) → Fine (Say (λ g. to_each (answer_to cmp matching k i x) g.faces))
      unfolding answer_to
      answer_leaves k i x = by_each (λ g f. answer_to cmp matching k i x f) (λ g f tells told. rw (told.asks) tt)

      end_leaves : (interest : InterestRow K) → Fine (Say (λ g. to_each (end_upstream_to cmp matching g interest) g.faces))
      unfolding end_upstream_to
      end_leaves interest =
          by_each (λ g f. end_upstream_to cmp matching g interest f)
          (λ g f tells told.
          of_cond (Each Leaves) (is_north f.region && not (is_held_south cmp matching g interest)) (map (λ row. message.InterestFinal row.0) (filter (λ row. asks_same cmp matching interest row.1) f.locals)) []
          (λ _. alike (λ row. message.InterestFinal row.0) (filter (λ row. asks_same cmp matching interest row.1) f.locals) (λ row. tt)) (λ _. tt))

      show_leaves : (source : Region) (x : K) → Fine (Say (λ g. to_each (show_to cmp g source x) g.faces))
      unfolding show_to is_newly_shown
      show_leaves source x = by_each (λ g f. show_to cmp g source x f) (λ g f tells told. let hat = no_router_hat g f tells told in rw hat tt)

      hide_leaves : (source : Region) (x : K) → Fine (Say (λ g. to_each (hide_to cmp g source x) g.faces))
      unfolding hide_to is_hidden
      hide_leaves source x = by_each (λ g f. hide_to cmp g source x f) (λ g f tells told. let hat = no_router_hat g f tells told in rw hat tt)

      finish_leaves : (k i : ℕ) → Fine (Say (λ g. to_each (finish_to g k i) g.faces))
      unfolding finish_to
      finish_leaves k i = by_each (λ g f. finish_to g k i f) (λ g f tells told. alike (λ row. message.DeclareFinal row.0) (filter (λ row. is_finished_by g k i row.1) f.asks) (λ row. tt))

      untell_leaves : (n : ℕ) → Fine (Say (λ g. to_face n (untell_to cmp matching g) g))
      untell_leaves n = by_one n (untell_to cmp matching) (λ g f tells told. rw (untell_is cmp matching g f, told.north) tt)

      greets_leave : (region : Region) (before : Trees) → Fine (Say (λ g. to_each (greet_to cmp g region before) g.faces))
      unfolding greet_to
      greets_leave region before =
          by_each (λ g f. greet_to cmp g region before f)
          (λ g f tells told.
          each_flat_map Leaves (λ r. if region_eq f.region region && (is_child g (table_of g region) r.1 f && not (is_child g before r.1 f)) then map (λ x. message.DeclareToken 0 x None r.0) (routed_expressions cmp g region r.1) else []) (routers_in_order cmp (table_of g region))
          (λ r. of_cond (Each Leaves) (region_eq f.region region && (is_child g (table_of g region) r.1 f && not (is_child g before r.1 f))) (map (λ x. message.DeclareToken 0 x None r.0) (routed_expressions cmp g region r.1)) [] (λ _. alike (λ x. message.DeclareToken 0 x None r.0) (routed_expressions cmp g region r.1) (λ x is. let bad : id ≡ 0 = eqb-true id 0 is in absurd (omega arith))) (λ _. tt)))

      -- ---- the rule of tokens that are gone

      seen : (g : Rows K) → list_any is_live_below g.faces ≡ true → is_visible cmp g North e ≡ true
      unfolding is_visible
      seen g some =
          let test = λ (row : Region × K). same cmp e row.1 && shows g.mode North row.0 in
          any_live_rows test g g.faces
          ∙ or_left (list_any (λ f. list_any test (rows_of_face f)) g.faces) (list_any test (routed_rows g)) (any_weaker is_live_below (λ f. list_any test (rows_of_face f)) face_shows g.faces some)
        where
          below : (r : Region) → not (is_north r) ≡ true → shows g.mode North r ≡ true
          below r south = or_right (north_hat g.mode).shares_tokens (not (is_north r)) south

          face_shows : (f : Face K) → is_live_below f ≡ true → list_any (λ (row : Region × K). same cmp e row.1 && shows g.mode North row.0) (rows_of_face f) ≡ true
          face_shows f here =
              let both = and_parts (not (is_north f.region)) (is_live cmp e f) (and_parts (q == f.number) _ here).1 in
              any-map (λ (row : Region × K). same cmp e row.1 && shows g.mode North row.0) (λ row. (f.region, row.1)) f.live
              ∙ any_weaker (λ row. same cmp e row.1) (λ row. same cmp e row.1 && shows g.mode North f.region) (λ row own. and_from (same cmp e row.1) (shows g.mode North f.region) own (below f.region both.0)) f.live both.1

      forget_leaves : lives ≡ true → Forgets cmp matching (Tells lives) (To p Leaves)
      unfolding forget_to
      forget_leaves needs source x =
          by_each (λ g f. forget_to cmp matching g source x f)
          (λ g f tells told.
          of_cond (Each Leaves) (is_routed g f || is_visible cmp g f.region x) [] (elim (told_id cmp x f.told) [ None ↦ forget_untold cmp matching g source x f | Some k ↦ message.UndeclareToken k None 0 ∷ [] ]) (λ _. tt)
          (λ unseen. cases g f tells told unseen (told_id cmp x f.told) refl))
        where
          cases : (g : Rows K) (f : Face K) → Tells lives g → Told f → (is_routed g f || is_visible cmp g f.region x) ≡ false → (o : Option ℕ) → told_id cmp x f.told ≡ o → Each Leaves (elim o [ None ↦ forget_untold cmp matching g source x f | Some k ↦ message.UndeclareToken k None 0 ∷ [] ])
          cases g f tells told unseen None is =
              of_cond (Each Leaves) (wants matching f x && (hat_of_face g f).undeclares_untold && shows g.mode f.region source) (message.UndeclareToken 0 (Some x) 0 ∷ []) []
              (λ here.
              let silent : (hat_of_face g f).undeclares_untold ≡ false = rw (tells.client, region_eq-same f.region North told.north) refl in
              never (and_parts (wants matching f x) ((hat_of_face g f).undeclares_untold) (and_parts (wants matching f x && (hat_of_face g f).undeclares_untold) (shows g.mode f.region source) here).0).1 silent)
              (λ _. tt)
          cases g f tells told unseen (Some k) is = (
            by_test (id == k)
                (λ own.
                let row_is = told_id_row cmp x f.told k is in
                any_member (λ (row : ℕ × K). (id == row.0) ≡ true → same cmp e row.1 ≡ true) (λ row. (k == row.0) && same cmp x row.1) f.told told.only row_is
                (λ row only here.
                let both = and_parts (k == row.0) (same cmp x row.1) here in
                let same_e : e ≡ row.1 = same_is cmp total equal_is_same e row.1 (only (ap (λ n. n == row.0) (eqb-true id k own) ∙ both.0)) in
                let same_x : x ≡ row.1 = same_is cmp total equal_is_same x row.1 both.1 in
                let x_is : e ≡ x = same_e ∙ sym same_x in
                let sees : is_visible cmp g f.region x ≡ true = ap (λ r. is_visible cmp g r x) (region_eq-same f.region North told.north) ∙ ap (is_visible cmp g North) (sym x_is) ∙ seen g (tells.live needs) in
                never (or_right (is_routed g f) (is_visible cmp g f.region x) sees) unseen))
                (λ apart. apart),
            tt,
          )

      -- ---- what changes

      changed : (n : ℕ) (change : Face K → Face K) → ((f : Face K) → (change f).number ≡ f.number) → ((f : Face K) → (n == f.number) ≡ true → (p == f.number) ≡ true → Told f → Told (change f)) → (lives ≡ true → (f : Face K) → (n == f.number) ≡ true → is_live_below f ≡ true → is_live_below (change f) ≡ true)
          → Fine (Alter (with_face n change))
      unfolding with_face
      changed n change still told live = λ g tells. record {
        client = tells.client;
        told = own_changed p Leaves cmp Told n change still told g tells.told;
        live = λ some. any_changed p Leaves is_live_below n change (live some) g (tells.live some);
      }

      -- only rows that are no face's
      beside : (change : Rows K → Rows K) → ((g : Rows K) → (change g).faces ≡ g.faces) → ((g : Rows K) → (change g).mode ≡ g.mode) → Fine (Alter change)
      beside change faces_ mode_ = λ g tells. record {
        client = mode_ g ∙ tells.client;
        told = subst (Own p Leaves cmp Told) (sym (faces_ g)) tells.told;
        live = λ some. ap (list_any is_live_below) (faces_ g) ∙ tells.live some;
      }

      same_told : (f h : Face K) → h.region ≡ f.region → h.told ≡ f.told → h.asks ≡ [] → h.next ≡ f.next → Told f → Told h
      same_told f h region_ told_ asks_ next_ own = record {
        north = ap is_north region_ ∙ own.north;
        asks = asks_;
        has = ap (has_row cmp id e) told_ ∙ own.has;
        only = subst (λ (rows : ById K). Each (λ row. (id == row.0) ≡ true → same cmp e row.1 ≡ true) rows) (sym told_) own.only;
        next = subst (λ n. id < n) (sym next_) own.next;
      }

      registers_row : lives ≡ false → (n k : ℕ) (x : K) → Fine (Alter (with_face n (registered k x)))
      registers_row none_ n k x = changed n (registered k x) (λ f. refl) (λ f here own told. same_told f (registered k x f) refl refl told.asks refl told) (λ some. never some none_)

      takes_row : (n : ℕ) → (n == q) ≡ false → (k : ℕ) → Fine (Alter (with_face n (unregistered k)))
      takes_row n apart k =
          changed n (unregistered k) (λ f. refl) (λ f here own told. same_told f (unregistered k f) refl refl told.asks refl told)
          (λ some f here live. never (ap (λ j. j == q) (eqb-true n f.number here) ∙ eq-eqb f.number q (sym (eqb-true q f.number (and_parts (q == f.number) _ live).0))) apart)

      ends_interest : (n k : ℕ) → Fine (Alter (with_face n (unheld k)))
      ends_interest n k = changed n (unheld k) (λ f. refl) (λ f here own told. same_told f (unheld k f) refl refl told.asks refl told) (λ some f here live. live)

      ends_pending : (n k : ℕ) → Fine (Alter (with_face n (ended k)))
      ends_pending n k = changed n (ended k) (λ f. refl) (λ f here own told. same_told f (ended k f) refl refl told.asks refl told) (λ some f here live. live)

      drops_asks : (n : ℕ) → Fine (Alter (with_face n without_asks))
      drops_asks n = changed n without_asks (λ f. refl) (λ f here own told. same_told f (without_asks f) refl refl refl refl told) (λ some f here live. live)

      asks_apart : (n : ℕ) → (n == p) ≡ false → (pendings : List (ℕ × ℕ)) (k : ℕ) (interest : InterestRow K) → Fine (Alter (with_face n (asked_as pendings k interest)))
      asks_apart n apart pendings k interest =
          changed n (asked_as pendings k interest) (λ f. refl) (λ f here own told. never (eq-eqb n p (eqb-true n f.number here ∙ sym (eqb-true p f.number own))) apart) (λ some f here live. live)

      closes_face : (n : ℕ) → (n == q) ≡ false → Fine (Alter (without_face n))
      closes_face n apart = λ g tells. record {
        client = tells.client;
        told = each_filter (λ f. (p == f.number) ≡ true → Told f) (λ f. not (n == f.number)) g.faces tells.told;
        live = λ some. any_left is_live_below n g.faces (λ f live. by_test (n == f.number) (λ here. never (eq-eqb n q (eqb-true n f.number here ∙ sym (eqb-true q f.number (and_parts (q == f.number) _ live).0))) apart) (λ h. h)) (tells.live some);
      }

      sets_entities : (n : ℕ) (subscribers : List K) (queryables : List (K × QueryableInfo)) → Fine (Alter (with_entities cmp n subscribers queryables))
      sets_entities n subscribers queryables = λ g tells.
          changed n (λ f. record f { subscribers = subscribers; queryables = queryables }) (λ f. refl) (λ f here own told. same_told f (record f { subscribers = subscribers; queryables = queryables }) refl refl told.asks refl told) (λ some f here live. live)
          (with_numbers cmp (entity_expressions cmp subscribers queryables) g) (record { client = tells.client; told = tells.told; live = tells.live })

      own_rows_faces : (rs : List Region) (x : K) (g : Rows K) → (with_own_rows cmp rs x g).faces ≡ g.faces
      unfolding with_own_rows with_routed
      own_rows_faces [] x g = refl
      own_rows_faces (r ∷ rs) x g = own_rows_faces rs x (with_routed cmp r g.zid x g)

      own_rows_mode : (rs : List Region) (x : K) (g : Rows K) → (with_own_rows cmp rs x g).mode ≡ g.mode
      unfolding with_own_rows with_routed
      own_rows_mode [] x g = refl
      own_rows_mode (r ∷ rs) x g = own_rows_mode rs x (with_routed cmp r g.zid x g)

      hides_rows : (source : Region) (x : K) → Fine (Alter (without_own_rows cmp source x))
      unfolding without_own_rows
      hides_rows source x = beside (without_own_rows cmp source x) (λ g. refl) (λ g. refl)

      rules : (n : ℕ) → AreFine cmp matching (Tells lives) (To p Leaves) n
      rules n = record {
        hear = tells_heard;
        tell = tell_leaves;
        answer = answer_leaves;
        end_upstream = end_leaves;
        show = show_leaves;
        hide = hide_leaves;
        finish = finish_leaves;
        untell = untell_leaves n;
        initial = λ k. changed n (initial_finalised k) (λ f. refl) (λ f here own told. same_told f (initial_finalised k f) refl refl told.asks refl told) (λ some f here live. live);
        shown = λ source x.
            beside (λ g. with_own_rows cmp (filter (is_newly_shown cmp g source x) (router_regions g)) x g) (λ g. own_rows_faces (filter (is_newly_shown cmp g source x) (router_regions g)) x g) (λ g. own_rows_mode (filter (is_newly_shown cmp g source x) (router_regions g)) x g);
        hidden = hides_rows;
      }

      both_leaves : (n k : ℕ) (interest : InterestRow K) → Fine (Say (to_face n (final_of_both k interest)))
      both_leaves n k interest =
          by_one n (λ g f. final_of_both k interest f)
          (λ g f tells told. of_cond (Each Leaves) (is_current interest.mode && is_some_and (at_id k f.asks) (λ ask. is_future ask.interest.mode)) (message.DeclareFinal k ∷ []) [] (λ _. (tt, tt)) (λ _. tt))

      -- ---- an interest

      answers_leave : (next : ℕ) (told : ById K) (mode : InterestMode) (k : ℕ) (es : List K) → id < next → Each (λ row. (id == row.0) ≡ true → same cmp e row.1 ≡ true) told → Each Leaves (answers_from cmp matching next told mode k es)
      unfolding answers_from
      answers_leave next told mode k [] less only = tt
      answers_leave next told mode k (x ∷ es) less only =
          of_cond (Each Leaves) (is_future mode) (elim (told_id cmp x told) [ None ↦ message.DeclareToken next x (Some k) 0 ∷ answers_from cmp matching (next + 1) told mode k es | Some old ↦ message.DeclareToken old x (Some k) 0 ∷ answers_from cmp matching next told mode k es ])
          (message.DeclareToken 0 x (Some k) 0 ∷ answers_from cmp matching next told mode k es)
          (λ _. cases (answers_leave (next + 1) told mode k es (omega arith) only) (answers_leave next told mode k es less only) (told_id cmp x told) refl) (λ _. ((λ is. let bad : id ≡ 0 = eqb-true id 0 is in absurd (omega arith)), answers_leave next told mode k es less only))
        where
          cases : Each Leaves (answers_from cmp matching (next + 1) told mode k es) → Each Leaves (answers_from cmp matching next told mode k es) → (o : Option ℕ) → told_id cmp x told ≡ o
              → Each Leaves (elim o [ None ↦ message.DeclareToken next x (Some k) 0 ∷ answers_from cmp matching (next + 1) told mode k es | Some old ↦ message.DeclareToken old x (Some k) 0 ∷ answers_from cmp matching next told mode k es ])
          cases more rest None is = (apart_next next x less, more)
          cases more rest (Some old) is = (
            (λ own.
                any_member (λ (row : ℕ × K). (id == row.0) ≡ true → same cmp e row.1 ≡ true) (λ row. (old == row.0) && same cmp x row.1) told only (told_id_row cmp x told old is)
                (λ row same_row here.
                let both = and_parts (old == row.0) (same cmp x row.1) here in
                let same_e : e ≡ row.1 = same_is cmp total equal_is_same e row.1 (same_row (ap (λ n. n == row.0) (eqb-true id old own) ∙ both.0)) in
                let same_x : x ≡ row.1 = same_is cmp total equal_is_same x row.1 both.1 in
                ap (same cmp e) (same_x ∙ sym same_e) ∙ same_itself cmp total e)),
            rest,
          )

      final_leaves : (k : ℕ) (f : Face K) → Each Leaves (final_of k f)
      final_leaves k f = cases (at_id k f.asks)
        where
          by_pendings : (ps : List (ℕ × ℕ)) → (let ms : List (Message K) = elim ps [ [] ↦ message.DeclareFinal k ∷ [] | pending ∷ pendings ↦ [] ] in Each Leaves ms)
          by_pendings [] = (tt, tt)
          by_pendings (_ ∷ ps) = tt

          cases : (o : Option (Ask K)) → (let ms : List (Message K) = elim o [ None ↦ [] | Some ask ↦ elim ask.pendings [ [] ↦ message.DeclareFinal k ∷ [] | pending ∷ pendings ↦ [] ] ] in Each Leaves ms)
          cases None = tt
          cases (Some ask) = by_pendings ask.pendings

      asking_leaves : (n k : ℕ) → (n == p) ≡ false → (interest : InterestRow K) (asker : Region) (g : Rows K) → Each Fine (asking cmp matching n k interest asker g)
      unfolding route_to
      asking_leaves n k apart interest asker g = (
        beside (with_numbers cmp (numbered_by cmp interest)) (λ g. refl) (λ g. refl),
        (
          by_each (λ g f. route_to g asker interest f) (λ g f tells told. of_cond (Each Leaves) (is_target g asker interest.mode f) (message.Interest f.next interest.mode interest.options interest.expr ∷ []) [] (λ _. (tt, tt)) (λ _. tt)),
          (
            by_one n (λ g f. entities_for cmp matching g k interest f) (λ g f tells told. each_entity cmp Leaves (λ number x i. tt) (λ number x info i. tt) matching g k interest f),
            (
              asks_apart n apart (sent_as g asker interest.mode) k interest,
              (by_one n (λ g f. answers_of cmp matching g k interest f) (λ g f tells told. answers_leave f.next f.told interest.mode k (answered_expressions cmp matching g interest f) told.next told.only), (by_one n (λ g f. final_of k f) (λ g f tells told. final_leaves k f), tt)),
            ),
          ),
        ),
      )

    -- ---- calls

    -- the call leaves the expression live, and it is one that a face speaks
    abbrev pub Spares : PlainCall K → Rows K → Type 0
    Spares (UndeclareToken n k given node) g = list_any is_live_below (with_face n (unregistered k) g).faces ≡ true
    Spares (CloseFace n) g = (n == q) ≡ false
    Spares (NewSession first) g = ⊥
    Spares (NewTransport zid whatami region bound first) g = ⊥
    Spares (Expire now) g = ⊥
    Spares _ g = Unit {0}

    loosely : (g : Rows K) → Tells true g → Tells false g
    loosely g tells = record { client = tells.client; told = tells.told; live = λ some. cc }

    -- what the call says to the face, and that it stays told
    abbrev pub Left : PlainCall K → Rows K → Type 0
    Left c g = Each (To p Leaves) (said cmp matching c g) × Tells false (rows_after_call cmp matching c g)

    strictly : (c : PlainCall K) (g : Rows K) → Each (To p Leaves) (said cmp matching c g) × Tells true (rows_after_call cmp matching c g) → Left c g
    strictly c g both = (both.0, loosely (rows_after_call cmp matching c g) both.1)

    pub leaves_row : (spent : Bool) (c : PlainCall K) (g : Rows K) → TreeRows cmp g → first_cause (call_causes cmp matching spent c g) ≡ None → Tells true g → Spares c g → Left c g
    unfolding with_face
    leaves_row spent (DeclareToken n k x node interest) g rows accepted tells spares = declare_fine cmp matching (Tells false) (To p Leaves) n (rules false n) k node x interest g rows (registers_row false refl n k x) (loosely g tells)
    leaves_row spent (UndeclareToken n k given node) g rows accepted tells spares =
        strictly (UndeclareToken n k given node) g
        (undeclare_fine cmp matching (Tells true) (To p Leaves) n (rules true n) k node given g rows (forget_leaves true refl) tells (record {
          client = tells.client;
          told = own_changed p Leaves cmp Told n (unregistered k) (λ f. refl) (λ f here own told. same_told true f (unregistered k f) refl refl told.asks refl told) g tells.told;
          live = λ some. spares;
        }))
    leaves_row spent (Interest n k mode options x) g rows accepted tells spares =
        let from = interest_from cmp matching spent n k mode options x g rows accepted in
        let apart : (n == p) ≡ false = by_test (n == p)
        (λ is.
        let told = find_each (λ f. (p == f.number) ≡ true → Told f) (λ (f : Face K). n == f.number) g.faces from.0 tells.told from.1.0 in
        let own : (p == from.0.number) ≡ true = ap (λ j. j == from.0.number) (sym (eqb-true n p is)) ∙ find_passes (λ (f : Face K). n == f.number) g.faces from.0 from.1.0 in
        never (told own).north from.1.1)
        (λ h. h) in
        interest_fine cmp matching (Tells false) (To p Leaves) n (rules false n) k mode options x g (λ f found. asking_leaves false n k apart (row_of cmp matching f mode options x) f.region g) (loosely g tells)
    leaves_row spent (InterestFinal n k) g rows accepted tells spares = final_fine cmp matching (Tells false) (To p Leaves) n (rules false n) k g (ends_interest false n k) (both_leaves false n k) (loosely g tells)
    leaves_row spent (DeclareFinal n k) g rows accepted tells spares = finish_fine cmp matching (Tells false) (To p Leaves) n (rules false n) k g (ends_pending false n k) (loosely g tells)
    leaves_row spent (CloseFace n) g rows accepted tells spares =
        strictly (CloseFace n) g (close_fine cmp matching (Tells true) (To p Leaves) n (rules true n) g (forget_leaves true refl) (takes_row true n spares) (ends_interest true n) (both_leaves true n) (drops_asks true n) (ends_pending true n) (closes_face true n spares) tells)
    leaves_row spent (SetEntities n subscribers queryables) g rows accepted tells spares = entities_fine cmp matching (Tells false) (To p Leaves) n (rules false n) subscribers queryables g (sets_entities false n subscribers queryables) (loosely g tells)
    leaves_row spent (NewSession first) g rows accepted tells spares = absurd spares
    leaves_row spent (NewTransport zid whatami region bound first) g rows accepted tells spares = absurd spares
    leaves_row spent (Expire now) g rows accepted tells spares = absurd spares
    leaves_row spent (SetTrees region t) g rows accepted tells spares = strictly (SetTrees region t) g (trees_fine cmp matching (Tells true) (To p Leaves) 0 (rules true 0) region t g (forget_leaves true refl) (beside true (without_left_out cmp region (counted_table t)) (λ g. refl) (λ g. refl)) (beside true (with_table cmp region t) (λ g. refl) (λ g. refl)) (greets_leave true region) tells)
