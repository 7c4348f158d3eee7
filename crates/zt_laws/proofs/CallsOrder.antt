-- Every call leaves the lists of a gateway in order, and what its faces were told.
use Rattle.std.proofs.Common.{◌≡◌, ℕ, ◌+◌, ◌≤◌, ◌<◌, Bool, true, false, not, if◌then◌else◌, ◌==◌, List, [], ◌∷◌, ◌++◌, map, filter, Option, Some, None, refl, sym, ap, ◌∙◌, subst, arith, ne_eqb}
use Rattle.std.proofs.lemmas.Bool.{not-true, or_from}
use Rattle.std.proofs.lemmas.Cmp.{nat_cmp_total, on_total, then_total}
use Rattle.std.specs.Cmp.{IsTotalOrder}
use Rattle.std.specs.FinMap.Entries.{by_order, put}
use Rattle.std.specs.List.{flat_map}
use Rattle.std.specs.declared.cmp.Ordering.{Ordering}
use Rattle.std.specs.declared.cmp.Ordering.TheVariants.{Less, Equal, Greater}
use Rattle.zt_region.specs.declared.region.Bound.{Bound}
use Rattle.zt_region.specs.declared.region.Region.{Region}
use Rattle.zt_region.specs.declared.region.WhatAmI.{WhatAmI}
use Rattle.zt_region.specs.declared.region.Zid.{Zid}
use Rattle.zt_protocol.specs.Interest.{is_current, is_future}
use Rattle.zt_protocol.specs.Plain.{PlainCall, NewSession, NewTransport, DeclareToken, UndeclareToken, Interest, InterestFinal, DeclareFinal, CloseFace, Expire, SetTrees, SetEntities, Trees}
use Rattle.zt_protocol.specs.declared.messages.QueryableInfo.{QueryableInfo}
use Rattle.zt_model.specs.Closing.{closing, expiring, is_expired, leaving, without_asks, without_face}
use Rattle.zt_model.specs.Entities.{entities_for, entity_expressions, numbered_by, numbered_with, with_entities, with_numbers}
use Rattle.zt_model.specs.Hearing.{heard_all, messages_for, rows_heard}
use Rattle.zt_protocol.specs.declared.errors.Refusal.{Refusal}
use Rattle.zt_model.specs.Journal.{cause_of, rows_after}
use Rattle.zt_model.specs.Lists.{at_id, has_id, is_among, same, with_key}
use Rattle.zt_model.specs.Parts.{unsaid_to}
use Rattle.zt_model.specs.Routing.{asked_as, end_upstream_to, ended, ending, face_opened, final_of, final_of_both, finalising, finish_to, finishing, initial_finalised, interests_from, is_greeted, opened, opening, opening_final, opening_interests, opening_tokens, route_to, sent_as, tokens_from, unheld, untell_to}
use Rattle.zt_model.specs.Rows.{Face, InterestRow, RoutedRow, Rows}
use Rattle.zt_model.specs.Says.{Alter, Part, Say, Sends, altered, altered_by, answers_of, answered_expressions, asking, declaring, declaring_of, finalising_held, find_face, forget_to, hiding_undeclared, interesting_above, is_routed, opened_session, parts_of, registered, registers, row_of, said_by, tell_to, to_each, to_face, undeclared, undeclaring, undeclaring_of, unregistered, with_face}
use Rattle.zt_model.specs.Telling.{answer_to, answering}
use Rattle.zt_model.specs.Transcript.{Each}
use Rattle.zt_model.specs.Trees.{changing_table, counted_table, greet_to, hide_to, hiding, is_left_out, is_newly_shown, is_routed_row, left_out, pass_to, region_order, region_rank, routed_order, router_regions, row_at, show_to, showing, south_id, south_mode, source_of, table_of, undeclaring_routed, unpass_to, with_own_rows, with_routed, with_table, without_left_out, without_own_rows, without_routed}
use Rattle.zt_model.specs.Visible.{visible_expressions}
use Rattle.zt_laws.specs.Kept.{Told, told_by_all, told_of}
use Rattle.zt_laws.specs.Order.{HasRowsInOrder, InKeyOrder, KeysOnce, ListsAreInOrder, RowsAreInOrder}
use Rattle.zt_laws.specs.Sound.{CallHasFirstIds, opens_face, rows_after_call}
use Rattle.zt_laws.proofs.Faces.{chosen_leaves}
use Rattle.zt_laws.proofs.Hearing.{find_none, each_ruled, each_ruled_one, heard_all-number, rows_heard-to_face, rows_heard_nothing}
use Rattle.zt_laws.proofs.Interests.{answered_in_order}
use Rattle.zt_laws.proofs.Keeping.{told_alone}
use Rattle.zt_laws.proofs.Keys.{in_order_with_key, once_in_order, same_back}
use Rattle.zt_laws.proofs.Lists.{by_test, any-append, each_always, each_append, each_both, each_filter, each_map, each_passes, each_weaker, never, of_cond, rise_filter, rise_push}
use Rattle.zt_laws.proofs.PartsOrder.{AreInOrder, altered_by_last, said_by_last, IsOrderlyPart, IsQuiet, IsSilentPart, altered_in_order, each_flat_map, each_of_map, heard_in_order, in_order_by, lists_heard, nothing_told, orderly_at, orderly_each, orderly_if_silent, orderly_one, orderly_parts, parts_in_order, quiet_face, rise_put_if, rise_without_id, said_in_order, said_then, silent_unsaid, tolds, tolds_after, tolds_in_order}
use Rattle.zt_laws.proofs.Silent.{silent_end_upstream, silent_entities, silent_final, silent_final_of_both, silent_finish, silent_forget, silent_greet, silent_hide, silent_opening_final, silent_pass, silent_route, silent_show, silent_unpass, silent_untell}
use Rattle.zt_laws.proofs.Told.{names}
use Rattle.zt_laws.proofs.ToldOrder.{IsInOrder, DrawsNothing, in_order_answer, in_order_answers, in_order_nothings, in_order_tell, in_order_tokens, interests_leave_rows, interests_tell_nothing, TellsNothing}
use Rattle.zt_laws.proofs.Visible.{rise_put, visible_expressions_in_order}

-- ---- orders

pub region_total : IsTotalOrder region_order
region_total = then_total (on_total region_rank nat_cmp_total) (then_total (on_total south_id nat_cmp_total) (on_total south_mode nat_cmp_total))

module _ {K : Type 0} (cmp : K → K → Ordering) (matching : K → K → Bool) where
  pub routed_total : IsTotalOrder cmp → IsTotalOrder (routed_order cmp)
  routed_total total = then_total (on_total (λ (row : RoutedRow K). row.region) region_total) (then_total (on_total (λ (row : RoutedRow K). row.source.0) nat_cmp_total) (on_total (λ (row : RoutedRow K). row.expr) total))

  in_order_filtered : {A : Type 0} (order : A → A → Ordering) (p : A → Bool) (xs : List A) → InKeyOrder order xs → InKeyOrder order (filter p xs)
  in_order_filtered order p [] ordered = tt
  in_order_filtered order p (x ∷ xs) ordered =
      of_cond (InKeyOrder order) (p x) (x ∷ filter p xs) (filter p xs) (λ _. (each_filter (λ y. order x y ≡ Less) p xs ordered.0, in_order_filtered order p xs ordered.1)) (λ _. in_order_filtered order p xs ordered.1)

  -- the regions of tables, after a table is put
  regions_put : (region : Region) (t : Trees) (rows : List (Region × Trees)) → map (λ row. row.0) (put region_order region t rows) ≡ with_key region_order region (map (λ row. row.0) rows)
  regions_put region t [] = refl
  regions_put region t (row ∷ rows) =
      elim (region_order region row.0) as (λ o. map (λ row. row.0) (by_order o ((region, t) ∷ row ∷ rows) ((row.0, t) ∷ rows) (row ∷ put region_order region t rows)) ≡ by_order o (region ∷ row.0 ∷ map (λ row. row.0) rows) (row.0 ∷ map (λ row. row.0) rows) (row.0 ∷ with_key region_order region (map (λ row. row.0) rows))) [
        | Less ↦ refl
        | Equal ↦ refl
        | Greater ↦ ap (λ rs. row.0 ∷ rs) (regions_put region t rows)
      ]

  -- ---- changes of the gateway's own lists

  pub quiet_routed : (change : Rows K → List (RoutedRow K)) → ((g : Rows K) → InKeyOrder (routed_order cmp) g.routed → InKeyOrder (routed_order cmp) (change g)) → IsQuiet cmp matching (λ g. record g { routed = change g })
  quiet_routed change ordered = λ g lists. (
    record { faces_rise = lists.faces_rise; faces_made = lists.faces_made; rows = lists.rows; routed = ordered g lists.routed; trees = lists.trees; dictionary = lists.dictionary },
    refl,
    refl,
  )

  pub quiet_moment : (now : ℕ) → IsQuiet cmp matching (λ g. record g { moment = now })
  quiet_moment now = λ g lists. (
    record { faces_rise = lists.faces_rise; faces_made = lists.faces_made; rows = lists.rows; routed = lists.routed; trees = lists.trees; dictionary = lists.dictionary },
    refl,
    refl,
  )

  pub quiet_table : (region : Region) (t : Trees) → IsQuiet cmp matching (with_table cmp region t)
  quiet_table region t = λ g lists. (
    record {
      faces_rise = lists.faces_rise;
      faces_made = lists.faces_made;
      rows = lists.rows;
      routed = lists.routed;
      trees = subst (InKeyOrder region_order) (sym (regions_put region t g.trees)) (in_order_with_key region_order region_total region (map (λ row. row.0) g.trees) lists.trees);
      dictionary = lists.dictionary;
    },
    refl,
    refl,
  )

  pub quiet_without_routed : (region : Region) (source : Zid) (e : K) → IsQuiet cmp matching (without_routed cmp region source e)
  unfolding without_routed
  quiet_without_routed region source e =
      quiet_routed (λ g. filter (λ row. not (is_routed_row cmp (row_at cmp region source e) row)) g.routed)
      (λ g ordered. in_order_filtered (routed_order cmp) (λ row. not (is_routed_row cmp (row_at cmp region source e) row)) g.routed ordered)

  pub quiet_without_own_rows : (source : Region) (e : K) → IsQuiet cmp matching (without_own_rows cmp source e)
  unfolding without_own_rows
  quiet_without_own_rows source e = quiet_routed (λ g. (without_own_rows cmp source e g).routed) (λ g ordered. in_order_filtered (routed_order cmp) _ g.routed ordered)

  pub quiet_without_left_out : (region : Region) (t : Trees) → IsQuiet cmp matching (without_left_out cmp region t)
  quiet_without_left_out region t =
      quiet_routed (λ g. filter (λ row. not (is_left_out cmp region t row)) g.routed) (λ g ordered. in_order_filtered (routed_order cmp) (λ row. not (is_left_out cmp region t row)) g.routed ordered)

  -- ---- silent parts

  pub silent_hiding : (source : Region) (e : K) → Each (IsSilentPart cmp matching) (hiding cmp source e)
  silent_hiding source e = (λ g. each_ruled DrawsNothing (hide_to cmp g source e) g.faces (silent_hide cmp matching g source e), (quiet_without_own_rows source e, tt))

  pub silent_forgetting : (source : Region) (e : K) → IsSilentPart cmp matching (Say (λ g. to_each (forget_to cmp matching g source e) g.faces))
  silent_forgetting source e = λ g. each_ruled DrawsNothing (forget_to cmp matching g source e) g.faces (silent_forget cmp matching g source e)

  pub silent_undeclaring : (n id : ℕ) (given : Option K) (f : Face K) → Each (IsSilentPart cmp matching) (undeclaring cmp matching n id given f)
  silent_undeclaring n id given f = cases (undeclared cmp matching id given f)
    where
      cases : (o : Option K) → Each (IsSilentPart cmp matching) (elim o [ None ↦ [] | Some e ↦ Alter (with_face n (unregistered id)) ∷ Say (λ g. to_each (forget_to cmp matching g f.region e) g.faces) ∷ [] ])
      cases None = tt
      cases (Some e) = (quiet_face cmp matching n (unregistered id) (λ k. refl) (λ k rows. record { live = rise_without_id id k.live rows.live; held = rows.held; locals = rows.locals; pendings = rows.pendings; asks = rows.asks }), (silent_forgetting f.region e, tt))

  pub silent_hiding_undeclared : (id : ℕ) (given : Option K) (f : Face K) → Each (IsSilentPart cmp matching) (hiding_undeclared cmp matching id given f)
  silent_hiding_undeclared id given f = cases (undeclared cmp matching id given f)
    where
      cases : (o : Option K) → Each (IsSilentPart cmp matching) (elim o [ None ↦ [] | Some e ↦ hiding cmp f.region e ])
      cases None = tt
      cases (Some e) = silent_hiding f.region e

  pub silent_finalising : (n id : ℕ) (interest : InterestRow K) → Each (IsSilentPart cmp matching) (finalising cmp matching n id interest)
  silent_finalising n id interest = (quiet_face cmp matching n (unheld id) (λ k. refl) (λ k rows. record { live = rows.live; held = rise_without_id id k.held rows.held; locals = rows.locals; pendings = rows.pendings; asks = rows.asks }), (λ g. each_ruled_one DrawsNothing n (untell_to cmp matching g) g (silent_untell cmp matching g), (λ g. each_ruled_one DrawsNothing n (final_of_both id interest) g (silent_final_of_both id interest), (λ g. each_ruled DrawsNothing (end_upstream_to cmp matching g interest) g.faces (silent_end_upstream cmp matching g interest), tt))))

  pub silent_ending : (n id : ℕ) → Each (IsSilentPart cmp matching) (ending n id)
  silent_ending n id = (quiet_face cmp matching n (ended id) (λ k. refl) (λ k rows. record { live = rows.live; held = rows.held; locals = rows.locals; pendings = rise_without_id id k.pendings rows.pendings; asks = rows.asks }), (λ g. each_ruled DrawsNothing (finish_to g n id) g.faces (silent_finish g n id), tt))

  pub silent_finishing : (n id : ℕ) (f : Face K) → Each (IsSilentPart cmp matching) (finishing n id f)
  silent_finishing n id f = (
    quiet_face cmp matching n (initial_finalised id) (λ k. refl) (λ k rows. record { live = rows.live; held = rows.held; locals = rows.locals; pendings = rows.pendings; asks = rows.asks }),
    of_cond (Each (IsSilentPart cmp matching)) (has_id id f.pendings) (ending n id) [] (λ _. silent_ending n id) (λ _. tt),
  )

  pub silent_expiring : (now : ℕ) (g : Rows K) → Each (IsSilentPart cmp matching) (expiring now g)
  silent_expiring now g = (
    quiet_moment now,
    each_flat_map (IsSilentPart cmp matching) (λ f. flat_map (λ row. ending f.number row.0) (filter (is_expired now g.timeout) f.pendings)) g.faces
        (λ f. each_flat_map (IsSilentPart cmp matching) (λ row. ending f.number row.0) (filter (is_expired now g.timeout) f.pendings) (λ row. silent_ending f.number row.0)),
  )

  pub silent_leaving : (n : ℕ) (f : Face K) → Each (IsSilentPart cmp matching) (leaving cmp matching n f)
  silent_leaving n f =
      let undeclares = λ (row : ℕ × K). undeclaring cmp matching n row.0 None f ++ hiding cmp f.region row.1 in
      let finalises = λ (row : ℕ × InterestRow K). finalising cmp matching n row.0 row.1 in
      let ends = flat_map (λ row. ending n row.0) f.pendings in
      each_append (IsSilentPart cmp matching) (flat_map undeclares f.live ++ flat_map finalises f.held) (Alter (with_face n without_asks) ∷ ends)
      (each_append (IsSilentPart cmp matching) (flat_map undeclares f.live) (flat_map finalises f.held)
      (each_flat_map (IsSilentPart cmp matching) undeclares f.live (λ row. each_append (IsSilentPart cmp matching) (undeclaring cmp matching n row.0 None f) (hiding cmp f.region row.1) (silent_undeclaring n row.0 None f) (silent_hiding f.region row.1)))
      (each_flat_map (IsSilentPart cmp matching) finalises f.held (λ row. silent_finalising n row.0 row.1))) (
        quiet_face cmp matching n without_asks (λ k. refl) (λ k rows. record { live = rows.live; held = rows.held; locals = rows.locals; pendings = rows.pendings; asks = tt }),
        each_flat_map (IsSilentPart cmp matching) (λ row. ending n row.0) f.pendings (λ row. silent_ending n row.0),
      )

  pub silent_undeclaring_routed : (n : ℕ) (source : Zid) (e : K) (f : Face K) → Each (IsSilentPart cmp matching) (undeclaring_routed cmp matching n source e f)
  silent_undeclaring_routed n source e f = (quiet_without_routed f.region source e, (λ g. each_filter (λ s. DrawsNothing s.1) (λ s. not (n == s.0)) (to_each (unpass_to cmp g f.region source e) g.faces) (each_ruled DrawsNothing (unpass_to cmp g f.region source e) g.faces (silent_unpass cmp matching g f.region source e)), (silent_forgetting f.region e, silent_hiding f.region e)))

  pub silent_undeclaring_of : (n : ℕ) (source : Option Zid) (given : Option K) (f : Face K) → Each (IsSilentPart cmp matching) (undeclaring_of cmp matching n source given f)
  silent_undeclaring_of n None given f = tt
  silent_undeclaring_of n (Some source) None f = tt
  silent_undeclaring_of n (Some source) (Some e) f = silent_undeclaring_routed n source e f

  pub silent_changing : (region : Region) (t : Trees) (g : Rows K) → Each (IsSilentPart cmp matching) (changing_table cmp matching region t g)
  silent_changing region t g =
      let counted = counted_table t in
      let forgets = λ (e : K). Say (λ h. to_each (forget_to cmp matching h region e) h.faces) ∷ hiding cmp region e in (
        quiet_without_left_out region counted,
        each_append (IsSilentPart cmp matching) (flat_map forgets (left_out cmp region counted g)) _
            (each_flat_map (IsSilentPart cmp matching) forgets (left_out cmp region counted g) (λ e. (silent_forgetting region e, silent_hiding region e))) (
              quiet_table region t,
              (
                λ h. each_ruled DrawsNothing (greet_to cmp h region (table_of g region)) h.faces (silent_greet cmp matching h region (table_of g region)),
                tt,
              ),
            ),
      )

  module _ (total : IsTotalOrder cmp) where
    pub quiet_with_routed : (region : Region) (source : Zid) (e : K) → IsQuiet cmp matching (with_routed cmp region source e)
    unfolding with_routed
    quiet_with_routed region source e =
        quiet_routed (λ g. with_key (routed_order cmp) (row_at cmp region source e) g.routed) (λ g ordered. in_order_with_key (routed_order cmp) (routed_total total) (row_at cmp region source e) g.routed ordered)

    pub quiet_own_rows : (rs : List Region) (e : K) → IsQuiet cmp matching (with_own_rows cmp rs e)
    unfolding with_own_rows
    quiet_own_rows [] e = λ g lists. (lists, refl, refl)
    quiet_own_rows (r ∷ rs) e = λ g lists.
        let one = quiet_with_routed r g.zid e g lists in
        let rest = quiet_own_rows rs e (with_routed cmp r g.zid e g) one.0 in
        (rest.0, rest.1 ∙ one.1, rest.2 ∙ one.2)

    -- ---- the dictionary

    keys_once_push : (e : K) (ks : List K) → is_among cmp e ks ≡ false → KeysOnce cmp ks → KeysOnce cmp (ks ++ e ∷ [])
    keys_once_push e [] new_ once = (refl, tt)
    keys_once_push e (k ∷ ks) new_ once =
        by_test (same cmp e k)
        (λ here. let hit : true ≡ false = rw here at new_ in cc)
        (λ here.
        let later : is_among cmp e ks ≡ false = rw here at new_ in
        (any-append (same cmp k) ks (e ∷ []) ∙ or_from (is_among cmp k ks) (is_among cmp k (e ∷ [])) once.0 (or_from (same cmp k e) false (same_back cmp total k e ∙ here) refl), keys_once_push e ks later once.1))

    numbered_once : (es known : List K) → KeysOnce cmp known → KeysOnce cmp (numbered_with cmp es known)
    unfolding numbered_with
    numbered_once [] known once = once
    numbered_once (e ∷ es) known once =
        numbered_once es (if is_among cmp e known then known else known ++ e ∷ []) (of_cond (KeysOnce cmp) (is_among cmp e known) known (known ++ e ∷ []) (λ _. once) (λ new_. keys_once_push e known new_ once))

    pub quiet_numbers : (es : List K) → IsQuiet cmp matching (with_numbers cmp es)
    quiet_numbers es = λ g lists. (
      record { faces_rise = lists.faces_rise; faces_made = lists.faces_made; rows = lists.rows; routed = lists.routed; trees = lists.trees; dictionary = numbered_once es g.dictionary lists.dictionary },
      refl,
      refl,
    )

    pub quiet_entities : (n : ℕ) (subscribers : List K) (queryables : List (K × QueryableInfo)) → IsQuiet cmp matching (with_entities cmp n subscribers queryables)
    quiet_entities n subscribers queryables = λ g lists.
        let one = quiet_numbers (entity_expressions cmp subscribers queryables) g lists in
        let rest = quiet_face cmp matching n (λ f. record f { subscribers = subscribers; queryables = queryables }) (λ k. refl) (λ k rows. record { live = rows.live; held = rows.held; locals = rows.locals; pendings = rows.pendings; asks = rows.asks }) (with_numbers cmp (entity_expressions cmp subscribers queryables) g) one.0 in
        (rest.0, rest.1 ∙ one.1, rest.2 ∙ one.2)

    -- ---- parts that tell

    pub orderly_telling : (source : Region) (e : K) → IsOrderlyPart cmp matching (Say (λ g. to_each (tell_to cmp matching g source e) g.faces))
    orderly_telling source e = orderly_each cmp matching (λ g f. tell_to cmp matching g source e f) (λ g f ordered. in_order_tell cmp total matching g source e f ordered)

    pub orderly_showing : (source : Region) (e : K) → Each (IsOrderlyPart cmp matching) (showing cmp source e)
    orderly_showing source e = (orderly_if_silent cmp matching (Say (λ g. to_each (show_to cmp g source e) g.faces)) (λ g. each_ruled DrawsNothing (show_to cmp g source e) g.faces (silent_show cmp matching g source e)), (λ g lists. quiet_own_rows (filter (is_newly_shown cmp g source e) (router_regions g)) e g lists, tt))

    pub orderly_answering : (n : ℕ) (interest : Option ℕ) (e : K) (f : Face K) → Each (IsOrderlyPart cmp matching) (answering cmp matching n interest e f)
    orderly_answering n None e f = tt
    orderly_answering n (Some id) e f =
        of_cond (Each (IsOrderlyPart cmp matching)) (has_id id f.pendings) (Say (λ g. to_each (answer_to cmp matching n id e) g.faces) ∷ []) []
        (λ _. (orderly_each cmp matching (λ g f. answer_to cmp matching n id e f) (λ g f ordered. in_order_answer cmp total matching n id e f ordered), tt)) (λ _. tt)

    pub orderly_declaring : (n id : ℕ) (e : K) (f : Face K) → Each (IsOrderlyPart cmp matching) (declaring cmp matching n id e f)
    orderly_declaring n id e f = (quiet_face cmp matching n (registered id e) (λ k. refl) (λ k rows. record { live = rise_put id e k.live rows.live; held = rows.held; locals = rows.locals; pendings = rows.pendings; asks = rows.asks }), (orderly_telling f.region e, tt))

    pub orderly_declaring_of : (n : ℕ) (source : Option Zid) (e : K) (f : Face K) → Each (IsOrderlyPart cmp matching) (declaring_of cmp matching n source e f)
    orderly_declaring_of n None e f = tt
    orderly_declaring_of n (Some source) e f = (
      quiet_with_routed f.region source e,
      (
        orderly_if_silent cmp matching (Say (λ g. filter (λ s. not (n == s.0)) (to_each (pass_to cmp g f.region source e) g.faces)))
            (λ g. each_filter (λ s. DrawsNothing s.1) (λ s. not (n == s.0)) (to_each (pass_to cmp g f.region source e) g.faces) (each_ruled DrawsNothing (pass_to cmp g f.region source e) g.faces (silent_pass cmp matching g f.region source e))),
        (orderly_telling f.region e, orderly_showing f.region e),
      ),
    )

    pub orderly_interesting : (pendings : List (ℕ × ℕ)) (n id : ℕ) (interest : InterestRow K) → Each (IsOrderlyPart cmp matching) (interesting_above cmp matching pendings n id interest)
    orderly_interesting pendings n id interest = (
      quiet_face cmp matching n (asked_as pendings id interest) (λ k. refl) (λ k rows. record { live = rows.live; held = rise_put_if (is_future interest.mode) id _ k.held rows.held; locals = rows.locals; pendings = rows.pendings; asks = rise_put_if (is_current interest.mode) id _ k.asks rows.asks }),
      (
        orderly_one cmp matching n (λ g f. answers_of cmp matching g id interest f)
            (λ g f ordered. in_order_answers cmp total matching g.moment interest.mode id (answered_expressions cmp matching g interest f) f (answered_in_order cmp matching total g interest f) ordered),
        (orderly_if_silent cmp matching (Say (λ g. to_face n (final_of id) g)) (λ g. each_ruled_one DrawsNothing n (final_of id) g (silent_final id)), tt),
      ),
    )

    pub orderly_asking : (n id : ℕ) (interest : InterestRow K) (asker : Region) (g : Rows K) → Each (IsOrderlyPart cmp matching) (asking cmp matching n id interest asker g)
    orderly_asking n id interest asker g = (quiet_numbers (numbered_by cmp interest), (orderly_each cmp matching (λ h f. route_to h asker interest f) (λ h f ordered. in_order_nothings cmp (route_to h asker interest f) (told_of f) (silent_route h asker interest f) ordered), (orderly_if_silent cmp matching (Say (λ h. to_face n (entities_for cmp matching h id interest) h)) (λ h. each_ruled_one DrawsNothing n (entities_for cmp matching h id interest) h (silent_entities cmp matching h id interest)), orderly_interesting (sent_as g asker interest.mode) n id interest)))

    -- ---- opening and closing

    -- a face under the next number, whose lists are in order
    opened_in_order : (f : Face K) (g : Rows K) → f.number ≡ g.made + 1 → HasRowsInOrder f → IsInOrder cmp (told_of f) → RowsAreInOrder cmp matching g → RowsAreInOrder cmp matching (record g { made = g.made + 1; faces = g.faces ++ f ∷ [] })
    opened_in_order f g number_ rows_ told_ ordered = record {
      lists = record {
        faces_rise = rise_push (λ f. f.number) 1 g.faces f (omega arith) (each_weaker (λ h. h.number ≤ g.made) (λ h. h.number < f.number) (λ h up. omega arith) g.faces ordered.lists.faces_made) ordered.lists.faces_rise;
        faces_made = each_append (λ h. h.number ≤ g.made + 1) g.faces (f ∷ []) (each_weaker (λ h. h.number ≤ g.made) (λ h. h.number ≤ g.made + 1) (λ h up. omega arith) g.faces ordered.lists.faces_made) (omega arith, tt);
        rows = each_append HasRowsInOrder g.faces (f ∷ []) ordered.lists.rows (rows_, tt);
        routed = ordered.lists.routed;
        trees = ordered.lists.trees;
        dictionary = ordered.lists.dictionary;
      };
      told = each_append (λ h. IsInOrder cmp (told_of h)) g.faces (f ∷ []) ordered.told (told_, tt);
    }

    pub session_in_order : (first : ℕ) (g : Rows K) → 1 ≤ first → RowsAreInOrder cmp matching g → RowsAreInOrder cmp matching (opened_session first g)
    session_in_order first g real ordered =
        opened_in_order _ g refl (record { live = tt; held = tt; locals = tt; pendings = tt; asks = tt }) (record { next_is_real = real; rises = tt; below = tt; once = tt }) ordered

    pub transport_in_order : (zid : Zid) (whatami : WhatAmI) (region : Region) (bound : Bound) (first : ℕ) (g : Rows K) → 1 ≤ first → RowsAreInOrder cmp matching g → RowsAreInOrder cmp matching (opened zid whatami region bound first g)
    transport_in_order zid whatami region bound first g real ordered =
        opened_in_order (face_opened zid whatami region bound first g) g refl (record { live = tt; held = tt; locals = tt; pendings = tt; asks = tt }) (record { next_is_real = real; rises = tt; below = tt; once = tt }) ordered

    -- the face of a new number was told nothing
    pub told_nothing_new : (f : Face K) (g : Rows K) → f.told ≡ [] → ListsAreInOrder cmp matching g → Each (λ h. (g.made + 1 == h.number) ≡ true → h.told ≡ []) (g.faces ++ f ∷ [])
    told_nothing_new f g none_ lists =
        each_append (λ h. (g.made + 1 == h.number) ≡ true → h.told ≡ []) g.faces (f ∷ [])
        (each_weaker (λ h. h.number ≤ g.made) (λ h. (g.made + 1 == h.number) ≡ true → h.told ≡ []) (λ h up hit. never hit (ne_eqb (g.made + 1) h.number (λ e. omega arith))) g.faces lists.faces_made)
        ((λ hit. none_), tt)

    pub opening_tokens_once : (g : Rows K) (f : Face K) → KeysOnce cmp (opening_tokens cmp matching g f)
    opening_tokens_once g f =
        of_cond (KeysOnce cmp) (is_greeted cmp matching g f) (visible_expressions cmp g f.region) [] (λ _. once_in_order cmp (visible_expressions cmp g f.region) (visible_expressions_in_order cmp total g f.region)) (λ _. tt)

    -- tokens for a face that was told nothing
    pub greeted_in_order : (n : ℕ) (g : Rows K) → ListsAreInOrder cmp matching g → AreInOrder cmp (tolds cmp g) → Each (λ f. (n == f.number) ≡ true → f.told ≡ []) g.faces → AreInOrder cmp (tolds_after cmp (to_face n (λ f. tokens_from f.next (opening_tokens cmp matching g f)) g) (tolds cmp g))
    greeted_in_order n g lists ordered none_ =
        orderly_at cmp matching n (λ f. tokens_from f.next (opening_tokens cmp matching g f)) g lists
        (each_both (λ f. IsInOrder cmp (told_of f)) (λ f. (n == f.number) ≡ true → f.told ≡ []) (λ f. IsInOrder cmp (told_of f) × (IsInOrder cmp (told_of f) → (n == f.number) ≡ true → IsInOrder cmp (told_of (heard_all cmp g.moment (tokens_from f.next (opening_tokens cmp matching g f)) f))))
        (λ f ordered_ nothing. (
          ordered_,
          λ own hit.
              subst (IsInOrder cmp) (sym (told_alone cmp g.moment (tokens_from f.next (opening_tokens cmp matching g f)) f))
              (in_order_tokens cmp total matching (opening_tokens cmp matching g f) f.next (told_of f) refl (opening_tokens_once g f)
              (each_always (λ e. names cmp e f.told ≡ false) (λ e. ap (names cmp e) (nothing hit)) (opening_tokens cmp matching g f)) own),
        ))
        g.faces (each_of_map (IsInOrder cmp) told_of g.faces ordered) none_)

    -- interests for one face leave what was told there
    pub none_after_interests : (n : ℕ) (is : Face K → List (InterestRow K)) (g : Rows K) → ListsAreInOrder cmp matching g → Each (λ f. (n == f.number) ≡ true → f.told ≡ []) g.faces → Each (λ f. (n == f.number) ≡ true → f.told ≡ []) (rows_heard cmp (to_face n (λ f. interests_from f.next (is f)) g) g).faces
    unfolding with_face
    none_after_interests n is g lists none_ =
        let hears = λ (f : Face K). heard_all cmp g.moment (interests_from f.next (is f)) f in
        let changes = λ (f : Face K). if n == f.number then hears f else f in
        let told_ = λ (f : Face K). told_alone cmp g.moment (interests_from f.next (is f)) f in
        let rows_ = λ (f : Face K). chosen_leaves (λ k. k.told) hears (n == f.number) f (ap (λ (t : Told K). t.rows) (told_ f) ∙ interests_leave_rows cmp f.next (is f) (told_of f)) in
        let number_ = λ (f : Face K). chosen_leaves (λ k. k.number) hears (n == f.number) f (heard_all-number cmp g.moment (interests_from f.next (is f)) f) in
        subst (λ (h : Rows K). Each (λ f. (n == f.number) ≡ true → f.told ≡ []) h.faces) (sym (rows_heard-to_face cmp 1 n (λ f. interests_from f.next (is f)) g lists.faces_rise))
        (each_map (λ f. (n == f.number) ≡ true → f.told ≡ []) changes g.faces
        (each_weaker (λ f. (n == f.number) ≡ true → f.told ≡ []) (λ f. (n == (changes f).number) ≡ true → (changes f).told ≡ []) (λ f nothing hit. rows_ f ∙ nothing (ap (λ k. n == k) (sym (number_ f)) ∙ hit)) g.faces none_))

    pub opening_in_order : (zid : Zid) (whatami : WhatAmI) (region : Region) (bound : Bound) (first : ℕ) (g : Rows K) → 1 ≤ first → RowsAreInOrder cmp matching g
        → AreInOrder cmp (tolds_after cmp (said_by cmp matching (opening cmp matching zid whatami region bound first g) g) (tolds cmp (opened zid whatami region bound first g)))
    unfolding said_by
    opening_in_order zid whatami region bound first g real rows =
        let n = g.made + 1 in
        let one = opened zid whatami region bound first g in
        let opens = transport_in_order zid whatami region bound first g real rows in
        let interests = to_face n (λ f. interests_from f.next (opening_interests cmp matching one f)) one in
        let two = rows_heard cmp interests one in
        let two_lists = lists_heard cmp matching interests one opens.lists in
        let two_ordered : AreInOrder cmp (tolds cmp two) =
        heard_in_order cmp matching interests one
        (nothing_told cmp interests (tolds cmp one) (each_ruled_one TellsNothing n (λ f. interests_from f.next (opening_interests cmp matching one f)) one (λ f. interests_tell_nothing cmp f.next (opening_interests cmp matching one f))) (tolds_in_order cmp matching one opens)) in
        let tokens = to_face n (λ f. tokens_from f.next (opening_tokens cmp matching two f)) two in
        let greets = greeted_in_order n two two_lists two_ordered (none_after_interests n (opening_interests cmp matching one) one opens.lists (told_nothing_new (face_opened zid whatami region bound first g) g refl rows.lists)) in
        let three = rows_heard cmp tokens two in
        let finals : List (Part K) = Say (λ h. to_face n (opening_final cmp matching) h) ∷ [] in
        said_then cmp matching interests (tokens ++ said_by cmp matching finals three) one
        (said_then cmp matching tokens (said_by cmp matching finals three) two
        (said_in_order cmp matching finals three
        (orderly_if_silent cmp matching (Say (λ h. to_face n (opening_final cmp matching) h)) (λ h. each_ruled_one DrawsNothing n (opening_final cmp matching) h (silent_opening_final cmp matching)), tt)
        (lists_heard cmp matching tokens two two_lists) (heard_in_order cmp matching tokens two greets)))

    pub without_face_in_order : (n : ℕ) (g : Rows K) → ListsAreInOrder cmp matching g → ListsAreInOrder cmp matching (without_face n g)
    without_face_in_order n g lists = record {
      faces_rise = rise_filter (λ f. f.number) 1 (λ f. not (n == f.number)) g.faces lists.faces_rise;
      faces_made = each_filter (λ f. f.number ≤ g.made) (λ f. not (n == f.number)) g.faces lists.faces_made;
      rows = each_filter HasRowsInOrder (λ f. not (n == f.number)) g.faces lists.rows;
      routed = lists.routed;
      trees = lists.trees;
      dictionary = lists.dictionary;
    }

    tolds_without : (n : ℕ) (ss : Sends K) (g : Rows K) → AreInOrder cmp (tolds_after cmp ss (tolds cmp g)) → AreInOrder cmp (tolds_after cmp ss (tolds cmp (without_face n g)))
    tolds_without n ss g ordered =
        let kept = filter (λ f. not (n == f.number)) g.faces in
        let hears = λ (t : Told K). told_by_all cmp (messages_for t.number ss) t in
        each_map (IsInOrder cmp) hears (map told_of kept)
        (each_map (λ t. IsInOrder cmp (hears t)) told_of kept
        (each_filter (λ f. IsInOrder cmp (hears (told_of f))) (λ f. not (n == f.number)) g.faces
        (each_of_map (λ t. IsInOrder cmp (hears t)) told_of g.faces (each_of_map (IsInOrder cmp) hears (tolds cmp g) ordered))))

    pub closing_orderly : (n : ℕ) (f : Face K) (g : Rows K) → (let parts : List (Part K) = if is_routed g f then [] else unsaid_to n (leaving cmp matching n f) in Each (IsOrderlyPart cmp matching) parts)
    closing_orderly n f g =
        let parts : List (Part K) = if is_routed g f then [] else unsaid_to n (leaving cmp matching n f) in
        orderly_parts cmp matching parts
        (of_cond (Each (IsSilentPart cmp matching)) (is_routed g f) [] (unsaid_to n (leaving cmp matching n f)) (λ _. tt) (λ _. silent_unsaid cmp matching n (leaving cmp matching n f) (silent_leaving n f)))

    closing_in_order : (n : ℕ) (f : Face K) (g : Rows K) → RowsAreInOrder cmp matching g
        → (let parts = closing cmp matching n g f in RowsAreInOrder cmp matching (rows_heard cmp (said_by cmp matching parts g) (altered_by cmp matching parts g)))
    closing_in_order n f g rows =
        let parts : List (Part K) = if is_routed g f then [] else unsaid_to n (leaving cmp matching n f) in
        let orderly = closing_orderly n f g in
        let ss = said_by cmp matching parts g in
        let before = altered_by cmp matching parts g in
        let alters = altered_in_order cmp matching parts g orderly rows.lists in
        let ordered : AreInOrder cmp (tolds_after cmp ss (tolds cmp before)) = subst (λ ts. AreInOrder cmp (tolds_after cmp ss ts)) (sym alters.1) (said_in_order cmp matching parts g orderly rows.lists (tolds_in_order cmp matching g rows)) in
        subst (λ ts. RowsAreInOrder cmp matching (rows_heard cmp ts (altered_by cmp matching (parts ++ Alter (without_face n) ∷ []) g))) (sym (said_by_last cmp matching parts (without_face n) g))
        (subst (λ (h : Rows K). RowsAreInOrder cmp matching (rows_heard cmp ss h)) (sym (altered_by_last cmp matching parts (without_face n) g))
        (in_order_by cmp matching (rows_heard cmp ss (without_face n before)) (lists_heard cmp matching ss (without_face n before) (without_face_in_order n before alters.0))
        (heard_in_order cmp matching ss (without_face n before) (tolds_without n ss before ordered))))

    -- the rows without a face that is closed, before what is said then is heard
    pub closed_in_order : (n : ℕ) (g : Rows K) → RowsAreInOrder cmp matching g → RowsAreInOrder cmp matching (altered cmp matching (CloseFace n) g)
    unfolding parts_of altered_by
    closed_in_order n g rows = cases (find_face n g)
      where
        closed : (f : Face K) → RowsAreInOrder cmp matching (altered_by cmp matching (closing cmp matching n g f) g)
        closed f =
            let parts : List (Part K) = if is_routed g f then [] else unsaid_to n (leaving cmp matching n f) in
            let before = altered_by cmp matching parts g in
            let alters = altered_in_order cmp matching parts g (closing_orderly n f g) rows.lists in
            let ordered = in_order_by cmp matching before alters.0 (subst (AreInOrder cmp) (sym alters.1) (tolds_in_order cmp matching g rows)) in
            subst (RowsAreInOrder cmp matching) (sym (altered_by_last cmp matching parts (without_face n) g))
            (record { lists = without_face_in_order n before alters.0; told = each_filter (λ h. IsInOrder cmp (told_of h)) (λ h. not (n == h.number)) before.faces ordered.told })

        cases : (o : Option (Face K)) → (let parts : List (Part K) = elim o [ None ↦ [] | Some f ↦ closing cmp matching n g f ] in RowsAreInOrder cmp matching (altered_by cmp matching parts g))
        cases None = rows
        cases (Some f) = closed f

    -- and what was told at its faces was told before
    pub closed_each : (P : Told K → Type 0) (n : ℕ) (g : Rows K) → ListsAreInOrder cmp matching g → Each (λ f. P (told_of f)) g.faces → Each (λ f. P (told_of f)) (altered cmp matching (CloseFace n) g).faces
    unfolding parts_of altered_by
    closed_each P n g lists all = cases (find_face n g)
      where
        cases : (o : Option (Face K)) → (let parts : List (Part K) = elim o [ None ↦ [] | Some f ↦ closing cmp matching n g f ] in Each (λ f. P (told_of f)) (altered_by cmp matching parts g).faces)
        cases None = all
        cases (Some f) =
            let parts : List (Part K) = if is_routed g f then [] else unsaid_to n (leaving cmp matching n f) in
            let before = altered_by cmp matching parts g in
            let alters = altered_in_order cmp matching parts g (closing_orderly n f g) lists in
            subst (λ (h : Rows K). Each (λ f. P (told_of f)) h.faces) (sym (altered_by_last cmp matching parts (without_face n) g))
            (each_filter (λ h. P (told_of h)) (λ h. not (n == h.number)) before.faces (each_of_map P told_of before.faces (subst (Each P) (sym alters.1) (each_map P told_of g.faces all))))

    -- and none of its faces has the number
    pub closed_apart : (n : ℕ) (g : Rows K) → Each (λ f. (n == f.number) ≡ false) (altered cmp matching (CloseFace n) g).faces
    unfolding parts_of altered_by
    closed_apart n g = cases (find_face n g) refl
      where
        cases : (o : Option (Face K)) → find_face n g ≡ o → (let parts : List (Part K) = elim o [ None ↦ [] | Some f ↦ closing cmp matching n g f ] in Each (λ f. (n == f.number) ≡ false) (altered_by cmp matching parts g).faces)
        cases None found = find_none (λ f. n == f.number) g.faces found
        cases (Some f) found =
            let parts : List (Part K) = if is_routed g f then [] else unsaid_to n (leaving cmp matching n f) in
            let before = altered_by cmp matching parts g in
            subst (λ (h : Rows K). Each (λ f. (n == f.number) ≡ false) h.faces) (sym (altered_by_last cmp matching parts (without_face n) g))
            (each_weaker (λ h. not (n == h.number) ≡ true) (λ h. (n == h.number) ≡ false) (λ h passes. not-true (n == h.number) passes) (filter (λ h. not (n == h.number)) before.faces) (each_passes (λ h. not (n == h.number)) before.faces))

    -- ---- calls

    -- a call that opens or closes no face
    abbrev pub keeps_faces : PlainCall K → Bool
    keeps_faces (NewSession first) = false
    keeps_faces (NewTransport zid whatami region bound first) = false
    keeps_faces (CloseFace n) = false
    keeps_faces _ = true

    pub orderly_found : (n : ℕ) (g : Rows K) (parts : Face K → List (Part K)) → ((f : Face K) → Each (IsOrderlyPart cmp matching) (parts f)) → Each (IsOrderlyPart cmp matching) (elim (find_face n g) [ None ↦ [] | Some f ↦ parts f ])
    orderly_found n g parts h = cases (find_face n g)
      where
        cases : (o : Option (Face K)) → Each (IsOrderlyPart cmp matching) (elim o [ None ↦ [] | Some f ↦ parts f ])
        cases None = tt
        cases (Some f) = h f

    pub orderly_call : (c : PlainCall K) (g : Rows K) → keeps_faces c ≡ true → Each (IsOrderlyPart cmp matching) (parts_of cmp matching c g)
    unfolding parts_of
    orderly_call (DeclareToken n id e node interest) g keeps_ =
        orderly_found n g _
        (λ f.
        of_cond (Each (IsOrderlyPart cmp matching)) (is_routed g f) (declaring_of cmp matching n (source_of g f node) e f)
        (answering cmp matching n interest e f ++ (if registers f interest then declaring cmp matching n id e f ++ showing cmp f.region e else []))
        (λ _. orderly_declaring_of n (source_of g f node) e f)
        (λ _. each_append (IsOrderlyPart cmp matching) (answering cmp matching n interest e f) (if registers f interest then declaring cmp matching n id e f ++ showing cmp f.region e else []) (orderly_answering n interest e f)
        (of_cond (Each (IsOrderlyPart cmp matching)) (registers f interest) (declaring cmp matching n id e f ++ showing cmp f.region e) []
        (λ _. each_append (IsOrderlyPart cmp matching) (declaring cmp matching n id e f) (showing cmp f.region e) (orderly_declaring n id e f) (orderly_showing f.region e)) (λ _. tt))))
    orderly_call (UndeclareToken n id given node) g keeps_ =
        orderly_found n g _
        (λ f.
        of_cond (Each (IsOrderlyPart cmp matching)) (is_routed g f) (undeclaring_of cmp matching n (source_of g f node) given f) (undeclaring cmp matching n id given f ++ hiding_undeclared cmp matching id given f)
        (λ _. orderly_parts cmp matching (undeclaring_of cmp matching n (source_of g f node) given f) (silent_undeclaring_of n (source_of g f node) given f))
        (λ _. orderly_parts cmp matching (undeclaring cmp matching n id given f ++ hiding_undeclared cmp matching id given f)
        (each_append (IsSilentPart cmp matching) (undeclaring cmp matching n id given f) (hiding_undeclared cmp matching id given f) (silent_undeclaring n id given f) (silent_hiding_undeclared id given f))))
    orderly_call (Interest n id mode options e) g keeps_ = orderly_found n g _ (λ f. orderly_asking n id (row_of cmp matching f mode options e) f.region g)
    orderly_call (InterestFinal n id) g keeps_ = orderly_found n g _ (λ f. orderly_parts cmp matching (finalising_held cmp matching n id f) (finals (at_id id f.held)))
      where
        finals : (o : Option (InterestRow K)) → Each (IsSilentPart cmp matching) (elim o [ None ↦ [] | Some interest ↦ finalising cmp matching n id interest ])
        finals None = tt
        finals (Some interest) = silent_finalising n id interest
    orderly_call (DeclareFinal n id) g keeps_ = orderly_found n g _ (λ f. orderly_parts cmp matching (finishing n id f) (silent_finishing n id f))
    orderly_call (Expire now) g keeps_ = orderly_parts cmp matching (expiring now g) (silent_expiring now g)
    orderly_call (SetTrees region t) g keeps_ = orderly_parts cmp matching (changing_table cmp matching region t g) (silent_changing region t g)
    orderly_call (SetEntities n subscribers queryables) g keeps_ = (quiet_entities n subscribers queryables, tt)
    orderly_call (NewSession first) g keeps_ = never keeps_ refl
    orderly_call (NewTransport zid whatami region bound first) g keeps_ = never keeps_ refl
    orderly_call (CloseFace n) g keeps_ = never keeps_ refl

    each_by_tolds : (Q : ℕ → Type 0) (g h : Rows K) → tolds cmp h ≡ tolds cmp g → Each (λ f. Q f.number) g.faces → Each (λ f. Q f.number) h.faces
    each_by_tolds Q g h same_ all = each_of_map (λ t. Q t.number) told_of h.faces (subst (Each (λ t. Q t.number)) (sym same_) (each_map (λ t. Q t.number) told_of g.faces all))

    altered_kept : (Q : ℕ → Type 0) (c : PlainCall K) (g : Rows K) → keeps_faces c ≡ true → ListsAreInOrder cmp matching g → Each (λ f. Q f.number) g.faces → Each (λ f. Q f.number) (altered cmp matching c g).faces × ((altered cmp matching c g).made ≡ g.made)
    altered_kept Q c g keeps_ lists all =
        let alters = altered_in_order cmp matching (parts_of cmp matching c g) g (orderly_call c g keeps_) lists in
        (each_by_tolds Q g (altered cmp matching c g) alters.1 all, alters.2)

    -- the numbers of the faces that a call leaves, where it opens none, and how many were made
    pub altered_faces : (Q : ℕ → Type 0) (c : PlainCall K) (g : Rows K) → opens_face c ≡ false → ListsAreInOrder cmp matching g → Each (λ f. Q f.number) g.faces → Each (λ f. Q f.number) (altered cmp matching c g).faces × ((altered cmp matching c g).made ≡ g.made)
    unfolding parts_of altered_by
    altered_faces Q (CloseFace n) g still lists all = cases (find_face n g)
      where
        closed : (f : Face K) → (let parts = closing cmp matching n g f in Each (λ f. Q f.number) (altered_by cmp matching parts g).faces × ((altered_by cmp matching parts g).made ≡ g.made))
        closed f =
            let parts : List (Part K) = if is_routed g f then [] else unsaid_to n (leaving cmp matching n f) in
            let alters = altered_in_order cmp matching parts g (closing_orderly n f g) lists in
            subst (λ (h : Rows K). Each (λ f. Q f.number) h.faces × (h.made ≡ g.made)) (sym (altered_by_last cmp matching parts (without_face n) g))
            (each_filter (λ f. Q f.number) (λ f. not (n == f.number)) (altered_by cmp matching parts g).faces (each_by_tolds Q g (altered_by cmp matching parts g) alters.1 all), alters.2)

        cases : (o : Option (Face K)) → (let parts : List (Part K) = elim o [ None ↦ [] | Some f ↦ closing cmp matching n g f ] in Each (λ f. Q f.number) (altered_by cmp matching parts g).faces × ((altered_by cmp matching parts g).made ≡ g.made))
        cases None = (all, refl)
        cases (Some f) = closed f
    altered_faces Q (NewSession first) g still lists all = never refl still
    altered_faces Q (NewTransport zid whatami region bound first) g still lists all = never refl still
    altered_faces Q (DeclareToken n id e node interest) g still lists all = altered_kept Q (DeclareToken n id e node interest) g refl lists all
    altered_faces Q (UndeclareToken n id given node) g still lists all = altered_kept Q (UndeclareToken n id given node) g refl lists all
    altered_faces Q (Interest n id mode options e) g still lists all = altered_kept Q (Interest n id mode options e) g refl lists all
    altered_faces Q (InterestFinal n id) g still lists all = altered_kept Q (InterestFinal n id) g refl lists all
    altered_faces Q (DeclareFinal n id) g still lists all = altered_kept Q (DeclareFinal n id) g refl lists all
    altered_faces Q (Expire now) g still lists all = altered_kept Q (Expire now) g refl lists all
    altered_faces Q (SetTrees region t) g still lists all = altered_kept Q (SetTrees region t) g refl lists all
    altered_faces Q (SetEntities n subscribers queryables) g still lists all = altered_kept Q (SetEntities n subscribers queryables) g refl lists all

    kept_in_order : (c : PlainCall K) (g : Rows K) → keeps_faces c ≡ true → RowsAreInOrder cmp matching g → RowsAreInOrder cmp matching (rows_after_call cmp matching c g)
    kept_in_order c g keeps_ rows = parts_in_order cmp matching (parts_of cmp matching c g) g (orderly_call c g keeps_) rows

    -- Every call leaves the rows of a gateway in order.
    pub in_order_after_call : (c : PlainCall K) (g : Rows K) → CallHasFirstIds c → RowsAreInOrder cmp matching g → RowsAreInOrder cmp matching (rows_after_call cmp matching c g)
    unfolding parts_of said_by altered_by
    in_order_after_call (NewSession first) g real rows = subst (RowsAreInOrder cmp matching) (sym (rows_heard_nothing cmp (opened_session first g))) (session_in_order first g real rows)
    in_order_after_call (NewTransport zid whatami region bound first) g real rows =
        let one = opened zid whatami region bound first g in
        let ss = said_by cmp matching (opening cmp matching zid whatami region bound first g) g in
        in_order_by cmp matching (rows_heard cmp ss one) (lists_heard cmp matching ss one (transport_in_order zid whatami region bound first g real rows).lists) (heard_in_order cmp matching ss one (opening_in_order zid whatami region bound first g real rows))
    in_order_after_call (CloseFace n) g real rows = cases (find_face n g)
      where
        cases : (o : Option (Face K)) → (let parts : List (Part K) = elim o [ None ↦ [] | Some f ↦ closing cmp matching n g f ] in RowsAreInOrder cmp matching (rows_heard cmp (said_by cmp matching parts g) (altered_by cmp matching parts g)))
        cases None = parts_in_order cmp matching [] g tt rows
        cases (Some f) = closing_in_order n f g rows
    in_order_after_call (DeclareToken n id e node interest) g real rows = kept_in_order (DeclareToken n id e node interest) g refl rows
    in_order_after_call (UndeclareToken n id given node) g real rows = kept_in_order (UndeclareToken n id given node) g refl rows
    in_order_after_call (Interest n id mode options e) g real rows = kept_in_order (Interest n id mode options e) g refl rows
    in_order_after_call (InterestFinal n id) g real rows = kept_in_order (InterestFinal n id) g refl rows
    in_order_after_call (DeclareFinal n id) g real rows = kept_in_order (DeclareFinal n id) g refl rows
    in_order_after_call (Expire now) g real rows = kept_in_order (Expire now) g refl rows
    in_order_after_call (SetTrees region t) g real rows = kept_in_order (SetTrees region t) g refl rows
    in_order_after_call (SetEntities n subscribers queryables) g real rows = kept_in_order (SetEntities n subscribers queryables) g refl rows

    altered_kept_in_order : (c : PlainCall K) (g : Rows K) → keeps_faces c ≡ true → RowsAreInOrder cmp matching g → RowsAreInOrder cmp matching (altered cmp matching c g)
    altered_kept_in_order c g keeps_ rows =
        let alters = altered_in_order cmp matching (parts_of cmp matching c g) g (orderly_call c g keeps_) rows.lists in
        in_order_by cmp matching (altered cmp matching c g) alters.0 (subst (AreInOrder cmp) (sym alters.1) (tolds_in_order cmp matching g rows))

    -- what a call itself changes leaves the rows in order
    pub altered_in_order_all : (c : PlainCall K) (g : Rows K) → CallHasFirstIds c → RowsAreInOrder cmp matching g → RowsAreInOrder cmp matching (altered cmp matching c g)
    unfolding parts_of altered_by
    altered_in_order_all (NewSession first) g real rows = session_in_order first g real rows
    altered_in_order_all (NewTransport zid whatami region bound first) g real rows = transport_in_order zid whatami region bound first g real rows
    altered_in_order_all (CloseFace n) g real rows = closed_in_order n g rows
    altered_in_order_all (DeclareToken n id e node interest) g real rows = altered_kept_in_order (DeclareToken n id e node interest) g refl rows
    altered_in_order_all (UndeclareToken n id given node) g real rows = altered_kept_in_order (UndeclareToken n id given node) g refl rows
    altered_in_order_all (Interest n id mode options e) g real rows = altered_kept_in_order (Interest n id mode options e) g refl rows
    altered_in_order_all (InterestFinal n id) g real rows = altered_kept_in_order (InterestFinal n id) g refl rows
    altered_in_order_all (DeclareFinal n id) g real rows = altered_kept_in_order (DeclareFinal n id) g refl rows
    altered_in_order_all (Expire now) g real rows = altered_kept_in_order (Expire now) g refl rows
    altered_in_order_all (SetTrees region t) g real rows = altered_kept_in_order (SetTrees region t) g refl rows
    altered_in_order_all (SetEntities n subscribers queryables) g real rows = altered_kept_in_order (SetEntities n subscribers queryables) g refl rows

    pub in_order_after_any : (c : PlainCall K) (g : Rows K) → CallHasFirstIds c → RowsAreInOrder cmp matching g → RowsAreInOrder cmp matching (rows_after cmp matching c g)
    unfolding rows_after
    in_order_after_any c g real rows = cases (cause_of cmp matching c g)
      where
        cases : (o : Option Refusal) → RowsAreInOrder cmp matching (elim o [ None ↦ rows_after_call cmp matching c g | Some refusal ↦ g ])
        cases None = in_order_after_call c g real rows
        cases (Some refusal) = rows
