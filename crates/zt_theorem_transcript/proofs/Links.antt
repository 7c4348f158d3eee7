-- A link that needs more ids than are left could spend them, as a transcript shows it.
use Rattle.std.proofs.Common.{◌≡◌, ℕ, ◌+◌, ◌-◌, ◌≤◌, Bool, true, false, cond, not, ◌==◌, ◌&&◌, ◌||◌, if◌then◌else◌, nat_lt, List, [], ◌∷◌, ◌++◌, length, map, Option, Some, None, refl, sym, ap, ◌∙◌, subst, arith, ne_eqb, le-ltb, le_trans}
use Rattle.std.proofs.lemmas.Bool.{and_right, or_left, or_right}
use Rattle.std.specs.Cmp.{IsTotalOrder}
use Rattle.std.specs.List.{flat_map, list_any}
use Rattle.std.specs.Option.{option_to_list}
use Rattle.std.specs.declared.cmp.Ordering.{Ordering}
use Rattle.std.specs.declared.cmp.Ordering.TheVariants.{Equal}
use Rattle.zt_region.specs.declared.region.Bound.{Bound}
use Rattle.zt_region.specs.declared.region.Region.{Region}
use Rattle.zt_region.specs.declared.region.WhatAmI.{WhatAmI}
use Rattle.zt_region.specs.declared.region.Zid.{Zid}
use Rattle.zt_region.specs.Region.{is_north}
use Rattle.zt_protocol.specs.Plain.{PlainCall, NewTransport}
use Rattle.zt_protocol.specs.declared.entries.Sent.{Sent}
use Rattle.zt_protocol.specs.declared.interests.InterestMode.TheVariants.{CurrentFuture}
use Rattle.zt_model.specs.Fabric.{CallAt, Fabric, Node, after_hearing, after_opening, at_nth, call_at, gateways_after_hearing, next_face, number_of_place, opened_at, opened_ends, opening_at, opening_calls, printed_for, rows_after_hearing, said_at, with_place, with_rows}
use Rattle.zt_model.specs.Hearing.{heard_all}
use Rattle.zt_model.specs.Linking.{LinkEnd, end_call, end_region}
use Rattle.zt_model.specs.Lists.{in_key_order, nth}
use Rattle.zt_model.specs.Refusals.{could_spend_ids, ids_for_opening, left_ids, need, spends_ids}
use Rattle.zt_model.specs.Routing.{face_opened, held_south, interest_order, is_greeted, leads_up, opened, opening_interests, opening_tokens}
use Rattle.zt_model.specs.Rows.{ById, Face, InterestRow, Rows}
use Rattle.zt_model.specs.Says.{altered_by, is_routed, parts_of}
use Rattle.zt_model.specs.Shown.{rows_shown, with_new_transport}
use Rattle.zt_model.specs.Transcript.{Each, openings, with_opening}
use Rattle.zt_model.specs.Visible.{live_rows, rows_of_face, routed_rows}
use Rattle.zt_laws.specs.Order.{FabricIsInOrder}
use Rattle.zt_laws.specs.Shown.{as_shown, call_shown, node_shown, without_own}
use Rattle.zt_laws.proofs.ShownRows.{opened_is_made}
use Rattle.zt_laws.proofs.Ends.{after_hearing-append, by_end, end_alone, ends_commute, nth_heard_none, said_within}
use Rattle.zt_laws.proofs.Hearing.{heard_all-held, heard_all-live, heard_all-number, heard_all-region}
use Rattle.zt_laws.proofs.Lists.{any-append, any_none, by_test, each_append, each_map, each_weaker, never}
use Rattle.zt_laws.proofs.LinesOrder.{called_at, gateway_in_order}
use Rattle.zt_theorem_drawn_ids.proofs.Needs.{visible_as}
use Rattle.zt_theorem_drawn_ids.proofs.Within.{opening_within_could, spends_could}
use Rattle.zt_theorem_visibility.proofs.Future.{call_at_shown, nth_map}
use Rattle.zt_theorem_transcript.proofs.Causes.{end_shown}
use Rattle.zt_theorem_transcript.proofs.Spends.{spend_shown}

-- the second of two tests, where the first fails
pub second_of : (a b : Bool) → a ≡ false → (a || b) ≡ true → b ≡ true
second_of true b fails h = never refl fails
second_of false b fails h = h

-- ---- what hearing leaves

flat_alike : {A B : Type 0} (one : A → List B) (change : A → A) (xs : List A) → ((x : A) → one (change x) ≡ one x) → flat_map one (map change xs) ≡ flat_map one xs
flat_alike one change [] same_ = refl
flat_alike one change (x ∷ xs) same_ = ap (λ ys. ys ++ flat_map one (map change xs)) (same_ x) ∙ ap (λ ys. one x ++ ys) (flat_alike one change xs same_)

module _ {K : Type 0} (cmp : K → K → Ordering) (matching : K → K → Bool) where
  heard_live : (s : Fabric K) (ms : List (Sent K)) (n : ℕ) (g : Rows K) → live_rows (rows_after_hearing cmp s ms n g) ≡ live_rows g
  heard_live s ms n g =
      ap (λ rows. rows ++ routed_rows g)
      (flat_alike rows_of_face (λ f. heard_all cmp g.moment (printed_for (number_of_place s n f.number) ms) f) g.faces
      (λ f.
      let ns = printed_for (number_of_place s n f.number) ms in
      ap (λ (live : ById K). map (λ row. ((heard_all cmp g.moment ns f).region, row.1)) live) (heard_all-live cmp g.moment ns f)
      ∙ ap (λ (r : Region). map (λ row. (r, row.1)) f.live) (heard_all-region cmp g.moment ns f)))

  heard_south : (s : Fabric K) (ms : List (Sent K)) (n : ℕ) (g : Rows K) → held_south cmp matching (rows_after_hearing cmp s ms n g) ≡ held_south cmp matching g
  unfolding held_south
  heard_south s ms n g =
      ap (in_key_order (interest_order cmp matching))
      (flat_alike holds (λ f. heard_all cmp g.moment (printed_for (number_of_place s n f.number) ms) f) g.faces
      (λ f.
      let ns = printed_for (number_of_place s n f.number) ms in
      ap (λ (rows : ById (InterestRow K)). if is_north (heard_all cmp g.moment ns f).region then [] else map (λ row. record row.1 { mode = CurrentFuture }) rows) (heard_all-held cmp g.moment ns f)
      ∙ ap (λ (r : Region). if is_north r then [] else map (λ row. record row.1 { mode = CurrentFuture }) f.held) (heard_all-region cmp g.moment ns f)))
    where
      holds : Face K → List (InterestRow K)
      holds f = if is_north f.region then [] else map (λ row. record row.1 { mode = CurrentFuture }) f.held

  -- an opening needs ids for its own face alone
  none_for_others : (g h : Rows K) (fs : List (Face K)) → Each (λ f. f.number ≤ h.made) fs → list_any (λ f. not (is_routed g f) && nat_lt (left_ids f) (ids_for_opening cmp matching h f)) fs ≡ false
  none_for_others g h fs made =
      any_none (λ f. not (is_routed g f) && nat_lt (left_ids f) (ids_for_opening cmp matching h f)) fs
      (each_weaker (λ f. f.number ≤ h.made) (λ f. (not (is_routed g f) && nat_lt (left_ids f) (ids_for_opening cmp matching h f)) ≡ false)
      (λ f up.
      let other : (f.number == h.made + 1) ≡ false = ne_eqb f.number (h.made + 1) (λ is. omega arith) in
      let zero_ : ids_for_opening cmp matching h f ≡ 0 = ap (λ b. if b then length (opening_interests cmp matching h f) + length (opening_tokens cmp matching h f) else 0) other in
      and_right (not (is_routed g f)) (nat_lt (left_ids f) (ids_for_opening cmp matching h f)) (le-ltb (left_ids f) (ids_for_opening cmp matching h f) (omega arith))) fs made)

  -- and as many, whatever was heard before
  ids_heard : (s : Fabric K) (ms : List (Sent K)) (n : ℕ) (g : Rows K) (f : Face K) → ids_for_opening cmp matching (rows_after_hearing cmp s ms n g) f ≡ ids_for_opening cmp matching g f
  ids_heard s ms n g f =
      ap (λ (is : List (InterestRow K)). if f.number == g.made + 1 then length (if leads_up g.mode f then is else []) + length (opening_tokens cmp matching (rows_after_hearing cmp s ms n g) f) else 0) (heard_south s ms n g)
      ∙ ap (λ (es : List K). if f.number == g.made + 1 then length (opening_interests cmp matching g f) + length (if is_greeted cmp matching g f then es else []) else 0)
      (visible_as cmp matching g (rows_after_hearing cmp s ms n g) f.region (heard_live s ms n g))

  spends_heard : (s : Fabric K) (ms : List (Sent K)) (n : ℕ) (g : Rows K) (zid : Zid) (whatami : WhatAmI) (region : Region) (bound : Bound) (first : ℕ) → Each (λ f. f.number ≤ g.made) g.faces
      → spends_ids cmp matching (NewTransport zid whatami region bound first) (rows_after_hearing cmp s ms n g) ≡ true → spends_ids cmp matching (NewTransport zid whatami region bound first) g ≡ true
  unfolding spends_ids need
  spends_heard s ms n g zid whatami region bound first made spent =
      let h = rows_after_hearing cmp s ms n g in
      let hears = λ (f : Face K). heard_all cmp g.moment (printed_for (number_of_place s n f.number) ms) f in
      let new_ = face_opened zid whatami region bound first g in
      let lacks = λ (k : Rows K) (f : Face K). not (is_routed g f) && nat_lt (left_ids f) (ids_for_opening cmp matching k f) in
      let made_ : Each (λ f. f.number ≤ g.made) h.faces = each_map (λ f. f.number ≤ g.made) hears g.faces (each_weaker (λ f. f.number ≤ g.made) (λ f. (hears f).number ≤ g.made) (λ f up. subst (λ k. k ≤ g.made) (sym (heard_all-number cmp g.moment (printed_for (number_of_place s n f.number) ms) f)) up) g.faces made) in
      let last : list_any (lacks h) (new_ ∷ []) ≡ true = second_of (list_any (lacks h) h.faces) (list_any (lacks h) (new_ ∷ [])) (none_for_others g h h.faces made_) (sym (any-append (lacks h) h.faces (new_ ∷ [])) ∙ spent) in
      any-append (lacks g) g.faces (new_ ∷ [])
      ∙ or_right (list_any (lacks g) g.faces) (list_any (lacks g) (new_ ∷ [])) (ap (λ k. (not (is_routed g new_) && nat_lt (left_ids new_) k) || false) (sym (ids_heard s ms n g new_)) ∙ last)

  -- the gateway of a number, once messages are heard
  nth_after_hearing : (s : Fabric K) (ms : List (Sent K)) (i j : ℕ) (gs : List (Node K)) (node : Node K) → nth j gs ≡ Some node → (k : ℕ) × (nth j (gateways_after_hearing cmp s ms i gs) ≡ Some (record node { rows = rows_after_hearing cmp s ms k node.rows }))
  unfolding gateways_after_hearing
  nth_after_hearing s ms i j [] node at_ = cc
  nth_after_hearing s ms i j (x ∷ gs) node at_ =
      by_test (j == 1)
      (λ own.
      let e : Some x ≡ Some node = ap (λ b. cond b (Some x) (nth (j - 1) gs)) (sym own) ∙ at_ in
      let is : x ≡ node = cc in
      (i, ap (λ b. cond b (Some (record x { rows = rows_after_hearing cmp s ms i x.rows })) (nth (j - 1) (gateways_after_hearing cmp s ms (i + 1) gs))) own ∙ ap (λ (y : Node K). Some (record y { rows = rows_after_hearing cmp s ms i y.rows })) is))
      (λ own.
      let rest = nth_after_hearing s ms (i + 1) (j - 1) gs node (ap (λ b. cond b (Some x) (nth (j - 1) gs)) (sym own) ∙ at_) in
      (rest.0, ap (λ b. cond b (Some (record x { rows = rows_after_hearing cmp s ms i x.rows })) (nth (j - 1) (gateways_after_hearing cmp s ms (i + 1) gs))) own ∙ rest.1))

  -- ---- the faces of a link, one after another

  opening_at_shown : (t : Fabric K) (end : LinkEnd K) → opening_at cmp matching (as_shown t) (end_shown end) ≡ call_shown (opening_at cmp matching t end)
  unfolding end_shown end_region
  opening_at_shown t end = cases (end_call end)
    where
      cases : (o : Option (PlainCall K)) → (let at : Option (CallAt K) = elim o [ None ↦ None | Some call ↦ call_at (as_shown t) end.gateway call ] in at) ≡ call_shown (elim o [ None ↦ None | Some call ↦ call_at t end.gateway call ])
      cases None = refl
      cases (Some call) = call_at_shown t end.gateway call

  next_shown : (s : Fabric K) (n : ℕ) → next_face (nth n (as_shown s).gateways) ≡ next_face (nth n s.gateways)
  next_shown s n = ap next_face (nth_map node_shown n s.gateways) ∙ by_node (nth n s.gateways)
    where
      by_node : (o : Option (Node K)) → next_face (elim o [ None ↦ None | Some node ↦ Some (node_shown node) ]) ≡ next_face o
      by_node None = refl
      by_node (Some node) = refl

  changed_shown : (k : ℕ) (one two : Rows K → Rows K) (gs : List (Node K)) → ((g : Rows K) → one (without_own g) ≡ without_own (two g)) → at_nth k (λ (x : Node K). record x { rows = one x.rows }) (map node_shown gs) ≡ map node_shown (at_nth k (λ (x : Node K). record x { rows = two x.rows }) gs)
  changed_shown k one two [] same_ = refl
  changed_shown k one two (x ∷ gs) same_ =
      by_test (k == 1)
      (λ here. rw here (ap (λ (g : Rows K). record x { rows = g } ∷ map node_shown gs) (same_ x.rows)))
      (λ here. rw here (ap (λ (rest : List (Node K)). node_shown x ∷ rest) (changed_shown (k - 1) one two gs same_)))

  opened_shown : (n : ℕ) (zid : Zid) (whatami : WhatAmI) (region : Region) (bound : Bound) (first : ℕ) (t : Fabric K)
      → (let at : Option (CallAt K) = call_at t n (NewTransport zid whatami region bound first) in with_opening cmp matching (call_shown at) (as_shown t) ≡ as_shown (opened_at cmp matching at t))
  unfolding parts_of altered_by rows_shown
  opened_shown n zid whatami region bound first t =
      let c : PlainCall K = NewTransport zid whatami region bound first in
      called_at (λ at. with_opening cmp matching (call_shown at) (as_shown t) ≡ as_shown (opened_at cmp matching at t)) t n c refl
      (λ node at_.
      ap (λ k. with_rows n (with_new_transport zid whatami region bound first) (record (as_shown t) { faces = t.faces ++ record { gateway = n; face = k } ∷ [] })) (next_shown t n)
      ∙ ap (λ (gs : List (Node K)). record (with_place n t) { gateways = gs })
      (changed_shown n (with_new_transport zid whatami region bound first) (opened zid whatami region bound first) t.gateways (λ g. sym (ap without_own (opened_is_made zid whatami region bound first g)))))

  end_opened_shown : (end : LinkEnd K) (t : Fabric K) → with_opening cmp matching (opening_at cmp matching (as_shown t) (end_shown end)) (as_shown t) ≡ as_shown (opened_at cmp matching (opening_at cmp matching t end) t)
  end_opened_shown end t =
      ap (λ at. with_opening cmp matching at (as_shown t)) (opening_at_shown t end)
      ∙ by_end cmp matching (λ o. (let at : Option (CallAt K) = elim o [ None ↦ None | Some call ↦ call_at t end.gateway call ] in with_opening cmp matching (call_shown at) (as_shown t) ≡ as_shown (opened_at cmp matching at t))) end refl
      (λ zid whatami region bound. opened_shown end.gateway zid whatami region bound end.first t)

  module _ (total : IsTotalOrder cmp) (equal_is_same : (a b : K) → cmp a b ≡ Equal → a ≡ b) where
    abbrev pub spends : CallAt K → Bool
    spends at = spends_ids cmp matching at.call at.rows

    abbrev pub could_ : CallAt K → Bool
    could_ at = could_spend_ids cmp matching at.call at.rows

    first_could : (end : LinkEnd K) (Y : Fabric K) (ms : List (Sent K)) → FabricIsInOrder cmp matching Y
        → list_any spends (option_to_list (opening_at cmp matching (after_hearing cmp ms Y) end)) ≡ true → list_any could_ (option_to_list (call_shown (opening_at cmp matching Y end))) ≡ true
    first_could end Y ms fine =
        by_end cmp matching
        (λ o. list_any spends (option_to_list (elim o [ None ↦ None | Some call ↦ call_at (after_hearing cmp ms Y) end.gateway call ])) ≡ true
        → list_any could_ (option_to_list (call_shown (elim o [ None ↦ None | Some call ↦ call_at Y end.gateway call ]))) ≡ true) end
        (λ h. never h refl)
        (λ zid whatami region bound. made zid whatami region bound (nth end.gateway Y.gateways) refl)
      where
        n : ℕ
        n = end.gateway

        At : PlainCall K → Option (Node K) → Option (CallAt K)
        At c o = elim o [ None ↦ None | Some node ↦ Some (record { gateway = n; rows = node.rows; call = c }) ]

        made : (zid : Zid) (whatami : WhatAmI) (region : Region) (bound : Bound) (o : Option (Node K)) → nth n Y.gateways ≡ o
            → (let c : PlainCall K = NewTransport zid whatami region bound end.first in
            list_any spends (option_to_list (At c (nth n (after_hearing cmp ms Y).gateways))) ≡ true → list_any could_ (option_to_list (call_shown (At c (nth n Y.gateways)))) ≡ true)
        made zid whatami region bound None at_ spent =
            let c : PlainCall K = NewTransport zid whatami region bound end.first in
            never (sym (ap (λ (o : Option (Node K)). list_any spends (option_to_list (At c o))) (nth_heard_none cmp Y ms 1 n Y.gateways at_)) ∙ spent) refl
        made zid whatami region bound (Some node) at_ spent =
            let c : PlainCall K = NewTransport zid whatami region bound end.first in
            let there = nth_after_hearing Y ms 1 n Y.gateways node at_ in
            let lists = (gateway_in_order cmp matching Y n node at_ fine).rows.lists in
            let one : (spends_ids cmp matching c (rows_after_hearing cmp Y ms there.0 node.rows) || false) ≡ true = sym (ap (λ (o : Option (Node K)). list_any spends (option_to_list (At c o))) there.1) ∙ spent in
            let own = spends_heard Y ms there.0 node.rows zid whatami region bound end.first lists.faces_made (only_one _ one) in
            let can : could_spend_ids cmp matching c (without_own node.rows) ≡ true = spend_shown cmp matching total c node.rows lists ∙ spends_could cmp matching total equal_is_same c node.rows refl (opening_within_could cmp matching total equal_is_same zid whatami region bound end.first node.rows lists.faces_made) own in
            ap (λ (o : Option (Node K)). list_any could_ (option_to_list (call_shown (At c o)))) at_ ∙ or_left (could_spend_ids cmp matching c (without_own node.rows)) false can
          where
            only_one : (b : Bool) → (b || false) ≡ true → b ≡ true
            only_one true h = refl
            only_one false h = h

    pub ends_could : (ends : List (LinkEnd K)) (Y : Fabric K) (ms : List (Sent K)) → Each (λ end. 1 ≤ end.first) ends → FabricIsInOrder cmp matching Y → Each (λ m. m.face ≤ length Y.faces) ms
        → list_any spends (opening_calls cmp matching ends (after_hearing cmp ms Y)) ≡ true → list_any could_ (openings cmp matching (map end_shown ends) (as_shown Y)) ≡ true
    unfolding opening_calls openings
    ends_could [] Y ms real fine within spent = never spent refl
    ends_could (end ∷ ends) Y ms real fine within spent =
        let H = after_hearing cmp ms Y in
        let at = opening_at cmp matching Y end in
        let Y1 = opened_at cmp matching at Y in
        let at_H = opening_at cmp matching H end in
        let alone = end_alone cmp matching total end Y real.0 fine in
        let up : length Y.faces ≤ length Y1.faces = alone.1 in
        let commutes : after_hearing cmp ms Y1 ≡ opened_at cmp matching at_H H = unfold opened_ends in ends_commute cmp matching total (end ∷ []) ms Y (real.0, tt) fine within in
        let ns = said_at cmp matching (opened_at cmp matching at_H H) at_H in
        let next : after_opening cmp matching at_H H ≡ after_hearing cmp (ms ++ ns) Y1 = ap (after_hearing cmp ns) (sym commutes) ∙ sym (after_hearing-append cmp ms ns Y1) in
        let within_ns : Each (λ m. m.face ≤ length Y1.faces) ns = subst (λ (X : Fabric K). Each (λ m. m.face ≤ length X.faces) ns) (sym commutes) (said_within cmp matching total end H) in
        let t = as_shown Y in
        let at_t = opening_at cmp matching t (end_shown end) in
        let firsts = option_to_list at_t in
        let rest = openings cmp matching (map end_shown ends) (with_opening cmp matching at_t t) in
        any-append could_ firsts rest
        ∙ by_test (list_any spends (option_to_list at_H))
        (λ here. or_left (list_any could_ firsts) (list_any could_ rest) (ap (λ o. list_any could_ (option_to_list o)) (opening_at_shown Y end) ∙ first_could end Y ms fine here))
        (λ here.
        let later = second_of (list_any spends (option_to_list at_H)) (list_any spends (opening_calls cmp matching ends (after_opening cmp matching at_H H))) here (sym (any-append spends (option_to_list at_H) (opening_calls cmp matching ends (after_opening cmp matching at_H H))) ∙ spent) in
        or_right (list_any could_ firsts) (list_any could_ rest)
        (ap (λ (X : Fabric K). list_any could_ (openings cmp matching (map end_shown ends) X)) (end_opened_shown end Y)
        ∙ ends_could ends Y1 (ms ++ ns) real.1 alone.0
        (each_append (λ m. m.face ≤ length Y1.faces) ms ns (each_weaker (λ m. m.face ≤ length Y.faces) (λ m. m.face ≤ length Y1.faces) (λ m low. le_trans low up) ms within) within_ns)
        (ap (λ (X : Fabric K). list_any spends (opening_calls cmp matching ends X)) (sym next) ∙ later)))
