-- What every call leaves true of a gateway, every line leaves true of each gateway of a fabric.
use Rattle.std.proofs.Common.{◌≡◌, ℕ, ◌+◌, ◌-◌, ◌≤◌, Bool, true, false, ◌==◌, not, nat_lt, List, [], ◌∷◌, ◌++◌, map, filter, Option, Some, None, is_none, refl, sym, ap, ◌∙◌, subst}
use Rattle.std.specs.Cmp.{IsTotalOrder}
use Rattle.std.specs.List.{list_any}
use Rattle.std.specs.declared.cmp.Ordering.{Ordering}
use Rattle.zt_region.specs.declared.region.Region.{Region}
use Rattle.zt_region.specs.declared.region.WhatAmI.{WhatAmI}
use Rattle.zt_region.specs.declared.region.Zid.{Zid}
use Rattle.zt_protocol.specs.Plain.{PlainCall, NewSession, NewTransport, CloseFace, Expire, SetTrees, PlainLine, Gateway, Session, Face as FaceLine, Link as LinkLine, Unlink, Step, Speak, Moment, SetTreesAt}
use Rattle.zt_protocol.specs.Refusal.{number_of}
use Rattle.zt_protocol.specs.declared.entries.Sent.{Sent}
use Rattle.zt_protocol.specs.declared.errors.Refusal.{Refusal}
use Rattle.zt_protocol.specs.declared.messages.Message.{Message}
use Rattle.zt_model.specs.Fabric.{CallAt, Fabric, Node, Place, after_closing, after_hearing, after_opening, after_refusal, altered_at, altered_by_line, at_nth, both_ends, line_causes, call_at, call_of, call_of_step, causes_of_call, closed_ends, closing_call, entry_by, entry_of, fabric_after, gateways_after_hearing, line_causes, line_spends_ids, new_rows, next_face, opened_at, opened_ends, opening_at, said_at, said_by_line, said_closing, said_opening, sorted_by_face, table_at, with_place, with_rows, with_session, without_message}
use Rattle.zt_model.specs.Linking.{LinkEnd, link_ends, with_link, without_link}
use Rattle.zt_model.specs.Lists.{nth, without_id}
use Rattle.zt_model.specs.Places.{Link}
use Rattle.zt_model.specs.Refusals.{call_causes, first_cause}
use Rattle.zt_model.specs.Rows.{ById, Rows}
use Rattle.zt_model.specs.Says.{altered, altered_by, parts_of, said, said_by}
use Rattle.zt_model.specs.Transcript.{Each}
use Rattle.zt_laws.specs.Order.{FabricIsInOrder, RowsAreInOrder}
use Rattle.zt_laws.specs.Sound.{CallHasFirstIds, HasFirstIds, is_placed, opens_face, rows_after_call}
use Rattle.zt_laws.proofs.AllLines.{in_order_after_line, starts_real, without_message_is}
use Rattle.zt_laws.proofs.Calls.{no_cause}
use Rattle.zt_laws.proofs.CallsOrder.{altered_faces}
use Rattle.zt_laws.proofs.Ends.{after_hearing-append, by_end, end_alone, end_in_order, ends_commute, opened_elsewhere, said_within}
use Rattle.zt_laws.proofs.Gateways.{PrintsSends, after_hearing_nothing, prints_map, prints_sorted}
use Rattle.zt_laws.proofs.Interleaving.{hearing_alike}
use Rattle.zt_laws.proofs.LinesOrder.{after_prints, called_at, called_by_speaker, called_by_step, faces_placed, faces_still_placed, gateway_in_order, opened_faces}
use Rattle.zt_laws.proofs.Lists.{by_test, each_append, each_weaker, of_cond}
use Rattle.zt_laws.proofs.Places.{placed_new, placed_still}
use Rattle.zt_laws.proofs.Sorting.{printed, printed_sorted}
use Rattle.zt_laws.proofs.Unlinking.{all_apart, but_for_alike, closing_case, closing_in_order, closings_commute, ends_apart}
use Rattle.zt_theorem_soundness.specs.Lines.{EachGatewayIs}

-- the member at a position is changed
each_at_nth : {A : Type 0} (P : A → Type 0) (n : ℕ) (change : A → A) (xs : List A) (x : A) → nth n xs ≡ Some x → P (change x) → Each P xs → Each P (at_nth n change xs)
each_at_nth P n change [] x at_ own all = tt
each_at_nth P n change (y ∷ ys) x at_ own all =
    by_test (n == 1)
    (λ here. let e : Some y ≡ Some x = rw here at at_ in let is : y ≡ x = cc in rw here (subst (λ z. P (change z)) (sym is) own, all.1))
    (λ here. rw here (all.0, each_at_nth P (n - 1) change ys x (rw here at at_) own all.1))

each_nth : {A : Type 0} (P : A → Type 0) (n : ℕ) (xs : List A) (x : A) → nth n xs ≡ Some x → Each P xs → P x
each_nth P n [] x at_ all = cc
each_nth P n (y ∷ ys) x at_ all =
    by_test (n == 1)
    (λ here. let e : Some y ≡ Some x = rw here at at_ in let is : y ≡ x = cc in subst P is all.0)
    (λ here. each_nth P (n - 1) ys x (rw here at at_) all.1)

module _ {K : Type 0} (cmp : K → K → Ordering) (matching : K → K → Bool) where
  -- A fact that holds of a new gateway, and that each call leaves true: an opening and a closing always, any other call
  -- where no cause holds.
  pub record IsLeftByCalls (Q : Rows K → Type 0) : Type 0 where
    pub fresh : (mode : WhatAmI) (zid : Zid) (regions : List Region) (timeout : ℕ) (refused : List (Region × Region)) → Q (new_rows mode zid regions timeout refused)
    pub opens : (c : PlainCall K) (g : Rows K) → opens_face c ≡ true → CallHasFirstIds c → RowsAreInOrder cmp matching g → Q g → Q (rows_after_call cmp matching c g)
    pub closes : (n : ℕ) (g : Rows K) → RowsAreInOrder cmp matching g → Q g → Q (rows_after_call cmp matching (CloseFace n) g)
    pub calls : (spent : Bool) (c : PlainCall K) (g : Rows K) → opens_face c ≡ false → first_cause (call_causes cmp matching spent c g) ≡ None → RowsAreInOrder cmp matching g → Q g → Q (rows_after_call cmp matching c g)

  module _ (Q : Rows K → Type 0) (left : IsLeftByCalls Q) (total : IsTotalOrder cmp) where
    abbrev Gateways : Fabric K → Type 0
    Gateways s = Each (λ (node : Node K). Q node.rows) s.gateways

    rows_changed : (n : ℕ) (node : Node K) (change : Rows K → Rows K) (s : Fabric K) → nth n s.gateways ≡ Some node → Q (change node.rows) → Gateways s → Gateways (with_rows n change s)
    rows_changed n node change s at_ own all = each_at_nth (λ (x : Node K). Q x.rows) n (λ (x : Node K). record x { rows = change x.rows }) s.gateways node at_ own all

    own_rows : (n : ℕ) (node : Node K) (s : Fabric K) → nth n s.gateways ≡ Some node → Gateways s → Q node.rows
    own_rows n node s at_ all = each_nth (λ (x : Node K). Q x.rows) n s.gateways node at_ all

    still : (ms : List (Sent K)) (s : Fabric K) → ms ≡ [] → Gateways s → Gateways (after_hearing cmp ms s)
    still ms s none_ all = subst Gateways (sym (ap (λ xs. after_hearing cmp xs s) none_ ∙ after_hearing_nothing cmp s)) all

    sorted_or_not : (ms : List (Sent K)) (s : Fabric K) → Gateways (after_hearing cmp ms s) → Gateways (after_hearing cmp (sorted_by_face ms) s)
    sorted_or_not ms s all = subst Gateways (sym (hearing_alike cmp (sorted_by_face ms) ms s (λ n. printed_sorted n ms))) all

    heard_elsewhere : (ms : List (Sent K)) (links : List Link) (waiting : ById (List (Message K))) (s : Fabric K) → Gateways (after_hearing cmp ms s) → Gateways (after_hearing cmp ms (record s { links = links; waiting = waiting }))
    unfolding gateways_after_hearing
    heard_elsewhere ms links waiting s all = all

    -- a call that opens no face
    called : (n : ℕ) (node : Node K) (c : PlainCall K) (s : Fabric K) (ms : List (Sent K)) → PrintsSends s.faces n (said cmp matching c node.rows) ms → nth n s.gateways ≡ Some node → opens_face c ≡ false → FabricIsInOrder cmp matching s
        → Q (rows_after_call cmp matching c node.rows) → Gateways s → Gateways (after_hearing cmp ms (with_rows n (altered cmp matching c) s))
    called n node c s ms prints at_ still_ fine own all =
        let gateway = gateway_in_order cmp matching s n node at_ fine in
        let after = altered_faces cmp matching total (λ k. is_placed n k s.faces ≡ true) c node.rows still_ gateway.rows.lists gateway.placed in
        subst Gateways (sym (after_prints cmp matching n node c s ms prints at_ after.0 (faces_placed cmp matching s fine)))
        (rows_changed n node (rows_after_call cmp matching c) s at_ own all)

    -- a call that opens one
    opened : (n : ℕ) (node : Node K) (c : PlainCall K) (s : Fabric K) (ms : List (Sent K)) → PrintsSends (with_place n s).faces n (said cmp matching c node.rows) ms → nth n s.gateways ≡ Some node → opens_face c ≡ true → CallHasFirstIds c → FabricIsInOrder cmp matching s
        → Gateways s → Gateways (after_hearing cmp ms (with_rows n (altered cmp matching c) (with_place n s)))
    opened n node c s ms prints at_ opens_ real fine all =
        let gateway = gateway_in_order cmp matching s n node at_ fine in
        let p : Place = record { gateway = n; face = next_face (nth n s.gateways) } in
        let places = s.faces ++ p ∷ [] in
        let p_face : p.face ≡ node.rows.made + 1 = ap next_face at_ in
        let new_ : is_placed n (node.rows.made + 1) places ≡ true = subst (λ k. is_placed n k places ≡ true) p_face (placed_new n p.face s.faces) in
        let after = opened_faces cmp matching total (λ k. is_placed n k places ≡ true) c node.rows opens_ new_ (each_weaker (λ f. is_placed n f.number s.faces ≡ true) (λ f. is_placed n f.number places ≡ true) (λ f there. placed_still n f.number s.faces p there) node.rows.faces gateway.placed) in
        subst Gateways (sym (after_prints cmp matching n node c (with_place n s) ms prints at_ after.0 (faces_still_placed cmp matching p s fine)))
        (rows_changed n node (rows_after_call cmp matching c) (with_place n s) at_ (left.opens c node.rows opens_ real gateway.rows (own_rows n node s at_ all)) all)

    -- ---- links

    end_opened : (end : LinkEnd K) (X : Fabric K) → 1 ≤ end.first → FabricIsInOrder cmp matching X → Gateways X → Gateways (after_opening cmp matching (opening_at cmp matching X end) X)
    end_opened end X real fine all =
        by_end cmp matching (λ c. Gateways (after_opening cmp matching (elim c [ None ↦ None | Some call ↦ call_at X end.gateway call ]) X)) end (still [] X refl all)
        (λ zid whatami region bound.
        let c : PlainCall K = NewTransport zid whatami region bound end.first in
        called_at (λ at. Gateways (after_opening cmp matching at X)) X end.gateway c (still [] X refl all)
        (λ node at_. opened end.gateway node c X (map (printed (with_place end.gateway X).faces end.gateway) (said cmp matching c node.rows)) (prints_map (with_place end.gateway X).faces end.gateway (said cmp matching c node.rows)) at_ refl real fine all))

    ends_opened : (ends : List (LinkEnd K)) (X : Fabric K) → Each (λ end. 1 ≤ end.first) ends → FabricIsInOrder cmp matching X → Gateways X → Gateways (after_hearing cmp (said_opening cmp matching ends X) (opened_ends cmp matching ends X))
    unfolding opened_ends said_opening
    ends_opened [] X real fine all = still [] X refl all
    ends_opened (end ∷ ends) X real fine all =
        let at = opening_at cmp matching X end in
        let Y = opened_at cmp matching at X in
        let ms = said_at cmp matching Y at in
        let H = after_hearing cmp ms Y in
        let alone = end_alone cmp matching total end X real.0 fine in
        subst Gateways
        (sym (after_hearing-append cmp ms (said_opening cmp matching ends H) (opened_ends cmp matching ends Y) ∙ ap (after_hearing cmp (said_opening cmp matching ends H)) (ends_commute cmp matching total ends ms Y real.1 alone.0 (said_within cmp matching total end X))))
        (ends_opened ends H real.1 (end_in_order cmp matching total end X real.0 fine) (end_opened end X real.0 fine all))

    face_closed : (face : ℕ) (X : Fabric K) → FabricIsInOrder cmp matching X → Gateways X → Gateways (after_closing cmp matching face X)
    face_closed face X fine all =
        closing_case cmp matching (λ at. Gateways (after_hearing cmp (said_at cmp matching X at) (altered_at cmp matching X at))) X face (still [] X refl all)
        (λ n k node at_. called n node (CloseFace k) X (map (printed X.faces n) (said cmp matching (CloseFace k) node.rows)) (prints_map X.faces n (said cmp matching (CloseFace k) node.rows)) at_ refl fine
        (left.closes k node.rows (gateway_in_order cmp matching X n node at_ fine).rows (own_rows n node X at_ all)) all)

    faces_closed : (fs : List ℕ) (X : Fabric K) → FabricIsInOrder cmp matching X → Gateways X → Gateways (after_hearing cmp (said_closing cmp matching fs X) (closed_ends cmp matching fs X))
    unfolding closed_ends said_closing
    faces_closed [] X fine all = still [] X refl all
    faces_closed (face ∷ fs) X fine all =
        let at = closing_call X face in
        let ms = said_at cmp matching X at in
        let Y = altered_at cmp matching X at in
        let H = after_hearing cmp ms Y in
        subst Gateways
        (sym (after_hearing-append cmp ms (said_closing cmp matching fs H) (closed_ends cmp matching fs Y) ∙ ap (after_hearing cmp (said_closing cmp matching fs H)) (closings_commute cmp matching fs ms Y)))
        (faces_closed fs H (closing_in_order cmp matching total face X fine) (face_closed face X fine all))

    unlinked : (fs : List ℕ) (X : Fabric K) → FabricIsInOrder cmp matching X → Gateways X → Gateways (after_hearing cmp (filter (λ m. not (list_any (λ face. face == m.face) fs)) (said_closing cmp matching fs X)) (closed_ends cmp matching fs X))
    unlinked fs X fine all =
        subst Gateways (sym (but_for_alike cmp matching fs (said_closing cmp matching fs X) (closed_ends cmp matching fs X) (all_apart cmp matching fs (closed_ends cmp matching fs X) (ends_apart cmp matching total fs X fine)))) (faces_closed fs X fine all)

    without_link_still : (n : ℕ) (ms : List (Sent K)) (s : Fabric K) → Gateways (after_hearing cmp ms s) → Gateways (after_hearing cmp ms (without_link n s))
    without_link_still n ms s all = cases (nth n s.links)
      where
        cases : (o : Option Link) → Gateways (after_hearing cmp ms (elim o [ None ↦ s | Some link ↦ record s { links = at_nth n (λ l. record l { is_open = false }) s.links; waiting = without_id link.one (without_id link.two s.waiting) } ]))
        cases None = all
        cases (Some link) = heard_elsewhere ms (at_nth n (λ l. record l { is_open = false }) s.links) (without_id link.one (without_id link.two s.waiting)) s all

    -- ---- lines

    -- a call that is made at its gateway, where no cause holds, with a fabric of other waiting messages
    abbrev Called : Bool → ById (List (Message K)) → Fabric K → Option (CallAt K) → Type 0
    Called spent waiting s at = first_cause (causes_of_call cmp matching spent at) ≡ None → Gateways (after_hearing cmp (sorted_by_face (said_at cmp matching s at)) (altered_at cmp matching (record s { waiting = waiting }) at))

    call_made : (spent : Bool) (n : ℕ) (node : Node K) (c : PlainCall K) (s : Fabric K) (waiting : ById (List (Message K))) → nth n s.gateways ≡ Some node → opens_face c ≡ false → FabricIsInOrder cmp matching s → Gateways s
        → (let at : Option (CallAt K) = Some (record { gateway = n; rows = node.rows; call = c }) in Called spent waiting s at)
    call_made spent n node c s waiting at_ still_ fine all accepted =
        heard_elsewhere (sorted_by_face (said_at cmp matching s (Some (record { gateway = n; rows = node.rows; call = c })))) s.links waiting (with_rows n (altered cmp matching c) s)
        (called n node c s (sorted_by_face (said_at cmp matching s (Some (record { gateway = n; rows = node.rows; call = c })))) (prints_sorted s.faces n (said cmp matching c node.rows)) at_ still_ fine
        (left.calls spent c node.rows still_ accepted (gateway_in_order cmp matching s n node at_ fine).rows (own_rows n node s at_ all)) all)

    line_heard : (spent : Bool) (line : PlainLine K) (s : Fabric K) → HasFirstIds line → first_cause (line_causes cmp matching spent line s) ≡ None → FabricIsInOrder cmp matching s → Gateways s
        → Gateways (after_hearing cmp (sorted_by_face (said_by_line cmp matching line s)) (altered_by_line cmp matching line s))
    unfolding altered_by_line said_by_line line_causes call_of sorted_by_face parts_of said_by altered_by
    line_heard spent (Gateway mode zid regions south name timeout refused) s real accepted fine all =
        let node : Node K = record { rows = new_rows mode zid regions timeout refused; south = south; name = name } in
        still [] (record s { gateways = s.gateways ++ node ∷ [] }) refl (each_append (λ (x : Node K). Q x.rows) s.gateways (node ∷ []) all (left.fresh mode zid regions timeout refused, tt))
    line_heard spent (Session n first) s real accepted fine all = cases (nth n s.gateways) refl (no_cause _ _ _ accepted).0
      where
        G : Option (CallAt K) → Type 0
        G at = Gateways (after_hearing cmp (sorted_by_face (said_at cmp matching s at)) (with_session n first s))

        cases : (o : Option (Node K)) → nth n s.gateways ≡ o → is_none o ≡ false → G (elim o [ None ↦ None | Some node ↦ Some (record { gateway = n; rows = node.rows; call = NewSession first }) ])
        cases None at_ known = cc
        cases (Some node) at_ known = opened n node (NewSession first) s [] (prints_map (with_place n s).faces n (said cmp matching (NewSession first) node.rows)) at_ refl real fine all
    line_heard spent (FaceLine n mode zid region bound first) s real accepted fine all =
        let c : PlainCall K = NewTransport zid mode region bound first in
        called_at (λ at. Gateways (after_hearing cmp (sorted_by_face (said_at cmp matching (opened_at cmp matching at s) at)) (opened_at cmp matching at s))) s n c (still [] s refl all)
        (λ node at_. opened n node c s (sorted_by_face (map (printed (with_place n s).faces n) (said cmp matching c node.rows))) (prints_sorted (with_place n s).faces n (said cmp matching c node.rows)) at_ refl real fine all)
    line_heard spent (LinkLine one two first back) s real accepted fine all =
        let ends = link_ends s one two first back in
        let ms = said_opening cmp matching ends s in
        let linked = with_link s in
        subst (λ (t : Fabric K). Gateways (after_hearing cmp (sorted_by_face ms) t)) (sym (opened_elsewhere cmp matching total ends linked.links linked.waiting s))
        (heard_elsewhere (sorted_by_face ms) linked.links linked.waiting (opened_ends cmp matching ends s) (sorted_or_not ms (opened_ends cmp matching ends s) (ends_opened ends s (starts_real cmp matching s one two first back real.0 real.1) fine all)))
    line_heard spent (Unlink link) s real accepted fine all =
        let fs = both_ends cmp matching s link in
        let ms = filter (λ m. not (list_any (λ face. face == m.face) fs)) (said_closing cmp matching fs s) in
        without_link_still link (sorted_by_face ms) (closed_ends cmp matching fs s) (sorted_or_not ms (closed_ends cmp matching fs s) (unlinked fs s fine all))
    line_heard spent (Step link back) s real accepted fine all =
        let one = no_cause _ _ _ accepted in
        let two = no_cause _ _ _ one.1 in
        let taken = without_message_is cmp matching link back s in
        subst (λ (t : Fabric K). Gateways (after_hearing cmp (sorted_by_face (said_at cmp matching s (call_of_step s back (nth link s.links)))) (altered_at cmp matching t (call_of_step s back (nth link s.links))))) (sym taken.1)
        (called_by_step (Called spent taken.0 s) s back (nth link s.links) (λ _. still [] (record s { waiting = taken.0 }) refl all) (λ n node c at_ still_. call_made spent n node c s taken.0 at_ still_ fine all) two.1)
    line_heard spent (Speak c) s real accepted fine all =
        let one = no_cause _ _ _ accepted in
        let two = no_cause _ _ _ one.1 in
        called_by_speaker (Called spent s.waiting s) s c (λ _. still [] s refl all) (λ n node d at_ still_. call_made spent n node d s s.waiting at_ still_ fine all) two.1
    line_heard spent (Moment n now) s real accepted fine all =
        let one = no_cause _ _ _ accepted in
        called_at (Called spent s.waiting s) s n (Expire now) (λ _. still [] s refl all) (λ node at_. call_made spent n node (Expire now) s s.waiting at_ refl fine all) one.1
    line_heard spent (SetTreesAt n region t) s real accepted fine all =
        let one = no_cause _ _ _ accepted in
        called_at (Called spent s.waiting s) s n (SetTrees region (table_at s n t)) (λ _. still [] s refl all) (λ node at_. call_made spent n node (SetTrees region (table_at s n t)) s s.waiting at_ refl fine all) one.1

    refused_still : (line : PlainLine K) (r : Refusal) (s : Fabric K) → Gateways s → Gateways (after_refusal cmp matching line r s)
    refused_still (Step link back) r s all =
        let taken = without_message_is cmp matching link back s in
        of_cond Gateways (nat_lt 3 (number_of r)) (without_message link back s) s (λ _. subst Gateways (sym taken.1) all) (λ _. all)
    refused_still (Gateway mode zid regions south name timeout refused) r s all = all
    refused_still (Session gateway first) r s all = all
    refused_still (FaceLine gateway mode zid region bound first) r s all = all
    refused_still (LinkLine one two first back) r s all = all
    refused_still (Unlink link) r s all = all
    refused_still (Speak call) r s all = all
    refused_still (Moment gateway now) r s all = all
    refused_still (SetTreesAt gateway region table) r s all = all

    gateways_after_line : (line : PlainLine K) (s : Fabric K) → HasFirstIds line → FabricIsInOrder cmp matching s → Gateways s → Gateways (fabric_after cmp matching line (entry_of cmp matching line s) s)
    unfolding fabric_after entry_of
    gateways_after_line line s real fine all = cases (first_cause (line_causes cmp matching (line_spends_ids cmp matching line s) line s)) refl
      where
        spent : Bool
        spent = line_spends_ids cmp matching line s

        cases : (o : Option Refusal) → first_cause (line_causes cmp matching spent line s) ≡ o → Gateways (fabric_after cmp matching line (entry_by cmp matching o (sorted_by_face (said_by_line cmp matching line s))) s)
        cases None accepted = line_heard spent line s real accepted fine all
        cases (Some r) refused = refused_still line r s all

    -- Each line leaves the fact true of each gateway.
    pub each_after_line : (line : PlainLine K) (s : Fabric K) → HasFirstIds line → EachGatewayIs cmp matching Q s → EachGatewayIs cmp matching Q (fabric_after cmp matching line (entry_of cmp matching line s) s)
    each_after_line line s real is = record {
      order = in_order_after_line cmp matching total line s real is.order;
      gateways = gateways_after_line line s real is.order is.gateways;
    }
