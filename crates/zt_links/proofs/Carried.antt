-- A call that is carried out at its gateway leaves the fabric that the definitions say.
use Rattle.std.proofs.Common.{◌≡◌, ℕ, ◌+◌, Bool, false, true, List, [], ◌∷◌, ◌++◌, map, Option, Some, None, Result, Ok, Err, IfOk, IfSome, OnOk, refl, sym, ap, ◌∙◌, subst}
use Rattle.std.proofs.lemmas.List.{append-nil}
use Rattle.std.specs.Cmp.{IsTotalOrder}
use Rattle.std.specs.declared.cmp.Ordering.{Ordering}
use Rattle.zt_protocol.specs.Plain.{PlainCall}
use Rattle.zt_protocol.specs.declared.entries.Sent.{Sent}
use Rattle.zt_model.specs.Fabric.{CallAt, Fabric, Node, Place, after_hearing, after_opening, altered_at, call_at, gateways_after_hearing, next_face, opened_at, printed_for, said_at, sorted_by_face, with_place, with_rows, with_waiting}
use Rattle.zt_model.specs.Lists.{nth}
use Rattle.zt_model.specs.Rows.{Rows}
use Rattle.zt_model.specs.Says.{altered, said}
use Rattle.zt_laws.specs.Order.{FabricIsInOrder}
use Rattle.zt_laws.specs.Sound.{is_placed, opens_face, rows_after_call}
use Rattle.zt_laws.proofs.CallsOrder.{altered_faces}
use Rattle.zt_laws.proofs.Gateways.{PrintsSends, after_hearing_nothing, prints_map, prints_sorted}
use Rattle.zt_laws.proofs.LinesOrder.{after_prints, faces_placed, faces_still_placed, gateway_in_order, opened_faces}
use Rattle.zt_laws.proofs.Lists.{each_weaker}
use Rattle.zt_laws.proofs.Sorting.{printed}
use Rattle.zt_laws.proofs.Places.{placed_new, placed_still}
use Rattle.zt_fabric_state.specs.Changes.{carried, row_after, said_sorted, taken_by}
use Rattle.zt_fabric_state.proofs.Carried.{Queues, call_there, rows_put, waiting_after}
use Rattle.zt_links.specs.Lines.{made_at}

-- two facts of what is answered
pub ok_both : {A E : Type 0} (P R : A → Type 0) (Q : Type 0) (r : Result A E) → ((x : A) → P x → Q → R x) → IfOk r P → OnOk r Q → IfOk r R
ok_both P R Q (Ok x) both p q = both x p q
ok_both P R Q (Err e) both p q = tt

module _ {K : Type 0} where
  -- nothing is added
  pub nothing_waits : (t : Fabric K) → with_waiting [] t ≡ t
  unfolding printed_for
  nothing_waits t = ap (λ (rows : Queues K). record t { waiting = rows }) (same t.waiting)
    where
      same : (rows : Queues K) → map (λ row. (row.0, row.1 ++ [])) rows ≡ rows
      same [] = refl
      same (row ∷ rows) = ap (λ ms. (row.0, ms) ∷ map (λ row. (row.0, row.1 ++ [])) rows) (append-nil row.1) ∙ ap (λ rest. row ∷ rest) (same rows)

  pub call_nowhere : (s : Fabric K) (n : ℕ) (c : PlainCall K) → nth n s.gateways ≡ None → call_at s n c ≡ None
  call_nowhere s n c none = ap (λ (o : Option (Node K)). let at : Option (CallAt K) = elim o [ None ↦ None | Some node ↦ Some (record { gateway = n; rows = node.rows; call = c }) ] in at) none

  -- no gateway has the number
  pub made_nowhere : (s : Fabric K) (gs : List (Node K)) (made : Option (ℕ × PlainCall K)) (m : ℕ × PlainCall K) (n : ℕ) → made ≡ Some m → n ≡ m.0 → gs ≡ s.gateways → nth n gs ≡ None → made_at s made ≡ None
  made_nowhere s gs made m n made_is number_ gs_is none =
      let nowhere : nth m.0 s.gateways ≡ None = rw (number_, gs_is) at none in
      ap (made_at s) made_is ∙ call_nowhere s m.0 m.1 nowhere

module _ {K : Type 0} (cmp : K → K → Ordering) where
  -- hearing looks at nothing that waits
  heard_elsewhere : (ms : List (Sent K)) (waiting : Queues K) (s : Fabric K) → after_hearing cmp ms (record s { waiting = waiting }) ≡ record (after_hearing cmp ms s) { waiting = waiting }
  unfolding gateways_after_hearing
  heard_elsewhere ms waiting s = refl

  -- no call is made
  pub nothing_carried : (taken : Option ℕ) (s t : Fabric K) → t ≡ taken_by taken s → t ≡ with_waiting [] (after_hearing cmp [] (taken_by taken s))
  nothing_carried taken s t is = is ∙ sym (nothing_waits (after_hearing cmp [] (taken_by taken s)) ∙ after_hearing_nothing cmp (taken_by taken s))

  module _ (matching : K → K → Bool) (total : IsTotalOrder cmp) where
    -- a call that opens no face, where its messages are heard
    called_heard : (n : ℕ) (node : Node K) (c : PlainCall K) (s : Fabric K) → nth n s.gateways ≡ Some node → opens_face c ≡ false → FabricIsInOrder cmp matching s
        → (let ms = sorted_by_face (map (printed s.faces n) (said cmp matching c node.rows)) in after_hearing cmp ms (with_rows n (altered cmp matching c) s) ≡ with_rows n (rows_after_call cmp matching c) s)
    called_heard n node c s at_ still fine =
        let gateway = gateway_in_order cmp matching s n node at_ fine in
        let after = altered_faces cmp matching total (λ k. is_placed n k s.faces ≡ true) c node.rows still gateway.rows.lists gateway.placed in
        after_prints cmp matching n node c s (sorted_by_face (map (printed s.faces n) (said cmp matching c node.rows))) (prints_sorted s.faces n (said cmp matching c node.rows)) at_ after.0 (faces_placed cmp matching s fine)

    called_elsewhere : (taken : Option ℕ) (ms : List (Sent K)) (n : ℕ) (change : Rows K → Rows K) (s : Fabric K) → after_hearing cmp ms (with_rows n change (taken_by taken s)) ≡ record (after_hearing cmp ms (with_rows n change s)) { waiting = (taken_by taken s).waiting }
    called_elsewhere None ms n change s = refl
    called_elsewhere (Some face) ms n change s = heard_elsewhere ms (taken_by (Some face) s).waiting (with_rows n change s)

    -- where it opens no face, its messages are heard and wait where they are to
    pub carried_called : (taken : Option ℕ) (n : ℕ) (node : Node K) (c : PlainCall K) (s : Fabric K) (ms : List (Sent K)) → nth n s.gateways ≡ Some node → opens_face c ≡ false → FabricIsInOrder cmp matching s → ms ≡ said_sorted cmp matching n c s
        → carried cmp matching taken n c s ≡ with_waiting ms (after_hearing cmp ms (altered_at cmp matching (taken_by taken s) (call_at s n c)))
    carried_called taken n node c s ms at_ still fine ms_is =
        let there = call_there s n node c at_ in
        let printed_is : ms ≡ sorted_by_face (map (printed s.faces n) (said cmp matching c node.rows)) = ms_is ∙ ap (λ at. sorted_by_face (said_at cmp matching s at)) there in
        let heard : after_hearing cmp ms (with_rows n (altered cmp matching c) s) ≡ with_rows n (rows_after_call cmp matching c) s =
        ap (λ xs. after_hearing cmp xs (with_rows n (altered cmp matching c) s)) printed_is ∙ called_heard n node c s at_ still fine in
        ap (λ xs. record (with_rows n (rows_after_call cmp matching c) s) { waiting = map (row_after taken xs) s.waiting }) (sym ms_is)
        ∙ ap (λ (xs : Queues K). record (with_rows n (rows_after_call cmp matching c) s) { waiting = xs }) (sym (waiting_after taken ms s))
        ∙ sym (ap (with_waiting ms) (called_elsewhere taken ms n (altered cmp matching c) s ∙ ap (λ (t : Fabric K). record t { waiting = (taken_by taken s).waiting }) heard))
        ∙ ap (λ at. with_waiting ms (after_hearing cmp ms (altered_at cmp matching (taken_by taken s) at))) (sym there)

    -- a call that opens a face, where its messages are heard
    pub opened_heard : (n : ℕ) (node : Node K) (c : PlainCall K) (s : Fabric K) (ms : List (Sent K)) → nth n s.gateways ≡ Some node → opens_face c ≡ true → FabricIsInOrder cmp matching s
        → PrintsSends (with_place n s).faces n (said cmp matching c node.rows) ms
        → after_hearing cmp ms (with_rows n (altered cmp matching c) (with_place n s)) ≡ with_rows n (rows_after_call cmp matching c) (with_place n s)
    opened_heard n node c s ms at_ opens fine prints =
        let gateway = gateway_in_order cmp matching s n node at_ fine in
        let p : Place = record { gateway = n; face = next_face (nth n s.gateways) } in
        let places = s.faces ++ p ∷ [] in
        let p_face : p.face ≡ node.rows.made + 1 = ap next_face at_ in
        let new_ : is_placed n (node.rows.made + 1) places ≡ true = subst (λ k. is_placed n k places ≡ true) p_face (placed_new n p.face s.faces) in
        let after = opened_faces cmp matching total (λ k. is_placed n k places ≡ true) c node.rows opens new_ (each_weaker (λ f. is_placed n f.number s.faces ≡ true) (λ f. is_placed n f.number places ≡ true) (λ f there. placed_still n f.number s.faces p there) node.rows.faces gateway.placed) in
        after_prints cmp matching n node c (with_place n s) ms prints at_ after.0 (faces_still_placed cmp matching p s fine)

    pub carried_opened : (n : ℕ) (node : Node K) (c : PlainCall K) (s : Fabric K) (ms : List (Sent K)) → nth n s.gateways ≡ Some node → opens_face c ≡ true → FabricIsInOrder cmp matching s → ms ≡ said_sorted cmp matching n c (with_place n s)
        → carried cmp matching None n c (with_place n s) ≡ with_waiting ms (after_hearing cmp ms (opened_at cmp matching (call_at s n c) s))
    carried_opened n node c s ms at_ opens fine ms_is =
        let there = call_there s n node c at_ in
        let t = with_place n s in
        let printed_is : ms ≡ sorted_by_face (map (printed t.faces n) (said cmp matching c node.rows)) = ms_is ∙ ap (λ at. sorted_by_face (said_at cmp matching t at)) there in
        let heard : after_hearing cmp ms (with_rows n (altered cmp matching c) t) ≡ with_rows n (rows_after_call cmp matching c) t =
        opened_heard n node c s ms at_ opens fine (subst (PrintsSends t.faces n (said cmp matching c node.rows)) (sym printed_is) (prints_sorted t.faces n (said cmp matching c node.rows))) in
        ap (λ xs. record (with_rows n (rows_after_call cmp matching c) t) { waiting = map (row_after None xs) s.waiting }) (sym ms_is)
        ∙ sym (ap (with_waiting ms) heard)
        ∙ ap (λ at. with_waiting ms (after_hearing cmp ms (opened_at cmp matching at s))) (sym there)

    -- an end of a link is opened
    pub end_opened : (n : ℕ) (node : Node K) (c : PlainCall K) (s : Fabric K) (rows : Rows K) → nth n s.gateways ≡ Some node → opens_face c ≡ true → FabricIsInOrder cmp matching s → rows ≡ rows_after_call cmp matching c node.rows
        → with_rows n (λ _. rows) (with_place n s) ≡ after_opening cmp matching (call_at s n c) s
    end_opened n node c s rows at_ opens fine is =
        let t = with_place n s in
        ap (λ (gs : List (Node K)). record t { gateways = gs }) (rows_put cmp matching total n node c s rows at_ is)
        ∙ sym (opened_heard n node c s (map (printed t.faces n) (said cmp matching c node.rows)) at_ opens fine (prints_map t.faces n (said cmp matching c node.rows)))
        ∙ ap (λ at. after_opening cmp matching at s) (sym (call_there s n node c at_))

    pub end_nowhere : (n : ℕ) (c : PlainCall K) (s : Fabric K) → nth n s.gateways ≡ None → s ≡ after_opening cmp matching (call_at s n c) s
    end_nowhere n c s none = sym (after_hearing_nothing cmp s) ∙ ap (λ at. after_opening cmp matching at s) (sym (call_nowhere s n c none))

    pub end_nowhere_says : (n : ℕ) (c : PlainCall K) (s : Fabric K) → nth n s.gateways ≡ None → [] ≡ said_at cmp matching (opened_at cmp matching (call_at s n c) s) (call_at s n c)
    end_nowhere_says n c s none = ap (λ at. said_at cmp matching (opened_at cmp matching at s) at) (sym (call_nowhere s n c none))

    -- what an opening says
    pub said_opened : (n : ℕ) (node : Node K) (c : PlainCall K) (s : Fabric K) → nth n s.gateways ≡ Some node
        → said_at cmp matching (with_place n s) (call_at s n c) ≡ said_at cmp matching (opened_at cmp matching (call_at s n c) s) (call_at s n c)
    said_opened n node c s at_ = let there = call_there s n node c at_ in ap (said_at cmp matching (with_place n s)) there ∙ ap (λ at. said_at cmp matching (opened_at cmp matching at s) at) (sym there)

    -- ---- the calls of lines

    pub made_called : (taken : Option ℕ) (s t : Fabric K) (made : Option (ℕ × PlainCall K)) (m : ℕ × PlainCall K) (node : Node K) (ms : List (Sent K)) → made ≡ Some m → nth m.0 s.gateways ≡ Some node → IfSome made (λ m. opens_face m.1 ≡ false) → FabricIsInOrder cmp matching s
        → ms ≡ said_sorted cmp matching m.0 m.1 s → t ≡ carried cmp matching taken m.0 m.1 s
        → t ≡ with_waiting ms (after_hearing cmp ms (altered_at cmp matching (taken_by taken s) (made_at s made)))
    made_called taken s t made m node ms made_is at_ still fine says does =
        let still_ : opens_face m.1 ≡ false = subst (λ o. IfSome o (λ m. opens_face m.1 ≡ false)) made_is still in
        does ∙ carried_called taken m.0 node m.1 s ms at_ still_ fine says ∙ ap (λ o. with_waiting ms (after_hearing cmp ms (altered_at cmp matching (taken_by taken s) (made_at s o)))) (sym made_is)

    pub made_says : (s : Fabric K) (made : Option (ℕ × PlainCall K)) (m : ℕ × PlainCall K) (ms : List (Sent K)) → made ≡ Some m → ms ≡ said_sorted cmp matching m.0 m.1 s → ms ≡ sorted_by_face (said_at cmp matching s (made_at s made))
    made_says s made m ms made_is says = says ∙ ap (λ o. sorted_by_face (said_at cmp matching s (made_at s o))) (sym made_is)

    pub opened_made : (s t : Fabric K) (made : Option (ℕ × PlainCall K)) (m : ℕ × PlainCall K) (node : Node K) (ms : List (Sent K)) → made ≡ Some m → nth m.0 s.gateways ≡ Some node → IfSome made (λ m. opens_face m.1 ≡ true) → FabricIsInOrder cmp matching s
        → ms ≡ said_sorted cmp matching m.0 m.1 (with_place m.0 s) → t ≡ carried cmp matching None m.0 m.1 (with_place m.0 s)
        → t ≡ with_waiting ms (after_hearing cmp ms (opened_at cmp matching (made_at s made) s))
    opened_made s t made m node ms made_is at_ opens fine says does =
        let opens_ : opens_face m.1 ≡ true = subst (λ o. IfSome o (λ m. opens_face m.1 ≡ true)) made_is opens in
        does ∙ carried_opened m.0 node m.1 s ms at_ opens_ fine says ∙ ap (λ o. with_waiting ms (after_hearing cmp ms (opened_at cmp matching (made_at s o) s))) (sym made_is)

    pub opening_says : (s : Fabric K) (made : Option (ℕ × PlainCall K)) (m : ℕ × PlainCall K) (node : Node K) (ms : List (Sent K)) → made ≡ Some m → nth m.0 s.gateways ≡ Some node → ms ≡ said_sorted cmp matching m.0 m.1 (with_place m.0 s)
        → ms ≡ sorted_by_face (said_at cmp matching (opened_at cmp matching (made_at s made) s) (made_at s made))
    opening_says s made m node ms made_is at_ says =
        says ∙ ap sorted_by_face (said_opened m.0 node m.1 s at_) ∙ ap (λ o. sorted_by_face (said_at cmp matching (opened_at cmp matching (made_at s o) s) (made_at s o))) (sym made_is)
