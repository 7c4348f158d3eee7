-- A line that makes two calls: each is carried out at its gateway.
use Rattle.std.proofs.Common.{◌≡◌, ℕ, ◌+◌, ◌-◌, ◌==◌, ◌≢◌, Bool, false, true, List, [], ◌∷◌, ◌++◌, map, length, Option, Some, None, is_none, option_map, refl, sym, ap, ◌∙◌, append_assoc, arith, eqb-true, ne_eqb}
use Rattle.std.proofs.lemmas.Bool.{eqb-false}
use Rattle.std.proofs.lemmas.List.{length-append}
use Rattle.std.specs.Cmp.{IsTotalOrder}
use Rattle.std.specs.declared.cmp.Ordering.{Ordering}
use Rattle.zt_protocol.specs.Plain.{PlainCall}
use Rattle.zt_protocol.specs.declared.entries.Sent.{Sent}
use Rattle.zt_protocol.specs.declared.messages.Message.{Message}
use Rattle.zt_model.specs.Fabric.{CallAt, Fabric, Link, Node, after_hearing, after_opening, at_nth, call_at, gateways_after_hearing, is_unknown_gateway, opened_at, said_at, with_place, with_rows}
use Rattle.zt_model.specs.Linking.{with_link}
use Rattle.zt_model.specs.Lists.{is_some_and, nth, without_id}
use Rattle.zt_model.specs.Refusals.{spends_ids}
use Rattle.zt_model.specs.Rows.{ById}
use Rattle.zt_model.specs.Says.{said}
use Rattle.zt_laws.specs.Order.{FabricIsInOrder}
use Rattle.zt_laws.specs.Sound.{opens_face, rows_after_call}
use Rattle.zt_laws.proofs.Gateways.{prints_map}
use Rattle.zt_laws.proofs.Lists.{by_test}
use Rattle.zt_laws.proofs.Sorting.{printed}
use Rattle.zt_link_queues.specs.Waiting.{with_printed}
use Rattle.zt_fabric_state.specs.Changes.{row_after}
use Rattle.zt_links.specs.Lines.{opened_by_call, opened_end, said_by_opening}
use Rattle.zt_fabric_state.proofs.Carried.{call_there}
use Rattle.zt_fabric_state.proofs.PutBack.{other_nth, same_nth}
use Rattle.zt_links.proofs.Carried.{end_nowhere, opened_heard}

-- ---- the gateways, where one of them is changed

none_nth : {K : Type 0} (k n : ℕ) (change : Node K → Node K) (xs : List (Node K)) → is_none (nth k (at_nth n change xs)) ≡ is_none (nth k xs)
none_nth k n change [] = refl
none_nth k n change (x ∷ xs) =
    by_test (n == 1)
    (λ here. rw here (by_test (k == 1) (λ first. rw first refl) (λ later. rw later refl)))
    (λ past. rw past (by_test (k == 1) (λ first. rw first refl) (λ later. rw later (none_nth (k - 1) (n - 1) change xs))))

-- a gateway that is known is there
known_node : {K : Type 0} (o : Option (Node K)) → is_none o ≡ false → (node : Node K) × (o ≡ Some node)
known_node None known = cc
known_node (Some node) known = (node, refl)

pub some_known : {K : Type 0} (n : ℕ) (s : Fabric K) → is_unknown_gateway s n ≡ false → (node : Node K) × (nth n s.gateways ≡ Some node)
some_known n s known = known_node (nth n s.gateways) known

-- ---- what waits on a link goes, and other messages wait

without_map : {K : Type 0} (face : ℕ) (ms : List (Sent K)) (rows : ById (List (Message K))) → without_id face (with_printed ms rows) ≡ with_printed ms (without_id face rows)
without_map face ms [] = refl
without_map face ms (row ∷ rows) =
    by_test (face == row.0)
    (λ here. rw here (without_map face ms rows))
    (λ past. rw past (ap (λ rest. row_after None ms row ∷ rest) (without_map face ms rows)))

pub parted_waits : {K : Type 0} (one two : ℕ) (ms : List (Sent K)) (rows : ById (List (Message K)))
    → without_id one (without_id two (with_printed ms rows)) ≡ map (row_after None ms) (without_id one (without_id two rows))
parted_waits one two ms rows = ap (without_id one) (without_map two ms rows) ∙ without_map one ms (without_id two rows)

-- ---- opening looks at nothing that waits

module _ {K : Type 0} (cmp : K → K → Ordering) (matching : K → K → Bool) where
  pub order_waits : (ws : ById (List (Message K))) (s : Fabric K) → FabricIsInOrder cmp matching s → FabricIsInOrder cmp matching (record s { waiting = ws })
  order_waits ws s fine = record { gateways = fine.gateways; places_exist = fine.places_exist }

  heard_waits : (ms : List (Sent K)) (ws : ById (List (Message K))) (s : Fabric K) → after_hearing cmp ms (record s { waiting = ws }) ≡ record (after_hearing cmp ms s) { waiting = ws }
  unfolding gateways_after_hearing
  heard_waits ms ws s = refl

  pub opening_waits_says : (n : ℕ) (c : PlainCall K) (ws : ById (List (Message K))) (s : Fabric K) → said_by_opening cmp matching n c (record s { waiting = ws }) ≡ said_by_opening cmp matching n c s
  opening_waits_says n c ws s = cases (call_at s n c)
    where
      cases : (at : Option (CallAt K)) → said_at cmp matching (opened_at cmp matching at (record s { waiting = ws })) at ≡ said_at cmp matching (opened_at cmp matching at s) at
      cases None = refl
      cases (Some at) = refl

  pub opening_waits_does : (n : ℕ) (c : PlainCall K) (ws : ById (List (Message K))) (s : Fabric K) → opened_by_call cmp matching n c (record s { waiting = ws }) ≡ record (opened_by_call cmp matching n c s) { waiting = ws }
  opening_waits_does n c ws s = cases (call_at s n c)
    where
      cases : (at : Option (CallAt K)) → after_opening cmp matching at (record s { waiting = ws }) ≡ record (after_opening cmp matching at s) { waiting = ws }
      cases None = heard_waits [] ws s
      cases (Some at) = heard_waits (said_at cmp matching (opened_at cmp matching (Some at) s) (Some at)) ws (opened_at cmp matching (Some at) s)

  -- one more face
  pub opening_faces : (n : ℕ) (c : PlainCall K) (node : Node K) (s : Fabric K) → nth n s.gateways ≡ Some node → length (opened_by_call cmp matching n c s).faces ≡ length s.faces + 1
  opening_faces n c node s at_ =
      ap (λ at. length (after_opening cmp matching at s).faces) (call_there s n node c at_)
      ∙ length-append s.faces (_ ∷ [])

  module _ (total : IsTotalOrder cmp) where
    -- the face at an end is opened
    pub end_turned : (n : ℕ) (node : Node K) (c : PlainCall K) (s : Fabric K) → nth n s.gateways ≡ Some node → opens_face c ≡ true → FabricIsInOrder cmp matching s
        → with_rows n (rows_after_call cmp matching c) (with_place n s) ≡ opened_by_call cmp matching n c s
    end_turned n node c s at_ opens fine =
        let t = with_place n s in
        sym (opened_heard cmp matching total n node c s (map (printed t.faces n) (said cmp matching c node.rows)) at_ opens fine (prints_map t.faces n (said cmp matching c node.rows)))
        ∙ ap (λ at. after_opening cmp matching at s) (sym (call_there s n node c at_))

    -- and other gateways stay as they are
    pub opened_apart : (n k : ℕ) (node : Node K) (c : PlainCall K) (s : Fabric K) → nth n s.gateways ≡ Some node → opens_face c ≡ true → FabricIsInOrder cmp matching s
        → (k == n) ≡ false → nth k (opened_by_call cmp matching n c s).gateways ≡ nth k s.gateways
    opened_apart n k node c s at_ opens fine apart =
        ap (λ (t : Fabric K). nth k t.gateways) (sym (end_turned n node c s at_ opens fine))
        ∙ other_nth k n (λ (x : Node K). record x { rows = rows_after_call cmp matching c x.rows }) s.gateways apart

    -- and each gateway that is known stays so
    pub known_after : (two one : ℕ) (node : Node K) (c : PlainCall K) (s t : Fabric K) → nth one s.gateways ≡ Some node → opens_face c ≡ true → FabricIsInOrder cmp matching s
        → t ≡ opened_end cmp matching one c s → is_unknown_gateway s two ≡ false → is_unknown_gateway t two ≡ false
    known_after two one node c s t at_ opens fine is known =
        ap (λ (u : Fabric K). is_none (nth two u.gateways)) (is ∙ ap (λ (u : Fabric K). record u { waiting = s.waiting ++ (length s.faces + 1, []) ∷ [] }) (sym (end_turned one node c s at_ opens fine)))
        ∙ none_nth two one (λ (x : Node K). record x { rows = rows_after_call cmp matching c x.rows }) s.gateways
        ∙ known

    -- ---- the ids that the second call of a link needs

    abbrev spends : Option (CallAt K) → Bool
    spends at = is_some_and at (λ at. spends_ids cmp matching at.call at.rows)

    abbrev call_in : Option (Node K) → ℕ → PlainCall K → Option (CallAt K)
    call_in o n c = elim o [ None ↦ None | Some node ↦ Some (record { gateway = n; rows = node.rows; call = c }) ]

    -- at another gateway than the first one's
    pub spends_apart : (one two : ℕ) (forth back : PlainCall K) (s : Fabric K) → (two == one) ≡ false → opens_face forth ≡ true → FabricIsInOrder cmp matching s
        → spends (call_at s two back) ≡ spends (call_at (opened_by_call cmp matching one forth s) two back)
    spends_apart one two forth back s apart opens fine = cases (nth one s.gateways) refl
      where
        cases : (o : Option (Node K)) → nth one s.gateways ≡ o → spends (call_at s two back) ≡ spends (call_at (opened_by_call cmp matching one forth s) two back)
        cases None at_ = ap (λ (t : Fabric K). spends (call_at t two back)) (end_nowhere cmp matching total one forth s at_)
        cases (Some node) at_ =
            ap (λ o. spends (call_in o two back)) (sym (other_nth two one (λ (x : Node K). record x { rows = rows_after_call cmp matching forth x.rows }) s.gateways apart))
            ∙ ap (λ (t : Fabric K). spends (call_at t two back)) (end_turned one node forth s at_ opens fine)

    abbrev needs : PlainCall K → PlainCall K → Option (Node K) → Bool
    needs forth back o = is_some_and o (λ node. spends_ids cmp matching back (rows_after_call cmp matching forth node.rows))

    -- at the first one's
    pub spends_same : (one two : ℕ) (forth back : PlainCall K) (s : Fabric K) → one ≡ two → opens_face forth ≡ true → FabricIsInOrder cmp matching s
        → is_some_and (nth two s.gateways) (λ node. spends_ids cmp matching back (rows_after_call cmp matching forth node.rows)) ≡ spends (call_at (opened_by_call cmp matching one forth s) two back)
    spends_same one two forth back s is opens fine =
        ap (λ k. needs forth back (nth k s.gateways)) (sym is) ∙ cases (nth one s.gateways) refl ∙ ap (λ k. spends (call_at (opened_by_call cmp matching one forth s) k back)) is
      where
        cases : (o : Option (Node K)) → nth one s.gateways ≡ o → needs forth back (nth one s.gateways) ≡ spends (call_at (opened_by_call cmp matching one forth s) one back)
        cases None at_ =
            ap (needs forth back) at_
            ∙ ap (λ o. spends (call_in o one back)) (sym at_)
            ∙ ap (λ (t : Fabric K). spends (call_at t one back)) (end_nowhere cmp matching total one forth s at_)
        cases (Some node) at_ =
            let change = λ (x : Node K). record x { rows = rows_after_call cmp matching forth x.rows } in
            ap (needs forth back) at_
            ∙ ap (λ o. spends (call_in o one back)) (sym (same_nth one change s.gateways ∙ ap (option_map change) at_))
            ∙ ap (λ (t : Fabric K). spends (call_at t one back)) (end_turned one node forth s at_ opens fine)

-- ---- a link is made between two faces

module _ {K : Type 0} where
  pub link_joined : (s u : Fabric K) (face other n : ℕ) (ms : List (Sent K)) → u.links ≡ s.links → face ≡ length s.faces + 1 → other ≡ face + 1 → n ≡ length s.faces + 1
      → record u { links = u.links ++ record { one = face; two = other; is_open = true } ∷ []; waiting = with_printed ms ((s.waiting ++ (length s.faces + 1, []) ∷ []) ++ (n + 1, []) ∷ []) }
      ≡ record u { links = (with_link s).links; waiting = map (row_after None ms) (with_link s).waiting }
  link_joined s u face other n ms links face_is other_is n_is =
      let ends = λ (k : ℕ). with_printed ms ((s.waiting ++ (length s.faces + 1, []) ∷ []) ++ (k + 1, []) ∷ []) in
      let one = length s.faces + 1 in
      ap (λ (ls : List Link). record u { links = ls ++ record { one = face; two = other; is_open = true } ∷ []; waiting = ends n }) links
      ∙ ap (λ k. record u { links = s.links ++ record { one = face; two = k; is_open = true } ∷ []; waiting = ends n }) other_is
      ∙ ap (λ k. record u { links = s.links ++ record { one = k; two = k + 1; is_open = true } ∷ []; waiting = ends n }) face_is
      ∙ ap (λ k. record u { links = (with_link s).links; waiting = ends k }) n_is
      ∙ ap (λ (ws : ById (List (Message K))). record u { links = (with_link s).links; waiting = with_printed ms ws }) (append_assoc s.waiting ((one, []) ∷ []) ((one + 1, []) ∷ []))
