-- A call that is carried out at its gateway puts the rows after it there, and what it says waits.
use Rattle.std.proofs.Common.{◌≡◌, ℕ, ◌+◌, Bool, List, [], ◌∷◌, ◌++◌, map, Option, Some, None, Result, Ok, Err, OnOk, OnErr, refl, sym, ap, ◌∙◌}
use Rattle.std.specs.Cmp.{IsTotalOrder}
use Rattle.std.specs.declared.cmp.Ordering.{Ordering}
use Rattle.zt_protocol.specs.Plain.{PlainCall}
use Rattle.zt_protocol.specs.declared.entries.Sent.{Sent}
use Rattle.zt_protocol.specs.declared.messages.Message.{Message}
use Rattle.zt_model.specs.Fabric.{CallAt, Fabric, Node, at_nth, call_at, next_face, printed_for, with_place, with_rows, with_waiting}
use Rattle.zt_model.specs.Lists.{nth}
use Rattle.zt_model.specs.Rows.{ById, Rows}
use Rattle.zt_laws.specs.Sound.{rows_after_call}
use Rattle.zt_laws.proofs.Lists.{map-map}
use Rattle.zt_laws.proofs.Numbered.{at_nth_alike}
use Rattle.zt_fabric_state.specs.Changes.{carried, row_after, said_sorted, taken_by, taken_row}

abbrev pub Queues : Type 0 → Type 0
Queues K = ById (List (Message K))

-- a fact of what is answered
pub on_ok : {A E : Type 0} (r : Result A E) (P Q : Type 0) → (P → Q) → OnOk r P → OnOk r Q
on_ok (Ok x) P Q f p = f p
on_ok (Err e) P Q f p = tt

-- and of what is answered with an error
pub on_err : {A E : Type 0} (r : Result A E) (P Q : Type 0) → (P → Q) → OnErr r P → OnErr r Q
on_err (Ok x) P Q f p = tt
on_err (Err e) P Q f p = f p

module _ {K : Type 0} where
  -- what waits after a message is taken and others are added
  pub waiting_after : (taken : Option ℕ) (ms : List (Sent K)) (s : Fabric K) → (with_waiting ms (taken_by taken s)).waiting ≡ map (row_after taken ms) s.waiting
  waiting_after None ms s = refl
  waiting_after (Some face) ms s = map-map (λ row. (row.0, row.1 ++ printed_for row.0 ms)) (taken_row (Some face)) s.waiting

  -- taking and adding changes no gateway
  pub rows_elsewhere : (taken : Option ℕ) (ms : List (Sent K)) (s : Fabric K) → (with_waiting ms (taken_by taken s)).gateways ≡ s.gateways
  rows_elsewhere None ms s = refl
  rows_elsewhere (Some face) ms s = refl

  pub rows_turned : (taken : Option ℕ) (ms : List (Sent K)) (n : ℕ) (rows : Rows K) (s : Fabric K) → with_rows n (λ _. rows) (with_waiting ms (taken_by taken s)) ≡ record (with_rows n (λ _. rows) s) { waiting = (with_waiting ms (taken_by taken s)).waiting }
  rows_turned None ms n rows s = refl
  rows_turned (Some face) ms n rows s = refl

  -- a call at its gateway
  pub call_there : (s : Fabric K) (n : ℕ) (node : Node K) (c : PlainCall K) → nth n s.gateways ≡ Some node → call_at s n c ≡ Some (record { gateway = n; rows = node.rows; call = c })
  call_there s n node c at_ = ap (λ (o : Option (Node K)). let at : Option (CallAt K) = elim o [ None ↦ None | Some node ↦ Some (record { gateway = n; rows = node.rows; call = c }) ] in at) at_

  -- the place of the next face
  pub placed_next : (n : ℕ) (node : Node K) (s : Fabric K) (face : ℕ) → nth n s.gateways ≡ Some node → face ≡ node.rows.made + 1
      → record s { faces = s.faces ++ record { gateway = n; face = face } ∷ [] } ≡ with_place n s
  placed_next n node s face at_ is =
      let next : face ≡ next_face (nth n s.gateways) = is ∙ sym (ap next_face at_) in
      ap (λ k. record s { faces = s.faces ++ record { gateway = n; face = k } ∷ [] }) next

module _ {K : Type 0} (cmp : K → K → Ordering) (matching : K → K → Bool) (total : IsTotalOrder cmp) where
  -- the gateway of a call has the rows after it
  pub rows_put : (n : ℕ) (node : Node K) (c : PlainCall K) (s : Fabric K) (rows : Rows K) → nth n s.gateways ≡ Some node → rows ≡ rows_after_call cmp matching c node.rows
      → at_nth n (λ (x : Node K). record x { rows = rows }) s.gateways ≡ (with_rows n (rows_after_call cmp matching c) s).gateways
  rows_put n node c s rows at_ is =
      at_nth_alike n (λ (x : Node K). record x { rows = rows }) (λ (x : Node K). record x { rows = rows_after_call cmp matching c x.rows }) s.gateways node at_ (ap (λ (g : Rows K). record node { rows = g }) is)

  -- a call is carried out
  pub carried_put : (taken : Option ℕ) (n : ℕ) (node : Node K) (c : PlainCall K) (s : Fabric K) (rows : Rows K) (ms : List (Sent K)) (ws : Queues K) → nth n s.gateways ≡ Some node
      → rows ≡ rows_after_call cmp matching c node.rows → ms ≡ said_sorted cmp matching n c s → ws ≡ map (row_after taken ms) s.waiting
      → record (with_rows n (λ _. rows) s) { waiting = ws } ≡ carried cmp matching taken n c s
  carried_put taken n node c s rows ms ws at_ rows_is ms_is ws_is =
      ap (λ (xs : List (Node K)). record s { gateways = xs; waiting = ws }) (rows_put n node c s rows at_ rows_is)
      ∙ ap (λ (xs : Queues K). record (with_rows n (rows_after_call cmp matching c) s) { waiting = xs }) (ws_is ∙ ap (λ xs. map (row_after taken xs) s.waiting) ms_is)
