-- A gateway's rows are changed and put back; where no gateway has the number nothing changes.
use Rattle.std.proofs.Common.{◌≡◌, ℕ, ◌-◌, ◌==◌, ◌≢◌, Bool, false, List, [], ◌∷◌, Option, Some, None, option_map, refl, sym, ap, ◌∙◌, arith, eqb-true, ne_eqb}
use Rattle.std.proofs.lemmas.Bool.{eqb-false}
use Rattle.std.specs.declared.cmp.Ordering.{Ordering}
use Rattle.zt_model.specs.Fabric.{Fabric, Node, at_nth, with_rows}
use Rattle.zt_model.specs.Lists.{nth}
use Rattle.zt_model.specs.Rows.{Rows}
use Rattle.zt_protocol.specs.Plain.{PlainCall}
use Rattle.zt_laws.specs.Sound.{rows_after_call}
use Rattle.zt_laws.proofs.Lists.{by_test}
use Rattle.zt_rollback.specs.After.{Before}
use Rattle.zt_fabric_state.specs.Changes.{IsAfter}

-- no member has the number
pub at_nth_none : {A : Type 0} (n : ℕ) (change : A → A) (xs : List A) → nth n xs ≡ None → at_nth n change xs ≡ xs
at_nth_none n change [] none = refl
at_nth_none n change (x ∷ xs) none =
    by_test (n == 1)
    (λ here. let e : Some x ≡ None = rw here at none in cc)
    (λ here. rw here (ap (λ rest. x ∷ rest) (at_nth_none (n - 1) change xs (rw here at none))))

-- the rows that were there before
back_nth : {K : Type 0} (n : ℕ) (change : Rows K → Rows K) (former : Rows K) (xs : List (Node K)) (node : Node K) → nth n xs ≡ Some node → former ≡ node.rows
    → at_nth n (λ (x : Node K). record x { rows = former }) (at_nth n (λ (x : Node K). record x { rows = change x.rows }) xs) ≡ xs
back_nth n change former [] node at_ is = refl
back_nth n change former (x ∷ xs) node at_ is =
    by_test (n == 1)
    (λ here.
    let same : Some x ≡ Some node = rw here at at_ in
    let is_x : x ≡ node = cc in
    let former_is : former ≡ x.rows = is ∙ ap (λ (y : Node _). y.rows) (sym is_x) in
    rw (here, here) (ap (λ g. record x { rows = g } ∷ xs) former_is))
    (λ past. rw (past, past) (ap (λ rest. x ∷ rest) (back_nth (n - 1) change former xs node (rw past at at_) is)))

pub put_back : {K : Type 0} (n : ℕ) (change : Rows K → Rows K) (former : Rows K) (s : Fabric K) (node : Node K) → nth n s.gateways ≡ Some node → former ≡ node.rows → with_rows n (λ _. former) (with_rows n change s) ≡ s
put_back n change former s node at_ is = ap (λ (gs : List (Node _)). record s { gateways = gs }) (back_nth n change former s.gateways node at_ is)

-- ---- the gateways, where one of them is changed

-- the other members stay, and the one of the number is changed
pub other_nth : {K : Type 0} (k n : ℕ) (change : Node K → Node K) (xs : List (Node K)) → (k == n) ≡ false → nth k (at_nth n change xs) ≡ nth k xs
other_nth k n change [] apart = refl
other_nth k n change (x ∷ xs) apart =
    by_test (n == 1)
    (λ here.
    let one : n ≡ 1 = eqb-true n 1 here in
    let later : (k == 1) ≡ false = ap (λ m. k == m) (sym one) ∙ apart in
    rw (here, later) refl)
    (λ past. rw past (by_test (k == 1) (λ first. rw first refl) (λ later.
    let differ : k ≢ n = eqb-false k n apart in
    let not_one : n ≢ 1 = eqb-false n 1 past in
    let not_first : k ≢ 1 = eqb-false k 1 later in
    rw later (other_nth (k - 1) (n - 1) change xs (ne_eqb (k - 1) (n - 1) (omega arith))))))

pub same_nth : {K : Type 0} (n : ℕ) (change : Node K → Node K) (xs : List (Node K)) → nth n (at_nth n change xs) ≡ option_map change (nth n xs)
same_nth n change [] = refl
same_nth n change (x ∷ xs) = by_test (n == 1) (λ here. rw (here, here) refl) (λ past. rw (past, past) (same_nth (n - 1) change xs))

-- ---- a gateway keeps what a call leaves of what it kept before

module _ {K : Type 0} (cmp : K → K → Ordering) (matching : K → K → Bool) where
  pub after_put : (n : ℕ) (c : PlainCall K) (former : Before K) (s t : Fabric K) (node : Node K) → nth n s.gateways ≡ Some node → former.rows ≡ node.rows → former.call ≡ c
      → t ≡ with_rows n (rows_after_call cmp matching c) s → IsAfter cmp matching (Some former) n t
  after_put n c former s t node at_ rows_is call_is t_is = λ found there.
      let change = λ (x : Node K). record x { rows = rows_after_call cmp matching c x.rows } in
      let e : Some (change node) ≡ Some found = sym (same_nth n change s.gateways ∙ ap (option_map change) at_) ∙ ap (λ (u : Fabric K). nth n u.gateways) (sym t_is) ∙ there in
      let is : change node ≡ found = cc in
      ap (λ (x : Node K). x.rows) (sym is) ∙ ap (rows_after_call cmp matching c) (sym rows_is) ∙ ap (λ d. rows_after_call cmp matching d former.rows) (sym call_is)

  -- and so it does where only other gateways were changed
  pub after_alike : (former : Option (Before K)) (n : ℕ) (s t : Fabric K) → nth n t.gateways ≡ nth n s.gateways → IsAfter cmp matching former n s → IsAfter cmp matching former n t
  after_alike None n s t alike after = tt
  after_alike (Some former) n s t alike after = λ node at_. after node (sym alike ∙ at_)
