-- Places with what waits there: one more, and one less again.
use Rattle.std.proofs.Common.{◌≡◌, ℕ, ◌+◌, ◌-◌, List, [], ◌∷◌, ◌++◌, length, take, Option, Some, None, Result, Ok, Err, OnOk, OnErr, refl, sym, ap, ◌∙◌, arith}
use Rattle.std.proofs.Math.Seq.{take-append_seam}
use Rattle.std.proofs.lemmas.List.{append-nil, length-append, length-take}
use Rattle.zt_protocol.specs.declared.entries.Sent.{Sent}
use Rattle.zt_protocol.specs.declared.messages.Message.{Message}
use Rattle.zt_model.specs.Fabric.{Fabric, Link, Node, Place, with_waiting}
use Rattle.zt_model.specs.Rows.{ById}
use Rattle.zt_model.specs.Lists.{without_id}
use Rattle.zt_link_queues.specs.Waiting.{Queued, waiting_from, with_printed, without_taken}
use Rattle.zt_link_queues.proofs.Growing.{waiting-append, waiting_popped}
use Rattle.zt_fabric_state.specs.Changes.{taken_by, without_last_place}

-- two facts of an answer that is no error
pub ok_two : {A E : Type 0} (r : Result A E) (P Q R : Type 0) → (P → Q → R) → OnOk r P → OnOk r Q → OnOk r R
ok_two (Ok x) P Q R both p q = both p q
ok_two (Err e) P Q R both p q = tt

-- and of one that is
pub err_two : {A E : Type 0} (r : Result A E) (P Q R : Type 0) → (P → Q → R) → OnErr r P → OnErr r Q → OnErr r R
err_two (Ok x) P Q R both p q = tt
err_two (Err e) P Q R both p q = both p q

-- all but the last
pub front : {A : Type 0} (xs : List A) (x : A) → take (length (xs ++ x ∷ []) - 1) (xs ++ x ∷ []) ≡ xs
front xs x =
    let less : length (xs ++ x ∷ []) - 1 ≡ length xs = omega (arith, length-append xs (x ∷ [])) in
    ap (λ n. take n (xs ++ x ∷ [])) less ∙ take-append_seam xs (x ∷ [])

-- there are as many queues as places, one more or not
pub as_many : {A B E : Type 0} (r : Result (Unit {0}) E) (xs ys : List A) (x : A) (qs rs : List B) (q : B) → length qs ≡ length xs
    → OnOk r (ys ≡ xs ++ x ∷ []) → OnOk r (rs ≡ qs ++ q ∷ []) → OnErr r (ys ≡ xs) → OnErr r (rs ≡ qs) → length rs ≡ length ys
as_many (Ok t) xs ys x qs rs q same more more_ err err_ =
    let both : length (qs ++ q ∷ []) ≡ length (xs ++ x ∷ []) = omega (arith, length-append qs (q ∷ []), length-append xs (x ∷ [])) in
    ap length more_ ∙ both ∙ sym (ap length more)
as_many (Err e) xs ys x qs rs q same more more_ err err_ = ap length err_ ∙ same ∙ sym (ap length err)

-- and with one less
pub popped_as_many : {A B : Type 0} (qs : List B) (xs : List A) → length qs ≡ length xs → length (take (length qs - 1) qs) ≡ length (take (length xs - 1) xs)
popped_as_many qs xs same =
    omega (arith, length-take (length qs - 1) qs, length-take (length xs - 1) xs)

module _ {K : Type 0} where
  pub pushed_waits : (qs : Queued K) → waiting_from 1 (qs ++ None ∷ []) ≡ waiting_from 1 qs
  pushed_waits qs = waiting-append 1 qs None ∙ append-nil (waiting_from 1 qs)

  pub pushed_end_waits : (qs : Queued K) (n : ℕ) → length qs ≡ n → waiting_from 1 (qs ++ Some [] ∷ []) ≡ waiting_from 1 qs ++ (n + 1, []) ∷ []
  pushed_end_waits qs n is =
      let number : 1 + length qs ≡ n + 1 = omega arith in
      waiting-append 1 qs (Some []) ∙ ap (λ k. waiting_from 1 qs ++ (k, []) ∷ []) number

  popped_waits : (qs : Queued K) (q : Option (List (Message K))) (n : ℕ) → length qs ≡ n → without_id (n + 1) (waiting_from 1 (qs ++ q ∷ [])) ≡ waiting_from 1 qs
  popped_waits qs q n is =
      let all = qs ++ q ∷ [] in
      let number : n + 1 ≡ 1 + length (qs ++ q ∷ []) - 1 = omega (arith, length-append qs (q ∷ [])) in
      ap (λ k. without_id k (waiting_from 1 all)) number ∙ sym (waiting_popped 1 all) ∙ ap (waiting_from 1) (front qs q)

  -- a fabric by its parts
  abbrev pub fabric_of : List (Node K) → List Place → List Link → Queued K → Fabric K
  fabric_of gs xs ls qs = record { gateways = gs; faces = xs; links = ls; waiting = waiting_from 1 qs }

  pub place_pushed : (gs : List (Node K)) (xs ys : List Place) (ls : List Link) (qs rs : Queued K) (p : Place) → ys ≡ xs ++ p ∷ [] → rs ≡ qs ++ None ∷ []
      → fabric_of gs ys ls rs ≡ record (fabric_of gs xs ls qs) { faces = xs ++ p ∷ [] }
  place_pushed gs xs ys ls qs rs p places queues =
      ap (λ zs. fabric_of gs zs ls rs) places
      ∙ ap (fabric_of gs (xs ++ p ∷ []) ls) queues
      ∙ ap (λ (ws : ById (List (Message K))). record (fabric_of gs xs ls qs) { faces = xs ++ p ∷ []; waiting = ws }) (pushed_waits qs)

  pub end_pushed : (gs : List (Node K)) (xs ys : List Place) (ls : List Link) (qs rs : Queued K) (p : Place) → length qs ≡ length xs → ys ≡ xs ++ p ∷ [] → rs ≡ qs ++ Some [] ∷ []
      → fabric_of gs ys ls rs ≡ record (fabric_of gs xs ls qs) { faces = xs ++ p ∷ []; waiting = waiting_from 1 qs ++ (length xs + 1, []) ∷ [] }
  end_pushed gs xs ys ls qs rs p same places queues =
      ap (λ zs. fabric_of gs zs ls rs) places
      ∙ ap (fabric_of gs (xs ++ p ∷ []) ls) queues
      ∙ ap (λ (ws : ById (List (Message K))). record (fabric_of gs xs ls qs) { faces = xs ++ p ∷ []; waiting = ws }) (pushed_end_waits qs (length xs) same)

  -- the last place goes again
  pub place_back : (gs : List (Node K)) (xs ys : List Place) (ls : List Link) (qs rs : Queued K) (p : Place) (q : Option (List (Message K))) → length qs ≡ length xs → ys ≡ xs ++ p ∷ [] → rs ≡ qs ++ q ∷ []
      → without_last_place (fabric_of gs ys ls rs) ≡ fabric_of gs xs ls qs
  place_back gs xs ys ls qs rs p q same places queues =
      let count : length (xs ++ p ∷ []) ≡ length xs + 1 = length-append xs (p ∷ []) in
      ap (λ zs. without_last_place (fabric_of gs zs ls rs)) places
      ∙ ap (λ (us : Queued K). without_last_place (fabric_of gs (xs ++ p ∷ []) ls us)) queues
      ∙ ap (λ (zs : List Place). record (fabric_of gs xs ls qs) { faces = zs; waiting = without_id (length (xs ++ p ∷ [])) (waiting_from 1 (qs ++ q ∷ [])) }) (front xs p)
      ∙ ap (λ k. record (fabric_of gs xs ls qs) { waiting = without_id k (waiting_from 1 (qs ++ q ∷ [])) }) count
      ∙ ap (λ (ws : ById (List (Message K))). record (fabric_of gs xs ls qs) { waiting = ws }) (popped_waits qs q (length xs) same)

  pub place_popped : (gs : List (Node K)) (xs ys : List Place) (ls : List Link) (qs rs : Queued K) → length qs ≡ length xs → ys ≡ take (length xs - 1) xs → rs ≡ take (length qs - 1) qs
      → fabric_of gs ys ls rs ≡ without_last_place (fabric_of gs xs ls qs)
  place_popped gs xs ys ls qs rs same places queues =
      let number : 1 + length qs - 1 ≡ length xs = omega arith in
      ap (λ zs. fabric_of gs zs ls rs) places
      ∙ ap (fabric_of gs (take (length xs - 1) xs) ls) queues
      ∙ ap (λ (ws : ById (List (Message K))). record (fabric_of gs xs ls qs) { faces = take (length xs - 1) xs; waiting = ws })
      (waiting_popped 1 qs ∙ ap (λ k. without_id k (waiting_from 1 qs)) number)

  pub turned_waits : (taken : Option ℕ) (ms : List (Sent K)) (gs : List (Node K)) (xs : List Place) (ls : List Link) (qs rs : Queued K) → waiting_from 1 rs ≡ with_printed ms (without_taken taken (waiting_from 1 qs))
      → fabric_of gs xs ls rs ≡ with_waiting ms (taken_by taken (fabric_of gs xs ls qs))
  turned_waits taken ms gs xs ls qs rs is = ap (λ (ws : ById (List (Message K))). record (fabric_of gs xs ls qs) { waiting = ws }) is ∙ cases taken
    where
      cases : (o : Option ℕ) → record (fabric_of gs xs ls qs) { waiting = with_printed ms (without_taken o (waiting_from 1 qs)) } ≡ with_waiting ms (taken_by o (fabric_of gs xs ls qs))
      cases None = refl
      cases (Some face) = refl

  -- places and what waits there are as they were
  pub places_kept : (gs : List (Node K)) (xs ys : List Place) (ls : List Link) (qs rs : Queued K) → ys ≡ xs → rs ≡ qs → fabric_of gs ys ls rs ≡ fabric_of gs xs ls qs
  places_kept gs xs ys ls qs rs places queues = ap (λ zs. fabric_of gs zs ls rs) places ∙ ap (fabric_of gs xs ls) queues
