-- What waits, weighed: a message is taken, and what is printed is added.
use Rattle.std.proofs.Common.{◌≡◌, ℕ, ◌+◌, ◌≤◌, true, false, if◌then◌else◌, ◌&&◌, ◌==◌, nat_le, List, [], ◌∷◌, Some, None, refl, ap, ◌∙◌, arith, eqb-true, ne_eqb}
use Rattle.zt_protocol.specs.declared.entries.Sent.{Sent}
use Rattle.zt_protocol.specs.declared.messages.Message.{Message}
use Rattle.zt_model.specs.Fabric.{Place, number_from, printed_for, sorted_by_face, with_sent}
use Rattle.zt_model.specs.Lists.{at_id, rest_of}
use Rattle.zt_model.specs.Rows.{ById}
use Rattle.zt_model.specs.Transcript.{Each}
use Rattle.zt_laws.specs.Sound.{RiseFrom, is_placed}
use Rattle.zt_laws.proofs.Lists.{by_test, each_weaker, of_cond, rise_above}
use Rattle.zt_theorem_tree_invariant.proofs.Stepping.{taken}
use Rattle.zt_theorem_tree_knowledge.proofs.Queues.{added}
use Rattle.zt_theorem_tree_rest.proofs.Sums.{total, total-append}

module _ {K : Type 0} (weight : ℕ → Message K → ℕ) where
  abbrev pub queues : ById (List (Message K)) → ℕ
  queues w = total (λ row. total (weight row.0) row.1) w

  abbrev pub printed : List (Sent K) → ℕ
  printed ms = total (λ m. weight m.face m.message) ms

  -- ---- a message is taken

  rest_less : (k : ℕ) (ms : List (Message K)) → total (weight k) (rest_of ms) ≤ total (weight k) ms
  rest_less k [] = omega arith
  rest_less k (m ∷ ms) = omega arith

  taken_less : (q : ℕ) (w : ById (List (Message K))) → queues (taken q w) ≤ queues w
  taken_less q [] = omega arith
  taken_less q (row ∷ w) =
      let rest = taken_less q w in
      let first = rest_less row.0 row.1 in
      of_cond (λ (r : ℕ × List (Message K)). total (weight r.0) r.1 + queues (taken q w) ≤ queues (row ∷ w)) (q == row.0) (row.0, rest_of row.1) row (λ _. omega arith) (λ _. omega arith)

  pub taken_pays : (q : ℕ) (m : Message K) (rest : List (Message K)) (w : ById (List (Message K))) → (let ms : List (Message K) = elim (at_id q w) [ None ↦ [] | Some ms ↦ ms ] in ms) ≡ m ∷ rest → queues (taken q w) + weight q m ≤ queues w
  taken_pays q m rest [] is = cc
  taken_pays q m rest (row ∷ w) is =
      by_test (q == row.0)
      (λ here.
      let ms_is : row.1 ≡ m ∷ rest = rw here at is in
      let less = taken_less q w in
      let q_is : q ≡ row.0 = eqb-true q row.0 here in
      let all : total (weight row.0) row.1 ≡ weight row.0 m + total (weight row.0) rest = ap (total (weight row.0)) ms_is in
      let left : total (weight row.0) (rest_of row.1) ≡ total (weight row.0) rest = ap (λ ms. total (weight row.0) (rest_of ms)) ms_is in
      let own : weight q m ≡ weight row.0 m = ap (λ k. weight k m) q_is in
      rw here (omega arith))
      (λ here. let more = taken_pays q m rest w (rw here at is) in rw here (omega arith))

  -- ---- what is printed is added

  -- it is added to one queue at the most
  one_queue : (low : ℕ) (m : Sent K) (w : ById (List (Message K))) → RiseFrom (λ row. row.0) low w → total (λ row. if row.0 == m.face then weight row.0 m.message else 0) w ≤ weight m.face m.message
  one_queue low m [] rises = omega arith
  one_queue low m (row ∷ w) rises =
      by_test (row.0 == m.face)
      (λ here.
      let is : row.0 ≡ m.face = eqb-true row.0 m.face here in
      let none_ = none_above w (each_weaker (λ (r : ℕ × List (Message K)). row.0 + 1 ≤ r.0) (λ r. (r.0 == m.face) ≡ false) (λ r above. ne_eqb r.0 m.face (λ e. omega arith)) w (rise_above (λ (r : ℕ × List (Message K)). r.0) (row.0 + 1) w rises.1)) in
      let own : weight row.0 m.message ≡ weight m.face m.message = ap (λ k. weight k m.message) is in
      rw here (omega arith))
      (λ here. let rest = one_queue (row.0 + 1) m w rises.1 in rw here (omega arith))
    where
      none_above : (w : ById (List (Message K))) → Each (λ r. (r.0 == m.face) ≡ false) w → total (λ row. if row.0 == m.face then weight row.0 m.message else 0) w ≡ 0
      none_above [] all = refl
      none_above (r ∷ w) all = let miss : (r.0 == m.face) ≡ false = all.0 in let rest = none_above w all.1 in rw miss (omega arith)

  for_queues : (ms : List (Sent K)) (w : ById (List (Message K))) → RiseFrom (λ row. row.0) 0 w → total (λ row. total (weight row.0) (printed_for row.0 ms)) w ≤ printed ms
  unfolding printed_for
  for_queues [] w rises = none_for w
    where
      none_for : (w : ById (List (Message K))) → total (λ row. 0) w ≤ 0
      none_for [] = omega arith
      none_for (row ∷ w) = let rest = none_for w in omega arith
  for_queues (m ∷ ms) w rises =
      let one = one_queue 0 m w rises in
      let rest = for_queues ms w rises in
      let sum = split w in
      omega arith
    where
      split : (w : ById (List (Message K))) → total (λ row. total (weight row.0) (printed_for row.0 (m ∷ ms))) w ≡ total (λ row. if row.0 == m.face then weight row.0 m.message else 0) w + total (λ row. total (weight row.0) (printed_for row.0 ms)) w
      split [] = omega arith
      split (row ∷ w) = let rest = split w in by_test (row.0 == m.face) (λ here. rw here (omega arith)) (λ here. rw here (omega arith))

  pub added_pays : (ms : List (Sent K)) (w : ById (List (Message K))) → RiseFrom (λ row. row.0) 0 w → queues (added ms w) ≤ queues w + printed ms
  added_pays ms w rises = let one = for_queues ms w rises in let sum = split w in omega arith
    where
      split : (w : ById (List (Message K))) → queues (added ms w) ≡ queues w + total (λ row. total (weight row.0) (printed_for row.0 ms)) w
      split [] = omega arith
      split (row ∷ w) = let rest = split w in let own = total-append (weight row.0) row.1 (printed_for row.0 ms) in omega arith

  -- ---- sorted or not

  with_sent_total : (m : Sent K) (ms : List (Sent K)) → printed (with_sent m ms) ≡ weight m.face m.message + printed ms
  unfolding with_sent
  with_sent_total m [] = refl
  with_sent_total m (x ∷ xs) =
      let rest = with_sent_total m xs in
      of_cond (λ ys. printed ys ≡ weight m.face m.message + printed (x ∷ xs)) (nat_le m.face x.face) (m ∷ x ∷ xs) (x ∷ with_sent m xs) (λ _. refl) (λ _. omega arith)

  pub sorted_total : (ms : List (Sent K)) → printed (sorted_by_face ms) ≡ printed ms
  unfolding sorted_by_face
  sorted_total [] = refl
  sorted_total (m ∷ ms) = with_sent_total m (sorted_by_face ms) ∙ ap (λ k. weight m.face m.message + k) (sorted_total ms)

-- a place that isn't there has no number
pub no_number : (i n f : ℕ) (ps : List Place) → is_placed n f ps ≡ false → number_from i n f ps ≡ 0
unfolding number_from
no_number i n f [] none_ = refl
no_number i n f (p ∷ ps) none_ = by_test ((n == p.gateway) && (f == p.face)) (λ here. let bad : true ≡ false = rw here at none_ in cc) (λ here. rw here (no_number (i + 1) n f ps (rw here at none_)))
