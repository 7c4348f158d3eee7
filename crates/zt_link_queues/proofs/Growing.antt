-- What waits at places while messages are added and taken.
use Rattle.std.proofs.Common.{◌≡◌, ℕ, zero, suc, ◌+◌, ◌-◌, ◌<◌, ◌≤◌, ◌==◌, ◌⊎◌, inl, inr, cond, false, true, List, [], ◌∷◌, ◌++◌, length, map, take, set, get_or, Option, Some, None, option_map, refl, sym, ap, ◌∙◌, arith, ne_eqb, eq-eqb, eqb-true, append_assoc, add-one, Result, Ok, Err, OnOk, OnErr}
use Rattle.std.proofs.Math.Seq.{take-append_seam, take-suc}
use Rattle.std.proofs.lemmas.List.{append-nil, length-append}
use Rattle.zt_protocol.specs.declared.entries.Sent.{Sent}
use Rattle.zt_protocol.specs.declared.messages.Message.{Message}
use Rattle.zt_model.specs.Fabric.{printed_for}
use Rattle.zt_model.specs.Lists.{at_id, first_of, rest_of, without_id}
use Rattle.std.specs.Option.{option_and_then}
use Rattle.zt_laws.proofs.Ends.{printed_for-append}
use Rattle.zt_laws.proofs.Lists.{by_test}
use Rattle.zt_link_queues.specs.Waiting.{Queued, first_waiting, grown_from, waiting_from, with_printed, without_first, without_taken}

-- a number outside a range is outside what is left of it, and isn't the first
abbrev pub IsOut : ℕ → ℕ → ℕ → Type 0
IsOut face i count = (face < i) ⊎ (i + count ≤ face)

further : (face i count : ℕ) → IsOut face i (suc count) → IsOut face (i + 1) count
further face i count (inl below) = inl (omega arith)
further face i count (inr beyond) = inr (omega arith)

apart : (face i count : ℕ) → IsOut face i (suc count) → (face == i) ≡ false
apart face i count (inl below) = ne_eqb face i (omega arith)
apart face i count (inr beyond) = ne_eqb face i (omega arith)

pub out_of : (face count n : ℕ) → count ≡ n → (face ≡ 0) ⊎ (count < face) → IsOut face 1 n
out_of face count n is (inl none) = inl (omega arith)
out_of face count n is (inr beyond) = inr (omega arith)

-- what holds of an answer that is no error
pub on_ok : {A E : Type 0} (r : Result A E) (P Q : Type 0) → (P → Q) → OnOk r P → OnOk r Q
on_ok (Ok x) P Q f p = f p
on_ok (Err e) P Q f p = tt

module _ {K : Type 0} where
  -- ---- one message

  -- it is printed for another place
  printed_past : (i : ℕ) (m : Sent K) → (i == m.face) ≡ false → printed_for i (m ∷ []) ≡ []
  unfolding printed_for
  printed_past i m past = rw past refl

  printed_here : (i : ℕ) (m : Sent K) → (i == m.face) ≡ true → printed_for i (m ∷ []) ≡ m.message ∷ []
  unfolding printed_for
  printed_here i m here = rw here refl

  grown_past : (i : ℕ) (m : Sent K) (q : Option (List (Message K))) → (i == m.face) ≡ false → option_map (λ waits. waits ++ printed_for i (m ∷ [])) q ≡ q
  grown_past i m None past = refl
  grown_past i m (Some ms) past = rw (printed_past i m past) (ap (λ (ns : List (Message K)). Some ns) (append-nil ms))

  grown_here : (i : ℕ) (m : Sent K) (q : Option (List (Message K))) → (i == m.face) ≡ true → option_map (λ waits. waits ++ printed_for i (m ∷ [])) q ≡ option_map (λ waits. waits ++ m.message ∷ []) q
  grown_here i m None here = refl
  grown_here i m (Some ms) here = rw (printed_here i m here) refl

  pub grown_below : (i : ℕ) (qs : Queued K) (m : Sent K) → m.face < i → grown_from i (m ∷ []) qs ≡ qs
  grown_below i [] m below = refl
  grown_below i (q ∷ qs) m below =
      ap (λ x. x ∷ grown_from (i + 1) (m ∷ []) qs) (grown_past i m q (ne_eqb i m.face (omega arith)))
      ∙ ap (λ rest. q ∷ rest) (grown_below (i + 1) qs m (omega arith))

  pub grown_beyond : (i : ℕ) (qs : Queued K) (m : Sent K) → i + length qs ≤ m.face → grown_from i (m ∷ []) qs ≡ qs
  grown_beyond i [] m beyond = refl
  grown_beyond i (q ∷ qs) m beyond =
      ap (λ x. x ∷ grown_from (i + 1) (m ∷ []) qs) (grown_past i m q (ne_eqb i m.face (omega arith)))
      ∙ ap (λ rest. q ∷ rest) (grown_beyond (i + 1) qs m (omega arith))

  pub grown_at : (i at : ℕ) (qs : Queued K) (m : Sent K) (d : Option (List (Message K))) → at < length qs → m.face ≡ i + at
      → set qs at (option_map (λ waits. waits ++ m.message ∷ []) (get_or qs at d)) ≡ grown_from i (m ∷ []) qs
  grown_at i at [] m d lt is = absurd (omega arith)
  grown_at i zero (q ∷ qs) m d lt is =
      ap (λ x. x ∷ qs) (sym (grown_here i m q (eq-eqb i m.face (omega arith))))
      ∙ ap (λ rest. option_map (λ waits. waits ++ printed_for i (m ∷ [])) q ∷ rest) (sym (grown_below (i + 1) qs m (omega arith)))
  grown_at i (suc at) (q ∷ qs) m d lt is =
      ap (λ x. x ∷ set qs at (option_map (λ waits. waits ++ m.message ∷ []) (get_or qs at d))) (sym (grown_past i m q (ne_eqb i m.face (omega arith))))
      ∙ ap (λ rest. option_map (λ waits. waits ++ printed_for i (m ∷ [])) q ∷ rest) (grown_at (i + 1) at qs m d (omega arith) (omega arith))

  -- ---- the message goes again

  front : (ms : List (Message K)) (m : Message K) → take (length (ms ++ m ∷ []) - 1) (ms ++ m ∷ []) ≡ ms
  front ms m =
      let less : length (ms ++ m ∷ []) - 1 ≡ length ms = omega (arith, length-append ms (m ∷ [])) in
      rw less (take-append_seam ms (m ∷ []))

  back_again : (i : ℕ) (m : Sent K) (q : Option (List (Message K))) → (i == m.face) ≡ true
      → option_map (λ waits. take (length waits - 1) waits) (option_map (λ waits. waits ++ printed_for i (m ∷ [])) q) ≡ q
  back_again i m None here = refl
  back_again i m (Some ms) here = rw (printed_here i m here) (ap (λ (ns : List (Message K)). Some ns) (front ms m.message))

  pub ungrown_at : (i at : ℕ) (qs : Queued K) (m : Sent K) (d : Option (List (Message K))) → at < length qs → m.face ≡ i + at
      → (let gs = grown_from i (m ∷ []) qs in set gs at (option_map (λ waits. take (length waits - 1) waits) (get_or gs at d)) ≡ qs)
  ungrown_at i at [] m d lt is = absurd (omega arith)
  ungrown_at i zero (q ∷ qs) m d lt is =
      ap (λ x. x ∷ grown_from (i + 1) (m ∷ []) qs) (back_again i m q (eq-eqb i m.face (omega arith)))
      ∙ ap (λ rest. q ∷ rest) (grown_below (i + 1) qs m (omega arith))
  ungrown_at i (suc at) (q ∷ qs) m d lt is =
      let gs = grown_from (i + 1) (m ∷ []) qs in
      ap (λ x. x ∷ set gs at (option_map (λ waits. take (length waits - 1) waits) (get_or gs at d))) (grown_past i m q (ne_eqb i m.face (omega arith)))
      ∙ ap (λ rest. q ∷ rest) (ungrown_at (i + 1) at qs m d (omega arith) (omega arith))

  -- ---- many messages

  pub grown_nothing : (i : ℕ) (qs : Queued K) → grown_from i [] qs ≡ qs
  unfolding printed_for
  grown_nothing i [] = refl
  grown_nothing i (None ∷ qs) = ap (λ rest. None ∷ rest) (grown_nothing (i + 1) qs)
  grown_nothing i (Some ms ∷ qs) = ap (λ (ns : List (Message K)). Some ns ∷ grown_from (i + 1) [] qs) (append-nil ms) ∙ ap (λ rest. Some ms ∷ rest) (grown_nothing (i + 1) qs)

  pub grown-append : (i : ℕ) (ms ns : List (Sent K)) (qs : Queued K) → grown_from i (ms ++ ns) qs ≡ grown_from i ns (grown_from i ms qs)
  grown-append i ms ns [] = refl
  grown-append i ms ns (None ∷ qs) = ap (λ rest. None ∷ rest) (grown-append (i + 1) ms ns qs)
  grown-append i ms ns (Some ws ∷ qs) =
      ap (λ (xs : List (Message K)). Some xs ∷ grown_from (i + 1) (ms ++ ns) qs) (ap (λ xs. ws ++ xs) (printed_for-append i ms ns) ∙ sym (append_assoc ws (printed_for i ms) (printed_for i ns)))
      ∙ ap (λ rest. Some ((ws ++ printed_for i ms) ++ printed_for i ns) ∷ rest) (grown-append (i + 1) ms ns qs)

  pub length-grown : (i : ℕ) (ms : List (Sent K)) (qs : Queued K) → length (grown_from i ms qs) ≡ length qs
  length-grown i ms [] = refl
  length-grown i ms (q ∷ qs) = ap (λ n. suc n) (length-grown (i + 1) ms qs)

  -- ---- by numbers

  pub waiting_grown : (i : ℕ) (ms : List (Sent K)) (qs : Queued K) → waiting_from i (grown_from i ms qs) ≡ with_printed ms (waiting_from i qs)
  waiting_grown i ms [] = refl
  waiting_grown i ms (None ∷ qs) = waiting_grown (i + 1) ms qs
  waiting_grown i ms (Some ws ∷ qs) = ap (λ rest. (i, ws ++ printed_for i ms) ∷ rest) (waiting_grown (i + 1) ms qs)

  -- ---- messages are taken, and places end no link any more

  unchanged : (change : ℕ × List (Message K) → ℕ × List (Message K)) (face i : ℕ) (qs : Queued K) → IsOut face i (length qs)
      → ((row : ℕ × List (Message K)) → (face == row.0) ≡ false → change row ≡ row) → map change (waiting_from i qs) ≡ waiting_from i qs
  unchanged change face i [] out same = refl
  unchanged change face i (None ∷ qs) out same = unchanged change face (i + 1) qs (further face i (length qs) out) same
  unchanged change face i (Some ms ∷ qs) out same =
      ap (λ row. row ∷ map change (waiting_from (i + 1) qs)) (same (i, ms) (apart face i (length qs) out))
      ∙ ap (λ rest. (i, ms) ∷ rest) (unchanged change face (i + 1) qs (further face i (length qs) out) same)

  taken_past : (face : ℕ) (row : ℕ × List (Message K)) → (face == row.0) ≡ false → cond (face == row.0) (row.0, rest_of row.1) row ≡ row
  taken_past face row past = rw past refl

  pub taken_out : (face i : ℕ) (qs : Queued K) → IsOut face i (length qs) → without_first face (waiting_from i qs) ≡ waiting_from i qs
  taken_out face i qs out = unchanged (λ row. cond (face == row.0) (row.0, rest_of row.1) row) face i qs out (taken_past face)

  pub taken_at : (face i at : ℕ) (qs : Queued K) (d : Option (List (Message K))) → at < length qs → face ≡ i + at
      → waiting_from i (set qs at (option_map rest_of (get_or qs at d))) ≡ without_first face (waiting_from i qs)
  taken_at face i at [] d lt is = absurd (omega arith)
  taken_at face i zero (None ∷ qs) d lt is = sym (taken_out face (i + 1) qs (inl (omega arith)))
  taken_at face i zero (Some ms ∷ qs) d lt is =
      let here : (face == i) ≡ true = eq-eqb face i (omega arith) in
      rw here (ap (λ rest. (i, rest_of ms) ∷ rest) (sym (taken_out face (i + 1) qs (inl (omega arith)))))
  taken_at face i (suc at) (None ∷ qs) d lt is = taken_at face (i + 1) at qs d (omega arith) (omega arith)
  taken_at face i (suc at) (Some ms ∷ qs) d lt is =
      let past : (face == i) ≡ false = ne_eqb face i (omega arith) in
      rw past (ap (λ rest. (i, ms) ∷ rest) (taken_at face (i + 1) at qs d (omega arith) (omega arith)))

  pub dropped_out : (face i : ℕ) (qs : Queued K) → IsOut face i (length qs) → without_id face (waiting_from i qs) ≡ waiting_from i qs
  dropped_out face i [] out = refl
  dropped_out face i (None ∷ qs) out = dropped_out face (i + 1) qs (further face i (length qs) out)
  dropped_out face i (Some ms ∷ qs) out =
      rw (apart face i (length qs) out) (ap (λ rest. (i, ms) ∷ rest) (dropped_out face (i + 1) qs (further face i (length qs) out)))

  pub dropped_at : (face i at : ℕ) (qs : Queued K) → at < length qs → face ≡ i + at → waiting_from i (set qs at None) ≡ without_id face (waiting_from i qs)
  dropped_at face i at [] lt is = absurd (omega arith)
  dropped_at face i zero (None ∷ qs) lt is = sym (dropped_out face (i + 1) qs (inl (omega arith)))
  dropped_at face i zero (Some ms ∷ qs) lt is =
      let here : (face == i) ≡ true = eq-eqb face i (omega arith) in
      rw here (sym (dropped_out face (i + 1) qs (inl (omega arith))))
  dropped_at face i (suc at) (None ∷ qs) lt is = dropped_at face (i + 1) at qs (omega arith) (omega arith)
  dropped_at face i (suc at) (Some ms ∷ qs) lt is =
      let past : (face == i) ≡ false = ne_eqb face i (omega arith) in
      rw past (ap (λ rest. (i, ms) ∷ rest) (dropped_at face (i + 1) at qs (omega arith) (omega arith)))

  -- ---- one more place

  pub waiting-append : (i : ℕ) (qs : Queued K) (q : Option (List (Message K))) → waiting_from i (qs ++ q ∷ []) ≡ waiting_from i qs ++ waiting_from (i + length qs) (q ∷ [])
  waiting-append i [] q = let still : i + 0 ≡ i = omega arith in rw still refl
  waiting-append i (None ∷ qs) q = let less : i + suc (length qs) ≡ i + 1 + length qs = omega arith in rw less (waiting-append (i + 1) qs q)
  waiting-append i (Some ms ∷ qs) q = let less : i + suc (length qs) ≡ i + 1 + length qs = omega arith in rw less (ap (λ rest. (i, ms) ∷ rest) (waiting-append (i + 1) qs q))

  -- ---- the oldest message

  none_out : (face i : ℕ) (qs : Queued K) → IsOut face i (length qs) → at_id face (waiting_from i qs) ≡ None
  none_out face i [] out = refl
  none_out face i (None ∷ qs) out = none_out face (i + 1) qs (further face i (length qs) out)
  none_out face i (Some ms ∷ qs) out = rw (apart face i (length qs) out) (none_out face (i + 1) qs (further face i (length qs) out))

  found_at : (face i at : ℕ) (qs : Queued K) (d : Option (List (Message K))) → at < length qs → face ≡ i + at → at_id face (waiting_from i qs) ≡ get_or qs at d
  found_at face i at [] d lt is = absurd (omega arith)
  found_at face i zero (None ∷ qs) d lt is = none_out face (i + 1) qs (inl (omega arith))
  found_at face i zero (Some ms ∷ qs) d lt is = rw (eq-eqb face i (omega arith)) refl
  found_at face i (suc at) (None ∷ qs) d lt is = found_at face (i + 1) at qs d (omega arith) (omega arith)
  found_at face i (suc at) (Some ms ∷ qs) d lt is = rw (ne_eqb face i (omega arith)) (found_at face (i + 1) at qs d (omega arith) (omega arith))

  pub first_out : (face i : ℕ) (qs : Queued K) → IsOut face i (length qs) → first_waiting face (waiting_from i qs) ≡ None
  first_out face i qs out = ap (λ (o : Option (List (Message K))). first_of (elim o [ None ↦ [] | Some ms ↦ ms ])) (none_out face i qs out)

  first_of_some : (o : Option (List (Message K))) → first_of (elim o [ None ↦ [] | Some ms ↦ ms ]) ≡ option_and_then first_of o
  first_of_some None = refl
  first_of_some (Some ms) = refl

  pub first_at : (face i at : ℕ) (qs : Queued K) (d : Option (List (Message K))) → at < length qs → face ≡ i + at → first_waiting face (waiting_from i qs) ≡ option_and_then first_of (get_or qs at d)
  first_at face i at qs d lt is =
      ap (λ (o : Option (List (Message K))). first_of (elim o [ None ↦ [] | Some ms ↦ ms ])) (found_at face i at qs d lt is) ∙ first_of_some (get_or qs at d)

  -- ---- at a place that was found, and where there is none

  pub grown_out : (qs : Queued K) (m : Sent K) → IsOut m.face 1 (length qs) → grown_from 1 (m ∷ []) qs ≡ qs
  grown_out qs m (inl below) = grown_below 1 qs m below
  grown_out qs m (inr beyond) = grown_beyond 1 qs m beyond

  pub grown_there : (qs : Queued K) (m : Sent K) (at : ℕ) (x y : Option (List (Message K))) → at < length qs → m.face ≡ at + 1 → x ≡ get_or qs at x
      → y ≡ option_map (λ waits. waits ++ m.message ∷ []) x → set qs at y ≡ grown_from 1 (m ∷ []) qs
  grown_there qs m at x y lt counted read is =
      ap (set qs at) (is ∙ ap (option_map (λ waits. waits ++ m.message ∷ [])) read) ∙ grown_at 1 at qs m x lt (omega arith)

  pub ungrown_out : (gs before : Queued K) (m : Sent K) → gs ≡ grown_from 1 (m ∷ []) before → IsOut m.face 1 (length gs) → gs ≡ before
  ungrown_out gs before m grown out =
      let same : length gs ≡ length before = ap length grown ∙ length-grown 1 (m ∷ []) before in
      let out_ : IsOut m.face 1 (length before) = rw same at out in
      grown ∙ grown_out before m out_

  pub ungrown_there : (gs before : Queued K) (m : Sent K) (at : ℕ) (x y : Option (List (Message K))) → gs ≡ grown_from 1 (m ∷ []) before → at < length gs → m.face ≡ at + 1 → x ≡ get_or gs at x
      → y ≡ option_map (λ waits. take (length waits - 1) waits) x → set gs at y ≡ before
  ungrown_there gs before m at x y grown lt counted read is =
      let same : length gs ≡ length before = ap length grown ∙ length-grown 1 (m ∷ []) before in
      ap (set gs at) (is ∙ ap (option_map (λ waits. take (length waits - 1) waits)) read)
      ∙ ap (λ (hs : Queued K). set hs at (option_map (λ waits. take (length waits - 1) waits) (get_or hs at x))) grown
      ∙ ungrown_at 1 at before m x (omega arith) (omega arith)

  pub taken_there : (face at : ℕ) (qs : Queued K) (x y : Option (List (Message K))) → at < length qs → face ≡ at + 1 → x ≡ get_or qs at x → y ≡ option_map rest_of x
      → waiting_from 1 (set qs at y) ≡ without_first face (waiting_from 1 qs)
  taken_there face at qs x y lt counted read is =
      ap (λ q. waiting_from 1 (set qs at q)) (is ∙ ap (option_map rest_of) read) ∙ taken_at face 1 at qs x lt (omega arith)

  pub dropped_there : (face at : ℕ) (qs : Queued K) (y : Option (List (Message K))) → at < length qs → face ≡ at + 1 → y ≡ None → waiting_from 1 (set qs at y) ≡ without_id face (waiting_from 1 qs)
  dropped_there face at qs y lt counted is = ap (λ q. waiting_from 1 (set qs at q)) is ∙ dropped_at face 1 at qs lt (omega arith)

  pub first_there : (face at : ℕ) (qs : Queued K) (x : Option (List (Message K))) → at < length qs → face ≡ at + 1 → x ≡ get_or qs at x → option_and_then first_of x ≡ first_waiting face (waiting_from 1 qs)
  first_there face at qs x lt counted read = ap (option_and_then first_of) read ∙ sym (first_at face 1 at qs x lt (omega arith))

  -- there are as many places, whatever the answer
  pub places_stay : {E : Type 0} (r : Result (Unit {0}) E) (ms : List (Sent K)) (qs new : Queued K) → OnOk r (new ≡ grown_from 1 ms qs) → OnErr r (new ≡ qs) → length new ≡ length qs
  places_stay (Ok x) ms qs new grown same = ap length grown ∙ length-grown 1 ms qs
  places_stay (Err e) ms qs new grown same = ap length same

  -- ---- messages one after another

  -- one more message
  pub grown_more : (ms : List (Sent K)) (m : Sent K) (at : ℕ) (qs : Queued K) → at < length ms → m ≡ get_or ms at m → grown_from 1 (take (at + 1) ms) qs ≡ grown_from 1 (m ∷ []) (grown_from 1 (take at ms) qs)
  grown_more ms m at qs lt read =
      let more : take (at + 1) ms ≡ take at ms ++ m ∷ [] = rw add-one (take-suc ms at m lt ∙ ap (λ x. take at ms ++ x ∷ []) (sym read)) in
      ap (λ xs. grown_from 1 xs qs) more ∙ grown-append 1 (take at ms) (m ∷ []) qs

  -- ---- a message is taken before others are added, or behind them

  -- where nothing waits nothing is taken
  pub none_taken : (face i : ℕ) (qs : Queued K) → first_waiting face (waiting_from i qs) ≡ None → without_first face (waiting_from i qs) ≡ waiting_from i qs
  none_taken face i [] none = refl
  none_taken face i (None ∷ qs) none = none_taken face (i + 1) qs none
  none_taken face i (Some ms ∷ qs) none =
      by_test (face == i)
      (λ here.
      let empty : first_of ms ≡ None = rw here at none in
      let past : (face == i) ≡ true = here in
      let is : face ≡ i = eqb-true face i here in
      rw here (ap (λ (ns : List (Message K)). (i, ns) ∷ without_first face (waiting_from (i + 1) qs)) (rest_of_none ms empty) ∙ ap (λ rest. (i, ms) ∷ rest) (taken_out face (i + 1) qs (inl (omega arith)))))
      (λ past. rw past (ap (λ rest. (i, ms) ∷ rest) (none_taken face (i + 1) qs (rw past at none))))
    where
      rest_of_none : (ms : List (Message K)) → first_of ms ≡ None → rest_of ms ≡ ms
      rest_of_none [] none = refl
      rest_of_none (m ∷ ms) none = cc

  -- where a message waits it is the same before others are added
  pub first_taken : (face i : ℕ) (qs : Queued K) (sent : List (Sent K)) (m : Message K) → first_waiting face (waiting_from i qs) ≡ Some m
      → without_first face (with_printed sent (waiting_from i qs)) ≡ with_printed sent (without_first face (waiting_from i qs))
  first_taken face i [] sent m first = refl
  first_taken face i (None ∷ qs) sent m first = first_taken face (i + 1) qs sent m first
  first_taken face i (Some ms ∷ qs) sent m first =
      by_test (face == i)
      (λ here.
      let some : first_of ms ≡ Some m = rw here at first in
      let is : face ≡ i = eqb-true face i here in
      let out : without_first face (waiting_from (i + 1) qs) ≡ waiting_from (i + 1) qs = taken_out face (i + 1) qs (inl (omega arith)) in
      let grown : without_first face (with_printed sent (waiting_from (i + 1) qs)) ≡ with_printed sent (waiting_from (i + 1) qs) =
      ap (without_first face) (sym (waiting_grown (i + 1) sent qs)) ∙ taken_out face (i + 1) (grown_from (i + 1) sent qs) (inl (omega arith)) ∙ waiting_grown (i + 1) sent qs in
      rw here
      (ap (λ (ns : List (Message K)). (i, ns) ∷ without_first face (with_printed sent (waiting_from (i + 1) qs))) (rest_of_some ms (printed_for i sent) m some)
      ∙ ap (λ rest. (i, rest_of ms ++ printed_for i sent) ∷ rest) (grown ∙ ap (with_printed sent) (sym out))))
      (λ past. rw past (ap (λ rest. (i, ms ++ printed_for i sent) ∷ rest) (first_taken face (i + 1) qs sent m (rw past at first))))
    where
      rest_of_some : (ms ns : List (Message K)) (m : Message K) → first_of ms ≡ Some m → rest_of (ms ++ ns) ≡ rest_of ms ++ ns
      rest_of_some [] ns m first = cc
      rest_of_some (x ∷ ms) ns m first = refl

  pub taken_where_none : (taken : Option ℕ) (face : ℕ) (qs : Queued K) → taken ≡ Some face → None ≡ first_waiting face (waiting_from 1 qs) → (sent : List (Sent K))
      → with_printed sent (waiting_from 1 qs) ≡ with_printed sent (without_taken taken (waiting_from 1 qs))
  taken_where_none taken face qs is none sent = ap (with_printed sent) (sym (none_taken face 1 qs (sym none)) ∙ ap (λ t. without_taken t (waiting_from 1 qs)) (sym is))

  pub taken_where_some : (taken : Option ℕ) (face : ℕ) (qs : Queued K) (m : Message K) → taken ≡ Some face → Some m ≡ first_waiting face (waiting_from 1 qs) → (sent : List (Sent K))
      → without_first face (with_printed sent (waiting_from 1 qs)) ≡ with_printed sent (without_taken taken (waiting_from 1 qs))
  taken_where_some taken face qs m is some sent = first_taken face 1 qs sent m (sym some) ∙ ap (λ t. with_printed sent (without_taken t (waiting_from 1 qs))) (sym is)

  -- the last place goes
  pub waiting_popped : (i : ℕ) (qs : Queued K) → waiting_from i (take (length qs - 1) qs) ≡ without_id (i + length qs - 1) (waiting_from i qs)
  waiting_popped i [] = refl
  waiting_popped i (None ∷ []) = refl
  waiting_popped i (Some ms ∷ []) = let here : (i + 1 - 1 == i) ≡ true = eq-eqb (i + 1 - 1) i (omega arith) in rw here refl
  waiting_popped i (q ∷ r ∷ qs) =
      let less : suc (suc (length qs)) - 1 ≡ suc (suc (length qs) - 1) = omega arith in
      let last : i + suc (suc (length qs)) - 1 ≡ i + 1 + suc (length qs) - 1 = omega arith in
      rw (less, last) (cases q (waiting_popped (i + 1) (r ∷ qs)))
    where
      cases : (q : Option (List (Message K))) → waiting_from (i + 1) (take (suc (length qs) - 1) (r ∷ qs)) ≡ without_id (i + 1 + suc (length qs) - 1) (waiting_from (i + 1) (r ∷ qs))
          → waiting_from i (q ∷ take (suc (length qs) - 1) (r ∷ qs)) ≡ without_id (i + 1 + suc (length qs) - 1) (waiting_from i (q ∷ r ∷ qs))
      cases None rest = rest
      cases (Some ms) rest =
          let past : (i + 1 + suc (length qs) - 1 == i) ≡ false = ne_eqb (i + 1 + suc (length qs) - 1) i (omega arith) in
          rw past (ap (λ others. (i, ms) ∷ others) rest)
