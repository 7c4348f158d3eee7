-- Steps of the walks over messages.
use Rattle.std.proofs.Common.{◌≡◌, if◌then◌else◌, ℕ, zero, suc, ◌+◌, ◌-◌, ◌<◌, ◌≤◌, Bool, true, false, ◌&&◌, ◌==◌, not, List, [], ◌∷◌, ◌++◌, length, get_or, drop, take, refl, sym, ap, ◌∙◌, arith}
use Rattle.std.proofs.lemmas.Bool.{and_parts, false≢true}
use Rattle.std.proofs.lemmas.List.{drop_all, take_all}
use Rattle.zt_keys.specs.Test.{by_test}
use Rattle.zt_protocol.specs.declared.entries.Sent.{Sent}
use Rattle.zt_model.specs.Fabric.{Fabric, printed_for}
use Rattle.zt_model.specs.Promises.{finals_in, is_final_of}
use Rattle.zt_check_faces.proofs.Placed.{next_is}
use Rattle.zt_check_fabric.proofs.Gathered.{append_none}
use Rattle.zt_check_finals.specs.Ending.{unopened_by, unopened_of}
use Rattle.zt_check_finals.specs.Finishing.{finals_from, finals_one, is_followed_by_none, nothing_follows}

pub not_no : (b : Bool) → not b ≡ false → b ≡ true
not_no true h = refl
not_no false h = absurd (false≢true (sym h))

pub not_yes : (b : Bool) → not b ≡ true → b ≡ false
not_yes true h = absurd (false≢true h)
not_yes false h = refl

-- what is left behind a place, counted to the end
pub rest_is : {A : Type 0} (n : ℕ) (xs : List A) → take (length xs - n) (drop n xs) ≡ drop n xs
rest_is zero xs = take_all (length xs - 0) xs (omega arith)
rest_is (suc n) [] = take_all (0 - suc n) [] (omega arith)
rest_is (suc n) (x ∷ xs) = let less : length (x ∷ xs) - suc n ≡ length xs - n = omega arith in rw less (rest_is n xs)

-- ---- what follows

module _ {K : Type 0} (s : Fabric K) (ms : List (Sent K)) (i : ℕ) (m : Sent K) (within : i < length ms) (is : m ≡ get_or ms i m) (so_far : nothing_follows s (drop i ms) ≡ nothing_follows s ms) where
  pub none_more : is_followed_by_none s m.face m.message (drop (i + 1) ms) ≡ true → nothing_follows s (drop (i + 1) ms) ≡ nothing_follows s ms
  none_more ok = sym (ap (λ b. b && nothing_follows s (drop (i + 1) ms)) ok) ∙ (ap (nothing_follows s) (sym (next_is ms i m within is)) ∙ so_far)

  pub some_more : is_followed_by_none s m.face m.message (drop (i + 1) ms) ≡ false → false ≡ nothing_follows s ms
  some_more bad = sym (ap (λ b. b && nothing_follows s (drop (i + 1) ms)) bad) ∙ (ap (nothing_follows s) (sym (next_is ms i m within is)) ∙ so_far)

-- ---- faces that aren't open

module _ {K : Type 0} (s : Fabric K) where
  pub unopened_first : (m : Sent K) (ms : List (Sent K)) → unopened_by s (m ∷ ms) ≡ unopened_by s (m ∷ []) ++ unopened_by s ms
  unopened_first m ms = ap (λ (xs : List ℕ). xs ++ unopened_by s ms) (sym (append_none (unopened_of s m.face m.message)))

  pub unopened_one : (m : Sent K) (before after : List ℕ) → after ≡ before ++ unopened_of s m.face m.message → after ≡ before ++ unopened_by s (m ∷ [])
  unopened_one m before after is = is ∙ ap (λ (xs : List ℕ). before ++ xs) (sym (append_none (unopened_of s m.face m.message)))

-- ---- finals that are counted

module _ {K : Type 0} (id number : ℕ) where
  first_counts : (m : Sent K) (ms : List (Sent K)) → finals_one number id m ≡ true → finals_from id number (m ∷ ms) ≡ suc (finals_from id number ms)
  unfolding printed_for
  first_counts m ms one =
      let parts = and_parts (number == m.face) (is_final_of id m.message) one in
      rw parts.0 (rw parts.1 refl)

  first_not : (m : Sent K) (ms : List (Sent K)) → finals_one number id m ≡ false → finals_from id number (m ∷ ms) ≡ finals_from id number ms
  unfolding printed_for
  first_not m ms none =
      by_test (number == m.face)
      (λ own. let other : is_final_of id m.message ≡ false = rw own at none in rw own (rw other refl))
      (λ apart. rw apart refl)

  pub none_left : (ms : List (Sent K)) (i count : ℕ) → length ms ≤ i → count + finals_from id number (drop i ms) ≡ finals_from id number ms → count ≡ finals_from id number ms
  unfolding printed_for
  none_left ms i count past so_far =
      let none : finals_from id number (drop i ms) ≡ 0 = ap (finals_from id number) (drop_all i ms past) in
      omega (arith, none, so_far)

  module _ (ms : List (Sent K)) (i count : ℕ) (m : Sent K) (within : i < length ms) (is : m ≡ get_or ms i m) (so_far : count + finals_from id number (drop i ms) ≡ finals_from id number ms) where
    split : finals_from id number (drop i ms) ≡ finals_from id number (m ∷ drop (i + 1) ms)
    split = ap (finals_from id number) (next_is ms i m within is)

    pub counted : finals_one number id m ≡ true → (count + 1) + finals_from id number (drop (i + 1) ms) ≡ finals_from id number ms
    counted one = omega (arith, so_far, split, first_counts m (drop (i + 1) ms) one)

    pub passed : finals_one number id m ≡ false → count + finals_from id number (drop (i + 1) ms) ≡ finals_from id number ms
    passed none = omega (arith, so_far, split, first_not m (drop (i + 1) ms) none)

-- one more is counted, or none
module _ {K : Type 0} (id number : ℕ) (ms : List (Sent K)) (i count : ℕ) (m : Sent K) (within : i < length ms) (is : m ≡ get_or ms i m) (so_far : count + finals_from id number (drop i ms) ≡ finals_from id number ms) where
  pub next_counted : (b : Bool) (k : ℕ) → b ≡ finals_one number id m → k ≡ (if b then 1 else 0) → (count + k) + finals_from id number (drop (i + 1) ms) ≡ finals_from id number ms
  next_counted true k one more = ap (λ j. (count + j) + finals_from id number (drop (i + 1) ms)) more ∙ counted id number ms i count m within is so_far (sym one)
  next_counted false k none more = ap (λ j. j + finals_from id number (drop (i + 1) ms)) (omega (arith, more)) ∙ passed id number ms i count m within is so_far (sym none)

pub at_most_one : (b : Bool) (k : ℕ) → k ≡ (if b then 1 else 0) → k ≤ 1
at_most_one true k is = omega (arith, is)
at_most_one false k is = omega (arith, is)
