-- Loops over a list.
use Rattle.std.proofs.Common.{◌≡◌, ◌+◌, ◌<◌, ◌≤◌, ◌==◌, true, Bool, ℕ, suc, List, [], ◌∷◌, ◌++◌, Some, add-one, ap, append_assoc, drop, eq-eqb, filter, get_or, length, map, refl, sym, ◌∙◌}
use Rattle.std.proofs.Math.Seq.{drop-cons}
use Rattle.std.proofs.lemmas.List.{append-nil, drop_all}
use Rattle.zt_protocol.specs.declared.entries.Sent.{Sent}
use Rattle.zt_protocol.specs.declared.messages.Message.{Message}
use Rattle.zt_model.specs.Fabric.{printed_for}
use Rattle.zt_model.specs.Lists.{at_id, without_id}
use Rattle.zt_laws.proofs.Lists.{by_test}
use Rattle.zt_laws.proofs.Ends.{printed_for-append}

-- what is left at an index begins with the item there
pub drop_item : {A : Type 0} (xs : List A) (i : ℕ) (x : A) → i < length xs → x ≡ get_or xs i x → drop i xs ≡ x ∷ drop (i + 1) xs
drop_item xs i x lt is = rw add-one (drop-cons xs i x lt ∙ ap (λ y. y ∷ drop (suc i) xs) (sym is))

-- what is made so far of the items and what is left is all, one item later too
pub map_more : {A B : Type 0} (f : A → B) (xs : List A) (i : ℕ) (x : A) (before after all : List B) → i < length xs → x ≡ get_or xs i x → before ++ map f (drop i xs) ≡ all → after ≡ before ++ f x ∷ [] → after ++ map f (drop (i + 1) xs) ≡ all
map_more f xs i x before after all lt is left more =
    ap (λ ys. ys ++ map f (drop (i + 1) xs)) more
    ∙ append_assoc before (f x ∷ []) (map f (drop (i + 1) xs))
    ∙ ap (λ ys. before ++ map f ys) (sym (drop_item xs i x lt is))
    ∙ left

-- behind the last item all is made
pub map_done : {A B : Type 0} (f : A → B) (xs : List A) (i : ℕ) (before all : List B) → length xs ≤ i → before ++ map f (drop i xs) ≡ all → before ≡ all
map_done f xs i before all past left = sym (append-nil before) ∙ ap (λ ys. before ++ map f ys) (sym (drop_all i xs past)) ∙ left

-- the messages for a face that were added and those that are left are all, one later too
pub printed_more : {K : Type 0} (n : ℕ) (xs : List (Sent K)) (i : ℕ) (x : Sent K) (before after all : List (Message K)) → i < length xs → x ≡ get_or xs i x → before ++ printed_for n (drop i xs) ≡ all → after ≡ before ++ printed_for n (x ∷ []) → after ++ printed_for n (drop (i + 1) xs) ≡ all
printed_more n xs i x before after all lt is left more =
    let rest = drop (i + 1) xs in
    ap (λ ys. ys ++ printed_for n rest) more
    ∙ append_assoc before (printed_for n (x ∷ [])) (printed_for n rest)
    ∙ ap (λ ys. before ++ ys) (sym (printed_for-append n (x ∷ []) rest))
    ∙ ap (λ ys. before ++ printed_for n ys) (sym (drop_item xs i x lt is))
    ∙ left

pub printed_done : {K : Type 0} (n : ℕ) (xs : List (Sent K)) (i : ℕ) (before all : List (Message K)) → length xs ≤ i → before ++ printed_for n (drop i xs) ≡ all → before ≡ all
unfolding printed_for
printed_done n xs i before all past left = sym (append-nil before) ∙ ap (λ ys. before ++ printed_for n ys) (sym (drop_all i xs past)) ∙ left

-- the row under an id that a search comes to
pub id_found : {A : Type 0} (n : ℕ) (rows : List (ℕ × A)) (i : ℕ) (row : ℕ × A) → i < length rows → row ≡ get_or rows i row → n ≡ row.0 → at_id n (drop i rows) ≡ at_id n rows → at_id n rows ≡ Some row.1
id_found n rows i row lt is here left =
    let same : (n == row.0) ≡ true = eq-eqb n row.0 here in
    sym left ∙ ap (at_id n) (drop_item rows i row lt is) ∙ rw same refl

-- ---- rows but those of two ids

module _ {A B : Type 0} (f : ℕ × A → B) (one two : ℕ) where
  abbrev pub kept_rows : List (ℕ × A) → List B
  kept_rows rows = map f (without_id one (without_id two rows))

  kept_first : (row : ℕ × A) (rows : List (ℕ × A)) → kept_rows (row ∷ rows) ≡ kept_rows (row ∷ []) ++ kept_rows rows
  kept_first row rows =
      by_test (two == row.0)
      (λ here. rw here refl)
      (λ here. rw here (by_test (one == row.0) (λ there. rw there refl) (λ there. rw there refl)))

  pub kept_more : (rows : List (ℕ × A)) (i : ℕ) (row : ℕ × A) (before after all : List B) → i < length rows → row ≡ get_or rows i row → before ++ kept_rows (drop i rows) ≡ all → after ≡ before ++ kept_rows (row ∷ []) → after ++ kept_rows (drop (i + 1) rows) ≡ all
  kept_more rows i row before after all lt is left more =
      let rest = drop (i + 1) rows in
      ap (λ ys. ys ++ kept_rows rest) more
      ∙ append_assoc before (kept_rows (row ∷ [])) (kept_rows rest)
      ∙ ap (λ ys. before ++ ys) (sym (kept_first row rest))
      ∙ ap (λ ys. before ++ kept_rows ys) (sym (drop_item rows i row lt is))
      ∙ left

  pub kept_done : (rows : List (ℕ × A)) (i : ℕ) (before all : List B) → length rows ≤ i → before ++ kept_rows (drop i rows) ≡ all → before ≡ all
  kept_done rows i before all past left = sym (append-nil before) ∙ ap (λ ys. before ++ kept_rows ys) (sym (drop_all i rows past)) ∙ left

-- messages that pass a test, one more and the rest
pub filter_first : {A : Type 0} (p : A → Bool) (x : A) (xs : List A) → filter p (x ∷ xs) ≡ filter p (x ∷ []) ++ filter p xs
filter_first p x xs = by_test (p x) (λ here. rw here refl) (λ here. rw here refl)
