-- Members in strictly rising order: where one stands, and what changes there.
use Rattle.std.proofs.Common.{◌≡◌, ℕ, zero, suc, ◌<◌, ◌≤◌, Bool, true, false, not, List, [], ◌∷◌, length, filter, take, drop, get_or, refl, sym, ap, ◌∙◌, arith, add-one}
use Rattle.std.proofs.lemmas.List.Sorted.{searchable_from_sorted}
use Rattle.std.specs.Cmp.{IsTotalOrder}
use Rattle.std.specs.List.{AllByRecursion, list_any, remove}
use Rattle.std.specs.List.Sorted.{IsBinarySearchResult, IsSearchInRange}
use Rattle.std.specs.Ordering.{is_eq, is_lt, ordering_reverse}
use Rattle.std.specs.Prelude.{Result, Ok, Err}
use Rattle.std.specs.declared.cmp.Ordering.{Ordering}
use Rattle.std.specs.declared.cmp.Ordering.TheVariants.{Less, Equal, Greater}
use Rattle.zt_keys.specs.Test.{by_test}
use Rattle.zt_model.specs.Lists.{with_key}
use Rattle.zt_check_faces.specs.Placed.{BeginsEqual, BeginsLess, FindsPlace, IsBehind}
use Rattle.zt_check_rows.specs.Routed.{Rises}

module _ {X : Type 0} (order : X → X → Ordering) (total : IsTotalOrder order) where
  abbrev Behind : X → List X → Type 0
  Behind q = AllByRecursion (λ x. order q x ≡ Greater)

  abbrev Below : X → List X → Type 0
  Below q = AllByRecursion (λ x. order q x ≡ Less)

  flip-less : (x y : X) → order x y ≡ Less → order y x ≡ Greater
  flip-less x y h = total.antisymm y x ∙ ap ordering_reverse h

  flip-equal : (x y : X) → order x y ≡ Equal → order y x ≡ Equal
  flip-equal x y h = total.antisymm y x ∙ ap ordering_reverse h

  flip-greater : (x y : X) → order x y ≡ Greater → order y x ≡ Less
  flip-greater x y h = total.antisymm y x ∙ ap ordering_reverse h

  below-lower : (q p : X) (xs : List X) → order q p ≡ Less → Below p xs → Below q xs
  below-lower q p [] less h = tt
  below-lower q p (x ∷ xs) less h = (total.trans q p x less h.0, below-lower q p xs less h.1)

  below-tied : (q p : X) (xs : List X) → order q p ≡ Equal → Below p xs → Below q xs
  below-tied q p [] tied h = tt
  below-tied q p (x ∷ xs) tied h = (total.congr q p x tied ∙ h.0, below-tied q p xs tied h.1)

  -- ---- where a search by halves ends

  below-at : (q : X) (xs : List X) (i : ℕ) (d : X) → Below q xs → i < length xs → order q (get_or xs i d) ≡ Less
  below-at q [] i d h l = absurd (omega arith)
  below-at q (x ∷ xs) zero d h l = h.0
  below-at q (x ∷ xs) (suc i) d h l = below-at q xs i d h.1 (omega arith)

  next-above : (xs : List X) (i : ℕ) (d : X) → Rises order xs → suc i < length xs → order (get_or xs i d) (get_or xs (suc i) d) ≡ Less
  next-above [] i d h l = absurd (omega arith)
  next-above (x ∷ xs) zero d h l = below-at x xs 0 d h.0 (omega arith)
  next-above (x ∷ xs) (suc i) d h l = next-above xs i d h.1 (omega arith)

  hit-behind : (q : X) (xs : List X) (i : ℕ) → Rises order xs → i < length xs → ((d : X) → order (get_or xs i d) q ≡ Equal) → Behind q (take i xs)
  hit-behind q [] i h l at = absurd (omega arith)
  hit-behind q (x ∷ xs) zero h l at = tt
  hit-behind q (x ∷ xs) (suc i) h l at =
      (sym (total.congr (get_or xs i x) q x (at x)) ∙ flip-less x (get_or xs i x) (below-at x xs i x h.0 (omega arith)), hit-behind q xs i h.1 (omega arith) at)

  hit-begins : (q : X) (xs : List X) (i : ℕ) → i < length xs → ((d : X) → order (get_or xs i d) q ≡ Equal) → BeginsEqual (order q) (drop i xs)
  hit-begins q [] i l at = absurd (omega arith)
  hit-begins q (x ∷ xs) zero l at = flip-equal x q (at x)
  hit-begins q (x ∷ xs) (suc i) l at = hit-begins q xs i (omega arith) at

  gap-behind : (q : X) (xs : List X) (i : ℕ) → i ≤ length xs → ((k : ℕ) (d : X) → k < i → order (get_or xs k d) q ≡ Less) → Behind q (take i xs)
  gap-behind q [] zero l below = tt
  gap-behind q [] (suc i) l below = absurd (omega arith)
  gap-behind q (x ∷ xs) zero l below = tt
  gap-behind q (x ∷ xs) (suc i) l below =
      (flip-less x q (below 0 x (omega arith)), gap-behind q xs i (omega arith) (λ k d h. below (suc k) d (omega arith)))

  gap-begins : (q : X) (xs : List X) (i : ℕ) → i ≤ length xs → ((k : ℕ) (d : X) → i ≤ k → k < length xs → order (get_or xs k d) q ≡ Greater) → BeginsLess (order q) (drop i xs)
  gap-begins q [] zero l above = tt
  gap-begins q [] (suc i) l above = absurd (omega arith)
  gap-begins q (x ∷ xs) zero l above = flip-greater x q (above 0 x (omega arith) (omega arith))
  gap-begins q (x ∷ xs) (suc i) l above = gap-begins q xs i (omega arith) (λ k d h m. above (suc k) d (omega arith) (omega arith))

  pub found_by_halves : (q : X) (xs : List X) (r : Result ℕ ℕ) → Rises order xs → IsSearchInRange r (length xs) → IsBinarySearchResult (λ (x : X). order x q) xs r → FindsPlace (order q) xs r
  found_by_halves q xs (Ok i) h bound at =
      (record { within = omega arith; behind = hit-behind q xs i h bound at }, hit-begins q xs i bound at)
  found_by_halves q xs (Err i) h bound at =
      let parted = at (searchable_from_sorted total (λ (x : X). x) xs q (λ k d _ l. rw add-one (ap is_lt (flip-less (get_or xs k d) (get_or xs (suc k) d) (next-above xs k d h (omega arith)))))) in
      (record { within = bound; behind = gap-behind q xs i bound (λ k d m. parted.0 k d (omega arith) m) }, gap-begins q xs i bound (λ k d m n. parted.1 k d m n))

  -- ---- whether one is there

  none-above : (q : X) (xs : List X) → Below q xs → list_any (λ x. is_eq (order q x)) xs ≡ false
  none-above q [] h = refl
  none-above q (x ∷ xs) h = rw h.0 (none-above q xs h.1)

  pub has_found : (q : X) (xs : List X) (i : ℕ) → IsBehind (order q) xs i × BeginsEqual (order q) (drop i xs) → list_any (λ x. is_eq (order q x)) xs ≡ true
  has_found q xs i found = at xs i found.0.behind found.1
    where
      at : (xs : List X) (i : ℕ) → Behind q (take i xs) → BeginsEqual (order q) (drop i xs) → list_any (λ x. is_eq (order q x)) xs ≡ true
      at [] zero behind begins = absurd begins
      at [] (suc i) behind begins = absurd begins
      at (x ∷ xs) zero behind begins = rw begins refl
      at (x ∷ xs) (suc i) behind begins = rw behind.0 (at xs i behind.1 begins)

  pub has_none : (q : X) (xs : List X) (i : ℕ) → Rises order xs → IsBehind (order q) xs i × BeginsLess (order q) (drop i xs) → list_any (λ x. is_eq (order q x)) xs ≡ false
  has_none q xs i h found = at xs i found.0.within h found.0.behind found.1
    where
      at : (xs : List X) (i : ℕ) → i ≤ length xs → Rises order xs → Behind q (take i xs) → BeginsLess (order q) (drop i xs) → list_any (λ x. is_eq (order q x)) xs ≡ false
      at [] i l h behind begins = refl
      at (x ∷ xs) zero l h behind begins = rw begins (none-above q xs (below-lower q x xs begins h.0))
      at (x ∷ xs) (suc i) l h behind begins = rw behind.0 (at xs i (omega arith) h.1 behind.1 begins)

  -- ---- one goes

  pass-above : (q : X) (xs : List X) → Below q xs → filter (λ x. not (is_eq (order q x))) xs ≡ xs
  pass-above q [] h = refl
  pass-above q (x ∷ xs) h = rw h.0 (ap (λ (rest : List X). x ∷ rest) (pass-above q xs h.1))

  pub out_found : (q : X) (xs : List X) (i : ℕ) → Rises order xs → IsBehind (order q) xs i × BeginsEqual (order q) (drop i xs) → remove xs i ≡ filter (λ x. not (is_eq (order q x))) xs
  out_found q xs i h found = at xs i h found.0.behind found.1
    where
      at : (xs : List X) (i : ℕ) → Rises order xs → Behind q (take i xs) → BeginsEqual (order q) (drop i xs) → remove xs i ≡ filter (λ x. not (is_eq (order q x))) xs
      at [] zero h behind begins = absurd begins
      at [] (suc i) h behind begins = absurd begins
      at (x ∷ xs) zero h behind begins = rw begins (sym (pass-above q xs (below-tied q x xs begins h.0)))
      at (x ∷ xs) (suc i) h behind begins = rw behind.0 (ap (λ (rest : List X). x ∷ rest) (at xs i h.1 behind.1 begins))

  pub out_none : (q : X) (xs : List X) (i : ℕ) → Rises order xs → IsBehind (order q) xs i × BeginsLess (order q) (drop i xs) → xs ≡ filter (λ x. not (is_eq (order q x))) xs
  out_none q xs i h found = at xs i found.0.within h found.0.behind found.1
    where
      at : (xs : List X) (i : ℕ) → i ≤ length xs → Rises order xs → Behind q (take i xs) → BeginsLess (order q) (drop i xs) → xs ≡ filter (λ x. not (is_eq (order q x))) xs
      at [] i l h behind begins = refl
      at (x ∷ xs) zero l h behind begins = sym (pass-above q (x ∷ xs) (begins, below-lower q x xs begins h.0))
      at (x ∷ xs) (suc i) l h behind begins = rw behind.0 (ap (λ (rest : List X). x ∷ rest) (at xs i (omega arith) h.1 behind.1 begins))

  -- ---- order stays

  below-filter : (q : X) (p : X → Bool) (xs : List X) → Below q xs → Below q (filter p xs)
  below-filter q p [] h = tt
  below-filter q p (x ∷ xs) h =
      let rest = below-filter q p xs h.1 in
      by_test (p x) (λ t. rw t (h.0, rest)) (λ t. rw t rest)

  pub rises_filter : (p : X → Bool) (xs : List X) → Rises order xs → Rises order (filter p xs)
  rises_filter p [] h = tt
  rises_filter p (x ∷ xs) h =
      let rest = rises_filter p xs h.1 in
      by_test (p x) (λ t. rw t (below-filter x p xs h.0, rest)) (λ t. rw t rest)

  below-key : (p q : X) (xs : List X) → order p q ≡ Less → Below p xs → Below p (with_key order q xs)
  below-key p q [] less h = (less, tt)
  below-key p q (x ∷ xs) less h = go (below-key p q xs less h.1) (order q x) refl
    where
      go : Below p (with_key order q xs) → (o : Ordering) → order q x ≡ o → Below p (with_key order q (x ∷ xs))
      go rest Less is = rw is (less, h)
      go rest Equal is = rw is h
      go rest Greater is = rw is (h.0, rest)

  pub rises_key : (q : X) (xs : List X) → Rises order xs → Rises order (with_key order q xs)
  rises_key q [] h = (tt, tt)
  rises_key q (x ∷ xs) h = go (rises_key q xs h.1) (order q x) refl
    where
      go : Rises order (with_key order q xs) → (o : Ordering) → order q x ≡ o → Rises order (with_key order q (x ∷ xs))
      go rest Less is = rw is ((is, below-lower q x xs is h.0), h)
      go rest Equal is = rw is h
      go rest Greater is = rw is (below-key x q xs (flip-greater q x is) h.0, rest)
