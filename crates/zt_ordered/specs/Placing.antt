-- What stands at a place among rows in order, and what an edit there does.
use native.Mathlib.Numerals.{unary_clauses}
use Rattle.std.specs.Prelude.{◌≡◌, ℕ, suc, ◌<◌, ◌≤◌, true, List, [], ◌∷◌, length, Some, None, Result, Ok, Err, refl}
use Rattle.std.specs.declared.cmp.Ordering.{Ordering}
use Rattle.std.specs.declared.cmp.Ordering.TheVariants.{Less, Equal, Greater}
use Rattle.std.specs.Ordering.{is_eq, is_lt, ordering_reverse}
use Rattle.std.specs.Cmp.{IsTotalOrder, alike_right}
use Rattle.std.specs.List.{AllByRecursion, insert, remove}
use Rattle.std.specs.Option.{option_map}
use Rattle.std.specs.List.Sorted.{IsBinarySearchResult, IsSearchInRange}
use Rattle.std.specs.FinMap.Entries.{put, find, is_sorted, below_all}
use Rattle.std.proofs.Common.{◌-◌, ap, sym, subst, ◌∙◌, arith, get_or, set, slice_get, zero, add-one}
use Rattle.std.proofs.lemmas.List.{get_or_default}
use Rattle.std.proofs.lemmas.List.Sorted.{searchable_from_sorted}
use Rattle.zt_ordered.specs.Test.{by_ordering, is_lt-Less, and_first, and_second, and_both}
use Rattle.zt_ordered.specs.Rows.{without, place, next_place}
use Rattle.zt_ordered.specs.Found.{sorted-head, sorted-tail, row_at-below, row_at-no, find-row_at, below-lower, below-tied}

turned : {P : Type 0} {cmp : P → P → Ordering} → IsTotalOrder cmp → (x y : P) (r : Ordering) → cmp x y ≡ r → cmp y x ≡ ordering_reverse r
turned o x y r h = o.antisymm y x ∙ ap ordering_reverse h

-- a place further on among the rest
later : (r : Result ℕ ℕ) (i : ℕ) → next_place r ≡ Ok i → (j : ℕ) × (r ≡ Ok j) × (i ≡ suc j)
later (Ok j) i h = (j, refl, cc)
later (Err j) i h = cc

later_gap : (r : Result ℕ ℕ) (i : ℕ) → next_place r ≡ Err i → (j : ℕ) × (r ≡ Err j) × (i ≡ suc j)
later_gap (Ok j) i h = cc
later_gap (Err j) i h = (j, refl, cc)

at_first : (r : Result ℕ ℕ) (i : ℕ) → r ≡ Ok 0 → r ≡ Ok i → 0 ≡ i
at_first r i g h = cc

gap_first : (r : Result ℕ ℕ) (i : ℕ) → r ≡ Err 0 → r ≡ Err i → 0 ≡ i
gap_first r i g h = cc

-- ---- where a search ends
module _ {P X : Type 0} (cmp : P → P → Ordering) where
  place-Less : (q : P) (e : P × X) (es : List (P × X)) → cmp q e.0 ≡ Less → place cmp q (e ∷ es) ≡ Err 0
  place-Less q e es h = rw h refl

  place-Equal : (q : P) (e : P × X) (es : List (P × X)) → cmp q e.0 ≡ Equal → place cmp q (e ∷ es) ≡ Ok 0
  place-Equal q e es h = rw h refl

  place-Greater : (q : P) (e : P × X) (es : List (P × X)) → cmp q e.0 ≡ Greater → place cmp q (e ∷ es) ≡ next_place (place cmp q es)
  place-Greater q e es h = rw h refl

  below-at : (x : P) (es : List (P × X)) (i : ℕ) (d : P × X) → below_all cmp x es ≡ true → i < length es → cmp x (get_or es i d).0 ≡ Less
  below-at x [] i d h l = absurd (omega arith)
  below-at x (e ∷ es) zero d h l = is_lt-Less _ (and_first _ _ h)
  below-at x (e ∷ es) (suc i) d h l = below-at x es i d (and_second _ _ h) (omega arith)

  rises : (es : List (P × X)) (i : ℕ) (d : P × X) → is_sorted cmp es ≡ true → suc i < length es → cmp (get_or es i d).0 (get_or es (suc i) d).0 ≡ Less
  rises [] i d h l = absurd (omega arith)
  rises (e ∷ es) zero d h l = below-at e.0 es 0 d (sorted-head cmp e es h) (omega arith)
  rises (e ∷ es) (suc i) d h l = rises es i d (sorted-tail cmp e es h) (omega arith)

  module _ (o : IsTotalOrder cmp) where
    place-hit : (q : P) (es : List (P × X)) (i : ℕ) → is_sorted cmp es ≡ true → i < length es → ((d : P × X) → cmp (get_or es i d).0 q ≡ Equal) → place cmp q es ≡ Ok i
    place-hit q [] i h l at = absurd (omega arith)
    place-hit q (e ∷ es) zero h l at = place-Equal q e es (turned o e.0 q Equal (at e))
    place-hit q (e ∷ es) (suc i) h l at =
        let tie : cmp e.0 q ≡ Less = sym (alike e.0 (get_or es i e).0 q (at e)) ∙ below-at e.0 es i e (sorted-head cmp e es h) (omega arith) in
        place-Greater q e es (turned o e.0 q Less tie) ∙ ap next_place (place-hit q es i (sorted-tail cmp e es h) (omega arith) at)
      where
        alike : (x y z : P) → cmp y z ≡ Equal → cmp x y ≡ cmp x z
        alike x y z t = alike_right o y z x t

    place-gap : (q : P) (es : List (P × X)) (i : ℕ) → i ≤ length es → ((k : ℕ) (d : P × X) → k < i → cmp (get_or es k d).0 q ≡ Less)
        → ((k : ℕ) (d : P × X) → i ≤ k → k < length es → cmp (get_or es k d).0 q ≡ Greater) → place cmp q es ≡ Err i
    place-gap q [] i l below above = ap (λ n. Err n) (omega arith)
    place-gap q (e ∷ es) zero l below above = place-Less q e es (turned o e.0 q Greater (above 0 e (omega arith) (omega arith)))
    place-gap q (e ∷ es) (suc i) l below above =
        place-Greater q e es (turned o e.0 q Less (below 0 e (omega arith)))
        ∙ ap next_place (place-gap q es i (omega arith) (λ k d h. below (suc k) d (omega arith)) (λ k d h m. above (suc k) d (omega arith) (omega arith)))

    -- a place that is known to be that of the key
    pub place-known : (q : P) (es : List (P × X)) (i : ℕ) (row : P × X) → is_sorted cmp es ≡ true → i < length es → row ≡ get_or es i row → cmp row.0 q ≡ Equal → place cmp q es ≡ Ok i
    place-known q es i row h l read tie = place-hit q es i h l (λ d. ap (λ (r : P × X). cmp r.0 q) (get_or_default es i d row l ∙ sym read) ∙ tie)

    -- a key behind those of all rows
    pub place-behind : (q : P) (es : List (P × X)) → AllByRecursion (λ (e : P × X). cmp e.0 q ≡ Less) es → place cmp q es ≡ Err (length es)
    place-behind q [] behind = refl
    place-behind q (e ∷ es) behind = place-Greater q e es (turned o e.0 q Less behind.0) ∙ ap next_place (place-behind q es behind.1)

    -- so are all where the last is
    pub behind-last : (q : P) (es : List (P × X)) (last : P × X) → is_sorted cmp es ≡ true → slice_get es (length es - 1) ≡ Some last → cmp last.0 q ≡ Less → AllByRecursion (λ (e : P × X). cmp e.0 q ≡ Less) es
    behind-last q [] last rising is below = tt
    behind-last q (e ∷ []) last rising is below = (subst (λ (r : P × X). cmp r.0 q ≡ Less) (sym (same-some e last is)) below, tt)
      where
        same-some : (a b : P × X) → Some a ≡ Some b → a ≡ b
        same-some a b t = cc
    behind-last q (e ∷ f ∷ es) last rising is below =
        let later : slice_get (f ∷ es) (length (f ∷ es) - 1) ≡ Some last = simp unary_clauses (simp unary_clauses at is) in
        let rest = behind-last q (f ∷ es) last (sorted-tail cmp e (f ∷ es) rising) later below in
        (o.trans e.0 f.0 q (is_lt-Less _ (and_first _ _ (sorted-head cmp e (f ∷ es) rising))) rest.0, rest)

    -- what a binary search answers among rows in order
    pub place-searched : (q : P) (es : List (P × X)) (r : Result ℕ ℕ) → is_sorted cmp es ≡ true → IsSearchInRange r (length es) → IsBinarySearchResult (λ (e : P × X). cmp e.0 q) es r → r ≡ place cmp q es
    place-searched q es (Ok i) h bound at = sym (place-hit q es i h bound at)
    place-searched q es (Err i) h bound at =
        let parted = at (searchable_from_sorted o (λ (e : P × X). e.0) es q (λ k d _ l. rw add-one (ap is_lt (turned o (get_or es k d).0 (get_or es (suc k) d).0 Less (rises es k d h (omega arith)))))) in
        sym (place-gap q es i bound (λ k d m. parted.0 k d (omega arith) m) (λ k d m n. parted.1 k d m n))

    -- ---- what stands at the place, and edits there
    pub place-in_range : (q : P) (es : List (P × X)) (i : ℕ) → place cmp q es ≡ Ok i → i < length es
    place-in_range q [] i h = cc
    place-in_range q (e ∷ es) i h =
        by_ordering (cmp q e.0)
        (λ p. cc (sym (place-Less q e es p) ∙ h))
        (λ p. let z = at_first _ i (place-Equal q e es p) h in omega arith)
        (λ p. let next = later _ i (sym (place-Greater q e es p) ∙ h) in let rest = place-in_range q es next.0 next.1 in omega (arith, next.2))

    pub find-place : (q : P) (es : List (P × X)) (i : ℕ) (d : P × X) → place cmp q es ≡ Ok i → find cmp q es ≡ Some (get_or es i d).1
    find-place q [] i d h = cc
    find-place q (e ∷ es) i d h =
        by_ordering (cmp q e.0)
        (λ p. cc (sym (place-Less q e es p) ∙ h))
        (λ p. let z = at_first _ i (place-Equal q e es p) h in rw (p, ← z) refl)
        (λ p. let next = later _ i (sym (place-Greater q e es p) ∙ h) in rw (p, next.2) (find-place q es next.0 d next.1))

    pub find-gap : (q : P) (es : List (P × X)) (i : ℕ) → is_sorted cmp es ≡ true → place cmp q es ≡ Err i → find cmp q es ≡ None
    find-gap q [] i s h = refl
    find-gap q (e ∷ es) i s h =
        by_ordering (cmp q e.0)
        (λ p. find-row_at cmp q (e ∷ es) ∙ ap (option_map (λ r. r.1)) (row_at-no cmp q e es (ap is_eq p) ∙ row_at-below cmp o q es (below-lower cmp o q e.0 es p (sorted-head cmp e es s))))
        (λ p. cc (sym (place-Equal q e es p) ∙ h))
        (λ p. let next = later_gap _ i (sym (place-Greater q e es p) ∙ h) in rw p (find-gap q es next.0 (sorted-tail cmp e es s) next.1))

    pub put-place : (q : P) (v : X) (es : List (P × X)) (i : ℕ) (d : P × X) → place cmp q es ≡ Ok i → put cmp q v es ≡ set es i ((get_or es i d).0, v)
    put-place q v [] i d h = cc
    put-place q v (e ∷ es) i d h =
        by_ordering (cmp q e.0)
        (λ p. cc (sym (place-Less q e es p) ∙ h))
        (λ p. let z = at_first _ i (place-Equal q e es p) h in rw (p, ← z) refl)
        (λ p. let next = later _ i (sym (place-Greater q e es p) ∙ h) in rw (p, next.2) (ap (λ l. e ∷ l) (put-place q v es next.0 d next.1)))

    pub put-gap : (q : P) (v : X) (es : List (P × X)) (i : ℕ) → place cmp q es ≡ Err i → put cmp q v es ≡ insert es i (q, v)
    put-gap q v [] i h = let z : 0 ≡ i = cc in rw (← z) refl
    put-gap q v (e ∷ es) i h =
        by_ordering (cmp q e.0)
        (λ p. let z = gap_first _ i (place-Less q e es p) h in rw (p, ← z) refl)
        (λ p. cc (sym (place-Equal q e es p) ∙ h))
        (λ p. let next = later_gap _ i (sym (place-Greater q e es p) ∙ h) in rw (p, next.2) (ap (λ l. e ∷ l) (put-gap q v es next.0 next.1)))

    pub without-below : (q : P) (es : List (P × X)) → below_all cmp q es ≡ true → without cmp q es ≡ es
    without-below q [] h = refl
    without-below q (e ∷ es) h = let p : cmp q e.0 ≡ Less = is_lt-Less _ (and_first _ _ h) in rw p (ap (λ l. e ∷ l) (without-below q es (and_second _ _ h)))

    pub without-place : (q : P) (es : List (P × X)) (i : ℕ) → is_sorted cmp es ≡ true → place cmp q es ≡ Ok i → without cmp q es ≡ remove es i
    without-place q [] i s h = cc
    without-place q (e ∷ es) i s h =
        by_ordering (cmp q e.0)
        (λ p. cc (sym (place-Less q e es p) ∙ h))
        (λ p. let z = at_first _ i (place-Equal q e es p) h in rw (p, ← z) (without-below q es (below-tied cmp o q e.0 es p (sorted-head cmp e es s))))
        (λ p. let next = later _ i (sym (place-Greater q e es p) ∙ h) in rw (p, next.2) (ap (λ l. e ∷ l) (without-place q es next.0 (sorted-tail cmp e es s) next.1)))

    pub without-gap : (q : P) (es : List (P × X)) (i : ℕ) → is_sorted cmp es ≡ true → place cmp q es ≡ Err i → without cmp q es ≡ es
    without-gap q [] i s h = refl
    without-gap q (e ∷ es) i s h =
        by_ordering (cmp q e.0)
        (λ p. without-below q (e ∷ es) (and_both _ _ (ap is_lt p) (below-lower cmp o q e.0 es p (sorted-head cmp e es s))))
        (λ p. cc (sym (place-Equal q e es p) ∙ h))
        (λ p. let next = later_gap _ i (sym (place-Greater q e es p) ∙ h) in rw p (ap (λ l. e ∷ l) (without-gap q es next.0 (sorted-tail cmp e es s) next.1)))

    -- a value written over the row that was read at the place
    pub set-place : (q : P) (v : X) (es : List (P × X)) (i : ℕ) (row : P × X) → place cmp q es ≡ Ok i → row ≡ get_or es i row → set es i (row.0, v) ≡ put cmp q v es
    set-place q v es i row at read = ap (λ (r : P × X). set es i (r.0, v)) read ∙ sym (put-place q v es i row at)
