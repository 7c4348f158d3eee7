-- The interests of a kind of all faces, where one face changes.
use Rattle.std.proofs.Common.{◌≡◌, ℕ, ◌==◌, Bool, true, false, ◌&&◌, ◌||◌, not, if◌then◌else◌, List, [], ◌∷◌, ◌++◌, Some, None, ap, arith, filter, flat_map, map, refl, subst, sym, ◌∙◌}
use Rattle.std.proofs.lemmas.Bool.{eqb-true}
use Rattle.std.proofs.lemmas.Bool.Decides.{nat_tests}
use Rattle.std.proofs.lemmas.List.Elements.{filter-append}
use Rattle.std.proofs.lemmas.List.Folds.{list_any-append}
use Rattle.std.proofs.lemmas.Option.{same_Some}
use Rattle.std.specs.Cmp.{IsTotalOrder}
use Rattle.std.specs.FinMap.Entries.{put}
use Rattle.std.specs.List.{AllByRecursion, list_any}
use Rattle.std.specs.List.Sorted.{IsStrictlySortedBy}
use Rattle.std.specs.Map.{keys_of}
use Rattle.std.specs.Ordering.{nat_cmp}
use Rattle.std.specs.declared.cmp.Ordering.{Ordering}
use Rattle.std.specs.declared.cmp.Ordering.TheVariants.{Less, Equal, Greater}
use Rattle.zt_keys.specs.Test.{by_test}
use Rattle.zt_rows.specs.ById.{IsInOrder}
use Rattle.zt_interest_index.specs.Held.{any_kept, belongs-own, indexed-put, indexed-removed}
use Rattle.zt_interest_index.specs.Holders.{IsIndexOf, any_alike, belongs}
use Rattle.zt_interest_index.specs.Holdings.{is_of}
use Rattle.zt_interest_index.specs.Index.{ChangesAt, Interests}
use Rattle.zt_model.specs.Lists.{at_id, without_id}
use Rattle.zt_model.specs.Rows.{ById, Face, InterestRow}
use Rattle.zt_token_index.specs.Seekers.{HeldRow, IsOnlyOne, PutsOf, RemovesOf, kind_rows, rows_of}

by_ordering : {G : Type 0} (r : Ordering) → (r ≡ Less → G) → (r ≡ Equal → G) → (r ≡ Greater → G) → G
by_ordering Less less equal greater = less refl
by_ordering Equal less equal greater = equal refl
by_ordering Greater less equal greater = greater refl

-- ---- numbers
apart-Less : (a n : ℕ) → nat_cmp n a ≡ Less → (n == a) ≡ false
apart-Less a n h = grind (arith, nat_tests)

apart-Greater : (a n : ℕ) → nat_cmp n a ≡ Greater → (n == a) ≡ false
apart-Greater a n h = grind (arith, nat_tests)

tied-Equal : (n a : ℕ) → nat_cmp n a ≡ Equal → (n == a) ≡ true
tied-Equal n a h = grind (arith, nat_tests)

below-less : (n a b : ℕ) → nat_cmp n a ≡ Less → nat_cmp a b ≡ Less → (n == b) ≡ false
below-less n a b h k = grind (arith, nat_tests)

tied-below : (n a b : ℕ) → (n == a) ≡ true → nat_cmp a b ≡ Less → (n == b) ≡ false
tied-below n a b h k = grind (arith, nat_tests)

below-tied : (a b n : ℕ) → (a == n) ≡ true → nat_cmp a b ≡ Less → (b == n) ≡ false
below-tied a b n h k = grind (arith, nat_tests)

itself : (n : ℕ) → (n == n) ≡ true
itself n = grind (arith, nat_tests)

-- ---- tests of lists
or_assoc : (a b c : Bool) → ((a || b) || c) ≡ (a || (b || c))
or_assoc true b c = refl
or_assoc false b c = refl

or_false_first : (a b : Bool) → (a || b) ≡ false → a ≡ false
or_false_first true b h = h
or_false_first false b h = refl

or_false_second : (a b : Bool) → (a || b) ≡ false → b ≡ false
or_false_second true b h = cc
or_false_second false b h = h

or_true_second : (a b : Bool) → b ≡ true → (a || b) ≡ true
or_true_second true b h = refl
or_true_second false b h = h

both_false : (a b : Bool) → a ≡ false → b ≡ false → (a || b) ≡ false
both_false true b h k = h
both_false false b h k = k

both_true : (a b : Bool) → a ≡ true → b ≡ true → (a && b) ≡ true
both_true true b h k = k
both_true false b h k = cc

and_false_first : (a b : Bool) → a ≡ false → (a && b) ≡ false
and_false_first true b h = cc
and_false_first false b h = refl

and_false_second : (a : Bool) → (a && false) ≡ false
and_false_second true = refl
and_false_second false = refl

module _ {A : Type 0} where
  weaker : (P Q : A → Type 0) → ((x : A) → P x → Q x) → (xs : List A) → AllByRecursion P xs → AllByRecursion Q xs
  weaker P Q h [] all = tt
  weaker P Q h (x ∷ xs) all = (h x all.0, weaker P Q h xs all.1)

  any_filtered_none : (test kept : A → Bool) (xs : List A) → list_any test xs ≡ false → list_any test (filter kept xs) ≡ false
  any_filtered_none test kept [] h = refl
  any_filtered_none test kept (x ∷ xs) h =
      let rest = any_filtered_none test kept xs (or_false_second (test x) _ h) in
      let here = or_false_first (test x) _ h in
      by_test (kept x) (λ t. rw (t, here) rest) (λ t. rw t rest)

  filter_all : (p : A → Bool) (xs : List A) → AllByRecursion (λ x. p x ≡ true) xs → filter p xs ≡ xs
  filter_all p [] h = refl
  filter_all p (x ∷ xs) h = let here = h.0 in rw here (ap (λ ys. x ∷ ys) (filter_all p xs h.1))

  filter_none : (p : A → Bool) (xs : List A) → AllByRecursion (λ x. p x ≡ false) xs → filter p xs ≡ []
  filter_none p [] h = refl
  filter_none p (x ∷ xs) h = let here = h.0 in rw here (filter_none p xs h.1)

-- ---- rows by id
module _ {A : Type 0} where
  abbrev IsAbsent : ℕ → ById A → Type 0
  IsAbsent id rows = AllByRecursion (λ row. (id == row.0) ≡ false) rows

  absent-below : (id n : ℕ) (rows : ById A) → nat_cmp id n ≡ Less → AllByRecursion (λ k. nat_cmp n k ≡ Less) (keys_of rows) → IsAbsent id rows
  absent-below id n [] h below = tt
  absent-below id n (row ∷ rows) h below = (below-less id n row.0 h below.0, absent-below id n rows h below.1)

  absent-tied : (id n : ℕ) (rows : ById A) → (id == n) ≡ true → AllByRecursion (λ k. nat_cmp n k ≡ Less) (keys_of rows) → IsAbsent id rows
  absent-tied id n [] h below = tt
  absent-tied id n (row ∷ rows) h below = (tied-below id n row.0 h below.0, absent-tied id n rows h below.1)

  absent-kept : (id : ℕ) (rows : ById A) → IsAbsent id rows → without_id id rows ≡ rows
  absent-kept id [] h = refl
  absent-kept id (row ∷ rows) h = let here = h.0 in rw here (ap (λ rs. row ∷ rs) (absent-kept id rows h.1))

  -- a row that is put is found beside the others
  any_put : (p : ℕ × A → Bool) (id : ℕ) (new : A) (rows : ById A) → IsInOrder rows → list_any p (put nat_cmp id new rows) ≡ (p (id, new) || list_any p (without_id id rows))
  unfolding IsStrictlySortedBy
  any_put p id new [] sorted = refl
  any_put p id new (row ∷ rows) sorted =
      by_ordering (nat_cmp id row.0)
      (λ h.
      let here = apart-Less row.0 id h in
      let rest = absent-kept id rows (absent-below id row.0 rows h sorted.0) in
      rw (h, here, rest) refl)
      (λ h.
      let here = tied-Equal id row.0 h in
      let rest = absent-kept id rows (absent-tied id row.0 rows here sorted.0) in
      rw (h, here, rest) (ap (λ k. p (k, new) || list_any p rows) (sym (eqb-true id row.0 here))))
      (λ h.
      let here = apart-Greater row.0 id h in
      let more = any_put p id new rows sorted.1 in
      rw (h, here, more) (turned (p row) (p (id, new)) (list_any p (without_id id rows))))
    where
      turned : (a b c : Bool) → (a || (b || c)) ≡ (b || (a || c))
      turned true true c = refl
      turned true false c = refl
      turned false b c = refl

  -- the row under an id is the only one
  unique : (id : ℕ) (value : A) (rows : ById A) → IsInOrder rows → at_id id rows ≡ Some value → AllByRecursion (λ row. (id == row.0) ≡ true → row.1 ≡ value) rows
  unfolding IsStrictlySortedBy
  unique id value [] sorted is = tt
  unique id value (row ∷ rows) sorted is =
      by_test (id == row.0)
      (λ t. (λ _. same_Some _ _ (rw t at is), weaker _ _ (λ r apart tied. cc) rows (absent-tied id row.0 rows t sorted.0)))
      (λ t. (λ tied. cc, unique id value rows sorted.1 (rw t at is)))

  not-found : (id : ℕ) (rows : ById A) → at_id id rows ≡ None → IsAbsent id rows
  not-found id [] h = tt
  not-found id (row ∷ rows) h = by_test (id == row.0) (λ t. cc (rw t at h)) (λ t. (t, not-found id rows (rw t at h)))

  -- each row is found under its id
  pub all-found : (rows : ById A) → IsInOrder rows → AllByRecursion (λ row. at_id row.0 rows ≡ Some row.1) rows
  unfolding IsStrictlySortedBy
  all-found [] sorted = tt
  all-found (row ∷ rows) sorted = (let here = itself row.0 in rw here refl, later rows sorted.0 (all-found rows sorted.1))
    where
      later : (left : ById A) → AllByRecursion (λ k. nat_cmp row.0 k ≡ Less) (keys_of left) → AllByRecursion (λ r. at_id r.0 rows ≡ Some r.1) left → AllByRecursion (λ r. at_id r.0 (row ∷ rows) ≡ Some r.1) left
      later [] above all = tt
      later (r ∷ left) above all = (let apart = apart-Greater-turned row.0 r.0 above.0 in rw apart all.0, later left above.1 all.1)
        where
          apart-Greater-turned : (a b : ℕ) → nat_cmp a b ≡ Less → (b == a) ≡ false
          apart-Greater-turned a b h = grind (arith, nat_tests)

-- ---- interests of any kind
module _ {K : Type 0} where
  -- the face's interests whose ids are left, and those of others
  abbrev pub stays : ℕ → ById (InterestRow K) → HeldRow K → Bool
  stays n left row = not (n == row.0.0) || list_any (λ r. r.0 == row.0.1) left

  found_any : (k : ℕ) (v : InterestRow K) (rows : ById (InterestRow K)) → at_id k rows ≡ Some v → list_any (λ r. r.0 == k) rows ≡ true
  found_any k v [] h = cc
  found_any k v (row ∷ rows) h =
      by_test (k == row.0)
      (λ t. ap (λ b. b || list_any (λ r. r.0 == k) rows) (turned k row.0 t))
      (λ t. or_true_second (row.0 == k) _ (found_any k v rows (rw t at h)))
    where
      turned : (a b : ℕ) → (a == b) ≡ true → (b == a) ≡ true
      turned a b t = grind (arith, nat_tests)

  all_append : (P : HeldRow K → Type 0) (xs ys : List (HeldRow K)) → AllByRecursion P xs → AllByRecursion P ys → AllByRecursion P (xs ++ ys)
  all_append P [] ys a b = b
  all_append P (x ∷ xs) ys a b = (a.0, all_append P xs ys a.1 b)

  -- one less
  one_less : (n : ℕ) (row : ℕ × InterestRow K) (later : ById (InterestRow K)) → AllByRecursion (λ k. nat_cmp row.0 k ≡ Less) (keys_of later) → (test : HeldRow K → Bool) (rows : List (HeldRow K))
      → list_any test (filter (λ r. not (is_of n row.0 r)) (filter (stays n (row ∷ later)) rows)) ≡ list_any test (filter (stays n later) rows)
  one_less n row later above test rows =
      any_kept test (λ r. not (is_of n row.0 r)) (filter (stays n (row ∷ later)) rows)
      ∙ any_kept (λ r. test r && not (is_of n row.0 r)) (stays n (row ∷ later)) rows
      ∙ any_alike _ _ (λ r. same (test r) (n == r.0.0) (row.0 == r.0.1) (list_any (λ x. x.0 == r.0.1) later) (λ t. none r.0.1 t later above)) rows
      ∙ sym (any_kept test (stays n later) rows)
    where
      same : (t p k l : Bool) → (k ≡ true → l ≡ false) → ((t && not (p && k)) && (not p || (k || l))) ≡ (t && (not p || l))
      same true true true l h = sym (h refl)
      same true true false l h = refl
      same true false k l h = refl
      same false p k l h = refl

      none : (id : ℕ) → (row.0 == id) ≡ true → (left : ById (InterestRow K)) → AllByRecursion (λ k. nat_cmp row.0 k ≡ Less) (keys_of left) → list_any (λ x. x.0 == id) left ≡ false
      none id t [] above = refl
      none id t (x ∷ left) above = let apart = below-tied row.0 x.0 id t above.0 in rw apart (none id t left above.1)

  -- ---- an index of them
  module _ (cmp : K → K → Ordering) where
    -- it looks at tests of its interests alone
    pub index_alike : (index : Interests K) (xs ys : List (HeldRow K)) → ((test : HeldRow K → Bool) → list_any test xs ≡ list_any test ys) → IsIndexOf cmp index xs → IsIndexOf cmp index ys
    index_alike index xs ys same is = record { at = λ about test. is.at about test ∙ same (λ row. belongs cmp about row && test row) }

-- ---- the interests of a face
module _ {K : Type 0} (kind : InterestRow K → Bool) where
  pub any_rows : (test : HeldRow K → Bool) (n : ℕ) (held : ById (InterestRow K)) → list_any test (rows_of kind n held) ≡ list_any (λ row. kind row.1 && test ((n, row.0), row.1.expr)) held
  any_rows test n [] = refl
  any_rows test n (row ∷ held) = let rest = any_rows test n held in by_test (kind row.1) (λ t. rw (t, rest) refl) (λ t. rw (t, rest) refl)

  drop_tied : (n id m : ℕ) → (n == m) ≡ true → (held : ById (InterestRow K)) → filter (λ row. not (is_of n id row)) (rows_of kind m held) ≡ rows_of kind m (without_id id held)
  drop_tied n id m t [] = refl
  drop_tied n id m t (row ∷ held) =
      let rest = drop_tied n id m t held in
      by_test (kind row.1)
      (λ h. by_test (id == row.0) (λ u. rw (h, t, u) rest) (λ u. rw (u, h, t, u) (ap (λ rows. ((m, row.0), row.1.expr) ∷ rows) rest)))
      (λ h. by_test (id == row.0) (λ u. rw (h, u) rest) (λ u. rw (u, h) rest))

  drop_other : (n id m : ℕ) → (n == m) ≡ false → (held : ById (InterestRow K)) → filter (λ row. not (is_of n id row)) (rows_of kind m held) ≡ rows_of kind m held
  drop_other n id m t [] = refl
  drop_other n id m t (row ∷ held) =
      let rest = drop_other n id m t held in
      by_test (kind row.1) (λ h. rw (h, t) (ap (λ rows. ((m, row.0), row.1.expr) ∷ rows) rest)) (λ h. rw h rest)

  -- the interests of all faces without one
  pub dropped : (n id : ℕ) (change : Face K → Face K) → ((x : Face K) → (change x).number ≡ x.number) → ((x : Face K) → (change x).held ≡ without_id id x.held) → (fs : List (Face K))
      → filter (λ row. not (is_of n id row)) (flat_map (kind_rows kind) fs) ≡ flat_map (kind_rows kind) (map (λ x. if n == x.number then change x else x) fs)
  dropped n id change number held [] = refl
  dropped n id change number held (x ∷ xs) =
      filter-append (λ row. not (is_of n id row)) (kind_rows kind x) (flat_map (kind_rows kind) xs)
      ∙ (λ i. by_test (n == x.number) here other i ++ dropped n id change number held xs i)
    where
      here : (n == x.number) ≡ true → filter (λ row. not (is_of n id row)) (kind_rows kind x) ≡ kind_rows kind (if n == x.number then change x else x)
      here t = rw t (drop_tied n id x.number t x.held ∙ sym (λ i. rows_of kind (number x i) (held x i)))

      other : (n == x.number) ≡ false → filter (λ row. not (is_of n id row)) (kind_rows kind x) ≡ kind_rows kind (if n == x.number then change x else x)
      other t = rw t (drop_other n id x.number t x.held)

  -- a change that keeps what is held
  pub kept : (n : ℕ) (change : Face K → Face K) → ((x : Face K) → (change x).number ≡ x.number) → ((x : Face K) → (change x).held ≡ x.held) → (fs : List (Face K))
      → flat_map (kind_rows kind) (map (λ x. if n == x.number then change x else x) fs) ≡ flat_map (kind_rows kind) fs
  kept n change number held [] = refl
  kept n change number held (x ∷ xs) = λ i. by_number (n == x.number) i ++ kept n change number held xs i
    where
      by_number : (b : Bool) → kind_rows kind (if b then change x else x) ≡ kind_rows kind x
      by_number true = λ i. rows_of kind (number x i) (held x i)
      by_number false = refl

  -- one more under an id, in place of the one that was there, if any
  put_rows : (test : HeldRow K → Bool) (n id : ℕ) (new : InterestRow K) (held : ById (InterestRow K)) → IsInOrder held
      → list_any test (rows_of kind n (put nat_cmp id new held)) ≡ (list_any test (rows_of kind n ((id, new) ∷ [])) || list_any test (rows_of kind n (without_id id held)))
  put_rows test n id new held sorted =
      any_rows test n (put nat_cmp id new held)
      ∙ any_put (λ row. kind row.1 && test ((n, row.0), row.1.expr)) id new held sorted
      ∙ sym (any_rows test n ((id, new) ∷ without_id id held))
      ∙ one (kind new)
    where
      one : (b : Bool)
          → list_any test (map (λ (row : ℕ × InterestRow K). ((n, row.0), row.1.expr)) (if b then (id, new) ∷ filter (λ row. kind row.1) (without_id id held) else filter (λ row. kind row.1) (without_id id held)))
          ≡ (list_any test (map (λ (row : ℕ × InterestRow K). ((n, row.0), row.1.expr)) (if b then (id, new) ∷ [] else [])) || list_any test (rows_of kind n (without_id id held)))
      one true = sym (or_assoc (test ((n, id), new.expr)) false (list_any test (rows_of kind n (without_id id held))))
      one false = refl

  pub put_all : (test : HeldRow K → Bool) (n id : ℕ) (new : InterestRow K) (change : Face K → Face K) → ((x : Face K) → (change x).number ≡ x.number) → ((x : Face K) → (change x).held ≡ put nat_cmp id new x.held)
      → (fs : List (Face K)) → AllByRecursion (λ x. (n == x.number) ≡ true → IsInOrder x.held) fs
      → list_any test (flat_map (kind_rows kind) (map (λ x. if n == x.number then change x else x) fs))
      ≡ ((list_any (λ x. n == x.number) fs && list_any test (rows_of kind n ((id, new) ∷ []))) || list_any test (filter (λ row. not (is_of n id row)) (flat_map (kind_rows kind) fs)))
  put_all test n id new change number held [] sorted = refl
  put_all test n id new change number held (x ∷ xs) sorted =
      let rest = put_all test n id new change number held xs sorted.1 in
      let one = list_any test (rows_of kind n ((id, new) ∷ [])) in
      let has = list_any (λ (y : Face K). n == y.number) xs in
      let left = list_any test (filter (λ row. not (is_of n id row)) (flat_map (kind_rows kind) xs)) in
      let both = ap (list_any test) (filter-append (λ row. not (is_of n id row)) (kind_rows kind x) (flat_map (kind_rows kind) xs)) ∙ list_any-append test (filter (λ row. not (is_of n id row)) (kind_rows kind x)) (filter (λ row. not (is_of n id row)) (flat_map (kind_rows kind) xs)) in
      by_test (n == x.number)
      (λ t.
      let same : n ≡ x.number = eqb-true n x.number t in
      let first = list_any-append test (kind_rows kind (change x)) (flat_map (kind_rows kind) (map (λ y. if n == y.number then change y else y) xs)) in
      let changed : list_any test (kind_rows kind (change x)) ≡ (one || list_any test (rows_of kind n (without_id id x.held))) = (λ i. list_any test (rows_of kind (number x i) (held x i))) ∙ ap (λ m. list_any test (rows_of kind m (put nat_cmp id new x.held))) (sym same) ∙ put_rows test n id new x.held (sorted.0 t) in
      let others : list_any test (filter (λ row. not (is_of n id row)) (kind_rows kind x)) ≡ list_any test (rows_of kind n (without_id id x.held)) = ap (list_any test) (drop_tied n id x.number t x.held) ∙ ap (λ m. list_any test (rows_of kind m (without_id id x.held))) (sym same) in
      rw t (first ∙ (λ i. changed i || rest i) ∙ joined one (list_any test (rows_of kind n (without_id id x.held))) has left ∙ ap (λ b. one || b) (sym (both ∙ ap (λ b. b || left) others))))
      (λ t.
      let first = list_any-append test (kind_rows kind x) (flat_map (kind_rows kind) (map (λ y. if n == y.number then change y else y) xs)) in
      let others = ap (list_any test) (drop_other n id x.number t x.held) in
      rw t (first ∙ ap (λ b. list_any test (kind_rows kind x) || b) rest ∙ turned (list_any test (kind_rows kind x)) (has && one) left ∙ ap (λ b. (has && one) || b) (sym (both ∙ ap (λ b. b || left) others))))
    where
      joined : (one here has left : Bool) → ((one || here) || ((has && one) || left)) ≡ (one || (here || left))
      joined true here has left = refl
      joined false true has left = refl
      joined false false true left = refl
      joined false false false left = refl

      turned : (a b c : Bool) → (a || (b || c)) ≡ (b || (a || c))
      turned true true c = refl
      turned true false c = refl
      turned false b c = refl

  module _ (cmp : K → K → Ordering) (o : IsTotalOrder cmp) where
    -- an interest under the id is of the kind of the one that is held, and in its key
    only_rows : (n id m : ℕ) (i : InterestRow K) (rows : ById (InterestRow K)) → AllByRecursion (λ row. (id == row.0) ≡ true → row.1 ≡ i) rows
        → list_any (λ row. is_of n id row && not (kind i && belongs cmp i.expr row)) (rows_of kind m rows) ≡ false
    only_rows n id m i [] all = refl
    only_rows n id m i (row ∷ rows) all =
        let rest = only_rows n id m i rows all.1 in
        by_test (kind row.1)
        (λ h.
        by_test (id == row.0)
        (λ t.
        let own : (kind row.1 && belongs cmp row.1.expr ((m, row.0), row.1.expr)) ≡ true = both_true _ _ h (belongs-own cmp o ((m, row.0), row.1.expr)) in
        let same : (kind i && belongs cmp i.expr ((m, row.0), row.1.expr)) ≡ true = subst (λ (r : InterestRow K). (kind r && belongs cmp r.expr ((m, row.0), row.1.expr)) ≡ true) (all.0 t) own in
        rw h (both_false _ _ (ap (λ b. (n == m && id == row.0) && not b) same ∙ and_false_second (n == m && id == row.0)) rest))
        (λ t. rw h (both_false _ _ (and_false_first _ _ (ap (λ b. n == m && b) t ∙ and_false_second (n == m))) rest)))
        (λ h. rw h rest)

    rows_apart : (n id m : ℕ) (p : HeldRow K → Bool) (rows : ById (InterestRow K)) → (n == m) ≡ false → list_any (λ row. is_of n id row && p row) (rows_of kind m rows) ≡ false
    rows_apart n id m p [] apart = refl
    rows_apart n id m p (row ∷ rows) apart =
        let rest = rows_apart n id m p rows apart in
        by_test (kind row.1) (λ h. rw (h, apart) rest) (λ h. rw h rest)

    pub only_one : (id : ℕ) (i : InterestRow K) (f : Face K) (fs : List (Face K)) → IsInOrder f.held → at_id id f.held ≡ Some i → AllByRecursion (λ x. (f.number == x.number) ≡ true → x ≡ f) fs
        → list_any (λ row. is_of f.number id row && not (kind i && belongs cmp i.expr row)) (flat_map (kind_rows kind) fs) ≡ false
    only_one id i f [] sorted is only = refl
    only_one id i f (x ∷ xs) sorted is only =
        let test = λ (row : HeldRow K). is_of f.number id row && not (kind i && belongs cmp i.expr row) in
        let rest = only_one id i f xs sorted is only.1 in
        let here : list_any test (kind_rows kind x) ≡ false =
        by_test (f.number == x.number)
        (λ t. ap (λ (y : Face K). list_any test (kind_rows kind y)) (only.0 t) ∙ only_rows f.number id f.number i f.held (unique id i f.held sorted is))
        (λ t. rows_apart f.number id x.number (λ row. not (kind i && belongs cmp i.expr row)) x.held t)
        in
        list_any-append test (kind_rows kind x) (flat_map (kind_rows kind) xs) ∙ (λ j. here j || rest j)

    -- one of the kind goes
    pub removed : (n id : ℕ) (i : InterestRow K) (old new : Interests K) → kind i ≡ true → ChangesAt cmp i.expr (filter (λ row. not (is_of n id row))) old new → RemovesOf cmp kind n id i old new
    removed n id i old new is changed held only was =
        indexed-removed cmp o old new held was n id i.expr (filter (λ row. not (is_of n id row)) held) changed (record { at = λ test. any_kept test (λ row. not (is_of n id row)) held })
        (rw is at only)

    -- one of another kind isn't there
    pub unremoved : (n id : ℕ) (i : InterestRow K) (index : Interests K) → kind i ≡ false → RemovesOf cmp kind n id i index index
    unremoved n id i index other held only was = subst (IsIndexOf cmp index) (sym (filter_all (λ row. not (is_of n id row)) held (each held (rw other at only)))) was
      where
        each : (rows : List (HeldRow K)) → list_any (λ row. is_of n id row && true) rows ≡ false → AllByRecursion (λ row. not (is_of n id row) ≡ true) rows
        each [] none = tt
        each (row ∷ rows) none = (apart (is_of n id row) (or_false_first _ _ none), each rows (or_false_second _ _ none))
          where
            apart : (b : Bool) → (b && true) ≡ false → not b ≡ true
            apart true h = cc
            apart false h = refl

    -- nothing goes where nothing is found
    pub none_dropped : (id : ℕ) (f : Face K) (fs : List (Face K)) → at_id id f.held ≡ None → AllByRecursion (λ x. (f.number == x.number) ≡ true → x ≡ f) fs
        → filter (λ row. not (is_of f.number id row)) (flat_map (kind_rows kind) fs) ≡ flat_map (kind_rows kind) fs
    none_dropped id f [] none only = refl
    none_dropped id f (x ∷ xs) none only =
        filter-append (λ row. not (is_of f.number id row)) (kind_rows kind x) (flat_map (kind_rows kind) xs)
        ∙ (λ j. by_test (f.number == x.number) here (λ t. drop_other f.number id x.number t x.held) j ++ none_dropped id f xs none only.1 j)
      where
        here : (f.number == x.number) ≡ true → filter (λ row. not (is_of f.number id row)) (kind_rows kind x) ≡ kind_rows kind x
        here t =
            let same : x ≡ f = only.0 t in
            drop_tied f.number id x.number t x.held
            ∙ ap (λ (y : Face K). rows_of kind x.number (without_id id y.held)) same
            ∙ ap (rows_of kind x.number) (absent-kept id f.held (not-found id f.held none))
            ∙ ap (λ (y : Face K). rows_of kind x.number y.held) (sym same)

    pub put_one : (n id : ℕ) (i : InterestRow K) (old new : Interests K) → kind i ≡ true → ChangesAt cmp i.expr (λ rows. rows ++ ((n, id), i.expr) ∷ []) old new → PutsOf cmp kind n id i old new
    put_one n id i old new is changed held was =
        rw is (indexed-put cmp o old new held was n id i.expr (((n, id), i.expr) ∷ held) changed (record { at = λ test. refl }))

    pub put_none : (n id : ℕ) (i : InterestRow K) (index : Interests K) → kind i ≡ false → PutsOf cmp kind n id i index index
    put_none n id i index other held was = rw other was

    -- ---- all of a face go, one after another
    stay_here : (n m : ℕ) (all rows : ById (InterestRow K)) → AllByRecursion (λ row. at_id row.0 all ≡ Some row.1) rows → AllByRecursion (λ row. stays n all row ≡ true) (rows_of kind m rows)
    stay_here n m all [] found = tt
    stay_here n m all (row ∷ rows) found =
        by_test (kind row.1)
        (λ h. rw h (or_true_second (not (n == m)) _ (found_any row.0 row.1 all found.0), stay_here n m all rows found.1))
        (λ h. rw h (stay_here n m all rows found.1))

    stay_other : (n m : ℕ) (left rows : ById (InterestRow K)) → (n == m) ≡ false → AllByRecursion (λ row. stays n left row ≡ true) (rows_of kind m rows)
    stay_other n m left [] apart = tt
    stay_other n m left (row ∷ rows) apart =
        by_test (kind row.1) (λ h. rw (h, apart) (refl, stay_other n m left rows apart)) (λ h. rw h (stay_other n m left rows apart))

    -- at first all stay
    pub all_stay : (f : Face K) (fs : List (Face K)) → IsInOrder f.held → AllByRecursion (λ x. (f.number == x.number) ≡ true → x ≡ f) fs → filter (stays f.number f.held) (flat_map (kind_rows kind) fs) ≡ flat_map (kind_rows kind) fs
    all_stay f fs sorted only = filter_all (stays f.number f.held) (flat_map (kind_rows kind) fs) (each fs only)
      where
        each : (xs : List (Face K)) → AllByRecursion (λ x. (f.number == x.number) ≡ true → x ≡ f) xs → AllByRecursion (λ row. stays f.number f.held row ≡ true) (flat_map (kind_rows kind) xs)
        each [] h = tt
        each (x ∷ xs) h =
            all_append (λ row. stays f.number f.held row ≡ true) (kind_rows kind x) (flat_map (kind_rows kind) xs)
            (by_test (f.number == x.number)
            (λ t. subst (λ (y : Face K). AllByRecursion (λ row. stays f.number f.held row ≡ true) (kind_rows kind y)) (sym (h.0 t)) (stay_here f.number f.number f.held f.held (all-found f.held sorted)))
            (λ t. stay_other f.number x.number f.held x.held t))
            (each xs h.1)

    -- one more of them goes
    pub gone_one : (f : Face K) (row : ℕ × InterestRow K) (later : ById (InterestRow K)) → AllByRecursion (λ k. nat_cmp row.0 k ≡ Less) (keys_of later) → (old new : Interests K) → RemovesOf cmp kind f.number row.0 row.1 old new
        → IsInOrder f.held → at_id row.0 f.held ≡ Some row.1 → (fs : List (Face K)) → IsOnlyOne f fs
        → IsIndexOf cmp old (filter (stays f.number (row ∷ later)) (flat_map (kind_rows kind) fs)) → IsIndexOf cmp new (filter (stays f.number later) (flat_map (kind_rows kind) fs))
    gone_one f row later above old new removes sorted is fs one was =
        let rows = filter (stays f.number (row ∷ later)) (flat_map (kind_rows kind) fs) in
        index_alike cmp new (filter (λ r. not (is_of f.number row.0 r)) rows) (filter (stays f.number later) (flat_map (kind_rows kind) fs)) (λ test. one_less f.number row later above test (flat_map (kind_rows kind) fs))
        (removes rows (any_filtered_none _ (stays f.number (row ∷ later)) (flat_map (kind_rows kind) fs) (only_one row.0 row.1 f fs sorted is one.only)) was)

    -- at last the others stay
    pub others_stay : (n : ℕ) (fs : List (Face K)) → filter (stays n []) (flat_map (kind_rows kind) fs) ≡ flat_map (kind_rows kind) (filter (λ x. not (n == x.number)) fs)
    others_stay n [] = refl
    others_stay n (x ∷ xs) =
        let rest = others_stay n xs in
        filter-append (stays n []) (kind_rows kind x) (flat_map (kind_rows kind) xs)
        ∙ by_test (n == x.number)
        (λ t. rw t (ap (λ rows. rows ++ filter (stays n []) (flat_map (kind_rows kind) xs)) (filter_none (stays n []) (kind_rows kind x) (gone x.number t x.held)) ∙ rest))
        (λ t. rw t ((λ j. filter_all (stays n []) (kind_rows kind x) (stay_other n x.number [] x.held t) j ++ rest j)))
      where
        gone : (m : ℕ) → (n == m) ≡ true → (rows : ById (InterestRow K)) → AllByRecursion (λ row. stays n [] row ≡ false) (rows_of kind m rows)
        gone m t [] = tt
        gone m t (row ∷ rows) = by_test (kind row.1) (λ h. rw (h, t) (refl, gone m t rows)) (λ h. rw h (gone m t rows))
