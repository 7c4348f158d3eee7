-- The rows of faces and of routers, where some change.
use Rattle.std.proofs.Common.{◌≡◌, ℕ, ◌+◌, ◌==◌, Bool, true, false, ◌&&◌, not, if◌then◌else◌, List, [], ◌∷◌, ◌++◌, Some, None, ap, ap₂, arith, filter, flat_map, get_or, length, ◌<◌, map, refl, subst, sym, take, ◌∙◌}
use Rattle.std.proofs.lemmas.Bool.Decides.{nat_tests}
use Rattle.std.proofs.lemmas.Bool.{eqb-true}
use Rattle.std.proofs.lemmas.List.{map-append, take_more}
use Rattle.std.proofs.lemmas.List.Elements.{filter-append}
use Rattle.std.proofs.lemmas.List.Sums.{sum_by-cons}
use Rattle.std.proofs.lemmas.Option.{same_Some}
use Rattle.std.specs.FinMap.Entries.{below_all, is_sorted, put}
use Rattle.std.specs.List.{AllByRecursion}
use Rattle.std.specs.Ordering.{is_lt, nat_cmp}
use Rattle.std.specs.declared.cmp.Ordering.{Ordering}
use Rattle.std.specs.declared.cmp.Ordering.TheVariants.{Less, Equal, Greater}
use Rattle.zt_keys.specs.Test.{by_test}
use Rattle.zt_region.specs.Region.{zid_eq}
use Rattle.zt_region.specs.declared.region.Region.{Region}
use Rattle.zt_region.specs.declared.region.Zid.{Zid}
use Rattle.zt_indexes.specs.Recounts.{Recounts, SameRows, count-both, recounts-beside, recounts-same, same-sym}
use Rattle.zt_indexes.specs.Rows.{is_row_at}
use Rattle.zt_model.specs.Lists.{at_id, first_where, without_id}
use Rattle.zt_model.specs.Rows.{ById, Face, RoutedRow}
use Rattle.zt_model.specs.Visible.{rows_of_face}
use Rattle.zt_state.specs.Indexed.{HasLiveInOrder, KeepsDeclared, routed_live}
use Rattle.zt_faces.specs.Rising.{IsRising}
use Rattle.zt_faces.proofs.Rising.{none-above, none-changed, none-dropped}

by_ordering : {G : Type 0} (r : Ordering) → (r ≡ Less → G) → (r ≡ Equal → G) → (r ≡ Greater → G) → G
by_ordering Less less equal greater = less refl
by_ordering Equal less equal greater = equal refl
by_ordering Greater less equal greater = greater refl

and_first : (a b : Bool) → (a && b) ≡ true → a ≡ true
and_first true b h = refl
and_first false b h = h

and_second : (a b : Bool) → (a && b) ≡ true → b ≡ true
and_second true b h = h
and_second false b h = cc

apart-Less : (a n : ℕ) → nat_cmp n a ≡ Less → (n == a) ≡ false
apart-Less a n h = grind (arith, nat_tests)

apart-Greater : (a n : ℕ) → nat_cmp n a ≡ Greater → (n == a) ≡ false
apart-Greater a n h = grind (arith, nat_tests)

apart-below : (n a : ℕ) → is_lt (nat_cmp n a) ≡ true → (n == a) ≡ false
apart-below n a h = grind (arith, nat_tests)

below-less : (n a b : ℕ) → nat_cmp n a ≡ Less → is_lt (nat_cmp a b) ≡ true → (n == b) ≡ false
below-less n a b h k = grind (arith, nat_tests)

tied-Equal : (n a : ℕ) → nat_cmp n a ≡ Equal → (n == a) ≡ true
tied-Equal n a h = grind (arith, nat_tests)

tied-below : (n a b : ℕ) → (n == a) ≡ true → is_lt (nat_cmp a b) ≡ true → (n == b) ≡ false
tied-below n a b h k = grind (arith, nat_tests)

-- ---- rows by id
module _ {A : Type 0} where
  -- no row of this id
  abbrev IsAbsent : ℕ → ById A → Type 0
  IsAbsent id rows = AllByRecursion (λ row. (id == row.0) ≡ false) rows

  absent-below : (id n : ℕ) (rows : ById A) → nat_cmp id n ≡ Less → below_all nat_cmp n rows ≡ true → IsAbsent id rows
  absent-below id n [] h below = tt
  absent-below id n (row ∷ rows) h below = (below-less id n row.0 h (and_first _ _ below), absent-below id n rows h (and_second _ _ below))

  absent-tied : (id n : ℕ) (rows : ById A) → (id == n) ≡ true → below_all nat_cmp n rows ≡ true → IsAbsent id rows
  absent-tied id n [] h below = tt
  absent-tied id n (row ∷ rows) h below = (tied-below id n row.0 h (and_first _ _ below), absent-tied id n rows h (and_second _ _ below))

  absent-kept : (id : ℕ) (rows : ById A) → IsAbsent id rows → without_id id rows ≡ rows
  absent-kept id [] h = refl
  absent-kept id (row ∷ rows) h = let here = h.0 in rw here (ap (λ rs. row ∷ rs) (absent-kept id rows h.1))

  pub not-found-kept : (id : ℕ) (rows : ById A) → at_id id rows ≡ None → without_id id rows ≡ rows
  not-found-kept id [] h = refl
  not-found-kept id (row ∷ rows) h = by_test (id == row.0) (λ t. cc (rw t at h)) (λ t. rw t (ap (λ rs. row ∷ rs) (not-found-kept id rows (rw t at h))))

module _ {K : Type 0} (cmp : K → K → Ordering) (r : Region) where
  -- the rows of a region
  abbrev pub under : ById K → List (Region × K)
  under rows = map (λ row. (r, row.1)) rows

  abbrev weight : K → Region → Region × K → ℕ
  weight e region row = if is_row_at cmp e region row then 1 else 0

  -- a row that is put beside the others
  pub put-same : (id : ℕ) (new : K) (rows : ById K) → is_sorted nat_cmp rows ≡ true → SameRows cmp (under (put nat_cmp id new rows)) ((r, new) ∷ under (without_id id rows))
  put-same id new [] sorted = record { at = λ e region. refl }
  put-same id new (row ∷ rows) sorted =
      by_ordering (nat_cmp id row.0)
      (λ h.
      let here = apart-Less row.0 id h in
      let rest = absent-kept id rows (absent-below id row.0 rows h (and_first _ _ sorted)) in
      rw (h, here, rest) (record { at = λ e region. refl }))
      (λ h.
      let here = tied-Equal id row.0 h in
      let rest = absent-kept id rows (absent-tied id row.0 rows here (and_first _ _ sorted)) in
      rw (h, here, rest) (record { at = λ e region. refl }))
      (λ h.
      let here = apart-Greater row.0 id h in
      let more = put-same id new rows (and_second _ _ sorted) in
      rw (h, here) (record {
        at = λ e region.
            let whole = sum_by-cons (weight e region) (r, row.1) (under (put nat_cmp id new rows)) in
            let other = sum_by-cons (weight e region) (r, new) ((r, row.1) ∷ under (without_id id rows)) in
            let next = sum_by-cons (weight e region) (r, row.1) (under (without_id id rows)) in
            let last = sum_by-cons (weight e region) (r, new) (under (without_id id rows)) in
            let same = more.at e region in
            omega (arith, whole, other, next, last, same);
      }))

  -- a row that is found beside the others
  pub found-same : (id : ℕ) (old : K) (rows : ById K) → is_sorted nat_cmp rows ≡ true → at_id id rows ≡ Some old → SameRows cmp (under rows) ((r, old) ∷ under (without_id id rows))
  found-same id old [] sorted is = cc
  found-same id old (row ∷ rows) sorted is =
      by_test (id == row.0)
      (λ t.
      let rest = absent-kept id rows (absent-tied id row.0 rows t (and_first _ _ sorted)) in
      let here : row.1 ≡ old = same_Some _ _ (rw t at is) in
      rw (t, rest, here) (record { at = λ e region. refl }))
      (λ t.
      let more = found-same id old rows (and_second _ _ sorted) (rw t at is) in
      rw t (record {
        at = λ e region.
            let whole = sum_by-cons (weight e region) (r, row.1) (under rows) in
            let other = sum_by-cons (weight e region) (r, old) ((r, row.1) ∷ under (without_id id rows)) in
            let next = sum_by-cons (weight e region) (r, row.1) (under (without_id id rows)) in
            let last = sum_by-cons (weight e region) (r, old) (under (without_id id rows)) in
            let same = more.at e region in
            omega (arith, whole, other, next, last, same);
      }))

-- ---- faces
module _ {K : Type 0} where
  pub all-changed : (n : ℕ) (change : Face K → Face K) → ((f : Face K) → HasLiveInOrder f → HasLiveInOrder (change f)) → (fs : List (Face K))
      → AllByRecursion HasLiveInOrder fs → AllByRecursion HasLiveInOrder (map (λ f. if n == f.number then change f else f) fs)
  all-changed n change kept [] h = tt
  all-changed n change kept (f ∷ fs) h = (by_number (n == f.number), all-changed n change kept fs h.1)
    where
      by_number : (b : Bool) → HasLiveInOrder (if b then change f else f)
      by_number true = kept f h.0
      by_number false = h.0

  rows-kept : (f g : Face K) → KeepsDeclared f g → rows_of_face g ≡ rows_of_face f
  rows-kept f g kept = λ i. map (λ row. (kept.region i, row.1)) (kept.live i)

  -- a change that keeps what a face declares
  pub quiet-rows : (n : ℕ) (change : Face K → Face K) → ((f : Face K) → KeepsDeclared f (change f)) → (fs : List (Face K)) → flat_map rows_of_face (map (λ f. if n == f.number then change f else f) fs) ≡ flat_map rows_of_face fs
  quiet-rows n change kept [] = refl
  quiet-rows n change kept (f ∷ fs) = ap₂ (λ (a b : List (Region × K)). a ++ b) (by_number (n == f.number)) (quiet-rows n change kept fs)
    where
      by_number : (b : Bool) → rows_of_face (if b then change f else f) ≡ rows_of_face f
      by_number true = rows-kept f (change f) (kept f)
      by_number false = refl

  pub quiet-order : (change : Face K → Face K) → ((f : Face K) → KeepsDeclared f (change f)) → (f : Face K) → HasLiveInOrder f → HasLiveInOrder (change f)
  quiet-order change kept f h = subst (λ (rows : ById K). is_sorted nat_cmp rows ≡ true) (sym ((kept f).live)) h

  abbrev pub others : ℕ → List (Face K) → List (Face K)
  others n fs = filter (λ f. not (n == f.number)) fs

  module _ (cmp : K → K → Ordering) where
    -- the rows of one face beside those of the others
    pub one-face : (n : ℕ) (f : Face K) (fs : List (Face K)) → IsRising (λ x. x.number) fs → first_where (λ x. n == x.number) fs ≡ Some f
        → SameRows cmp (flat_map rows_of_face fs) (rows_of_face f ++ flat_map rows_of_face (others n fs))
    one-face n f [] rising is = cc
    one-face n f (x ∷ xs) rising is =
        by_test (n == x.number)
        (λ t.
        let here : x ≡ f = same_Some _ _ (rw t at is) in
        let none = none-dropped (λ y. y.number) n xs (subst (λ (m : ℕ). AllByRecursion (λ y. (m == y.number) ≡ false) xs) (sym (eqb-true n x.number t)) (none-above (λ y. y.number) x.number xs rising.0)) in
        rw (t, none, ← here) (record { at = λ e region. refl }))
        (λ t.
        let more = one-face n f xs rising.1 (rw t at is) in
        rw t (record {
          at = λ e region.
              let a = count-both cmp e region (rows_of_face x) (flat_map rows_of_face xs) in
              let b = count-both cmp e region (rows_of_face f) (rows_of_face x ++ flat_map rows_of_face (others n xs)) in
              let c = count-both cmp e region (rows_of_face x) (flat_map rows_of_face (others n xs)) in
              let d = count-both cmp e region (rows_of_face f) (flat_map rows_of_face (others n xs)) in
              let same = more.at e region in
              omega (arith, a, b, c, d, same);
        }))

    -- and after a change of it
    pub one-changed : (n : ℕ) (change : Face K → Face K) (f : Face K) (fs : List (Face K)) → IsRising (λ x. x.number) fs → first_where (λ x. n == x.number) fs ≡ Some f
        → SameRows cmp (flat_map rows_of_face (map (λ x. if n == x.number then change x else x) fs)) (rows_of_face (change f) ++ flat_map rows_of_face (others n fs))
    one-changed n change f [] rising is = cc
    one-changed n change f (x ∷ xs) rising is =
        by_test (n == x.number)
        (λ t.
        let here : x ≡ f = same_Some _ _ (rw t at is) in
        let absent = subst (λ (m : ℕ). AllByRecursion (λ y. (m == y.number) ≡ false) xs) (sym (eqb-true n x.number t)) (none-above (λ y. y.number) x.number xs rising.0) in
        let none = none-dropped (λ y. y.number) n xs absent in
        let still = none-changed (λ y. y.number) n change xs absent in
        rw (t, none, still, ← here) (record { at = λ e region. refl }))
        (λ t.
        let more = one-changed n change f xs rising.1 (rw t at is) in
        let after = map (λ y. if n == y.number then change y else y) xs in
        rw t (record {
          at = λ e region.
              let a = count-both cmp e region (rows_of_face x) (flat_map rows_of_face after) in
              let b = count-both cmp e region (rows_of_face (change f)) (rows_of_face x ++ flat_map rows_of_face (others n xs)) in
              let c = count-both cmp e region (rows_of_face x) (flat_map rows_of_face (others n xs)) in
              let d = count-both cmp e region (rows_of_face (change f)) (flat_map rows_of_face (others n xs)) in
              let same = more.at e region in
              omega (arith, a, b, c, d, same);
        }))

-- a number that isn't found is no face's
pub not-found : {A : Type 0} (number : A → ℕ) (n : ℕ) (xs : List A) → first_where (λ x. n == number x) xs ≡ None → AllByRecursion (λ x. (n == number x) ≡ false) xs
not-found number n [] h = tt
not-found number n (x ∷ xs) h = by_test (n == number x) (λ t. cc (rw t at h)) (λ t. (t, not-found number n xs (rw t at h)))

-- ---- router rows
module _ {K : Type 0} (zid : Zid) where
  pub routed-both : (xs ys : List (RoutedRow K)) → routed_live zid (xs ++ ys) ≡ routed_live zid xs ++ routed_live zid ys
  routed-both xs ys =
      ap (map (λ (row : RoutedRow K). (row.region, row.expr))) (filter-append (λ (row : RoutedRow K). not (zid_eq row.source zid)) xs ys)
      ∙ map-append (λ (row : RoutedRow K). (row.region, row.expr)) (filter (λ row. not (zid_eq row.source zid)) xs) (filter (λ row. not (zid_eq row.source zid)) ys)

-- ---- what is found, and what is counted in place of it
pub all-found : {A : Type 0} (P : A → Type 0) (p : A → Bool) (xs : List A) (x : A) → AllByRecursion P xs → first_where p xs ≡ Some x → P x
all-found P p [] x all is = cc
all-found P p (y ∷ ys) x all is = by_test (p y) (λ t. subst P (same_Some y x (rw t at is)) all.0) (λ t. all-found P p ys x all.1 (rw t at is))

pub taken-more : {A B : Type 0} (h : A → B) (xs : List A) (i : ℕ) (x : A) → i < length xs → x ≡ get_or xs i x → map h (take (i + 1) xs) ≡ map h (take i xs) ++ h x ∷ []
taken-more h xs i x lt is =
    ap (map h) (take_more xs i x lt) ∙ map-append h (take i xs) (get_or xs i x ∷ []) ∙ ap (λ y. map h (take i xs) ++ h y ∷ []) (sym is)

module _ {K : Type 0} (cmp : K → K → Ordering) where
  pub same-refl : (xs : List (Region × K)) → SameRows cmp xs xs
  same-refl xs = record { at = λ e region. refl }

  module _ (n : ℕ) (f : Face K) (fs : List (Face K)) (rising : IsRising (λ x. x.number) fs) (is : first_where (λ x. n == x.number) fs ≡ Some f) (old new : List (K × List (Region × ℕ))) where
    pub face-recounted : (change : Face K → Face K) → Recounts cmp (rows_of_face f) (rows_of_face (change f)) old new
        → Recounts cmp (flat_map rows_of_face fs) (flat_map rows_of_face (map (λ x. if n == x.number then change x else x) fs)) old new
    face-recounted change one =
        let rest = flat_map rows_of_face (others n fs) in
        let after = flat_map rows_of_face (map (λ x. if n == x.number then change x else x) fs) in
        recounts-same cmp (rows_of_face f ++ rest) (rows_of_face (change f) ++ rest) (flat_map rows_of_face fs) after old new
        (one-face cmp n f fs rising is) (same-sym cmp after (rows_of_face (change f) ++ rest) (one-changed cmp n change f fs rising is))
        (recounts-beside cmp (rows_of_face f) (rows_of_face (change f)) rest old new one)

    pub face-gone : Recounts cmp (rows_of_face f) [] old new → Recounts cmp (flat_map rows_of_face fs) (flat_map rows_of_face (others n fs)) old new
    face-gone one =
        let rest = flat_map rows_of_face (others n fs) in
        recounts-same cmp (rows_of_face f ++ rest) rest (flat_map rows_of_face fs) rest old new
        (one-face cmp n f fs rising is) (same-refl rest)
        (recounts-beside cmp (rows_of_face f) [] rest old new one)

  module _ (r : Region) (id : ℕ) (rows : ById K) (sorted : is_sorted nat_cmp rows ≡ true) (old new : List (K × List (Region × ℕ))) where
    -- the row of an id is counted no more
    pub row-gone : (e : K) → at_id id rows ≡ Some e → Recounts cmp ((r, e) ∷ []) [] old new → Recounts cmp (under cmp r rows) (under cmp r (without_id id rows)) old new
    row-gone e is one =
        let rest = under cmp r (without_id id rows) in
        recounts-same cmp ((r, e) ∷ rest) rest (under cmp r rows) rest old new (found-same cmp r id e rows sorted is) (same-refl rest)
        (recounts-beside cmp ((r, e) ∷ []) [] rest old new one)

    -- and one is, that is put under it
    pub row-put : (e : K) → Recounts cmp [] ((r, e) ∷ []) old new → Recounts cmp (under cmp r (without_id id rows)) (under cmp r (put nat_cmp id e rows)) old new
    row-put e one =
        let rest = under cmp r (without_id id rows) in
        let after = under cmp r (put nat_cmp id e rows) in
        recounts-same cmp rest ((r, e) ∷ rest) rest after old new (same-refl rest) (same-sym cmp after ((r, e) ∷ rest) (put-same cmp r id e rows sorted))
        (recounts-beside cmp [] ((r, e) ∷ []) rest old new one)
