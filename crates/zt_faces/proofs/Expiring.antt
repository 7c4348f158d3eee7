-- What was gathered, put in order, is what has waited for the timeout.
use Rattle.std.proofs.Common.{◌≡◌, ◌&&◌, ◌||◌, ◌-◌, ℕ, ◌==◌, ◌<◌, Bool, true, false, List, [], ◌∷◌, ◌++◌, refl, ap, arith, filter, map, subst, sym, ◌∙◌}
use Rattle.std.proofs.lemmas.Bool.{and_from, and_parts, eq-eqb, eqb-true}
use Rattle.std.proofs.lemmas.Bool.Decides.{nat_tests}
use Rattle.std.proofs.lemmas.Cmp.{nat_cmp_total}
use Rattle.std.proofs.lemmas.List.Folds.{list_any-append}
use Rattle.std.proofs.lemmas.List.Kept.{IsStrictlySortedBy-dedup}
use Rattle.std.proofs.lemmas.List.Sorted.{list_any-IsPermutation}
use Rattle.std.specs.BTreeMap.{is_at}
use Rattle.std.specs.Cmp.{IsTotalOrder, on_total, then_total}
use Rattle.std.specs.List.{AllByRecursion, dedup, dedup_from, list_any}
use Rattle.std.specs.List.Sorted.{IsPermutation, IsSorted, IsStrictlySortedBy}
use Rattle.std.specs.Map.{keys_of}
use Rattle.std.specs.Ordering.{is_eq, nat_cmp, ordering_reverse, ordering_then}
use Rattle.std.specs.declared.cmp.Ordering.{Ordering}
use Rattle.std.specs.declared.cmp.Ordering.TheVariants.{Less, Equal, Greater}
use Rattle.zt_keys.specs.Test.{by_test}
use Rattle.zt_model.specs.Closing.{is_expired}
use Rattle.zt_model.specs.Rows.{ById, Face, Pending}
use Rattle.zt_rows.specs.ById.{IsInOrder}
use Rattle.zt_faces.specs.Rising.{IsRising}
use Rattle.zt_faces.specs.Timed.{IsEachOnce, IsGathered, IsOrderedAt, expired_among, expired_at, expired_of, has_waited, is_in, pair_cmp, timed_at, waits, waits_in}
use Rattle.zt_faces.specs.declared.by_time.Timed.{Timed}
use Rattle.zt_faces.proofs.Times.{at-pair, both-ways, or-either, or-left, or-right, same-pair, self-pair}

pair_total : IsTotalOrder pair_cmp
pair_total = then_total (on_total (λ p. p.0) nat_cmp_total) (on_total (λ p. p.1) nat_cmp_total)

-- ---- in order, each once
or_twice : (a b c : Bool) → b ≡ a → (a || c) ≡ (a || (b || c))
or_twice true b c h = refl
or_twice false true c h = cc
or_twice false false c h = refl

module _ {A : Type 0} (same : A → A → Bool) (test : A → Bool) (alike : (x y : A) → same x y ≡ true → test x ≡ test y) where
  any-dedup_from : (k : A) (xs : List A) → list_any test (dedup_from same k xs) ≡ (test k || list_any test xs)
  any-dedup_from k [] = refl
  any-dedup_from k (x ∷ xs) =
      by_test (same x k)
      (λ t. rw t (any-dedup_from k xs ∙ or_twice (test k) (test x) (list_any test xs) (alike x k t)))
      (λ t. rw t (ap (λ b. test k || b) (any-dedup_from x xs)))

  any-dedup : (xs : List A) → list_any test (dedup same xs) ≡ list_any test xs
  any-dedup [] = refl
  any-dedup (x ∷ xs) = any-dedup_from x xs

abbrev pub pair_eq : ℕ × ℕ → ℕ × ℕ → Bool
pair_eq a b = (a.0 == b.0) && (a.1 == b.1)

pub once : (found sorted : List (ℕ × ℕ)) → IsPermutation found sorted → IsSorted pair_cmp sorted → IsEachOnce found (dedup pair_eq sorted)
once found sorted moved rises = record {
  in_order = IsStrictlySortedBy-dedup pair_total (λ a b. sym (at-pair a b)) sorted rises;
  at = λ p. any-dedup pair_eq (is_at (pair_cmp p)) (λ x y h. ap (is_at (pair_cmp p)) (same-pair x y (at-pair x y ∙ h))) sorted ∙ sym (list_any-IsPermutation (is_at (pair_cmp p)) found sorted moved);
}

-- ---- lists in order with the same members are the same
apart : (p x : ℕ × ℕ) → pair_cmp p x ≡ Less → is_at (pair_cmp p) x ≡ false
apart p x is = ap is_eq is

neither : (a b : Bool) → a ≡ false → b ≡ false → (a || b) ≡ false
neither false b f g = g
neither true b f g = cc

all-append : {A : Type 0} (P : A → Type 0) (xs ys : List A) → AllByRecursion P xs → AllByRecursion P ys → AllByRecursion P (xs ++ ys)
all-append P [] ys h k = k
all-append P (x ∷ xs) ys h k = (h.0, all-append P xs ys h.1 k)

not-above : (p : ℕ × ℕ) (xs : List (ℕ × ℕ)) → AllByRecursion (λ x. pair_cmp p x ≡ Less) xs → is_in p xs ≡ false
not-above p [] h = refl
not-above p (x ∷ xs) h = neither _ (is_in p xs) (apart p x h.0) (not-above p xs h.1)

not-below : (p x : ℕ × ℕ) (xs : List (ℕ × ℕ)) → pair_cmp p x ≡ Less → AllByRecursion (λ y. pair_cmp x y ≡ Less) xs → is_in p xs ≡ false
not-below p x [] below h = refl
not-below p x (y ∷ ys) below h = neither _ (is_in p ys) (apart p y (pair_total.trans p x y below h.0)) (not-below p x ys below h.1)

by_ordering : {G : Type 0} (r : Ordering) → (r ≡ Less → G) → (r ≡ Equal → G) → (r ≡ Greater → G) → G
by_ordering Less less equal greater = less refl
by_ordering Equal less equal greater = equal refl
by_ordering Greater less equal greater = greater refl

absurd-in : {G : Type 0} (b : Bool) → b ≡ true → b ≡ false → G
absurd-in true t f = cc
absurd-in false t f = cc

sorted-same : (xs ys : List (ℕ × ℕ)) → IsStrictlySortedBy pair_cmp xs → IsStrictlySortedBy pair_cmp ys → ((p : ℕ × ℕ) → is_in p xs ≡ is_in p ys) → xs ≡ ys
unfolding IsStrictlySortedBy
sorted-same [] [] a b same = refl
sorted-same [] (y ∷ ys) a b same = absurd-in (is_in y (y ∷ ys)) (or-left _ (is_in y ys) (self-pair y)) (sym (same y))
sorted-same (x ∷ xs) [] a b same = absurd-in (is_in x (x ∷ xs)) (or-left _ (is_in x xs) (self-pair x)) (same x)
sorted-same (x ∷ xs) (y ∷ ys) a b same =
    by_ordering (pair_cmp x y)
    (λ h. absurd-in (is_in x (x ∷ xs)) (or-left _ (is_in x xs) (self-pair x)) (same x ∙ neither _ (is_in x ys) (apart x y h) (not-below x y ys h b.0)))
    (λ h. let one = same-pair x y (ap is_eq h) in λ i. one i ∷ sorted-same xs ys a.1 b.1 (rest one) i)
    (λ h. let k : pair_cmp y x ≡ Less = pair_total.antisymm y x ∙ ap ordering_reverse h in
    absurd-in (is_in y (y ∷ ys)) (or-left _ (is_in y ys) (self-pair y)) (sym (same y) ∙ neither _ (is_in y xs) (apart y x k) (not-below y x xs k a.0)))
  where
    others : (p : ℕ × ℕ) → x ≡ y → AllByRecursion (λ z. pair_cmp y z ≡ Less) ys → AllByRecursion (λ z. pair_cmp x z ≡ Less) xs → (q : ℕ × ℕ) → is_at (pair_cmp q) x ≡ true → is_in q xs ≡ is_in q ys
    others p one above-y above-x q at =
        let is = same-pair q x at in
        subst (λ (r : ℕ × ℕ). is_in r xs ≡ false) (sym is) (not-above x xs above-x)
        ∙ sym (subst (λ (r : ℕ × ℕ). is_in r ys ≡ false) (sym (is ∙ one)) (not-above y ys above-y))

    rest : x ≡ y → (q : ℕ × ℕ) → is_in q xs ≡ is_in q ys
    rest one q =
        by_test (is_at (pair_cmp q) x)
        (λ t. others q one b.0 a.0 q t)
        (λ f. sym (ap (λ c. c || is_in q xs) f) ∙ same q ∙ ap (λ (z : ℕ × ℕ). is_at (pair_cmp q) z || is_in q ys) (sym one) ∙ ap (λ c. c || is_in q ys) f)

-- ---- what expired stands in order
pairs-above : (n id : ℕ) (now timeout : ℕ) (rows : ById Pending) → AllByRecursion (λ k. nat_cmp id k ≡ Less) (keys_of rows) → AllByRecursion (λ q. pair_cmp (n, id) q ≡ Less) (expired_of now timeout n rows)
pairs-above n id now timeout [] above = tt
pairs-above n id now timeout (row ∷ rows) above =
    by_test (is_expired now timeout row)
    (λ t. rw t (tied-less n id row.0 above.0, pairs-above n id now timeout rows above.1))
    (λ t. rw t (pairs-above n id now timeout rows above.1))
  where
    same-n : (m : ℕ) → nat_cmp m m ≡ Equal
    same-n m = grind (arith, nat_tests)

    tied-less : (m a b : ℕ) → nat_cmp a b ≡ Less → pair_cmp (m, a) (m, b) ≡ Less
    tied-less m a b less = rw (same-n m) less

rows-sorted : (now timeout n : ℕ) (rows : ById Pending) → IsInOrder rows → IsStrictlySortedBy pair_cmp (expired_of now timeout n rows)
unfolding IsStrictlySortedBy
rows-sorted now timeout n [] ordered = tt
rows-sorted now timeout n (row ∷ rows) ordered =
    by_test (is_expired now timeout row)
    (λ t. rw t (pairs-above n row.0 now timeout rows ordered.0, rows-sorted now timeout n rows ordered.1))
    (λ t. rw t (rows-sorted now timeout n rows ordered.1))

-- one that expired in a list waits there
waits-expired : (now timeout n : ℕ) (q : ℕ × ℕ) (G : Type 0) (rows : ById Pending) → ((since : ℕ) → n ≡ q.0 → waits_in since q.1 rows ≡ true → has_waited now timeout since ≡ true → G) → is_in q (expired_of now timeout n rows) ≡ true → G
waits-expired now timeout n q G [] goes h = cc
waits-expired now timeout n q G (row ∷ rows) goes h =
    let goes_later = λ (since : ℕ) (is : n ≡ q.0) (w : waits_in since q.1 rows ≡ true) (e : has_waited now timeout since ≡ true). goes since is (or-right ((q.1 == row.0) && (since == row.1.since)) _ w) e in
    by_test (is_expired now timeout row)
    (λ t. or-either (is_at (pair_cmp q) (n, row.0)) (is_in q (expired_of now timeout n rows)) (rw t at h)
    (λ u. let both = and_parts _ _ (sym (at-pair q (n, row.0)) ∙ u) in
    goes row.1.since (sym (eqb-true q.0 n both.0)) (or-left _ (waits_in row.1.since q.1 rows) (and_from _ _ both.1 (eq-eqb row.1.since row.1.since refl))) t)
    (λ u. waits-expired now timeout n q G rows goes_later u))
    (λ t. waits-expired now timeout n q G rows goes_later (rw t at h))

-- pairs of other numbers
above-pairs : (a : ℕ) (m n : ℕ) → m < n → (rows : ById Pending) → AllByRecursion (λ q. pair_cmp (m, a) q ≡ Less) (map (λ row. (n, row.0)) rows)
above-pairs a m n below [] = tt
above-pairs a m n below (row ∷ rows) = (lower (nat_cmp a row.0), above-pairs a m n below rows)
  where
    less : (i j : ℕ) → i < j → nat_cmp i j ≡ Less
    less i j h = grind (arith, nat_tests)

    lower : (o : Ordering) → ordering_then (nat_cmp m n) o ≡ Less
    lower o = rw (less m n below) refl

module _ {K : Type 0} (now timeout : ℕ) (found : List (ℕ × ℕ)) where
  -- what waits in these faces, and has waited for the timeout, was found
  abbrev pub FindsAll : List (Face K) → Type 0
  FindsAll fs = (timed : Timed) → waits timed fs ≡ true → has_waited now timeout timed.since ≡ true → is_in (timed.face, timed.id) found ≡ true

  abbrev pub FindsOrdered : List (Face K) → Type 0
  FindsOrdered fs = (p : ℕ × ℕ) → is_in p found ≡ true → IsOrderedAt p.0 fs

  finds-later : (f : Face K) (fs : List (Face K)) → FindsAll (f ∷ fs) → FindsAll fs
  finds-later f fs all timed w e = all timed (or-right ((timed.face == f.number) && waits_in timed.since timed.id f.pendings) _ w) e

  face-found : (f : Face K) (fs : List (Face K)) → FindsAll (f ∷ fs) → (q : ℕ × ℕ) → is_in q (expired_at now timeout f) ≡ true → is_in q found ≡ true
  face-found f fs all q h =
      waits-expired now timeout f.number q (is_in q found ≡ true) f.pendings
      (λ since is w e. all (timed_at since q.0 q.1) (or-left _ (waits (timed_at since q.0 q.1) fs) (and_from _ _ (eq-eqb q.0 f.number (sym is)) w)) e)
      h

  pub all-found : (fs : List (Face K)) → FindsAll fs → (q : ℕ × ℕ) → is_in q (expired_among now timeout fs) ≡ true → is_in q found ≡ true
  all-found [] all q h = cc
  all-found (f ∷ fs) all q h =
      or-either (is_in q (expired_at now timeout f)) (is_in q (expired_among now timeout fs)) (sym (list_any-append (is_at (pair_cmp q)) (expired_at now timeout f) (expired_among now timeout fs)) ∙ h)
      (face-found f fs all q)
      (all-found fs (finds-later f fs all) q)

  face-sorted : (f : Face K) (fs : List (Face K)) → FindsAll (f ∷ fs) → FindsOrdered (f ∷ fs) → IsStrictlySortedBy pair_cmp (expired_at now timeout f)
  unfolding IsStrictlySortedBy
  face-sorted f fs all ordered = by-rows (filter (is_expired now timeout) f.pendings) refl
    where
      by-rows : (rows : ById Pending) → filter (is_expired now timeout) f.pendings ≡ rows → IsStrictlySortedBy pair_cmp (expired_at now timeout f)
      by-rows [] is = subst (λ (rs : ById Pending). IsStrictlySortedBy pair_cmp (map (λ row. (f.number, row.0)) rs)) (sym is) tt
      by-rows (row ∷ rows) is =
          let here : is_in (f.number, row.0) (expired_at now timeout f) ≡ true =
          subst (λ (rs : ById Pending). is_in (f.number, row.0) (map (λ r. (f.number, r.0)) rs) ≡ true) (sym is) (or-left _ (is_in (f.number, row.0) (map (λ r. (f.number, r.0)) rows)) (self-pair (f.number, row.0))) in
          rows-sorted now timeout f.number f.pendings ((ordered (f.number, row.0) (face-found f fs all (f.number, row.0) here)).0 (eq-eqb f.number f.number refl))

  above-faces : (a m : ℕ) (fs : List (Face K)) → AllByRecursion (λ y. m < y.number) fs → AllByRecursion (λ q. pair_cmp (m, a) q ≡ Less) (expired_among now timeout fs)
  above-faces a m [] above = tt
  above-faces a m (f ∷ fs) above = all-append (λ q. pair_cmp (m, a) q ≡ Less) (expired_at now timeout f) (expired_among now timeout fs) (above-pairs a m f.number above.0 (filter (is_expired now timeout) f.pendings)) (above-faces a m fs above.1)

  pub among-sorted : (fs : List (Face K)) → IsRising (λ f. f.number) fs → FindsAll fs → FindsOrdered fs → IsStrictlySortedBy pair_cmp (expired_among now timeout fs)
  unfolding IsStrictlySortedBy
  among-sorted [] rising all ordered = tt
  among-sorted (f ∷ fs) rising all ordered =
      joined (filter (is_expired now timeout) f.pendings) (face-sorted f fs all ordered) (among-sorted fs rising.1 (finds-later f fs all) (λ p h. (ordered p h).1))
    where
      joined : (rows : ById Pending) → IsStrictlySortedBy pair_cmp (map (λ row. (f.number, row.0)) rows) → IsStrictlySortedBy pair_cmp (expired_among now timeout fs)
          → IsStrictlySortedBy pair_cmp (map (λ row. (f.number, row.0)) rows ++ expired_among now timeout fs)
      joined [] h k = k
      joined (row ∷ rows) h k = (all-append (λ q. pair_cmp (f.number, row.0) q ≡ Less) (map (λ r. (f.number, r.0)) rows) (expired_among now timeout fs) h.0 (above-faces row.0 f.number fs rising.0), joined rows h.1 k)

-- what was gathered, each once and in order, is what expired
pub expired-are : {K : Type 0} (now timeout : ℕ) (faces : List (Face K)) (found pairs : List (ℕ × ℕ)) → IsRising (λ f. f.number) faces → IsGathered now timeout faces found → IsEachOnce found pairs → pairs ≡ expired_among now timeout faces
expired-are now timeout faces found pairs rising gathered once =
    sorted-same pairs (expired_among now timeout faces) once.in_order (among-sorted now timeout found faces rising gathered.all gathered.ordered)
    (λ p. once.at p ∙ both-ways (is_in p found) (is_in p (expired_among now timeout faces)) (gathered.only p) (all-found now timeout found faces gathered.all p))
