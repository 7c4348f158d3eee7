-- Counts that are what a list of rows gives from scratch, as its rows come and go.
--     AreCountsOf cmp counts rows     of each expression in each region, as many are counted as there are rows
--     counts-none                     nothing is counted of no rows
--     counts-more, counts-less        one row more, or one less, wherever it stands among the others
--     counts-shown                    a test of the regions is answered by the counts as by the rows
use Rattle.std.specs.Prelude.{◌≡◌, ℕ, ◌+◌, ◌<◌, Bool, true, false, ◌&&◌, if◌then◌else◌, nat_lt, List, [], ◌∷◌, ◌++◌, count_by, refl}
use Rattle.std.specs.Cmp.{IsTotalOrder, eq_by_cmp_equiv}
use Rattle.std.specs.List.{list_any}
use Rattle.std.specs.Ordering.{is_eq}
use Rattle.std.specs.declared.cmp.Ordering.{Ordering}
use Rattle.std.proofs.Common.{ap, sym, ◌∙◌, arith}
use Rattle.std.proofs.lemmas.Bool.Decides.{nat_tests}
use Rattle.std.proofs.lemmas.List.Sums.{sum_by-append, sum_by-cons}
use Rattle.zt_keys.specs.Test.{by_test}
use Rattle.zt_region.specs.Region.{region_eq, region_eq-refl, region_eq-same}
use Rattle.zt_region.specs.declared.region.Region.{Region}
use Rattle.zt_indexes.specs.Counted.{count_in, is_shown_in}
use Rattle.zt_indexes.specs.Live.{HasOneLess, HasOneMore, count_at, counts_at, one_at}

and_first : (a b : Bool) → (a && b) ≡ true → a ≡ true
and_first true b h = refl
and_first false b h = cc

and_second : (a b : Bool) → (a && b) ≡ true → b ≡ true
and_second true b h = h
and_second false b h = cc

and_both : (a b : Bool) → a ≡ true → b ≡ true → (a && b) ≡ true
and_both true b h k = k
and_both false b h k = cc

both_ways : (a b : Bool) → (a ≡ true → b ≡ true) → (b ≡ true → a ≡ true) → a ≡ b
both_ways true b to from = sym (to refl)
both_ways false true to from = from refl
both_ways false false to from = refl

-- 1 where a test holds, else 0
abbrev one_if : Bool → ℕ
one_if b = if b then 1 else 0

one-shown : (a b : Bool) → a ≡ b → one_if a ≡ one_if b
one-shown a b same = ap one_if same

module _ {K : Type 0} (cmp : K → K → Ordering) where
  -- the row is of the expression, and stands in the region
  abbrev pub is_row_at : K → Region → Region × K → Bool
  is_row_at e region row = is_eq (cmp e row.1) && region_eq region row.0

  pub record AreCountsOf (counts : List (K × List (Region × ℕ))) (rows : List (Region × K)) : Type 0 where
    pub at : (e : K) (region : Region) → count_at cmp e region counts ≡ count_by (is_row_at e region) rows

  pub counts-none : AreCountsOf [] []
  counts-none = record { at = λ e region. refl }

  -- how many are counted with a row, and without it
  count-parts : (e : K) (region : Region) (row : Region × K) (front back : List (Region × K))
      → count_by (is_row_at e region) (front ++ row ∷ back) ≡ count_by (is_row_at e region) (front ++ back) + one_if (is_row_at e region row)
  count-parts e region row front back =
      let weight : Region × K → ℕ = λ x. one_if (is_row_at e region x) in
      let whole = sum_by-append weight front (row ∷ back) in
      let some = sum_by-cons weight row back in
      let rest = sum_by-append weight front back in
      omega (arith, whole, some, rest)

  module _ (o : IsTotalOrder cmp) where
    one-row : (region : Region) (e key : K) (r : Region) → one_at cmp region e key r ≡ one_if (is_row_at key r (region, e))
    one-row region e key r = one-shown _ _ (ap (λ b. b && region_eq r region) ((eq_by_cmp_equiv o).symm e key))

    pub counts-more : (region : Region) (e : K) (front back : List (Region × K)) (old new : List (K × List (Region × ℕ)))
        → AreCountsOf old (front ++ back) → HasOneMore cmp region e old new → AreCountsOf new (front ++ (region, e) ∷ back)
    counts-more region e front back old new counts more = record {
      at = λ key r.
          let was = counts.at key r in
          let now = more.at key r in
          let one = one-row region e key r in
          let whole = count-parts key r (region, e) front back in
          omega (arith, was, now, one, whole);
    }

    pub counts-less : (region : Region) (e : K) (front back : List (Region × K)) (old new : List (K × List (Region × ℕ)))
        → AreCountsOf old (front ++ (region, e) ∷ back) → HasOneLess cmp region e old new → AreCountsOf new (front ++ back)
    counts-less region e front back old new counts less = record {
      at = λ key r.
          let was = counts.at key r in
          let now = less.at key r in
          let one = one-row region e key r in
          let whole = count-parts key r (region, e) front back in
          omega (arith, was, now, one, whole);
    }

  -- ---- what is shown
  record Shown (shown : Region → Bool) (counts : List (Region × ℕ)) : Type 0 where
    region : Region
    passes : shown region ≡ true
    some : 0 < count_in region counts

  positive : (n : ℕ) → nat_lt 0 n ≡ true → 0 < n
  positive n h = grind (arith, nat_tests)

  some-positive : (n : ℕ) → 0 < n → nat_lt 0 n ≡ true
  some-positive n h = grind (arith, nat_tests)

  abbrev weight_in : Region → Region × ℕ → ℕ
  weight_in region row = if region_eq region row.0 then row.1 else 0

  own-weight : (x : Region × ℕ) → weight_in x.0 x ≡ x.1
  own-weight x = let own = region_eq-refl x.0 in rw own refl

  -- a region that passes, with its rows, where the test says so
  from-test : (shown : Region → Bool) (counts : List (Region × ℕ)) → is_shown_in shown counts ≡ true → Shown shown counts
  from-test shown [] h = cc
  from-test shown (x ∷ xs) h =
      by_test (shown x.0 && nat_lt 0 x.1)
      (λ t. record {
        region = x.0;
        passes = and_first _ _ t;
        some = let whole = sum_by-cons (weight_in x.0) x xs in let own = own-weight x in let pos = positive x.1 (and_second (shown x.0) _ t) in omega (arith, whole, own, pos);
      })
      (λ t.
      let rest = from-test shown xs (rw t at h) in
      record {
        region = rest.region;
        passes = rest.passes;
        some = let whole = sum_by-cons (weight_in rest.region) x xs in let some = rest.some in omega (arith, whole, some);
      })

  no-weight : (region : Region) (x : Region × ℕ) → region_eq region x.0 ≡ false → weight_in region x ≡ 0
  no-weight region x h = rw h refl

  -- the other way
  to-test : (shown : Region → Bool) (counts : List (Region × ℕ)) (region : Region) → shown region ≡ true → 0 < count_in region counts → is_shown_in shown counts ≡ true
  to-test shown [] region passes some = absurd (omega arith)
  to-test shown (x ∷ xs) region passes some =
      let whole = sum_by-cons (weight_in region) x xs in
      by_test (shown x.0 && nat_lt 0 x.1)
      (λ t. rw t refl)
      (λ t. rw t (to-test shown xs region passes (by_test (region_eq region x.0)
      (λ u.
      let here : shown x.0 ≡ true = ap shown (sym (region_eq-same region x.0 u)) ∙ passes in
      let none : nat_lt 0 x.1 ≡ false = rw here at t in
      let weight : weight_in region x ≡ x.1 = rw u refl in
      let zero_there : x.1 ≡ 0 = grind (arith, nat_tests) in
      omega (arith, whole, weight, zero_there))
      (λ u. let weight = no-weight region x u in omega (arith, whole, weight)))))

  -- a row that is counted
  from-rows : (shown : Region → Bool) (e : K) (rows : List (Region × K)) → list_any (λ row. is_eq (cmp e row.1) && shown row.0) rows ≡ true
      → (region : Region) × (shown region ≡ true) × (0 < count_by (is_row_at e region) rows)
  from-rows shown e [] h = cc
  from-rows shown e (row ∷ rows) h =
      by_test (is_eq (cmp e row.1) && shown row.0)
      (λ t.
      let whole = sum_by-cons (λ (x : Region × K). if is_row_at e row.0 x then 1 else 0) row rows in
      let own : one_if (is_row_at e row.0 row) ≡ 1 = one-shown (is_row_at e row.0 row) true (and_both _ _ (and_first _ _ t) (region_eq-refl row.0)) in
      (row.0, and_second (is_eq (cmp e row.1)) _ t, omega (arith, whole, own)))
      (λ t.
      let rest = from-rows shown e rows (rw t at h) in
      let whole = sum_by-cons (λ (x : Region × K). if is_row_at e rest.0 x then 1 else 0) row rows in
      let some = rest.2 in
      (rest.0, rest.1, omega (arith, whole, some)))

  to-rows : (shown : Region → Bool) (e : K) (rows : List (Region × K)) (region : Region) → shown region ≡ true → 0 < count_by (is_row_at e region) rows
      → list_any (λ row. is_eq (cmp e row.1) && shown row.0) rows ≡ true
  to-rows shown e [] region passes some = absurd (omega arith)
  to-rows shown e (row ∷ rows) region passes some =
      let whole = sum_by-cons (λ (x : Region × K). if is_row_at e region x then 1 else 0) row rows in
      by_test (is_row_at e region row)
      (λ t.
      let here : shown row.0 ≡ true = ap shown (sym (region_eq-same region row.0 (and_second (is_eq (cmp e row.1)) _ t))) ∙ passes in
      let both : (is_eq (cmp e row.1) && shown row.0) ≡ true = and_both _ _ (and_first _ _ t) here in
      rw both refl)
      (λ t.
      let none : one_if (is_row_at e region row) ≡ 0 = one-shown _ false t in
      let rest = to-rows shown e rows region passes (omega (arith, whole, none)) in
      by_test (is_eq (cmp e row.1) && shown row.0) (λ u. rw u refl) (λ u. rw u rest))

  pub counts-shown : (shown : Region → Bool) (e : K) (counts : List (K × List (Region × ℕ))) (rows : List (Region × K)) → AreCountsOf counts rows
      → is_shown_in shown (counts_at cmp e counts) ≡ list_any (λ row. is_eq (cmp e row.1) && shown row.0) rows
  counts-shown shown e counts rows are =
      both_ways _ _
      (λ h. let found = from-test shown (counts_at cmp e counts) h in to-rows shown e rows found.region found.passes (let same = are.at e found.region in let some = found.some in omega (arith, same, some)))
      (λ h. let found = from-rows shown e rows h in to-test shown (counts_at cmp e counts) found.0 found.1 (let same = are.at e found.0 in let some = found.2 in omega (arith, same, some)))
