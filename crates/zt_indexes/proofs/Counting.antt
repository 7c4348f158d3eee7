-- A row more, counted where that can be.
use Rattle.std.proofs.Common.{◌≡◌, ℕ, ◌+◌, ◌<◌, ◌||◌, Bool, true, false, ◌==◌, if◌then◌else◌, List, Option, None, Some, get_or, length, nat_eq, set, refl, arith, ◌∙◌}
use Rattle.std.proofs.lemmas.Bool.Decides.{nat_tests}
use Rattle.std.proofs.lemmas.List.Quantifiers.{position-Some}
use Rattle.std.proofs.lemmas.List.Sums.{sum_by-set}
use Rattle.std.specs.List.{position}
use Rattle.std.specs.Option.{option_or}
use Rattle.zt_keys.specs.Test.{by_test}
use Rattle.zt_region.specs.Region.{region_eq, region_eq-same}
use Rattle.zt_region.specs.declared.region.Region.{Region}
use Rattle.zt_indexes.specs.Counted.{can_count, count_in, one_in, place_for}

abbrev counted_there : Region → Region × ℕ → ℕ
counted_there r row = if region_eq r row.0 then row.1 else 0

none-there : (n : ℕ) → (n == 0) ≡ true → n ≡ 0
none-there n h = grind (arith, nat_tests)

nothing : (n : ℕ) (there : Bool) → n ≡ 0 → (if there then n else 0) ≡ 0
nothing n true none = none
nothing n false none = refl

same-region : (r region : Region) (n : ℕ) → counted_there r (region, n + 1) ≡ counted_there r (region, n) + one_in r region
same-region r region n = by_test (region_eq r region) (λ t. rw t refl) (λ t. rw t refl)

first-there : (r region other : Region) (n : ℕ) → n ≡ 0 → counted_there r (region, n + 1) ≡ counted_there r (other, n) + one_in r region
first-there r region other n none =
    let none_before : counted_there r (other, n) ≡ 0 = nothing n (region_eq r other) none in
    let one_after : counted_there r (region, n + 1) ≡ one_in r region = rw none refl in
    omega (arith, none_before, one_after)

one-more : (r region : Region) (row : Region × ℕ) → can_count region row ≡ true → counted_there r (region, row.1 + 1) ≡ counted_there r row + one_in r region
one-more r region row can =
    by_test (region_eq region row.0)
    (λ t. rw (region_eq-same region row.0 t) (same-region r row.0 row.1))
    (λ t. first-there r region row.0 row.1 (none-there row.1 (rw t at can)))

or_second : (a b : Bool) → b ≡ true → (a || b) ≡ true
or_second true b is = refl
or_second false b is = is

or_first : (a b : Bool) → a ≡ true → (a || b) ≡ true
or_first a b is = rw is refl

-- a place that is found is there, and the row can be counted at it
place-there : (region : Region) (rows : List (Region × ℕ)) (place : ℕ) (row : Region × ℕ) → place_for region rows ≡ Some place
    → (place < length rows) × (can_count region (get_or rows place row) ≡ true)
place-there region rows place row found = there (position own rows) refl found
  where
    own : Region × ℕ → Bool
    own x = region_eq region x.0

    free : Region × ℕ → Bool
    free x = nat_eq x.1 0

    there : (spot : Option ℕ) → position own rows ≡ spot → option_or spot (position free rows) ≡ Some place
        → (place < length rows) × (can_count region (get_or rows place row) ≡ true)
    there (Some p) is same = let spot = position-Some own rows place row (is ∙ same) in (spot.0, or_first _ _ spot.1)
    there None is same = let spot = position-Some free rows place row same in (spot.0, or_second _ _ spot.1)

-- where it can be
pub one-more-at : (region : Region) (rows : List (Region × ℕ)) (place : ℕ) (row new : Region × ℕ)
    → place_for region rows ≡ Some place → row ≡ get_or rows place row → new ≡ (region, row.1 + 1)
    → (r : Region) → count_in r (set rows place new) ≡ count_in r rows + one_in r region
one-more-at region rows place row new found is more r =
    let spot = place-there region rows place row found in
    let can : can_count region row ≡ true = rw (← is) at spot.1 in
    let here : counted_there r new ≡ counted_there r row + one_in r region = rw more (one-more r region row can) in
    let whole : count_in r (set rows place new) + counted_there r row ≡ count_in r rows + counted_there r new = rw (← is) at (sum_by-set (counted_there r) rows place new row spot.0) in
    omega (arith, here, whole)
