-- Counts of which no two are of one region.
--     each-none, each-single    no count, and a count alone
--     each-kept        a count that is changed and stays of its region
--     each-found       a count that is changed where a row of the region is counted
--     each-pushed      one more, of a region that had none
--     count-first      the first count of a region is all that is counted there
--     count-none       where none is of the region, none is counted
use Rattle.std.proofs.Common.{◌≡◌, ℕ, zero, suc, ◌+◌, ◌<◌, ◌≤◌, Bool, true, if◌then◌else◌, List, [], ◌∷◌, ◌++◌, None, Option, Some, get_or, length, nat_eq, set, refl, ap, sym, arith, ◌∙◌}
use Rattle.std.proofs.lemmas.Bool.Decides.{nat_tests}
use Rattle.std.proofs.lemmas.List.Quantifiers.{position-Some}
use Rattle.std.proofs.lemmas.List.Sums.{sum_by-cons, sum_by-set, sum_by_push}
use Rattle.std.specs.List.{position, position_or_len, sum_by}
use Rattle.std.specs.Option.{option_or}
use Rattle.zt_keys.specs.Test.{by_test}
use Rattle.zt_region.specs.Region.{region_eq, region_eq-same}
use Rattle.zt_region.specs.declared.region.Region.{Region}
use Rattle.zt_indexes.specs.Counted.{HasOneEach, count_in, own_place, place_for}

-- 1 for a count of the region, else 0; and its rows, if it is of the region
abbrev one_of : Region → Region × ℕ → ℕ
one_of r row = if region_eq r row.0 then 1 else 0

abbrev rows_of : Region → Region × ℕ → ℕ
rows_of r row = if region_eq r row.0 then row.1 else 0

at-most-one : (r : Region) (row : Region × ℕ) → one_of r row ≤ 1
at-most-one r row = by_test (region_eq r row.0) (λ t. rw t (omega arith)) (λ t. rw t (omega arith))

pub each-none : HasOneEach []
each-none = record { at = λ r. omega arith }

pub each-single : (row : Region × ℕ) → HasOneEach (row ∷ [])
each-single row = record { at = λ r. let one = at-most-one r row in let whole = sum_by-cons (one_of r) row [] in omega (arith, one, whole) }

-- where none is of the region
no-first : (r : Region) (rows : List (Region × ℕ)) → length rows ≤ position_or_len (λ row. region_eq r row.0) rows → sum_by (one_of r) rows ≡ 0
no-first r [] h = refl
no-first r (row ∷ rows) h =
    by_test (region_eq r row.0)
    (λ t. let first : suc (length rows) ≤ 0 = rw t at h in absurd (omega (arith, first)))
    (λ t.
    let later : suc (length rows) ≤ 1 + position_or_len (λ x. region_eq r x.0) rows = rw t at h in
    let rest = no-first r rows (omega (arith, later)) in
    let whole = sum_by-cons (one_of r) row rows in
    let none : one_of r row ≡ 0 = rw t refl in
    omega (arith, rest, whole, none))

none-first : (r : Region) (rows : List (Region × ℕ)) → own_place r rows ≡ None → length rows ≤ position_or_len (λ row. region_eq r row.0) rows
none-first r rows h = grind (arith, nat_tests)

none-counted : (r : Region) (rows : List (Region × ℕ)) → own_place r rows ≡ None → sum_by (one_of r) rows ≡ 0
none-counted r rows h = no-first r rows (none-first r rows h)

-- where no count is of the region, no row is counted there
none-of : (r : Region) (rows : List (Region × ℕ)) → sum_by (one_of r) rows ≡ 0 → count_in r rows ≡ 0
none-of r [] h = refl
none-of r (row ∷ rows) h =
    let ones = sum_by-cons (one_of r) row rows in
    let whole = sum_by-cons (rows_of r) row rows in
    by_test (region_eq r row.0)
    (λ t. let one : one_of r row ≡ 1 = rw t refl in absurd (omega (arith, ones, one, h)))
    (λ t.
    let rest = none-of r rows (omega (arith, ones, h)) in
    let none : rows_of r row ≡ 0 = rw t refl in
    omega (arith, whole, rest, none))

pub count-none : (r : Region) (rows : List (Region × ℕ)) → own_place r rows ≡ None → 0 ≡ count_in r rows
count-none r rows h = sym (none-of r rows (none-counted r rows h))

-- a count of the region is among those that are
one-there : (r : Region) (rows : List (Region × ℕ)) (place : ℕ) (d : Region × ℕ) → place < length rows → region_eq r (get_or rows place d).0 ≡ true → 1 ≤ sum_by (one_of r) rows
one-there r [] place d within own = absurd (omega (arith, within))
one-there r (row ∷ rows) zero d within own =
    let whole = sum_by-cons (one_of r) row rows in
    let one : one_of r row ≡ 1 = rw own refl in
    omega (arith, whole, one)
one-there r (row ∷ rows) (suc place) d within own =
    let whole = sum_by-cons (one_of r) row rows in
    let rest = one-there r rows place d (omega (arith, within)) own in
    omega (arith, whole, rest)

own-counted : (r : Region) (rows : List (Region × ℕ)) (place : ℕ) (d : Region × ℕ) → place < length rows → region_eq r (get_or rows place d).0 ≡ true
    → sum_by (one_of r) rows ≤ 1 → (get_or rows place d).1 ≡ count_in r rows
own-counted r [] place d within own most = absurd (omega (arith, within))
own-counted r (row ∷ rows) zero d within own most =
    let ones = sum_by-cons (one_of r) row rows in
    let whole = sum_by-cons (rows_of r) row rows in
    let one : one_of r row ≡ 1 = rw own refl in
    let all : rows_of r row ≡ row.1 = rw own refl in
    let rest = none-of r rows (omega (arith, ones, one, most)) in
    omega (arith, whole, all, rest)
own-counted r (row ∷ rows) (suc place) d within own most =
    let ones = sum_by-cons (one_of r) row rows in
    let whole = sum_by-cons (rows_of r) row rows in
    let later : place < length rows = omega (arith, within) in
    let there = one-there r rows place d later own in
    by_test (region_eq r row.0)
    (λ t. let one : one_of r row ≡ 1 = rw t refl in absurd (omega (arith, ones, one, there, most)))
    (λ t.
    let rest = own-counted r rows place d later own (omega (arith, ones, most)) in
    let none : rows_of r row ≡ 0 = rw t refl in
    omega (arith, whole, none, rest))

pub count-first : (r : Region) (rows : List (Region × ℕ)) (place : ℕ) (d : Region × ℕ) → own_place r rows ≡ Some place → HasOneEach rows
    → (get_or rows place d).1 ≡ count_in r rows
count-first r rows place d found each =
    let spot = position-Some (λ row. region_eq r row.0) rows place d found in
    own-counted r rows place d spot.0 spot.1 (each.at r)

-- ---- changes
-- a count that stays of its region
pub each-kept : (rows : List (Region × ℕ)) (place : ℕ) (row new : Region × ℕ) → place < length rows → row ≡ get_or rows place row → new.0 ≡ row.0
    → HasOneEach rows → HasOneEach (set rows place new)
each-kept rows place row new within is same each = record {
  at = λ r.
      let whole : sum_by (one_of r) (set rows place new) + one_of r row ≡ sum_by (one_of r) rows + one_of r new = rw (← is) at (sum_by-set (one_of r) rows place new row within) in
      let one : one_of r new ≡ one_of r row = ap (λ x. if region_eq r x then 1 else 0) same in
      let most = each.at r in
      omega (arith, whole, one, most);
}

-- of a region that had no count, one is counted at most where one more is
one-fresh : (region r : Region) (rows : List (Region × ℕ)) (new : Region × ℕ) → own_place region rows ≡ None → new.0 ≡ region → HasOneEach rows
    → sum_by (one_of r) rows + one_of r new ≤ 1
one-fresh region r rows new none of each =
    by_test (region_eq r region)
    (λ t.
    let same = region_eq-same r region t in
    let before : sum_by (one_of r) rows ≡ 0 = ap (λ x. sum_by (one_of x) rows) same ∙ none-counted region rows none in
    let most = at-most-one r new in
    omega (arith, before, most))
    (λ t.
    let nothing : one_of r new ≡ 0 = ap (λ x. if region_eq r x then 1 else 0) of ∙ rw t refl in
    let most = each.at r in
    omega (arith, nothing, most))

-- a count that becomes of a region that had none
each-fresh : (region : Region) (rows : List (Region × ℕ)) (place : ℕ) (row new : Region × ℕ) → own_place region rows ≡ None → place < length rows
    → row ≡ get_or rows place row → new.0 ≡ region → HasOneEach rows → HasOneEach (set rows place new)
each-fresh region rows place row new none within is of each = record {
  at = λ r.
      let whole : sum_by (one_of r) (set rows place new) + one_of r row ≡ sum_by (one_of r) rows + one_of r new = rw (← is) at (sum_by-set (one_of r) rows place new row within) in
      let most = one-fresh region r rows new none of each in
      omega (arith, whole, most);
}

-- .. as where no place was found for it
pub none-own : (region : Region) (rows : List (Region × ℕ)) → place_for region rows ≡ None → own_place region rows ≡ None
none-own region rows h = at (own_place region rows) refl h
  where
    at : (spot : Option ℕ) → own_place region rows ≡ spot → option_or spot (position (λ x. nat_eq x.1 0) rows) ≡ None → own_place region rows ≡ None
    at (Some p) own same = cc
    at None own same = own

pub each-pushed : (region : Region) (rows : List (Region × ℕ)) (new : Region × ℕ) → own_place region rows ≡ None → new.0 ≡ region → HasOneEach rows
    → HasOneEach (rows ++ new ∷ [])
each-pushed region rows new none of each = record {
  at = λ r.
      let whole = sum_by_push (one_of r) rows new in
      let most = one-fresh region r rows new none of each in
      omega (arith, whole, most);
}

-- a count where a row of the region is counted
pub each-found : (region : Region) (rows : List (Region × ℕ)) (place : ℕ) (row new : Region × ℕ) → place_for region rows ≡ Some place
    → row ≡ get_or rows place row → new.0 ≡ region → HasOneEach rows → HasOneEach (set rows place new)
each-found region rows place row new found is of each = at (own_place region rows) refl found
  where
    free : Region × ℕ → Bool
    free x = nat_eq x.1 0

    at : (spot : Option ℕ) → own_place region rows ≡ spot → option_or spot (position free rows) ≡ Some place → HasOneEach (set rows place new)
    at (Some p) own same =
        let spot = position-Some (λ x. region_eq region x.0) rows place row (own ∙ same) in
        let there : region ≡ row.0 = region_eq-same region row.0 (rw (← is) at spot.1) in
        each-kept rows place row new spot.0 is (of ∙ there) each
    at None own same =
        let spot = position-Some free rows place row same in
        each-fresh region rows place row new own spot.0 is of each
