-- How many rows stand in each region.
--     count_in region counts           how many stand in the region
--     is_shown_in shown counts         whether some stand in a region that passes a test
--     HasOneEach counts                no region has two counts
--     one_in region other              1 where it is the same region, else 0
--     can_count region row             a count that a row of the region may be added to
--     own_place region counts          where the count of the region stands
--     free_place counts                where a count of no rows stands
--     place_for region counts          where a row of the region is counted: at its own count, or else at one of no rows
use Rattle.std.specs.Prelude.{ℕ, ◌≤◌, Bool, ◌&&◌, ◌||◌, if◌then◌else◌, nat_eq, nat_lt, List, Option, count_by}
use Rattle.std.specs.List.{list_any, position, sum_by}
use Rattle.std.specs.Option.{option_or}
use Rattle.zt_region.specs.Region.{region_eq}
use Rattle.zt_region.specs.declared.region.Region.{Region}

-- a count is one of rows in the region, and some stand there
abbrev pub is_counted : Region → Region × ℕ → Bool
is_counted region row = region_eq region row.0 && nat_lt 0 row.1

abbrev pub count_in : Region → List (Region × ℕ) → ℕ
count_in region counts = sum_by (λ row. if region_eq region row.0 then row.1 else 0) counts

abbrev pub is_shown_in : (Region → Bool) → List (Region × ℕ) → Bool
is_shown_in shown counts = list_any (λ row. shown row.0 && nat_lt 0 row.1) counts

pub record HasOneEach (counts : List (Region × ℕ)) : Type 0 where
  pub at : (region : Region) → count_by (λ row. region_eq region row.0) counts ≤ 1

abbrev pub one_in : Region → Region → ℕ
one_in region other = if region_eq region other then 1 else 0

-- it is of that region, or of no rows
abbrev pub can_count : Region → Region × ℕ → Bool
can_count region row = region_eq region row.0 || nat_eq row.1 0

-- the count of that region, and one of no rows
abbrev pub own_place : Region → List (Region × ℕ) → Option ℕ
own_place region counts = position (λ row. region_eq region row.0) counts

abbrev pub free_place : List (Region × ℕ) → Option ℕ
free_place counts = position (λ row. nat_eq row.1 0) counts

abbrev pub place_for : Region → List (Region × ℕ) → Option ℕ
place_for region counts = option_or (own_place region counts) (free_place counts)
