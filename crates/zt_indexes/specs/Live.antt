-- How many live rows of each expression stand in each region.
--     counts_at cmp e counts              the counts of an expression, by region
--     count_at cmp e region counts        how many of its rows stand in the region
--     HasOneMore, HasOneLess              one row more, or one less, of an expression in a region, and all else stays
--     shown_keys shown counts             the expressions of rows in regions that pass a test
use Rattle.std.specs.Prelude.{◌≡◌, ℕ, ◌+◌, ◌-◌, Bool, ◌&&◌, ◌⊎◌, true, if◌then◌else◌, List, [], Some, None, unwrap_or, map, filter}
use Rattle.std.specs.BTreeMap.{is_at}
use Rattle.std.specs.Map.{lookup}
use Rattle.std.specs.Ordering.{is_eq}
use Rattle.std.specs.declared.cmp.Ordering.{Ordering}
use Rattle.zt_region.specs.Region.{region_eq}
use Rattle.zt_region.specs.declared.region.Region.{Region}
use Rattle.zt_indexes.specs.Counted.{count_in, is_shown_in}

module _ {K : Type 0} (cmp : K → K → Ordering) where
  abbrev pub counts_at : K → List (K × List (Region × ℕ)) → List (Region × ℕ)
  counts_at e counts = unwrap_or (lookup (is_at (cmp e)) counts) []

  abbrev pub count_at : K → Region → List (K × List (Region × ℕ)) → ℕ
  count_at e region counts = count_in region (counts_at e counts)

  -- 1 for the expression in the region, else 0
  abbrev pub one_at : Region → K → K → Region → ℕ
  one_at region e key r = if is_eq (cmp e key) && region_eq r region then 1 else 0

  pub record HasOneMore (region : Region) (e : K) (old new : List (K × List (Region × ℕ))) : Type 0 where
    pub at : (key : K) (r : Region) → count_at key r new ≡ count_at key r old + one_at region e key r

  pub record HasOneLess (region : Region) (e : K) (old new : List (K × List (Region × ℕ))) : Type 0 where
    pub at : (key : K) (r : Region) → count_at key r new ≡ count_at key r old - one_at region e key r

  -- some row of the expression is counted, or nothing stands under it
  abbrev pub HasRowsOrNoKey : K → List (K × List (Region × ℕ)) → Type 0
  HasRowsOrNoKey e counts = (is_shown_in (λ _. true) (counts_at e counts) ≡ true) ⊎ (lookup (is_at (cmp e)) counts ≡ None)

  -- the counts of an expression are gone, and all else stays
  pub record IsWithout {X : Type 0} (e : K) (old new : List (K × X)) : Type 0 where
    pub at : (key : K) → lookup (is_at (cmp key)) new ≡ (if is_at (cmp e) key then None else lookup (is_at (cmp key)) old)

  -- these counts stand under an expression, and all else stays
  pub record IsWith {X : Type 0} (e : K) (x : X) (old new : List (K × X)) : Type 0 where
    pub at : (key : K) → lookup (is_at (cmp key)) new ≡ (if is_at (cmp e) key then Some x else lookup (is_at (cmp key)) old)

-- the expressions of rows in regions that pass
abbrev pub shown_keys : {K : Type 0} → (Region → Bool) → List (K × List (Region × ℕ)) → List K
shown_keys shown counts = map (λ e. e.0) (filter (λ e. is_shown_in shown e.1) counts)
