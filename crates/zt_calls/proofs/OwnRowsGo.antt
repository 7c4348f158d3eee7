-- Dropping the gateway's own rows of an expression in the regions that can't see it any more.
use Rattle.std.proofs.Common.{◌≡◌, Bool, true, false, not, ◌&&◌, ◌||◌, cond, List, [], ◌∷◌, filter, map, refl, sym, ap, ◌∙◌}
use Rattle.std.proofs.lemmas.Bool.{or_right}
use Rattle.std.proofs.lemmas.Map.Views.{any-filter_same}
use Rattle.std.specs.List.{list_any}
use Rattle.std.specs.declared.cmp.Ordering.{Ordering}
use Rattle.zt_region.proofs.Lists.{list_any-map}
use Rattle.zt_region.specs.declared.region.Region.{Region}
use Rattle.zt_region.specs.Region.{region_eq, region_eq-refl, region_eq-same, zid_eq}
use Rattle.zt_laws.proofs.Lists.{each_weaker, filter_alike}
use Rattle.zt_model.specs.Lists.{same}
use Rattle.zt_model.specs.Rows.{RoutedRow, Rows}
use Rattle.zt_model.specs.Transcript.{Each}
use Rattle.zt_model.specs.Trees.{is_hidden, without_own_rows}
use Rattle.zt_routers.specs.Hiding.{hidden_among, is_own_of}
use Rattle.zt_state.specs.OwnRows.{is_own_in, without_own_in}

and_false : (b : Bool) → (b && false) ≡ false
and_false true = refl
and_false false = refl

module _ {K : Type 0} where
  -- the regions of the rows that pass a test
  abbrev regions_of : (RoutedRow K → Bool) → List (RoutedRow K) → List Region
  regions_of p rows = map (λ row. row.region) (filter p rows)

  named_by : (p : RoutedRow K → Bool) (r : Region) (row : RoutedRow K) (rows : List (RoutedRow K)) → list_any (region_eq r) (regions_of p rows) ≡ true → list_any (region_eq r) (regions_of p (row ∷ rows)) ≡ true
  named_by p r row rows there = at_test (p row)
    where
      at_test : (b : Bool) → list_any (region_eq r) (map (λ x. x.region) (cond b (row ∷ filter p rows) (filter p rows))) ≡ true
      at_test true = or_right (region_eq r row.region) _ there
      at_test false = there

  first_named : (p : RoutedRow K → Bool) (row : RoutedRow K) (rows : List (RoutedRow K)) → p row ≡ true → list_any (region_eq row.region) (regions_of p (row ∷ rows)) ≡ true
  first_named p row rows passes = rw passes (ap (λ b. b || list_any (region_eq row.region) (regions_of p rows)) (region_eq-refl row.region))

  -- a row that passes is among them
  each_named : (p : RoutedRow K → Bool) (rows : List (RoutedRow K)) → Each (λ row. p row ≡ true → list_any (region_eq row.region) (regions_of p rows) ≡ true) rows
  each_named p [] = tt
  each_named p (row ∷ rows) = (
    first_named p row rows,
    each_weaker (λ x. p x ≡ true → list_any (region_eq x.region) (regions_of p rows) ≡ true) (λ x. p x ≡ true → list_any (region_eq x.region) (regions_of p (row ∷ rows)) ≡ true)
        (λ x named passes. named_by p x.region row rows (named passes)) rows (each_named p rows),
  )

module _ {K : Type 0} (cmp : K → K → Ordering) where
  -- the own rows of the expression whose region is named are those that are hidden
  pub own_rows_go : (source : Region) (e : K) (g : Rows K) → without_own_in cmp (hidden_among cmp g source e g.routed) e g ≡ without_own_rows cmp source e g
  unfolding without_own_rows
  own_rows_go source e g =
      ap (λ (rows : List (RoutedRow K)). record g { routed = rows })
      (filter_alike (λ row. not (is_own_in cmp g.zid regions e row)) (λ row. not (zid_eq row.source g.zid && (same cmp e row.expr && hidden row.region))) g.routed
      (each_weaker _ _ (λ row named. ap not (alike row (zid_eq row.source g.zid) (same cmp e row.expr) (hidden row.region) refl refl refl named)) g.routed (each_named goes g.routed)))
    where
      hidden : Region → Bool
      hidden = is_hidden cmp g source e

      goes : RoutedRow K → Bool
      goes row = is_own_of cmp g.zid e row && hidden row.region

      regions : List Region
      regions = hidden_among cmp g source e g.routed

      -- no row of a region that sees it names that region
      unnamed : (r : Region) → hidden r ≡ false → list_any (region_eq r) regions ≡ false
      unnamed r seen =
          list_any-map (region_eq r) (λ (row : RoutedRow K). row.region) (filter goes g.routed)
          ∙ any-filter_same (λ (row : RoutedRow K). region_eq r row.region) goes false (λ row is. ap (λ b. is_own_of cmp g.zid e row && b) (ap hidden (sym (region_eq-same r row.region is)) ∙ seen) ∙ and_false (is_own_of cmp g.zid e row)) g.routed

      alike : (row : RoutedRow K) (mine this gone : Bool) → zid_eq row.source g.zid ≡ mine → same cmp e row.expr ≡ this → hidden row.region ≡ gone → (goes row ≡ true → list_any (region_eq row.region) regions ≡ true) → (mine && (this && list_any (region_eq row.region) regions)) ≡ (mine && (this && gone))
      alike row false this gone a b c named = refl
      alike row true false gone a b c named = refl
      alike row true true false a b c named = unnamed row.region c
      alike row true true true a b c named = named (rw (a, b, c) refl)
