-- Tokens of router regions, whose places are hinted by their expressions.
use Rattle.std.specs.Prelude.{◌≡◌, Bool, true, ◌&&◌, not, List, [], ◌∷◌}
use Rattle.std.proofs.lemmas.Bool.{and_parts}
use Rattle.std.specs.List.{AllByRecursion, list_any}
use Rattle.std.specs.declared.cmp.Ordering.{Ordering}
use Rattle.std.specs.declared.cmp.Ordering.TheVariants.{Less}
use Rattle.zt_region.specs.declared.region.Region.{Region}
use Rattle.zt_region.specs.declared.region.Zid.{Zid}
use Rattle.zt_region.specs.Region.{region_eq, region_eq-same, zid_eq, zid_eq-same}
use Rattle.zt_model.specs.Lists.{same}
use Rattle.zt_model.specs.Rows.{RoutedRow}
use Rattle.zt_model.specs.Trees.{routed_order}
use Rattle.zt_check_hints.specs.Hinted.{is_hinted}
use Rattle.zt_check_rows.specs.declared.routers.RouterPlace.{RouterPlace}

-- the same region and router are one place
pub one_place : (one other : RouterPlace) → (region_eq one.region other.region && zid_eq one.source other.source) ≡ true → one ≡ other
one_place one other h =
    let parts = and_parts (region_eq one.region other.region) (zid_eq one.source other.source) h in
    λ i. record { region = region_eq-same one.region other.region parts.0 i; source = zid_eq-same one.source other.source parts.1 i }

-- each member is below those after it
abbrev pub Rises : {X : Type 0} → (X → X → Ordering) → List X → Type 0
Rises order [] = Unit {0}
Rises order (x ∷ xs) = AllByRecursion (λ y. order x y ≡ Less) xs × Rises order xs

module _ {K : Type 0} (cmp : K → K → Ordering) where
  -- the expression stands under a router that passes the test
  abbrev pub is_under : (RouterPlace → Bool) → K → List (RoutedRow K) → Bool
  is_under test e rows = list_any (λ row. test (record { region = row.region; source = row.source }) && same cmp e row.expr) rows

  -- each row's router is hinted by its expression
  pub record AreRouted (hints : List (K × List RouterPlace)) (rows : List (RoutedRow K)) : Type 0 where
    pub at : (test : RouterPlace → Bool) (e : K) → is_under test e rows ≡ true → is_hinted cmp test e hints ≡ true

  -- what is kept of tokens: their hints, and that they stand in order
  pub record IsRoutedKept (hints : List (K × List RouterPlace)) (rows : List (RoutedRow K)) : Type 0 where
    pub hinted : AreRouted hints rows
    pub rise : Rises (routed_order cmp) rows

  -- the expression stands at the place, which is another router's than this gateway, in a region that passes the test
  abbrev pub is_routed_at : (Region → Bool) → Zid → K → List (RoutedRow K) → RouterPlace → Bool
  is_routed_at regions zid e rows place =
      (regions place.region && not (zid_eq place.source zid))
      && list_any (λ row. region_eq place.region row.region && (zid_eq place.source row.source && same cmp e row.expr)) rows
