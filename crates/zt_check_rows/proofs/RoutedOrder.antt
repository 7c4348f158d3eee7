-- The order of tokens of router regions.
use Rattle.std.proofs.Common.{◌≡◌, ◌&&◌, ℕ, Bool, List, [], ◌∷◌, nat_eq, refl, ap, arith, sym, ◌∙◌}
use Rattle.std.proofs.lemmas.Bool.Decides.{nat_tests}
use Rattle.std.specs.Cmp.{IsTotalOrder, nat_cmp_total, on_total, then_total}
use Rattle.std.specs.List.{list_any}
use Rattle.std.specs.Ordering.{is_eq, nat_cmp, ordering_then}
use Rattle.std.specs.declared.cmp.Ordering.{Ordering}
use Rattle.std.specs.declared.cmp.Ordering.TheVariants.{Less, Equal, Greater}
use Rattle.zt_region.specs.declared.region.Region.{Region}
use Rattle.zt_region.specs.declared.region.Region.TheVariants.{North, Local, South}
use Rattle.zt_region.specs.declared.region.WhatAmI.{WhatAmI}
use Rattle.zt_region.specs.declared.region.WhatAmI.TheVariants.{Router, Peer, Client}
use Rattle.zt_region.specs.Region.{region_eq, whatami_eq, zid_eq}
use Rattle.zt_model.specs.Lists.{same}
use Rattle.zt_model.specs.Rows.{RoutedRow}
use Rattle.zt_model.specs.Trees.{mode_rank, region_order, region_rank, routed_order, row_at, south_id, south_mode}
use Rattle.zt_check_rows.specs.declared.routers.RouterPlace.{RouterPlace}

region-total : IsTotalOrder region_order
region-total = then_total (on_total region_rank nat_cmp_total) (then_total (on_total south_id nat_cmp_total) (on_total south_mode nat_cmp_total))

eq-then : (a b : Ordering) → is_eq (ordering_then a b) ≡ (is_eq a && is_eq b)
eq-then Less b = refl
eq-then Equal b = refl
eq-then Greater b = refl

mode-eq : (m n : WhatAmI) → is_eq (nat_cmp (mode_rank m) (mode_rank n)) ≡ whatami_eq m n
mode-eq Router Router = refl
mode-eq Router Peer = refl
mode-eq Router Client = refl
mode-eq Peer Router = refl
mode-eq Peer Peer = refl
mode-eq Peer Client = refl
mode-eq Client Router = refl
mode-eq Client Peer = refl
mode-eq Client Client = refl

nat-eq : (a b : ℕ) → is_eq (nat_cmp a b) ≡ nat_eq a b
nat-eq a b = grind (arith, nat_tests)

region-eq : (a b : Region) → is_eq (region_order a b) ≡ region_eq a b
region-eq North North = refl
region-eq North Local = refl
region-eq North (South j n) = refl
region-eq Local North = refl
region-eq Local Local = refl
region-eq Local (South j n) = refl
region-eq (South i m) North = refl
region-eq (South i m) Local = refl
region-eq (South i m) (South j n) =
    eq-then (nat_cmp i j) _ ∙ ap (λ t. t && is_eq (nat_cmp (mode_rank m) (mode_rank n))) (nat-eq i j)
    ∙ ap (λ t. nat_eq i j && t) (mode-eq m n)

module _ {K : Type 0} (cmp : K → K → Ordering) where
  pub routed_total : IsTotalOrder cmp → IsTotalOrder (routed_order cmp)
  routed_total total = then_total (on_total (λ (row : RoutedRow K). row.region) region-total) (then_total (on_total (λ (row : RoutedRow K). row.source.0) nat_cmp_total) (on_total (λ (row : RoutedRow K). row.expr) total))

  -- a row of the router and the expression is one that is the same in order
  test-is : (p : RouterPlace) (e : K) (row : RoutedRow K) → is_eq (routed_order cmp (row_at cmp p.region p.source e) row) ≡ (region_eq p.region row.region && (zid_eq p.source row.source && same cmp e row.expr))
  test-is p e row =
      eq-then (region_order p.region row.region) _ ∙ ap (λ t. t && is_eq (ordering_then (nat_cmp p.source.0 row.source.0) (cmp e row.expr))) (region-eq p.region row.region)
      ∙ ap (λ t. region_eq p.region row.region && t) (eq-then (nat_cmp p.source.0 row.source.0) _ ∙ ap (λ t. t && is_eq (cmp e row.expr)) (nat-eq p.source.0 row.source.0))

  pub tests_are : (p : RouterPlace) (e : K) (rows : List (RoutedRow K)) → list_any (λ row. is_eq (routed_order cmp (row_at cmp p.region p.source e) row)) rows ≡ list_any (λ row. region_eq p.region row.region && (zid_eq p.source row.source && same cmp e row.expr)) rows
  tests_are p e [] = refl
  tests_are p e (row ∷ rows) = rw (test-is p e row, tests_are p e rows) refl
