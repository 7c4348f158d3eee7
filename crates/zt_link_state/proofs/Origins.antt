-- The order of origins, and rows by where they come from.
use Rattle.std.proofs.Common.{◌≡◌, ◌&&◌, ℕ, Bool, true, false, List, [], ◌∷◌, ◌++◌, Option, Some, None, ap, ap₂, filter, map, nat_eq, refl, sym, ◌∙◌}
use Rattle.std.proofs.lemmas.List.{append-nil}
use Rattle.std.proofs.lemmas.List.Elements.{filter-append}
use Rattle.std.proofs.lemmas.Map.{NonePasses, none_passes_from_lookup}
use Rattle.std.proofs.lemmas.Option.{same_Some}
use Rattle.std.specs.BTreeMap.{is_at}
use Rattle.std.specs.BTreeSet.{BTreeSet}
use Rattle.std.specs.Cmp.{IsTotalOrder}
use Rattle.std.specs.List.Sorted.{IsStrictlySortedBy}
use Rattle.std.specs.Map.{keys_of, lookup}
use Rattle.std.specs.Ordering.{is_eq, nat_cmp, ordering_then}
use Rattle.std.specs.declared.cmp.Ordering.{Ordering}
use Rattle.std.specs.declared.cmp.Ordering.TheVariants.{Less, Equal, Greater}
use Rattle.zt_keys.specs.Test.{by_test}
use Rattle.zt_region.specs.Region.{region_eq, region_eq-same, zid_eq, zid_eq-same}
use Rattle.zt_region.specs.declared.region.Region.{Region}
use Rattle.zt_region.specs.declared.region.Zid.{Zid}
use Rattle.zt_model.specs.Rows.{RoutedRow}
use Rattle.zt_model.specs.Lists.{same}
use Rattle.zt_model.specs.Trees.{is_routed_row, region_order, routed_order, row_at}
use Rattle.zt_link_state.specs.Routed.{is_row_of, keys_in, origin_cmp, row_of, rows_in}
use Rattle.zt_link_state.specs.contracts.origin.OriginOrd.TheImpl.Laws.{total-law}
use Rattle.zt_link_state.specs.declared.origin.Origin.{Origin}
use Rattle.zt_link_state.proofs.Flat.{none-past}
use Rattle.zt_link_state.proofs.Regions.{is_eq-then, nat_cmp_eq, region_cmp-order, region_order_eq}

pub origin-total : IsTotalOrder origin_cmp
origin-total = total-law

-- first by region, then by source
origin_parts : (a b : Origin) → origin_cmp a b ≡ ordering_then (region_order a.region b.region) (nat_cmp a.source.0 b.source.0)
origin_parts a b = ap (λ r. ordering_then r (nat_cmp a.source.0 b.source.0)) (region_cmp-order a.region b.region)

then-assoc : (a b c : Ordering) → ordering_then a (ordering_then b c) ≡ ordering_then (ordering_then a b) c
then-assoc Less b c = refl
then-assoc Equal b c = refl
then-assoc Greater b c = refl

pub at-origin : (a b : Origin) → is_at (origin_cmp a) b ≡ (region_eq a.region b.region && zid_eq a.source b.source)
at-origin a b =
    ap is_eq (origin_parts a b)
    ∙ is_eq-then (region_order a.region b.region) (nat_cmp a.source.0 b.source.0)
    ∙ ap₂ (λ s t. s && t) (region_order_eq a.region b.region) (nat_cmp_eq a.source.0 b.source.0)

and_parts : (a b : Bool) → (a && b) ≡ true → (a ≡ true) × (b ≡ true)
and_parts true true h = (refl, refl)
and_parts true false h = cc
and_parts false b h = cc

-- origins that tie are one
pub origin-one : (a b : Origin) → origin_cmp a b ≡ Equal → a ≡ b
origin-one a b h =
    let both = and_parts (region_eq a.region b.region) (zid_eq a.source b.source) (sym (at-origin a b) ∙ ap is_eq h) in
    let region = region_eq-same a.region b.region both.0 in
    let source = zid_eq-same a.source b.source both.1 in
    λ i. record { region = region i; source = source i }

module _ {K : Type 0} (cmp : K → K → Ordering) where
  pub rows-agree : (o p : Origin) (e f : K) → routed_order cmp (row_of o e) (row_of p f) ≡ ordering_then (origin_cmp o p) (cmp e f)
  rows-agree o p e f =
      then-assoc (region_order o.region p.region) (nat_cmp o.source.0 p.source.0) (cmp e f)
      ∙ ap (λ r. ordering_then r (cmp e f)) (sym (origin_parts o p))

module _ {K : Type 0} where
  row_at-keys : (o p : Origin) → is_at (origin_cmp o) p ≡ true → (ks : List K) → filter (is_row_of o) (map (row_of p) ks) ≡ map (row_of p) ks
  row_at-keys o p t [] = refl
  row_at-keys o p t (k ∷ ks) = let is = sym (at-origin o p) ∙ t in rw is (ap (λ rs. row_of p k ∷ rs) (row_at-keys o p t ks))

  row_off-keys : (o p : Origin) → is_at (origin_cmp o) p ≡ false → (ks : List K) → filter (is_row_of o) (map (row_of p) ks) ≡ []
  row_off-keys o p t [] = refl
  row_off-keys o p t (k ∷ ks) = let is = sym (at-origin o p) ∙ t in rw is (row_off-keys o p t ks)

  rows-off : (o : Origin) (es : List (Origin × BTreeSet K)) → NonePasses (is_at (origin_cmp o)) es → filter (is_row_of o) (rows_in es) ≡ []
  rows-off o [] h = refl
  rows-off o (x ∷ xs) h =
      filter-append (is_row_of o) (map (row_of x.0) (keys_in x.1)) (rows_in xs)
      ∙ ap₂ (λ rs ss. rs ++ ss) (row_off-keys o x.0 h.0 (keys_in x.1)) (rows-off o xs h.1)

  pub rows-none : (o : Origin) (es : List (Origin × BTreeSet K)) → lookup (is_at (origin_cmp o)) es ≡ None → filter (is_row_of o) (rows_in es) ≡ []
  rows-none o es none = rows-off o es (none_passes_from_lookup (is_at (origin_cmp o)) es none)

  exprs-of : (o : Origin) (ks : List K) → map (λ row. row.expr) (map (row_of o) ks) ≡ ks
  exprs-of o [] = refl
  exprs-of o (k ∷ ks) = ap (λ l. k ∷ l) (exprs-of o ks)

  -- the expressions of one origin's rows are those of its entry
  pub rows-there : (o : Origin) (es : List (Origin × BTreeSet K)) (s : BTreeSet K) → IsStrictlySortedBy origin_cmp (keys_of es) → lookup (is_at (origin_cmp o)) es ≡ Some s
      → map (λ row. row.expr) (filter (is_row_of o) (rows_in es)) ≡ s.keys
  unfolding IsStrictlySortedBy
  rows-there o [] s sorted is = cc
  rows-there o (x ∷ xs) s sorted is =
      let split = filter-append (is_row_of o) (map (row_of x.0) (keys_in x.1)) (rows_in xs) in
      by_test (is_at (origin_cmp o) x.0)
      (λ t.
      let past = rows-off o xs (none-past origin_cmp origin-total o x xs sorted t) in
      ap (map (λ row. row.expr))
      (split ∙ ap₂ (λ rs ss. rs ++ ss) (row_at-keys o x.0 t (keys_in x.1)) past ∙ append-nil (map (row_of x.0) (keys_in x.1)))
      ∙ exprs-of x.0 (keys_in x.1)
      ∙ ap keys_in (same_Some x.1 s (rw t at is)))
      (λ t.
      ap (map (λ row. row.expr)) (split ∙ ap (λ rs. rs ++ filter (is_row_of o) (rows_in xs)) (row_off-keys o x.0 t (keys_in x.1)))
      ∙ rows-there o xs s sorted.1 (rw t at is))

-- a row is found where its parts are the same
pub is_row_at : {K : Type 0} (cmp : K → K → Ordering) (region : Region) (source : Zid) (e : K) (row : RoutedRow K)
    → is_routed_row cmp (row_at cmp region source e) row ≡ (region_eq region row.region && (zid_eq source row.source && same cmp e row.expr))
is_row_at cmp region source e row =
    is_eq-then (region_order region row.region) _
    ∙ ap (λ t. t && is_eq (ordering_then (nat_cmp source.0 row.source.0) (cmp e row.expr))) (region_order_eq region row.region)
    ∙ ap (λ t. region_eq region row.region && t)
    (is_eq-then (nat_cmp source.0 row.source.0) (cmp e row.expr) ∙ ap (λ t. t && same cmp e row.expr) (nat_cmp_eq source.0 row.source.0))
