-- The own rows that are hidden, named by their regions.
use Rattle.std.proofs.Common.{◌≡◌, Bool, true, ◌&&◌, ◌||◌, not, List, [], ◌∷◌, ap, cond, filter, map, refl, sym, ◌∙◌}
use Rattle.std.proofs.lemmas.Bool.{or_right}
use Rattle.std.proofs.lemmas.Map.Views.{any-filter_same}
use Rattle.std.specs.List.{AllByRecursion, list_any}
use Rattle.std.specs.declared.cmp.Ordering.{Ordering}
use Rattle.zt_region.specs.Region.{region_eq, region_eq-refl, region_eq-same, zid_eq}
use Rattle.zt_region.specs.declared.region.Region.{Region}
use Rattle.zt_model.specs.Lists.{same}
use Rattle.zt_model.specs.Rows.{RoutedRow, Rows}
use Rattle.zt_model.specs.Trees.{is_hidden, without_own_rows}
use Rattle.zt_state.specs.OwnRows.{is_own_in, without_own_in}

module _ {A : Type 0} where
  weaker : (P Q : A → Type 0) → ((x : A) → P x → Q x) → (xs : List A) → AllByRecursion P xs → AllByRecursion Q xs
  weaker P Q h [] all = tt
  weaker P Q h (x ∷ xs) all = (h x all.0, weaker P Q h xs all.1)

  -- tests that agree on each member leave the same
  filter_alike : (p q : A → Bool) (xs : List A) → AllByRecursion (λ x. p x ≡ q x) xs → filter p xs ≡ filter q xs
  filter_alike p q [] all = refl
  filter_alike p q (x ∷ xs) all = (λ i. cond (all.0 i) (x ∷ filter p xs) (filter p xs)) ∙ (λ i. cond (q x) (x ∷ filter_alike p q xs all.1 i) (filter_alike p q xs all.1 i))

module _ {K : Type 0} where
  region_of : RoutedRow K → Region
  region_of row = row.region

  -- each row's region is one of the rows' regions
  there : (rows : List (RoutedRow K)) → AllByRecursion (λ row. list_any (region_eq row.region) (map (λ row. row.region) rows) ≡ true) rows
  there [] = tt
  there (row ∷ rows) = (
    ap (λ b. b || list_any (region_eq row.region) (map (λ x. x.region) rows)) (region_eq-refl row.region),
    weaker (λ x. list_any (region_eq x.region) (map (λ y. y.region) rows) ≡ true)
        (λ x. (region_eq x.region row.region || list_any (region_eq x.region) (map (λ y. y.region) rows)) ≡ true)
        (λ x here. or_right (region_eq x.region row.region) _ here) rows (there rows),
  )

module _ {K : Type 0} (cmp : K → K → Ordering) where
  -- the regions of routed rows that can't see the expression any more name the own rows that are hidden
  pub own_rows_hidden : (source : Region) (e : K) (g : Rows K) → without_own_in cmp (filter (is_hidden cmp g source e) (map (λ row. row.region) g.routed)) e g ≡ without_own_rows cmp source e g
  unfolding without_own_rows
  own_rows_hidden source e g =
      let hidden = is_hidden cmp g source e in
      let regions : List Region = map (λ row. row.region) g.routed in
      let named : (row : RoutedRow K) → list_any (region_eq row.region) regions ≡ true → list_any (region_eq row.region) (filter hidden regions) ≡ hidden row.region =
      λ row is. any-filter_same (region_eq row.region) hidden (hidden row.region) (λ k h. ap hidden (sym (region_eq-same row.region k h))) regions ∙ ap (λ b. hidden row.region && b) is ∙ and_true (hidden row.region)
      in
      ap (λ (rows : List (RoutedRow K)). record g { routed = rows })
      (filter_alike (λ row. not (is_own_in cmp g.zid (filter hidden regions) e row)) (λ row. not (zid_eq row.source g.zid && (same cmp e row.expr && hidden row.region))) g.routed
      (weaker (λ row. list_any (region_eq row.region) regions ≡ true) _ (λ row is. ap (λ b. not (zid_eq row.source g.zid && (same cmp e row.expr && b))) (named row is)) g.routed (there g.routed)))
    where
      and_true : (b : Bool) → (b && true) ≡ b
      and_true true = refl
      and_true _ = refl
