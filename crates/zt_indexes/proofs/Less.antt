-- One row less, where the counts go with it.
use Rattle.std.proofs.Common.{◌≡◌, ℕ, Bool, true, false, ◌||◌, cond, if◌then◌else◌, nat_lt, List, [], ◌∷◌, Some, None, Result, Ok, Err, OnErr, unwrap_or, refl, sym, ap, ◌∙◌, arith}
use Rattle.std.proofs.lemmas.Bool.Decides.{nat_tests}
use Rattle.std.proofs.lemmas.List.Sums.{sum_by-cons}
use Rattle.std.specs.BTreeMap.{is_at}
use Rattle.std.specs.Cmp.{IsTotalOrder, tied_itself}
use Rattle.std.specs.Map.{lookup}
use Rattle.std.specs.Ordering.{is_eq}
use Rattle.std.specs.declared.cmp.Ordering.{Ordering}
use Rattle.std.specs.declared.cmp.Ordering.TheVariants.{Equal}
use Rattle.zt_keys.specs.Test.{by_test}
use Rattle.zt_region.specs.Region.{region_eq}
use Rattle.zt_region.specs.declared.region.Region.{Region}
use Rattle.zt_indexes.specs.Counted.{count_in, is_shown_in}
use Rattle.zt_indexes.specs.Grouped.{equal-from}
use Rattle.zt_indexes.specs.Live.{HasOneLess, IsWithout, count_at, counts_at}

-- what holds whatever the result
pub at-err : {T E P : Type 0} (r : Result T E) → P → OnErr r P
at-err (Ok x) p = tt
at-err (Err y) p = p

or-first : (a b : Bool) → (a || b) ≡ false → a ≡ false
or-first true b h = h
or-first false b h = refl

or-second : (a b : Bool) → (a || b) ≡ false → b ≡ false
or-second true b h = cc
or-second false b h = h

none-there : (n : ℕ) → nat_lt 0 n ≡ false → n ≡ 0
none-there n h = grind (arith, nat_tests)

none-in : (b : Bool) (n : ℕ) → n ≡ 0 → (if b then n else 0) ≡ 0
none-in true n h = h
none-in false n h = refl

-- where nothing is counted, no region has a row
none-counted : (region : Region) (counts : List (Region × ℕ)) → is_shown_in (λ _. true) counts ≡ false → count_in region counts ≡ 0
none-counted region [] h = refl
none-counted region (x ∷ xs) h =
    let here : (if region_eq region x.0 then x.1 else 0) ≡ 0 = none-in (region_eq region x.0) x.1 (none-there x.1 (or-first _ _ h)) in
    let rest = none-counted region xs (or-second (nat_lt 0 x.1) _ h) in
    sum_by-cons (λ (row : Region × ℕ). if region_eq region row.0 then row.1 else 0) x xs ∙ omega (arith, here, rest)

module _ {K : Type 0} (cmp : K → K → Ordering) (o : IsTotalOrder cmp) where
  pub lookup-tied : {X : Type 0} (a b : K) → cmp a b ≡ Equal → (es : List (K × X)) → lookup (is_at (cmp b)) es ≡ lookup (is_at (cmp a)) es
  lookup-tied a b t [] = refl
  lookup-tied a b t (e ∷ es) = λ i. cond (is_eq (sym (o.congr a b e.0 t) i)) (Some e.1) (lookup-tied a b t es i)

  -- a key goes whose counts are of no row
  pub less-dropped : (region : Region) (e : K) (old mid new : List (K × List (Region × ℕ)))
      → HasOneLess cmp region e old mid → is_shown_in (λ _. true) (counts_at cmp e mid) ≡ false
      → IsWithout cmp e mid new
      → HasOneLess cmp region e old new
  less-dropped region e old mid new less none gone = record {
    at = λ key r.
        let found : counts_at cmp key new ≡ unwrap_or (cond (is_at (cmp e) key) None (lookup (is_at (cmp key)) mid)) [] = ap (λ o. unwrap_or o []) (gone.at key) in
        let same : count_at cmp key r new ≡ count_at cmp key r mid = by_test (is_at (cmp e) key)
        (λ t. ap (count_in r) found ∙ rw t (sym (ap (λ o. count_in r (unwrap_or o [])) (lookup-tied e key (equal-from _ t) mid) ∙ none-counted r (counts_at cmp e mid) none)))
        (λ t. ap (count_in r) found ∙ rw t refl) in
        same ∙ less.at key r;
  }

  pub key-gone : {X : Type 0} (e : K) (old new : List (K × X)) → IsWithout cmp e old new → lookup (is_at (cmp e)) new ≡ None
  key-gone e old new gone = gone.at e ∙ ap (λ r. cond (is_eq r) None (lookup (is_at (cmp e)) old)) (tied_itself o e)
