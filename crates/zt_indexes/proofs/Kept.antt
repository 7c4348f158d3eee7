-- What keys are counted after a change, and a row more or less of one.
use Rattle.std.proofs.Common.{◌≡◌, ℕ, ◌+◌, ◌-◌, Bool, true, false, not, cond, List, [], ◌∷◌, Some, None, is_some, unwrap_or, refl, sym, ap, ◌∙◌, arith}
use Rattle.std.specs.BTreeMap.{is_at}
use Rattle.std.specs.Cmp.{IsTotalOrder, tied_itself}
use Rattle.std.specs.List.{list_any}
use Rattle.std.specs.Map.{keys_of, lookup}
use Rattle.std.specs.Ordering.{is_eq}
use Rattle.std.specs.declared.cmp.Ordering.{Ordering}
use Rattle.zt_keys.specs.Test.{by_test}
use Rattle.zt_region.specs.declared.region.Region.{Region}
use Rattle.zt_indexes.specs.Counted.{count_in, one_in}
use Rattle.zt_indexes.specs.Grouped.{HasSameKeys, equal-from}
use Rattle.zt_indexes.specs.Live.{HasOneLess, HasOneMore, IsWith, count_at, counts_at, one_at}
use Rattle.zt_indexes.proofs.Less.{lookup-tied}

-- what says whether rows are left
pub none-left : (last shown : Bool) → last ≡ not shown → last ≡ true → shown ≡ false
none-left last true is h = cc
none-left last false is h = refl

pub some-left : (last shown : Bool) → last ≡ not shown → last ≡ false → shown ≡ true
some-left last true is h = refl
some-left last false is h = cc

some-keys : {K X : Type 0} (test : K → Bool) (es : List (K × X)) → is_some (lookup test es) ≡ list_any test (keys_of es)
some-keys test [] = refl
some-keys test (e ∷ es) = by_test (test e.0) (λ t. rw t refl) (λ t. rw t (some-keys test es))

pub same-keys : {K X : Type 0} (cmp : K → K → Ordering) (old new : List (K × X)) → keys_of new ≡ keys_of old → HasSameKeys cmp old new
same-keys cmp old new same = record { at = λ q. some-keys (is_at (cmp q)) new ∙ ap (list_any (is_at (cmp q))) same ∙ sym (some-keys (is_at (cmp q)) old) }

module _ {K : Type 0} (cmp : K → K → Ordering) (o : IsTotalOrder cmp) (region : Region) (e : K) (counts : List (Region × ℕ)) (old new : List (K × List (Region × ℕ))) (puts : IsWith cmp e counts old new) where
  was : (key : K) → is_at (cmp e) key ≡ true → counts_at cmp key old ≡ counts_at cmp e old
  was key t = ap (λ x. unwrap_or x []) (lookup-tied cmp o e key (equal-from _ t) old)

  -- counts with a row more stand under an expression
  pub counted-more : ((r : Region) → count_in r counts ≡ count_in r (counts_at cmp e old) + one_in r region) → HasOneMore cmp region e old new
  counted-more counted = record {
    at = λ key r.
        by_test (is_at (cmp e) key)
        (λ t.
        let there : lookup (is_at (cmp key)) new ≡ Some counts = rw t at (puts.at key) in
        rw (there, was key t, t) (counted r))
        (λ t.
        let there : lookup (is_at (cmp key)) new ≡ lookup (is_at (cmp key)) old = rw t at (puts.at key) in
        rw (there, t) (omega arith));
  }

  -- counts with a row less
  pub counted-less : ((r : Region) → count_in r counts ≡ count_in r (counts_at cmp e old) - one_in r region) → HasOneLess cmp region e old new
  counted-less counted = record {
    at = λ key r.
        by_test (is_at (cmp e) key)
        (λ t.
        let there : lookup (is_at (cmp key)) new ≡ Some counts = rw t at (puts.at key) in
        rw (there, was key t, t) (counted r))
        (λ t.
        let there : lookup (is_at (cmp key)) new ≡ lookup (is_at (cmp key)) old = rw t at (puts.at key) in
        rw (there, t) (omega arith));
  }

  -- what stands under it is found
  pub put-there : counts_at cmp e new ≡ counts
  put-there = ap (λ x. unwrap_or x []) put-found
    where
      put-found : lookup (is_at (cmp e)) new ≡ Some counts
      put-found = puts.at e ∙ ap (λ r. cond (is_eq r) (Some counts) (lookup (is_at (cmp e)) old)) (tied_itself o e)

-- of an expression that isn't there, no row goes
pub none-less : {K : Type 0} (cmp : K → K → Ordering) (o : IsTotalOrder cmp) (region : Region) (e : K) (counts : List (K × List (Region × ℕ))) → lookup (is_at (cmp e)) counts ≡ None → HasOneLess cmp region e counts counts
none-less cmp o region e counts absent = record {
  at = λ key r.
      by_test (is_at (cmp e) key)
      (λ t.
      let none : count_at cmp key r counts ≡ 0 = ap (λ x. count_in r (unwrap_or x [])) (lookup-tied cmp o e key (equal-from _ t) counts ∙ absent) in
      rw none (sym (none_minus (one_at cmp region e key r))))
      (λ t. rw t (omega arith));
}
  where
    none_minus : (n : ℕ) → 0 - n ≡ 0
    none_minus n = omega arith
