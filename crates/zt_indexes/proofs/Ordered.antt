-- Entries in key order find what the entries find.
use Rattle.std.proofs.Common.{◌≡◌, ◌+◌, ◌-◌, ◌⊎◌, Bool, true, false, T, ◌&&◌, cond, List, [], ◌∷◌, ℕ, Some, None, unwrap_or, refl, subst, sym, ap, ◌∙◌}
use Rattle.std.specs.BTreeMap.{is_at}
use Rattle.std.specs.Cmp.{IsTotalOrder}
use Rattle.std.specs.FinMap.Entries.{below_all, find, find-put, is_sorted, is_sorted-put, same_entries}
use Rattle.std.specs.List.{AllByRecursion}
use Rattle.std.specs.List.Sorted.{IsStrictlySortedBy}
use Rattle.std.specs.Map.{keys_of, lookup}
use Rattle.std.specs.Ordering.{is_lt}
use Rattle.std.specs.declared.cmp.Ordering.{Ordering}
use Rattle.std.specs.declared.cmp.Ordering.TheVariants.{Less, Equal, Greater}
use Rattle.zt_region.specs.declared.region.Region.{Region}
use Rattle.zt_indexes.specs.Counted.{count_in, is_shown_in}
use Rattle.zt_indexes.specs.Live.{HasOneLess, HasOneMore, HasRowsOrNoKey, count_at, one_at}
use Rattle.zt_indexes.specs.Ordered.{ordered_entries}

first : (a b : Bool) → T (a && b) → T a
first true b h = tt
first false b h = h

second : (a b : Bool) → T (a && b) → T b
second true b h = h
second false b h = absurd h

below : (r : Ordering) → T (is_lt r) → r ≡ Less
below Less h = refl
below Equal h = absurd h
below Greater h = absurd h

module _ {K X : Type 0} (cmp : K → K → Ordering) where
  find-lookup : (q : K) (es : List (K × X)) → find cmp q es ≡ lookup (is_at (cmp q)) es
  find-lookup q [] = refl
  find-lookup q (e ∷ es) = ap (λ o. cond (is_at (cmp q) e.0) (Some e.1) o) (find-lookup q es)

  all-above : (x : K) (es : List (K × X)) → T (below_all cmp x es) → AllByRecursion (λ y. cmp x y ≡ Less) (keys_of es)
  all-above x [] h = tt
  all-above x (e ∷ es) h = (below _ (first _ _ h), all-above x es (second _ _ h))

  keys-sorted : (es : List (K × X)) → T (is_sorted cmp es) → IsStrictlySortedBy cmp (keys_of es)
  unfolding IsStrictlySortedBy
  keys-sorted [] h = tt
  keys-sorted (e ∷ es) h = (all-above e.0 es (first _ _ h), keys-sorted es (second _ _ h))

  pub ordered-none : ordered_entries {K = K} {X = X} cmp [] ≡ []
  unfolding ordered_entries
  ordered-none = refl

  module _ (o : IsTotalOrder cmp) where
    are-sorted : (es : List (K × X)) → T (is_sorted cmp (ordered_entries cmp es))
    unfolding ordered_entries
    are-sorted [] = tt
    are-sorted (e ∷ es) = is_sorted-put cmp o e.0 e.1 (ordered_entries cmp es) (are-sorted es)

    are-found : (q : K) (es : List (K × X)) → find cmp q (ordered_entries cmp es) ≡ find cmp q es
    unfolding ordered_entries
    are-found q [] = refl
    are-found q (e ∷ es) = find-put cmp o q e.0 e.1 (ordered_entries cmp es) ∙ ap (λ x. cond (is_at (cmp q) e.0) (Some e.1) x) (are-found q es)

    pub ordered-sorted : (es : List (K × X)) → IsStrictlySortedBy cmp (keys_of (ordered_entries cmp es))
    ordered-sorted es = keys-sorted (ordered_entries cmp es) (are-sorted es)

    pub ordered-found : (q : K) (es : List (K × X)) → lookup (is_at (cmp q)) (ordered_entries cmp es) ≡ lookup (is_at (cmp q)) es
    ordered-found q es = sym (find-lookup q (ordered_entries cmp es)) ∙ are-found q es ∙ find-lookup q es

    pub ordered-same : ((x y : K) → cmp x y ≡ Equal → x ≡ y) → (es fs : List (K × X)) → ((q : K) → lookup (is_at (cmp q)) es ≡ lookup (is_at (cmp q)) fs) → ordered_entries cmp es ≡ ordered_entries cmp fs
    ordered-same one es fs same =
        same_entries cmp o one (ordered_entries cmp es) (ordered_entries cmp fs) (are-sorted es) (are-sorted fs)
        (λ q. are-found q es ∙ find-lookup q es ∙ same q ∙ sym (find-lookup q fs) ∙ sym (are-found q fs))

-- what changed in the entries changed in their order
module _ {K : Type 0} (cmp : K → K → Ordering) (o : IsTotalOrder cmp) (region : Region) (e : K) where
  count-ordered : (key : K) (r : Region) (es : List (K × List (Region × ℕ))) → count_at cmp key r (ordered_entries cmp es) ≡ count_at cmp key r es
  count-ordered key r es = ap (λ x. count_in r (unwrap_or x [])) (ordered-found cmp o key es)

  pub ordered-more : (old new : List (K × List (Region × ℕ))) → HasOneMore cmp region e old new → HasOneMore cmp region e (ordered_entries cmp old) (ordered_entries cmp new)
  ordered-more old new more = record {
    at = λ key r. count-ordered key r new ∙ more.at key r ∙ ap (λ n. n + one_at cmp region e key r) (sym (count-ordered key r old));
  }

  pub ordered-less : (old new : List (K × List (Region × ℕ))) → HasOneLess cmp region e old new → HasOneLess cmp region e (ordered_entries cmp old) (ordered_entries cmp new)
  ordered-less old new less = record {
    at = λ key r. count-ordered key r new ∙ less.at key r ∙ ap (λ n. n - one_at cmp region e key r) (sym (count-ordered key r old));
  }

  pub ordered-tidy : (es : List (K × List (Region × ℕ))) → HasRowsOrNoKey cmp e es → HasRowsOrNoKey cmp e (ordered_entries cmp es)
  ordered-tidy es tidy = subst (λ x. (is_shown_in (λ _. true) (unwrap_or x []) ≡ true) ⊎ (x ≡ None)) (sym (ordered-found cmp o e es)) tidy
