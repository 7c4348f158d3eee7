-- What is found among entries is found among them in key order.
use Rattle.std.proofs.Common.{◌≡◌, ◌≢◌, ◌⊎◌, ℕ, cond, if◌then◌else◌, List, [], ◌∷◌, Some, None, T, unwrap_or, refl, subst, sym, ap, ◌∙◌}
use Rattle.std.specs.BTreeMap.{is_at}
use Rattle.std.specs.Cmp.{IsTotalOrder}
use Rattle.std.specs.FinMap.Entries.{find, find-put, is_sorted, is_sorted-put, same_entries}
use Rattle.std.specs.Map.{lookup}
use Rattle.std.specs.declared.cmp.Ordering.{Ordering}
use Rattle.std.specs.declared.cmp.Ordering.TheVariants.{Equal}
use Rattle.zt_token_index.specs.Held.{index_in_order}
use Rattle.zt_token_index.specs.Told.{ChangesAt, HasFacesOrNoKey, told_at}

module _ {K X : Type 0} (cmp : K → K → Ordering) where
  find-lookup : (q : K) (es : List (K × X)) → find cmp q es ≡ lookup (is_at (cmp q)) es
  find-lookup q [] = refl
  find-lookup q (e ∷ es) = ap (λ o. cond (is_at (cmp q) e.0) (Some e.1) o) (find-lookup q es)

  pub ordered-none : index_in_order {K = K} {X = X} cmp [] ≡ []
  unfolding index_in_order
  ordered-none = refl

  module _ (o : IsTotalOrder cmp) where
    are-sorted : (es : List (K × X)) → T (is_sorted cmp (index_in_order cmp es))
    unfolding index_in_order
    are-sorted [] = tt
    are-sorted (e ∷ es) = is_sorted-put cmp o e.0 e.1 (index_in_order cmp es) (are-sorted es)

    are-found : (q : K) (es : List (K × X)) → find cmp q (index_in_order cmp es) ≡ find cmp q es
    unfolding index_in_order
    are-found q [] = refl
    are-found q (e ∷ es) = find-put cmp o q e.0 e.1 (index_in_order cmp es) ∙ ap (λ x. cond (is_at (cmp q) e.0) (Some e.1) x) (are-found q es)

    pub ordered-found : (q : K) (es : List (K × X)) → lookup (is_at (cmp q)) (index_in_order cmp es) ≡ lookup (is_at (cmp q)) es
    ordered-found q es = sym (find-lookup q (index_in_order cmp es)) ∙ are-found q es ∙ find-lookup q es

    pub ordered-same : ((x y : K) → cmp x y ≡ Equal → x ≡ y) → (es fs : List (K × X)) → ((q : K) → lookup (is_at (cmp q)) es ≡ lookup (is_at (cmp q)) fs) → index_in_order cmp es ≡ index_in_order cmp fs
    ordered-same one es fs same =
        same_entries cmp o one (index_in_order cmp es) (index_in_order cmp fs) (are-sorted es) (are-sorted fs)
        (λ q. are-found q es ∙ find-lookup q es ∙ same q ∙ sym (find-lookup q fs) ∙ sym (are-found q fs))

-- what changed in the entries changed in their order
module _ {K : Type 0} (cmp : K → K → Ordering) (o : IsTotalOrder cmp) where
  pub told-ordered : (q : K) (es : List (K × List (ℕ × ℕ))) → told_at cmp q (index_in_order cmp es) ≡ told_at cmp q es
  told-ordered q es = ap (λ found. unwrap_or found []) (ordered-found cmp o q es)

  pub changes-ordered : (e : K) (change : List (ℕ × ℕ) → List (ℕ × ℕ)) (old new : List (K × List (ℕ × ℕ))) → ChangesAt cmp e change old new → ChangesAt cmp e change (index_in_order cmp old) (index_in_order cmp new)
  changes-ordered e change old new changes = record {
    at = λ q. told-ordered q new ∙ changes.at q ∙ ap (λ pairs. if is_at (cmp e) q then change pairs else pairs) (sym (told-ordered q old));
  }

  pub tidy-ordered : (e : K) (es : List (K × List (ℕ × ℕ))) → HasFacesOrNoKey cmp e es → HasFacesOrNoKey cmp e (index_in_order cmp es)
  tidy-ordered e es tidy = subst (λ found. (unwrap_or found [] ≢ []) ⊎ (found ≡ None)) (sym (ordered-found cmp o e es)) tidy
