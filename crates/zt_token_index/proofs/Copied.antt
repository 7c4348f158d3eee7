-- Entries that are copied one after another.
use Rattle.std.proofs.Common.{◌≡◌, true, false, List, ◌∷◌, Option, Some, None, refl, sym, ◌∙◌}
use Rattle.std.proofs.lemmas.Map.{lookup-none}
use Rattle.std.proofs.lemmas.Map.Entries.{none_past_head}
use Rattle.std.specs.BTreeMap.{is_at}
use Rattle.std.specs.Cmp.{IsTotalOrder, eq_by_cmp_equiv}
use Rattle.std.specs.List.{IsDistinct}
use Rattle.std.specs.Map.{keys_of, lookup}
use Rattle.std.specs.Option.{option_or}
use Rattle.std.specs.Ordering.{eq_by_cmp}
use Rattle.std.specs.declared.cmp.Ordering.{Ordering}
use Rattle.zt_ordered.specs.Test.{by_test}
use Rattle.zt_token_index.specs.Held.{IsWith}

-- what is found among the entries left, and else among those copied
abbrev pub found_either : {K X : Type 0} → (K → K → Ordering) → K → List (K × X) → List (K × X) → Option X
found_either cmp q left copied = option_or (lookup (is_at (cmp q)) left) (lookup (is_at (cmp q)) copied)

pub or-none : {X : Type 0} (o : Option X) → option_or o None ≡ o
or-none None = refl
or-none (Some x) = refl

module _ {K X : Type 0} (cmp : K → K → Ordering) (o : IsTotalOrder cmp) where
  pub one-copied : (e : K × X) (left copied more : List (K × X)) → IsDistinct (eq_by_cmp cmp) (keys_of (e ∷ left)) → IsWith cmp e.0 e.1 copied more
      → (q : K) → found_either cmp q left more ≡ found_either cmp q (e ∷ left) copied
  one-copied e left copied more distinct puts q =
      let put = puts.at q in
      by_test (is_at (cmp q) e.0)
      (λ t.
      let other : is_at (cmp e.0) q ≡ true = sym ((eq_by_cmp_equiv o).symm q e.0) ∙ t in
      let none : lookup (is_at (cmp q)) left ≡ None = lookup-none (is_at (cmp q)) left (none_past_head (eq_by_cmp_equiv o) q e left distinct t) in
      let there : lookup (is_at (cmp q)) more ≡ Some e.1 = put ∙ rw other refl in
      rw (t, none, there) refl)
      (λ t.
      let other : is_at (cmp e.0) q ≡ false = sym ((eq_by_cmp_equiv o).symm q e.0) ∙ t in
      let there : lookup (is_at (cmp q)) more ≡ lookup (is_at (cmp q)) copied = put ∙ rw other refl in
      rw (t, there) refl)
