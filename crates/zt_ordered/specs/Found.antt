-- Rows in order that find the same are equal, and what each word finds.
use Rattle.std.specs.Prelude.{◌≡◌, true, false, List, [], ◌∷◌, None, refl}
use Rattle.std.specs.declared.cmp.Ordering.{Ordering}
use Rattle.std.specs.declared.cmp.Ordering.TheVariants.{Less, Equal}
use Rattle.std.specs.Ordering.{is_eq, is_lt}
use Rattle.std.specs.Option.{option_map}
use Rattle.std.specs.Cmp.{IsTotalOrder}
use Rattle.std.specs.FinMap.Entries.{find, is_sorted, below_all}
use Rattle.std.proofs.Common.{ap, ◌∙◌}
use Rattle.zt_ordered.specs.Test.{by_test, is_lt-Less, and_first, and_second, and_both}
use Rattle.zt_ordered.specs.Rows.{same, row_at}

module _ {P X : Type 0} (cmp : P → P → Ordering) where
  pub row_at-no : (q : P) (e : P × X) (es : List (P × X)) → same cmp q e.0 ≡ false → row_at cmp q (e ∷ es) ≡ row_at cmp q es
  row_at-no q e es h = rw h refl

  pub find-row_at : (q : P) (es : List (P × X)) → find cmp q es ≡ option_map (λ e. e.1) (row_at cmp q es)
  find-row_at q [] = refl
  find-row_at q (e ∷ es) = by_test (same cmp q e.0) (λ h. rw h refl) (λ h. rw h (find-row_at q es))

  pub sorted-head : (e : P × X) (es : List (P × X)) → is_sorted cmp (e ∷ es) ≡ true → below_all cmp e.0 es ≡ true
  sorted-head e es h = and_first _ _ h

  pub sorted-tail : (e : P × X) (es : List (P × X)) → is_sorted cmp (e ∷ es) ≡ true → is_sorted cmp es ≡ true
  sorted-tail e es h = and_second _ _ h

  module _ (o : IsTotalOrder cmp) where
    pub below-lower : (x y : P) (es : List (P × X)) → cmp x y ≡ Less → below_all cmp y es ≡ true → below_all cmp x es ≡ true
    below-lower x y [] p h = refl
    below-lower x y (e ∷ es) p h =
        and_both _ _ (ap is_lt (o.trans x y e.0 p (is_lt-Less _ (and_first _ _ h)))) (below-lower x y es p (and_second _ _ h))

    pub below-tied : (x y : P) (es : List (P × X)) → cmp x y ≡ Equal → below_all cmp y es ≡ true → below_all cmp x es ≡ true
    below-tied x y [] p h = refl
    below-tied x y (e ∷ es) p h = and_both _ _ (ap is_lt (o.congr x y e.0 p) ∙ and_first _ _ h) (below-tied x y es p (and_second _ _ h))

    pub row_at-below : (q : P) (es : List (P × X)) → below_all cmp q es ≡ true → row_at cmp q es ≡ None
    row_at-below q [] h = refl
    row_at-below q (e ∷ es) h = row_at-no q e es (ap is_eq (is_lt-Less _ (and_first _ _ h))) ∙ row_at-below q es (and_second _ _ h)
