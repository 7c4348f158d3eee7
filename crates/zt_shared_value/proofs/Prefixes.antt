-- Beginnings of lists.
use Rattle.std.proofs.Common.{◌≤◌, List, [], ◌++◌, length, sym, ap, ◌∙◌, arith, append_assoc, length-append}
use Rattle.std.proofs.lemmas.List.{append-nil}
use mathlib.Core.List.{IsPrefix}

module _ {A : Type 0} where
  pub prefix-self : (xs : List A) → IsPrefix xs xs
  prefix-self xs = ([], append-nil xs)

  pub prefix-more : (xs ys more : List A) → IsPrefix xs ys → IsPrefix xs (ys ++ more)
  prefix-more xs ys more p = (p.0 ++ more, sym (append_assoc xs p.0 more) ∙ ap (λ (w : List A). w ++ more) p.1)

  pub prefix-trans : (xs ys zs : List A) → IsPrefix xs ys → IsPrefix ys zs → IsPrefix xs zs
  prefix-trans xs ys zs p q = (p.0 ++ q.0, sym (append_assoc xs p.0 q.0) ∙ (ap (λ (w : List A). w ++ q.0) p.1 ∙ q.1))

  pub prefix-length : (xs ys : List A) → IsPrefix xs ys → length xs ≤ length ys
  prefix-length xs ys p = let whole = ap length p.1 in let parts = length-append xs p.0 in omega arith
