-- Rows that lose an interest, one after the other.
use Rattle.std.proofs.Common.{◌≡◌, ℕ, suc, zero, ◌+◌, ◌<◌, List, [], ◌∷◌, ◌++◌, length, get_or, set, take, drop, map, ap, ◌∙◌, arith, add-one}

module _ {X : Type 0} (f : X → X) where
  step : (xs : List X) (i : ℕ) (x : X) → i < length xs → x ≡ get_or (map f (take i xs) ++ drop i xs) i x → set (map f (take i xs) ++ drop i xs) i (f x) ≡ map f (take (suc i) xs) ++ drop (suc i) xs
  step [] i x lt at = absurd (omega arith)
  step (y ∷ xs) zero x lt at = ap (λ z. f z ∷ xs) at
  step (y ∷ xs) (suc i) x lt at = ap (λ l. f y ∷ l) (step xs i x (omega arith) at)

  -- one item more is mapped in place
  pub mapped_set : (xs now : List X) (i : ℕ) (x : X) → i < length xs → now ≡ map f (take i xs) ++ drop i xs → x ≡ get_or now i x → set now i (f x) ≡ map f (take (i + 1) xs) ++ drop (i + 1) xs
  mapped_set xs now i x lt is at = rw add-one (ap (λ l. set l i (f x)) is ∙ step xs i x lt (at ∙ ap (λ l. get_or l i x) is))
