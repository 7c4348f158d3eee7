-- What is told of rows and the infos beside them.
use Rattle.std.proofs.Common.{◌≡◌, ℕ, suc, zero, ◌+◌, ◌<◌, ◌≤◌, List, [], ◌∷◌, ◌++◌, length, get_or, drop, map, refl, ap, ap₂, sym, ◌∙◌, arith, add-one, append_assoc, append-nil}
use Rattle.std.proofs.lemmas.List.{drop_all}
use Rattle.std.specs.List.{flat_map}
use Rattle.zt_locals.specs.Results.{beside}

module _ {X Y R : Type 0} (f : X → Y → List R) where
  step : (xs : List X) (ys : List Y) (i : ℕ) (x : X) (y : Y) → i < length xs → length xs ≡ length ys → x ≡ get_or xs i x → y ≡ get_or ys i y → beside f (drop i xs) (drop i ys) ≡ f x y ++ beside f (drop (suc i) xs) (drop (suc i) ys)
  step [] ys i x y lt same at bt = absurd (omega arith)
  step (a ∷ xs) [] i x y lt same at bt = absurd (omega arith)
  step (a ∷ xs) (b ∷ ys) zero x y lt same at bt = ap₂ (λ (p : X) (q : Y). f p q ++ beside f xs ys) (sym at) (sym bt)
  step (a ∷ xs) (b ∷ ys) (suc i) x y lt same at bt = step xs ys i x y (omega arith) (omega arith) at bt

  -- one row more is told
  pub beside_step :
      (xs : List X) (ys : List Y) (i : ℕ) (x : X) (y : Y) (told more all : List R) → i < length xs → length xs ≡ length ys → x ≡ get_or xs i x → y ≡ get_or ys i y
      → more ≡ told ++ f x y → told ++ beside f (drop i xs) (drop i ys) ≡ all → more ++ beside f (drop (i + 1) xs) (drop (i + 1) ys) ≡ all
  beside_step xs ys i x y told more all lt same at bt is so_far =
      rw (add-one, is)
      (append_assoc told (f x y) (beside f (drop (suc i) xs) (drop (suc i) ys)) ∙ ap (λ l. told ++ l) (sym (step xs ys i x y lt same at bt)) ∙ so_far)

  -- all rows are told
  pub beside_end : (xs : List X) (ys : List Y) (i : ℕ) (told all : List R) → length xs ≤ i → told ++ beside f (drop i xs) (drop i ys) ≡ all → told ≡ all
  beside_end xs ys i told all past so_far = sym (append-nil told) ∙ ap (λ l. told ++ beside f l (drop i ys)) (sym (drop_all i xs past)) ∙ so_far

  -- what rows give with what a function makes of them beside them
  pub beside_map : (h : X → Y) (xs : List X) → beside f xs (map h xs) ≡ flat_map (λ x. f x (h x)) xs
  beside_map h [] = refl
  beside_map h (x ∷ xs) = ap (λ l. f x (h x) ++ l) (beside_map h xs)
