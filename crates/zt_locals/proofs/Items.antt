-- Items of lists by their places.
use Rattle.std.proofs.Common.{◌≡◌, ℕ, suc, zero, ◌<◌, List, [], ◌∷◌, ◌++◌, length, get_or, set, take, drop, refl, ap, sym, ◌∙◌, arith}

-- the item at a place is one
pub same_item : {A : Type 0} (xs : List A) (i : ℕ) (x y : A) → i < length xs → x ≡ get_or xs i x → y ≡ get_or xs i y → x ≡ y
same_item [] i x y lt at bt = absurd (omega arith)
same_item (z ∷ xs) zero x y lt at bt = at ∙ sym bt
same_item (z ∷ xs) (suc i) x y lt at bt = same_item xs i x y (omega arith) at bt

-- there is an item at a place
pub item_at : {A : Type 0} (xs : List A) (i : ℕ) → i < length xs → (x : A) × (x ≡ get_or xs i x)
item_at [] i lt = absurd (omega arith)
item_at (z ∷ xs) zero lt = (z, refl)
item_at (z ∷ xs) (suc i) lt = item_at xs i (omega arith)

-- an item among others
pub split_at : {A : Type 0} (xs : List A) (i : ℕ) (x : A) → i < length xs → x ≡ get_or xs i x → xs ≡ take i xs ++ x ∷ drop (suc i) xs
split_at [] i x lt is = absurd (omega arith)
split_at (y ∷ xs) zero x lt is = ap (λ z. z ∷ xs) (sym is)
split_at (y ∷ xs) (suc i) x lt is = ap (λ l. y ∷ l) (split_at xs i x (omega arith) is)

pub set_at : {A : Type 0} (xs : List A) (i : ℕ) (x : A) → i < length xs → set xs i x ≡ take i xs ++ x ∷ drop (suc i) xs
set_at [] i x lt = absurd (omega arith)
set_at (y ∷ xs) zero x lt = refl
set_at (y ∷ xs) (suc i) x lt = ap (λ l. y ∷ l) (set_at xs i x (omega arith))
