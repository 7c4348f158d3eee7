-- Loops that build a list row by row, from the first on or from the last back.
use Rattle.std.proofs.Common.{◌≡◌, ℕ, ◌+◌, ◌-◌, ◌<◌, ◌≤◌, suc, zero, List, [], ◌∷◌, ◌++◌, ap, append_assoc, arith, drop, get_or, length, sym, ◌∙◌}
use Rattle.std.proofs.Math.Seq.{drop-cons}
use Rattle.std.proofs.lemmas.List.{append-nil, drop_all}
use Rattle.zt_state.proofs.Walks.{drop_item}

-- what is there so far and what the rows left give is all, one row later too
pub walk_more : {A B : Type 0} (rule : A → List B) (whole : List A → List B) → ((x : A) (xs : List A) → whole (x ∷ xs) ≡ rule x ++ whole xs)
    → (xs : List A) (i : ℕ) (x : A) (before after all : List B) → i < length xs → x ≡ get_or xs i x
    → before ++ whole (drop i xs) ≡ all → after ≡ before ++ rule x → after ++ whole (drop (i + 1) xs) ≡ all
walk_more rule whole split xs i x before after all within is left more =
    let rest = whole (drop (i + 1) xs) in
    ap (λ ys. ys ++ rest) more
    ∙ append_assoc before (rule x) rest
    ∙ ap (λ ys. before ++ ys) (sym (ap whole (drop_item xs i x within is) ∙ split x (drop (i + 1) xs)))
    ∙ left

-- behind the last row all is there
pub walk_done : {A B : Type 0} (whole : List A → List B) → whole [] ≡ []
    → (xs : List A) (i : ℕ) (before all : List B) → length xs ≤ i → before ++ whole (drop i xs) ≡ all → before ≡ all
walk_done whole nothing xs i before all past left =
    sym (append-nil before) ∙ ap (λ ys. before ++ ys) (sym (ap whole (drop_all i xs past) ∙ nothing)) ∙ left

-- the same over a map's rows, of which those left are known
pub rest_more : {A B : Type 0} (rule : A → List B) (whole : List A → List B) → ((x : A) (xs : List A) → whole (x ∷ xs) ≡ rule x ++ whole xs)
    → (rest left : List A) (x : A) (before after all : List B) → before ++ whole rest ≡ all → rest ≡ x ∷ left → after ≡ before ++ rule x → after ++ whole left ≡ all
rest_more rule whole split rest left x before after all so_far first more =
    ap (λ ys. ys ++ whole left) more
    ∙ append_assoc before (rule x) (whole left)
    ∙ ap (λ ys. before ++ ys) (sym (ap whole first ∙ split x left))
    ∙ so_far

pub rest_done : {A B : Type 0} (whole : List A → List B) → whole [] ≡ [] → (rest : List A) (before all : List B) → rest ≡ [] → before ++ whole rest ≡ all → before ≡ all
rest_done whole nothing rest before all past so_far = sym (append-nil before) ∙ ap (λ ys. before ++ ys) (sym (ap whole past ∙ nothing)) ∙ so_far

drop_one_more : {A : Type 0} (xs : List A) (i : ℕ) (x : A) → 0 < i → i ≤ length xs → x ≡ get_or xs (i - 1) x → drop (i - 1) xs ≡ x ∷ drop i xs
drop_one_more xs zero x pos le is = absurd (omega arith)
drop_one_more xs (suc i) x pos le is =
    let e : suc i - 1 ≡ i = omega arith in
    rw e (drop-cons xs i x (omega arith) ∙ ap (λ y. y ∷ drop (suc i) xs) (sym (rw e at is)))

-- what the rows passed give, from the last back, with one row more
pub back_more : {A B : Type 0} (step : A → B → B) (whole : List A → B) → ((x : A) (xs : List A) → whole (x ∷ xs) ≡ step x (whole xs))
    → (xs : List A) (i : ℕ) (x : A) (before after : B) → 0 < i → i ≤ length xs → x ≡ get_or xs (i - 1) x
    → before ≡ whole (drop i xs) → after ≡ step x before → after ≡ whole (drop (i - 1) xs)
back_more step whole split xs i x before after pos le is so_far more =
    more ∙ ap (step x) so_far ∙ sym (ap whole (drop_one_more xs i x pos le is) ∙ split x (drop i xs))
