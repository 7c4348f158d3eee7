-- Loops that give something for each row that passes a test.
use Rattle.std.proofs.Common.{◌≡◌, ◌+◌, ◌<◌, ◌≤◌, ℕ, Bool, true, false, if◌then◌else◌, List, [], ◌∷◌, ◌++◌, ap, append_assoc, drop, filter, get_or, length, map, refl, sym, ◌∙◌}
use Rattle.std.proofs.lemmas.List.{append-nil, drop_all}
use Rattle.std.proofs.lemmas.Simd.{map-map}
use Rattle.zt_interests.specs.Chosen.{all_chosen, chosen}
use Rattle.zt_state.proofs.Walks.{drop_item}

-- the first row gives before the others
chosen_first : {A B : Type 0} (p : A → Bool) (give : A → B) (x : A) (xs : List A) → all_chosen p give (x ∷ xs) ≡ chosen p give x ++ all_chosen p give xs
chosen_first p give x xs =
    elim (p x) as (λ b. map give (if b then x ∷ filter p xs else filter p xs) ≡ (if b then give x ∷ [] else []) ++ map give (filter p xs)) [ true ↦ refl | false ↦ refl ]

-- what is given so far and by the rows left is all, one row later too
pub chosen_more : {A B : Type 0} (p : A → Bool) (give : A → B) (xs : List A) (i : ℕ) (x : A) (before after all : List B)
    → i < length xs → x ≡ get_or xs i x
    → before ++ all_chosen p give (drop i xs) ≡ all
    → after ≡ before ++ chosen p give x
    → after ++ all_chosen p give (drop (i + 1) xs) ≡ all
chosen_more p give xs i x before after all within is left more =
    let rest = all_chosen p give (drop (i + 1) xs) in
    ap (λ given. given ++ rest) more
    ∙ append_assoc before (chosen p give x) rest
    ∙ ap (λ given. before ++ given) (sym (chosen_first p give x (drop (i + 1) xs)))
    ∙ ap (λ ys. before ++ all_chosen p give ys) (sym (drop_item xs i x within is))
    ∙ left

-- behind the last row all is given
pub chosen_done : {A B : Type 0} (p : A → Bool) (give : A → B) (xs : List A) (i : ℕ) (before all : List B)
    → length xs ≤ i → before ++ all_chosen p give (drop i xs) ≡ all → before ≡ all
chosen_done p give xs i before all past left =
    sym (append-nil before) ∙ ap (λ ys. before ++ all_chosen p give ys) (sym (drop_all i xs past)) ∙ left

-- the same over a map's rows
pub chosen_one_less : {A B : Type 0} (p : A → Bool) (give : A → B) (rest left : List A) (x : A) (before after all : List B)
    → before ++ all_chosen p give rest ≡ all
    → rest ≡ x ∷ left
    → after ≡ before ++ chosen p give x
    → after ++ all_chosen p give left ≡ all
chosen_one_less p give rest left x before after all so_far first more =
    ap (λ given. given ++ all_chosen p give left) more
    ∙ append_assoc before (chosen p give x) (all_chosen p give left)
    ∙ ap (λ given. before ++ given) (sym (chosen_first p give x left))
    ∙ ap (λ ys. before ++ all_chosen p give ys) (sym first)
    ∙ so_far

pub chosen_all : {A B : Type 0} (p : A → Bool) (give : A → B) (rest : List A) (before all : List B) → rest ≡ [] → before ++ all_chosen p give rest ≡ all → before ≡ all
chosen_all p give rest before all past left = sym (append-nil before) ∙ ap (λ ys. before ++ all_chosen p give ys) (sym past) ∙ left

-- what rows give is sent to a face
pub chosen_sends : {A B : Type 0} (p : A → Bool) (say : A → B) (n : ℕ) (xs : List A) → all_chosen {B = ℕ × B} p (λ x. (n, say x)) xs ≡ map (λ m. (n, m)) (all_chosen p say xs)
chosen_sends p say n xs = sym (map-map (λ m. (n, m)) say (filter p xs))
