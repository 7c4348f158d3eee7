-- Loops over faces, each of which is sent what a rule gives for it.
use Rattle.std.proofs.Common.{◌≡◌, ◌+◌, ◌<◌, ◌≤◌, ℕ, suc, List, [], ◌∷◌, ◌++◌, add-one, ap, append_assoc, drop, get_or, length, map, sym, take, ◌∙◌}
use Rattle.std.proofs.Math.Seq.{drop-cons}
use Rattle.std.proofs.lemmas.List.{append-nil, drop_all, take-append-le, take_all}
use Rattle.zt_protocol.specs.declared.messages.Message.{Message}
use Rattle.zt_model.specs.Parts.{Sends, to_each}
use Rattle.zt_model.specs.Rows.{Face}

-- what is left at an index begins with the item there
pub drop_item : {A : Type 0} (xs : List A) (i : ℕ) (x : A) → i < length xs → x ≡ get_or xs i x → drop i xs ≡ x ∷ drop (i + 1) xs
drop_item xs i x lt is = rw add-one (drop-cons xs i x lt ∙ ap (λ y. y ∷ drop (suc i) xs) (sym is))

-- what is sent so far and to the faces left is all, one face later too
pub to_each_more : {K : Type 0} (rule : Face K → List (Message K)) (rest left : List (Face K)) (f : Face K) (before after all : Sends K)
    → rest ≡ f ∷ left
    → before ++ to_each rule rest ≡ all
    → after ≡ before ++ map (λ m. (f.number, m)) (rule f)
    → after ++ to_each rule left ≡ all
unfolding to_each
to_each_more rule rest left f before after all first so_far more =
    ap (λ sends. sends ++ to_each rule left) more
    ∙ append_assoc before (map (λ m. (f.number, m)) (rule f)) (to_each rule left)
    ∙ ap (λ gs. before ++ to_each rule gs) (sym first)
    ∙ so_far

-- behind the last face all is sent
pub to_each_done : {K : Type 0} (rule : Face K → List (Message K)) (rest : List (Face K)) (before all : Sends K)
    → rest ≡ [] → before ++ to_each rule rest ≡ all → before ≡ all
unfolding to_each
to_each_done rule rest before all past so_far =
    sym (append-nil before) ∙ ap (λ gs. before ++ to_each rule gs) (sym past) ∙ so_far

-- behind the last element all are changed, and the part of a vector that was lent is whole
pub map_over_done : {X : Type 0} (change : X → X) (xs ys : List X) (i n : ℕ) → length xs ≤ i → n ≤ length ys → length ys ≤ n
    → ys ≡ map change (take i xs) ++ drop i xs → take n (ys ++ drop (length ys) xs) ≡ map change xs
map_over_done change xs ys i n past within whole is =
    take-append-le n ys (drop (length ys) xs) within
    ∙ take_all n ys whole
    ∙ is
    ∙ ap (λ zs. map change zs ++ drop i xs) (take_all i xs past)
    ∙ ap (λ zs. map change xs ++ zs) (drop_all i xs past)
    ∙ append-nil (map change xs)
