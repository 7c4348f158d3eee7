-- Expressions that a face is told are gone.
use Rattle.std.proofs.Common.{◌≡◌, ◌+◌, ◌<◌, ◌≤◌, ℕ, Bool, false, not, if◌then◌else◌, List, [], ◌∷◌, ◌++◌, ap, append_assoc, drop, filter, flat_map, get_or, length, map, refl, sym, ◌∙◌}
use Rattle.std.proofs.lemmas.List.{append-nil, drop_all, map-append}
use Rattle.std.specs.declared.cmp.Ordering.{Ordering}
use Rattle.zt_keys.specs.Test.{by_test}
use Rattle.zt_model.specs.Hat.{hat_of_face}
use Rattle.zt_model.specs.Lists.{in_key_order}
use Rattle.zt_model.specs.Routing.{untell_to}
use Rattle.zt_model.specs.Rows.{Face, Rows}
use Rattle.zt_model.specs.Wants.{wants}
use Rattle.zt_interests.specs.Untold.{gone_by_id, untold_of}
use Rattle.zt_state.proofs.Walks.{drop_item}

-- what the members that fail a test give, where each is asked
flat_failing : {A B : Type 0} (p : A → Bool) (give : A → List B) (xs : List A) → flat_map give (filter (λ x. not (p x)) xs) ≡ flat_map (λ x. if p x then [] else give x) xs
flat_failing p give [] = refl
flat_failing p give (x ∷ xs) =
    by_test (p x)
    (λ yes_. rw yes_ (flat_failing p give xs))
    (λ no_. rw no_ (ap (λ given. give x ++ given) (flat_failing p give xs)))

-- a face that isn't told unasked is told so of each expression that it was told, in key order
pub untold_all : {K : Type 0} (cmp : K → K → Ordering) (matching : K → K → Bool) (g : Rows K) (f : Face K) → (hat_of_face g f).is_told_unasked f.region ≡ false
    → untell_to cmp matching g f ≡ flat_map (untold_of cmp matching f) (in_key_order cmp (map (λ row. row.1) f.told))
unfolding untell_to
untold_all cmp matching g f asks = rw asks (flat_failing (wants matching f) (gone_by_id cmp f.told) (in_key_order cmp (map (λ row. row.1) f.told)))

-- what a face is told so far, and of the expressions left, is all, one later too
pub told_more : {A B : Type 0} (n : ℕ) (rule : A → List B) (xs : List A) (i : ℕ) (x : A) (before after all : List (ℕ × B))
    → i < length xs → x ≡ get_or xs i x
    → before ++ map (λ m. (n, m)) (flat_map rule (drop i xs)) ≡ all
    → after ≡ before ++ map (λ m. (n, m)) (rule x)
    → after ++ map (λ m. (n, m)) (flat_map rule (drop (i + 1) xs)) ≡ all
told_more {A} {B} n rule xs i x before after all within is left more =
    let to : List B → List (ℕ × B) = map (λ m. (n, m)) in
    let rest = flat_map rule (drop (i + 1) xs) in
    ap (λ sends. sends ++ to rest) more
    ∙ append_assoc before (to (rule x)) (to rest)
    ∙ ap (λ sends. before ++ sends) (sym (map-append (λ (m : B). (n, m)) (rule x) rest))
    ∙ ap (λ ys. before ++ to (flat_map rule ys)) (sym (drop_item xs i x within is))
    ∙ left

-- behind the last expression all is told
pub told_done : {A B : Type 0} (n : ℕ) (rule : A → List B) (xs : List A) (i : ℕ) (before all : List (ℕ × B))
    → length xs ≤ i → before ++ map (λ m. (n, m)) (flat_map rule (drop i xs)) ≡ all → before ≡ all
told_done n rule xs i before all past left =
    sym (append-nil before) ∙ ap (λ ys. before ++ map (λ m. (n, m)) (flat_map rule ys)) (sym (drop_all i xs past)) ∙ left
