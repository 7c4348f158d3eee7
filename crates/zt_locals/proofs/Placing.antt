-- What stands at the place that a search finds.
use Rattle.std.specs.Prelude.{◌≡◌, ℕ, suc, List, [], ◌∷◌, Some, Result, Ok, Err, refl}
use Rattle.std.specs.declared.cmp.Ordering.{Ordering}
use Rattle.std.specs.declared.cmp.Ordering.TheVariants.{Equal}
use Rattle.std.specs.Cmp.{IsTotalOrder}
use Rattle.std.specs.FinMap.Entries.{find}
use Rattle.std.proofs.Common.{ap, sym, ◌∙◌, get_or}
use Rattle.zt_ordered.specs.Test.{by_ordering}
use Rattle.zt_ordered.specs.Placing.{place-in_range, find-place}
use Rattle.zt_ordered.specs.Rows.{place, next_place}
use Rattle.zt_locals.proofs.Items.{item_at}

next_is : (r : Result ℕ ℕ) (i : ℕ) → next_place r ≡ Ok i → (j : ℕ) × (r ≡ Ok j) × (i ≡ suc j)
next_is (Ok j) i h = (j, refl, cc)
next_is (Err j) i h = cc

-- its key ties with the one that was looked for
place-tied : {P X : Type 0} (cmp : P → P → Ordering) (q : P) (es : List (P × X)) (i : ℕ) (d : P × X) → place cmp q es ≡ Ok i → cmp q (get_or es i d).0 ≡ Equal
place-tied cmp q [] i d h = cc
place-tied cmp q (e ∷ es) i d h =
    by_ordering (cmp q e.0)
    (λ p. let below : Err 0 ≡ Ok i = rw p at h in cc)
    (λ p. let here : Ok 0 ≡ Ok i = rw p at h in let z : 0 ≡ i = cc in rw (← z) p)
    (λ p. let next = next_is (place cmp q es) i (rw p at h) in rw (next.2) (place-tied cmp q es next.0 d next.1))

-- what is found is what stands there
pub find_at : {P X : Type 0} (cmp : P → P → Ordering) (o : IsTotalOrder cmp) (key : P) (rows : List (P × X)) (at : ℕ) (row : P × X) → place cmp key rows ≡ Ok at → row ≡ get_or rows at row → find cmp key rows ≡ Some row.1
find_at {P} {X} cmp o key rows at row is there = find-place cmp o key rows at row is ∙ ap (λ (r : P × X). Some r.1) (sym there)

-- its key is the one that was looked for, where keys that tie are one
pub key_at : {P X : Type 0} (cmp : P → P → Ordering) (one : (a b : P) → cmp a b ≡ Equal → a ≡ b) (key : P) (rows : List (P × X)) (at : ℕ) (row : P × X) → place cmp key rows ≡ Ok at → row ≡ get_or rows at row → key ≡ row.0
key_at {P} {X} cmp one key rows at row is there = one key row.0 (ap (λ (r : P × X). cmp key r.0) there ∙ place-tied cmp key rows at row is)

-- the row that is found, where keys that tie are one
pub found_row :
    {P X : Type 0} (cmp : P → P → Ordering) (o : IsTotalOrder cmp) (one : (a b : P) → cmp a b ≡ Equal → a ≡ b) (key : P) (rows : List (P × X)) (at : ℕ) → place cmp key rows ≡ Ok at
    → (row : P × X) × (row ≡ get_or rows at row) × (find cmp key rows ≡ Some row.1) × (key ≡ row.0)
found_row cmp o one key rows at is =
    let item = item_at rows at (place-in_range cmp o key rows at is) in
    (item.0, item.1, find_at cmp o key rows at item.0 is item.1, key_at cmp one key rows at item.0 is item.1)
