-- Small words on lists of rows.
use Rattle.std.specs.Prelude.{ℕ, Bool, false, ◌==◌, ◌-◌, not, if◌then◌else◌, List, [], ◌∷◌, Option, Some, None, filter}
use Rattle.std.specs.List.{list_any}
use Rattle.std.specs.Ordering.{is_eq}
use Rattle.std.specs.declared.cmp.Ordering.{Ordering}
use Rattle.std.specs.FinMap.Entries.{by_order}

-- the first row that passes a test
abbrev pub first_where : {A : Type 0} → (A → Bool) → List A → Option A
first_where p [] = None
first_where p (x ∷ xs) = if p x then Some x else first_where p xs

-- the first of a list, and the others
abbrev pub first_of : {A : Type 0} → List A → Option A
first_of [] = None
first_of (x ∷ xs) = Some x

abbrev pub rest_of : {A : Type 0} → List A → List A
rest_of [] = []
rest_of (x ∷ xs) = xs

-- the row under an id
abbrev pub at_id : {A : Type 0} → ℕ → List (ℕ × A) → Option A
at_id id [] = None
at_id id (row ∷ rows) = if id == row.0 then Some row.1 else at_id id rows

abbrev pub has_id : {A : Type 0} → ℕ → List (ℕ × A) → Bool
has_id id rows = list_any (λ row. id == row.0) rows

-- the rows but those under an id
abbrev pub without_id : {A : Type 0} → ℕ → List (ℕ × A) → List (ℕ × A)
without_id id rows = filter (λ row. not (id == row.0)) rows

-- the answer of a test, and no where there is nothing to test
abbrev pub is_some_and : {A : Type 0} → Option A → (A → Bool) → Bool
is_some_and None p = false
is_some_and (Some x) p = p x

-- the member at a position from 1
abbrev pub nth : {A : Type 0} → ℕ → List A → Option A
nth n [] = None
nth n (x ∷ xs) = if n == 1 then Some x else nth (n - 1) xs

module _ {K : Type 0} (cmp : K → K → Ordering) where
  -- whether two keys are one
  abbrev pub same : K → K → Bool
  same a b = is_eq (cmp a b)

  abbrev pub is_among : K → List K → Bool
  is_among e es = list_any (same e) es

  -- a key in its place among keys in order, each once
  abbrev pub with_key : K → List K → List K
  with_key e [] = e ∷ []
  with_key e (k ∷ ks) = by_order (cmp e k) (e ∷ k ∷ ks) (k ∷ ks) (k ∷ with_key e ks)

  -- the keys of a list in order, each once
  abbrev pub in_key_order : List K → List K
  in_key_order [] = []
  in_key_order (e ∷ es) = with_key e (in_key_order es)
