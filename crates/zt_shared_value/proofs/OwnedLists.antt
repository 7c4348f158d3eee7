-- What a pass has entered in a journal that grows.
use Rattle.std.proofs.Common.{◌≡◌, ℕ, suc, ◌+◌, ◌<◌, ◌≢◌, ◌==◌, Bool, true, false, List, [], ◌∷◌, ◌++◌, length, refl, ap, arith, zero, Some, Option, slice_get, ◌∙◌}
use Rattle.std.proofs.lemmas.List.{append-nil}
use Rattle.std.specs.List.{AllByRecursion}
use Rattle.std.proofs.lemmas.Bool.{eq-eqb, ne_eqb}
use Rattle.std.specs.Option.{unwrap_or}
use Rattle.zt_shared_value.specs.Owned.{with_owned, owned_from, owned}

module _ {E : Type 0} (author : E → ℕ) where
  with_owned-append : (b : Bool) (e : ℕ × E) (xs ys : List (ℕ × E)) → with_owned b e (xs ++ ys) ≡ with_owned b e xs ++ ys
  with_owned-append true e xs ys = refl
  with_owned-append false e xs ys = refl

  pub owned_from-append : (k n : ℕ) (xs ys : List E) → owned_from author k n (xs ++ ys) ≡ owned_from author k n xs ++ owned_from author (k + length xs) n ys
  owned_from-append k n [] ys = ap (λ (i : ℕ). owned_from author i n ys) (omega arith)
  owned_from-append k n (x ∷ xs) ys =
      let rest = owned_from-append (k + 1) n xs ys in
      let place : (k + 1) + length xs ≡ k + suc (length xs) = omega arith in
      rw rest (rw place (with_owned-append (author x == n) (k, x) (owned_from author (k + 1) n xs) _))

  -- an entry of another pass
  pub owned-other : (n : ℕ) (xs : List E) (e : E) → author e ≢ n → owned author n (xs ++ e ∷ []) ≡ owned author n xs
  owned-other n xs e other = rw (owned_from-append 0 n xs (e ∷ []), ne_eqb (author e) n other) (append-nil _)

  -- an entry of its own
  pub owned-more : (n : ℕ) (xs : List E) (e : E) → author e ≡ n → owned author n (xs ++ e ∷ []) ≡ owned author n xs ++ (length xs, e) ∷ []
  owned-more n xs e own = rw (owned_from-append 0 n xs (e ∷ []), eq-eqb (author e) n own) (ap (λ (k : ℕ). owned author n xs ++ (k, e) ∷ []) (omega arith))

  -- a number that no entry bears
  pub owned-none : (k n : ℕ) (xs : List E) → AllByRecursion (λ e. author e < n) xs → owned_from author k n xs ≡ []
  owned-none k n [] below = refl
  owned-none k n (x ∷ xs) below = rw (ne_eqb (author x) n (λ e. omega arith)) (owned-none (k + 1) n xs below.1)

stands-here : {E : Type 0} (k place : ℕ) (e entry : E) (es : List E) (others : List (ℕ × E))
    → ((i : ℕ) → slice_get others i ≡ Some (place, entry) → (j : ℕ) × ((place ≡ (k + 1) + j) × (slice_get es j ≡ Some entry)))
    → (b : Bool) (i : ℕ) → slice_get (with_owned b (k, e) others) i ≡ Some (place, entry) → (j : ℕ) × ((place ≡ k + j) × (slice_get (e ∷ es) j ≡ Some entry))
stands-here {E} k place e entry es others later true zero at = let same : k ≡ place = ap (λ (found : Option (ℕ × E)). (unwrap_or found (k, e)).0) at in
    let is : e ≡ entry = ap (λ (found : Option (ℕ × E)). (unwrap_or found (k, e)).1) at in (0, ((omega arith), ap Some is))
stands-here k place e entry es others later true (suc i) at = let rest = later i at in let far = rest.1.0 in (suc rest.0, ((omega arith), rest.1.1))
stands-here k place e entry es others later false i at = let rest = later i at in let far = rest.1.0 in (suc rest.0, ((omega arith), rest.1.1))

-- what a pass has entered stands at its place
owned-stands : {E : Type 0} (author : E → ℕ) (k n : ℕ) (log : List E) (i place : ℕ) (entry : E) → slice_get (owned_from author k n log) i ≡ Some (place, entry)
    → (j : ℕ) × ((place ≡ k + j) × (slice_get log j ≡ Some entry))
owned-stands author k n [] i place entry at = absurd cc
owned-stands author k n (e ∷ es) i place entry at = stands-here k place e entry es (owned_from author (k + 1) n es)
    (λ m there. owned-stands author (k + 1) n es m place entry there) (author e == n) i at

pub owned-at : {E : Type 0} (author : E → ℕ) (n : ℕ) (log : List E) (i place : ℕ) (entry : E) → slice_get (owned author n log) i ≡ Some (place, entry) → slice_get log place ≡ Some entry
owned-at author n log i place entry at = let found = owned-stands author 0 n log i place entry at in
    let same : place ≡ found.0 = let far = found.1.0 in omega arith in ap (slice_get log) same ∙ found.1.1
