-- Members of lists found by number, and the place of a face in scripts.
use Rattle.std.proofs.Common.{◌≡◌, ℕ, ◌+◌, ◌-◌, ◌≤◌, Bool, true, false, cond, ◌&&◌, ◌==◌, List, [], ◌∷◌, Some, refl, sym, ap, ◌∙◌, arith, eq-eqb, ne_eqb}
use Rattle.std.specs.List.{list_any}
use Rattle.zt_model.specs.Fabric.{Place, at_nth, number_from}
use Rattle.zt_model.specs.Lists.{first_where, nth}
use Rattle.zt_model.specs.Rows.{Face}
use Rattle.zt_laws.specs.Sound.{is_placed}
use Rattle.zt_laws.proofs.Lists.{by_test, never}
use Rattle.zt_laws.proofs.Places.{number_there, place_is}

-- ---- the face of a number

-- the place of a number in scripts
pub nth_of_number : (i n f : ℕ) (ps : List Place) → is_placed n f ps ≡ true → nth (number_from i n f ps + 1 - i) ps ≡ Some (record { gateway = n; face = f })
unfolding number_from
nth_of_number i n f [] there = never there refl
nth_of_number i n f (p ∷ ps) there =
    by_test ((n == p.gateway) && (f == p.face))
    (λ here.
    let parts = place_is n f p here in
    let first : (i + 1 - i == 1) ≡ true = eq-eqb (i + 1 - i) 1 (omega arith) in
    let one : Some p ≡ Some (record { gateway = n; face = p.face }) = ap (λ k. Some (record { gateway = k; face = p.face })) (sym parts.0) in
    rw (here, first) (one ∙ ap (λ k. Some (record { gateway = n; face = k })) (sym parts.1)))
    (λ here.
    let later : is_placed n f ps ≡ true = rw here at there in
    let up : i + 1 ≤ number_from (i + 1) n f ps = number_there (i + 1) n f ps later in
    let apart : (number_from (i + 1) n f ps + 1 - i == 1) ≡ false = ne_eqb (number_from (i + 1) n f ps + 1 - i) 1 (λ e. omega arith) in
    let down : number_from (i + 1) n f ps + 1 - i - 1 ≡ number_from (i + 1) n f ps + 1 - (i + 1) = omega arith in
    rw (here, apart) (ap (λ k. nth k ps) down ∙ nth_of_number (i + 1) n f ps later))

pub nth-at_nth : {A : Type 0} (n : ℕ) (change : A → A) (xs : List A) (x : A) → nth n xs ≡ Some x → nth n (at_nth n change xs) ≡ Some (change x)
nth-at_nth n change [] x found = cc
nth-at_nth n change (y ∷ xs) x found =
    by_test (n == 1)
    (λ here.
    let e : Some y ≡ Some x = rw here at found in
    let is : y ≡ x = cc in
    ap (λ b. nth n (cond b (change y ∷ xs) (y ∷ at_nth (n - 1) change xs))) here ∙ ap (λ b. cond b (Some (change y)) (nth (n - 1) xs)) here ∙ ap (λ z. Some (change z)) is)
    (λ here.
    ap (λ b. nth n (cond b (change y ∷ xs) (y ∷ at_nth (n - 1) change xs))) here
    ∙ ap (λ b. cond b (Some y) (nth (n - 1) (at_nth (n - 1) change xs))) here
    ∙ nth-at_nth (n - 1) change xs x (rw here at found))

pub found_where : {A : Type 0} (p : A → Bool) (xs : List A) → list_any p xs ≡ true → (x : A) × (first_where p xs ≡ Some x)
found_where p [] some = never some refl
found_where p (x ∷ xs) some =
    by_test (p x) (λ here. rw here (x, refl)) (λ here. rw here (found_where p xs (rw here at some)))

module _ {K : Type 0} where
  -- some face has the number
  abbrev pub has_number : ℕ → List (Face K) → Bool
  has_number k fs = list_any (λ f. k == f.number) fs
