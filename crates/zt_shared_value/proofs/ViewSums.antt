-- Sums and facts over all views, where the view of one seat changes.
use Rattle.std.proofs.Common.{◌≡◌, ℕ, zero, suc, ◌+◌, List, [], ◌∷◌, ◌++◌, set, refl, sym, ap, subst, arith}
use Rattle.std.specs.List.{sum_by, AllByRecursion}
use Rattle.std.proofs.lemmas.List.Sums.{sum_by-cons, sum_by-append}
use mathlib.Core.Option.{some, some-injective, some-ne-none}
use lib.ListN.{get_elem?}
use Rattle.zt_shared_value.specs.Views.{total, AllParts}

pub AllByRecursion-map : {X : Type 0} (F G : X → Type 0) → ((x : X) → F x → G x) → (xs : List X) → AllByRecursion F xs → AllByRecursion G xs
AllByRecursion-map F G from [] all = tt
AllByRecursion-map F G from (x ∷ xs) all = (from x all.0, AllByRecursion-map F G from xs all.1)

pub AllByRecursion-both : {X : Type 0} (F G : X → Type 0) (xs : List X) → AllByRecursion F xs → AllByRecursion G xs → AllByRecursion (λ x. F x × G x) xs
AllByRecursion-both F G [] f g = tt
AllByRecursion-both F G (x ∷ xs) f g = ((f.0, g.0), AllByRecursion-both F G xs f.1 g.1)

pub AllByRecursion-join : {X : Type 0} (F : X → Type 0) (xs ys : List X) → AllByRecursion F xs → AllByRecursion F ys → AllByRecursion F (xs ++ ys)
AllByRecursion-join F [] ys f g = g
AllByRecursion-join F (x ∷ xs) ys f g = (f.0, AllByRecursion-join F xs ys f.1 g)

pub AllByRecursion-left : {X : Type 0} (F : X → Type 0) (xs ys : List X) → AllByRecursion F (xs ++ ys) → AllByRecursion F xs
AllByRecursion-left F [] ys f = tt
AllByRecursion-left F (x ∷ xs) ys f = (f.0, AllByRecursion-left F xs ys f.1)

pub AllByRecursion-right : {X : Type 0} (F : X → Type 0) (xs ys : List X) → AllByRecursion F (xs ++ ys) → AllByRecursion F ys
AllByRecursion-right F [] ys f = f
AllByRecursion-right F (x ∷ xs) ys f = AllByRecursion-right F xs ys f.1

module _ {P : Type 0} where
  pub total-cons : (w : P → ℕ) (v : List P) (vs : List (List P)) → total w (v ∷ vs) ≡ sum_by w v + total w vs
  total-cons w v vs = sum_by-cons (λ (parts : List P). sum_by w parts) v vs

  -- what one seat knows weighs this much beside the others
  pub total-others : (w : P → ℕ) (vs : List (List P)) (id : ℕ) (v : List P) → get_elem? vs id ≡ some v
      → total w vs ≡ total w (set vs id []) + sum_by w v
  total-others w [] id v at = absurd (some-ne-none v (sym at))
  total-others w (x ∷ xs) zero v at = let same : x ≡ v = some-injective x v at in
      let one = total-cons w x xs in let other = total-cons w [] xs in let mine : sum_by w x ≡ sum_by w v = ap (sum_by w) same in omega arith
  total-others w (x ∷ xs) (suc id) v at = let rest = total-others w xs id v at in let one = total-cons w x xs in let other = total-cons w x (set xs id []) in omega arith

  pub total-with : (w : P → ℕ) (vs : List (List P)) (id : ℕ) (v new : List P) → get_elem? vs id ≡ some v
      → total w (set vs id new) ≡ total w (set vs id []) + sum_by w new
  total-with w [] id v new at = absurd (some-ne-none v (sym at))
  total-with w (x ∷ xs) zero v new at = let one = total-cons w new xs in let other = total-cons w [] xs in omega arith
  total-with w (x ∷ xs) (suc id) v new at = let rest = total-with w xs id v new at in let one = total-cons w x (set xs id new) in let other = total-cons w x (set xs id []) in omega arith

  pub set-again : (vs : List (List P)) (id : ℕ) (new : List P) → set (set vs id []) id new ≡ set vs id new
  set-again [] id new = refl
  set-again (x ∷ xs) zero new = refl
  set-again (x ∷ xs) (suc id) new = ap (λ ys. x ∷ ys) (set-again xs id new)

  module _ (F : P → Type 0) where
    pub parts-at : (vs : List (List P)) (id : ℕ) (v : List P) → get_elem? vs id ≡ some v → AllParts F vs → AllByRecursion F v
    parts-at [] id v at all = absurd (some-ne-none v (sym at))
    parts-at (x ∷ xs) zero v at all = subst (AllByRecursion F) (some-injective x v at) all.0
    parts-at (x ∷ xs) (suc id) v at all = parts-at xs id v at all.1

    pub parts-set : (vs : List (List P)) (id : ℕ) (new : List P) → AllParts F vs → AllByRecursion F new → AllParts F (set vs id new)
    parts-set [] id new all mine = tt
    parts-set (x ∷ xs) zero new all mine = (mine, all.1)
    parts-set (x ∷ xs) (suc id) new all mine = (all.0, parts-set xs id new all.1 mine)

    -- the facts of the others, and those of the seat's new view
    pub parts-with : (vs : List (List P)) (id : ℕ) (new : List P) → AllParts F (set vs id []) → AllByRecursion F new → AllParts F (set vs id new)
    parts-with vs id new others mine = subst (AllParts F) (set-again vs id new) (parts-set (set vs id []) id new others mine)

  pub parts-map : (F G : P → Type 0) → ((p : P) → F p → G p) → (vs : List (List P)) → AllParts F vs → AllParts G vs
  parts-map F G from vs all = AllByRecursion-map (AllByRecursion F) (AllByRecursion G) (λ v f. AllByRecursion-map F G from v f) vs all

  pub parts-both : (F G : P → Type 0) (vs : List (List P)) → AllParts F vs → AllParts G vs → AllParts (λ p. F p × G p) vs
  parts-both F G [] f g = tt
  parts-both F G (v ∷ vs) f g = (AllByRecursion-both F G v f.0 g.0, parts-both F G vs f.1 g.1)

  -- where a weight comes to nothing, it is nothing at each part
  pub weightless : (w : P → ℕ) (v : List P) → sum_by w v ≡ 0 → AllByRecursion (λ p. w p ≡ 0) v
  weightless w [] none = tt
  weightless w (p ∷ ps) none = let cons = sum_by-cons w p ps in (omega arith, weightless w ps (omega arith))

  pub all-weightless : (w : P → ℕ) (vs : List (List P)) → total w vs ≡ 0 → AllParts (λ p. w p ≡ 0) vs
  all-weightless w [] none = tt
  all-weightless w (v ∷ vs) none = let cons = total-cons w v vs in (weightless w v (omega arith), all-weightless w vs (omega arith))

  pub total-snoc : (w : P → ℕ) (vs : List (List P)) (v : List P) → total w (vs ++ v ∷ []) ≡ total w vs + sum_by w v
  total-snoc w vs v = let both = sum_by-append (λ (parts : List P). sum_by w parts) vs (v ∷ []) in omega arith
