-- Lists with one more.
use Rattle.std.proofs.Common.{◌≡◌, Bool, true, false, not, List, [], ◌∷◌, ◌++◌, ap, append_assoc, filter, map, refl, subst, sym, ◌∙◌}
use Rattle.std.proofs.lemmas.List.{map-append}
use Rattle.std.specs.List.{AllByRecursion, list_any}
use Rattle.std.specs.List.Sorted.{IsStrictlySortedBy}
use Rattle.std.specs.Cmp.{IsTotalOrder}
use Rattle.std.specs.Ordering.{is_eq}
use Rattle.std.specs.Set.{remove_key}
use Rattle.std.specs.declared.cmp.Ordering.{Ordering}
use Rattle.std.specs.declared.cmp.Ordering.TheVariants.{Less, Equal, Greater}
use Rattle.zt_keys.specs.Test.{by_test}
use Rattle.zt_model.specs.Lists.{in_key_order, with_key}
use Rattle.zt_link_state.specs.More.{HasOneMore, IsMoreBy}

module _ {A : Type 0} where
  pub more-before : {x : A} (zs xs ys : List A) → HasOneMore x xs ys → HasOneMore x (xs ++ zs) (ys ++ zs)
  more-before {x} zs xs ys more = record {
    front = more.front;
    back = more.back ++ zs;
    others = ap (λ l. l ++ zs) more.others ∙ append_assoc more.front more.back zs;
    whole = ap (λ l. l ++ zs) more.whole ∙ append_assoc more.front (x ∷ more.back) zs;
  }

  pub more-behind : {x : A} (zs xs ys : List A) → HasOneMore x xs ys → HasOneMore x (zs ++ xs) (zs ++ ys)
  more-behind {x} zs xs ys more = record {
    front = zs ++ more.front;
    back = more.back;
    others = ap (λ l. zs ++ l) more.others ∙ sym (append_assoc zs more.front more.back);
    whole = ap (λ l. zs ++ l) more.whole ∙ sym (append_assoc zs more.front (x ∷ more.back));
  }

  pub more-mapped : {B : Type 0} (f : A → B) (x : A) (xs ys : List A) → HasOneMore x xs ys → HasOneMore (f x) (map f xs) (map f ys)
  more-mapped f x xs ys more = record {
    front = map f more.front;
    back = map f more.back;
    others = ap (map f) more.others ∙ map-append f more.front more.back;
    whole = ap (map f) more.whole ∙ map-append f more.front (x ∷ more.back);
  }

module _ {K : Type 0} (cmp : K → K → Ordering) where
  more-first : (x k : K) (xs ys : List K) → HasOneMore x xs ys → HasOneMore x (k ∷ xs) (k ∷ ys)
  more-first x k xs ys more = more-behind (k ∷ []) xs ys more

  -- a key that isn't there is one more in its place
  pub more-with : (x : K) (xs : List K) → list_any (λ y. is_eq (cmp x y)) xs ≡ false → HasOneMore x xs (with_key cmp x xs)
  more-with x [] none = record { front = []; back = []; others = refl; whole = refl }
  more-with x (y ∷ ys) none =
      by_cases (cmp x y)
      (λ t. rw t (record { front = []; back = y ∷ ys; others = refl; whole = refl }))
      (λ t. never (rw t at none))
      (λ t. rw t (more-first x y ys (with_key cmp x ys) (more-with x ys (rw t at none))))
    where
      by_cases : {G : Type 0} (r : Ordering) → (r ≡ Less → G) → (r ≡ Equal → G) → (r ≡ Greater → G) → G
      by_cases Less l e g = l refl
      by_cases Equal l e g = e refl
      by_cases Greater l e g = g refl

      never : {G : Type 0} → true ≡ false → G
      never h = cc

  -- one more, if it is new
  pub more-by : (is_new : Bool) (x : K) (old new : List K) → is_new ≡ not (list_any (λ y. is_eq (cmp x y)) old) → new ≡ with_key cmp x old → (is_new ≡ false → new ≡ old) → IsMoreBy is_new x old new
  more-by true x old new said is same = subst (HasOneMore x old) (sym is) (more-with x old (turned (list_any (λ y. is_eq (cmp x y)) old) said))
    where
      turned : (b : Bool) → true ≡ not b → b ≡ false
      turned true h = cc
      turned false h = refl
  more-by false x old new said is same = same refl

  module _ (one : (a b : K) → cmp a b ≡ Equal → a ≡ b) where
    equal-from : (r : Ordering) → is_eq r ≡ true → r ≡ Equal
    equal-from Less h = cc
    equal-from Equal h = refl
    equal-from Greater h = cc

    pub less-without : (x : K) (xs : List K) → list_any (λ y. is_eq (cmp x y)) xs ≡ true → HasOneMore x (remove_key (λ y. is_eq (cmp x y)) xs) xs
    less-without x [] there = cc
    less-without x (y ∷ ys) there =
        by_test (is_eq (cmp x y))
        (λ t. rw t (record { front = []; back = ys; others = refl; whole = ap (λ z. z ∷ ys) (sym (one x y (equal-from (cmp x y) t))) }))
        (λ t. rw t (more-first x y (remove_key (λ z. is_eq (cmp x z)) ys) ys (less-without x ys (rw t at there))))

  module _ (total : IsTotalOrder cmp) where
    none-gone : (x y : K) (ys : List K) → cmp x y ≡ Equal → AllByRecursion (λ z. cmp y z ≡ Less) ys → filter (λ z. not (is_eq (cmp x z))) ys ≡ ys
    none-gone x y [] tied all = refl
    none-gone x y (z ∷ zs) tied all = let is = total.congr x y z tied ∙ all.0 in rw is (ap (λ l. z ∷ l) (none-gone x y zs tied all.1))

    -- of keys in order the first that ties is the only one
    pub removed-filter : (x : K) (xs : List K) → IsStrictlySortedBy cmp xs → remove_key (λ y. is_eq (cmp x y)) xs ≡ filter (λ y. not (is_eq (cmp x y))) xs
    unfolding IsStrictlySortedBy
    removed-filter x [] sorted = refl
    removed-filter x (y ∷ ys) sorted =
        by_test (is_eq (cmp x y))
        (λ t. rw t (sym (none-gone x y ys (tied (cmp x y) t) sorted.0)))
        (λ t. rw t (ap (λ l. y ∷ l) (removed-filter x ys sorted.1)))
      where
        tied : (r : Ordering) → is_eq r ≡ true → r ≡ Equal
        tied Less h = cc
        tied Equal h = refl
        tied Greater h = cc

  -- keys in order are in order already
  first-with : (x : K) (xs : List K) → AllByRecursion (λ y. cmp x y ≡ Less) xs → with_key cmp x xs ≡ x ∷ xs
  first-with x [] all = refl
  first-with x (y ∷ ys) all = let is = all.0 in rw is refl

  pub in-order-already : (xs : List K) → IsStrictlySortedBy cmp xs → in_key_order cmp xs ≡ xs
  unfolding IsStrictlySortedBy
  in-order-already [] sorted = refl
  in-order-already (x ∷ xs) sorted = ap (with_key cmp x) (in-order-already xs sorted.1) ∙ first-with x xs sorted.0
