-- Keys that stand once each are at most as many as those that they are among.
use Rattle.std.proofs.Common.{◌≡◌, ℕ, ◌+◌, ◌≤◌, Bool, true, false, not, ◌&&◌, List, [], ◌∷◌, filter, refl, ◌∙◌, arith}
use Rattle.std.specs.Cmp.{IsTotalOrder}
use Rattle.std.specs.List.{list_any}
use Rattle.std.specs.declared.cmp.Ordering.{Ordering}
use Rattle.std.specs.declared.cmp.Ordering.TheVariants.{Equal}
use Rattle.zt_model.specs.Lists.{in_key_order, is_among, same}
use Rattle.zt_model.specs.Transcript.{Each}
use Rattle.zt_laws.specs.Order.{KeysOnce}
use Rattle.zt_laws.proofs.Keys.{among-filter, in_key_order_is, once_in_order}
use Rattle.zt_laws.proofs.Lists.{by_test, each_both, each_fails}
use Rattle.zt_theorem_tree_rest.proofs.Sums.{times, total_filter}

-- what passes a test is at least one, where some member doesn't
pub some_out : {A : Type 0} (n : ℕ) (p : A → Bool) (xs : List A) → list_any p xs ≡ true → times n (filter (λ x. not (p x)) xs) + n ≤ times n xs
some_out n p [] some = cc
some_out n p (x ∷ xs) some =
    let less = total_filter (λ _. n) (λ y. not (p y)) xs in
    by_test (p x)
    (λ here. rw here (omega arith))
    (λ here. let rest = some_out n p xs (rw here at some) in rw here (omega arith))

module _ {K : Type 0} (cmp : K → K → Ordering) (total : IsTotalOrder cmp) (equal_is_same : (a b : K) → cmp a b ≡ Equal → a ≡ b) where
  pub once_within : (n : ℕ) (xs ys : List K) → KeysOnce cmp xs → Each (λ e. is_among cmp e ys ≡ true) xs → times n xs ≤ times n ys
  once_within n [] ys once within = omega arith
  once_within n (x ∷ xs) ys once within =
      let others = filter (λ y. not (same cmp x y)) ys in
      let out = some_out n (same cmp x) ys within.0 in
      let still : Each (λ e. is_among cmp e others ≡ true) xs =
      each_both (λ e. same cmp x e ≡ false) (λ e. is_among cmp e ys ≡ true) (λ e. is_among cmp e others ≡ true)
      (λ e apart there. among-filter cmp total equal_is_same (λ y. not (same cmp x y)) e ys ∙ rw (apart, there) refl) xs (each_fails (same cmp x) xs once.0) within.1 in
      let rest = once_within n xs others once.1 still in
      omega arith

  -- so are the keys of a list, in order
  pub in_order_within : (n : ℕ) (p : K → Bool) (xs ys : List K) → Each (λ e. is_among cmp e ys ≡ true) (filter p (in_key_order cmp xs)) → times n (filter p (in_key_order cmp xs)) ≤ times n ys
  in_order_within n p xs ys within = once_within n (filter p (in_key_order cmp xs)) ys (once_filter p (in_key_order cmp xs) (once_in_order cmp (in_key_order cmp xs) (in_key_order_is cmp total xs))) within
    where
      once_filter : (p : K → Bool) (ks : List K) → KeysOnce cmp ks → KeysOnce cmp (filter p ks)
      once_filter p [] once = tt
      once_filter p (k ∷ ks) once = by_test (p k) (λ here. rw here (missing ks once.0, once_filter p ks once.1)) (λ here. rw here (once_filter p ks once.1))
        where
          missing : (xs : List K) → is_among cmp k xs ≡ false → is_among cmp k (filter p xs) ≡ false
          missing xs none_ = among-filter cmp total equal_is_same p k xs ∙ rw none_ (and_no (p k))
            where
              and_no : (b : Bool) → (b && false) ≡ false
              and_no true = refl
              and_no false = refl
