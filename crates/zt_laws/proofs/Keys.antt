-- Keys by their order: what is the same key, and lists of keys in order, each once.
use Rattle.std.proofs.Common.{◌≡◌, Bool, true, false, ◌&&◌, ◌||◌, List, [], ◌∷◌, filter, refl, sym, ap, ◌∙◌}
use Rattle.std.specs.Cmp.{IsTotalOrder}
use Rattle.std.specs.List.{list_any}
use Rattle.std.specs.Ordering.{is_eq, ordering_reverse}
use Rattle.std.specs.declared.cmp.Ordering.{Ordering}
use Rattle.std.specs.declared.cmp.Ordering.TheVariants.{Less, Equal, Greater}
use Rattle.std.specs.FinMap.Entries.{by_order}
use Rattle.std.proofs.lemmas.Cmp.{tied_itself, alike_right}
use Rattle.zt_model.specs.Lists.{same, is_among, with_key, in_key_order}
use Rattle.zt_model.specs.Transcript.{Each}
pub use Rattle.zt_laws.specs.Order.{InKeyOrder, KeysOnce}
use Rattle.zt_laws.proofs.Lists.{by_test, each_weaker, each_filter, any_none, any_alike, any-filter}

pub is_equal : (o : Ordering) → is_eq o ≡ true → o ≡ Equal
is_equal Less h = cc
is_equal Equal h = refl
is_equal Greater h = cc

is_eq-reverse : (o : Ordering) → is_eq (ordering_reverse o) ≡ is_eq o
is_eq-reverse Less = refl
is_eq-reverse Equal = refl
is_eq-reverse Greater = refl

pub any_and : {A : Type 0} (b : Bool) (p : A → Bool) (xs : List A) → list_any (λ x. b && p x) xs ≡ (b && list_any p xs)
any_and true p xs = refl
any_and false p [] = refl
any_and false p (x ∷ xs) = any_and false p xs

pub and_back : (a b : Bool) → (a && b) ≡ (b && a)
and_back true true = refl
and_back true false = refl
and_back false true = refl
and_back false false = refl

or_swap : (a b c : Bool) → (a || (b || c)) ≡ (b || (a || c))
or_swap true true c = refl
or_swap true false c = refl
or_swap false b c = refl

or_twice : (a c : Bool) → (a || c) ≡ (a || (a || c))
or_twice true c = refl
or_twice false c = refl

module _ {K : Type 0} (cmp : K → K → Ordering) where
  pub once_in_order : (ks : List K) → InKeyOrder cmp ks → KeysOnce cmp ks
  once_in_order [] ordered = tt
  once_in_order (k ∷ ks) ordered =
      (any_none (same cmp k) ks (each_weaker (λ x. cmp k x ≡ Less) (λ x. same cmp k x ≡ false) (λ x h. ap is_eq h) ks ordered.0), once_in_order ks ordered.1)

  pub in_order_filter : (p : K → Bool) (ks : List K) → InKeyOrder cmp ks → InKeyOrder cmp (filter p ks)
  in_order_filter p [] ordered = tt
  in_order_filter p (k ∷ ks) ordered =
      by_test (p k)
      (λ here. rw here (each_filter (λ x. cmp k x ≡ Less) p ks ordered.0, in_order_filter p ks ordered.1))
      (λ here. rw here (in_order_filter p ks ordered.1))

  each_with_key : (P : K → Type 0) (e : K) (ks : List K) → P e → Each P ks → Each P (with_key cmp e ks)
  each_with_key P e [] h all = (h, tt)
  each_with_key P e (k ∷ ks) h all =
      elim (cmp e k) as (λ o. Each P (by_order o (e ∷ k ∷ ks) (k ∷ ks) (k ∷ with_key cmp e ks))) [
        | Less ↦ (h, all)
        | Equal ↦ all
        | Greater ↦ (all.0, each_with_key P e ks h all.1)
      ]

  module _ (total : IsTotalOrder cmp) where
    pub same_itself : (a : K) → same cmp a a ≡ true
    same_itself a = ap is_eq (tied_itself total a)

    pub same_back : (a b : K) → same cmp a b ≡ same cmp b a
    same_back a b = ap is_eq (total.antisymm a b) ∙ is_eq-reverse (cmp b a)

    -- a key that is the same as another is so to each third
    pub same_left : (a b x : K) → same cmp a b ≡ true → same cmp a x ≡ same cmp b x
    same_left a b x h = ap is_eq (total.congr a b x (is_equal (cmp a b) h))

    pub in_order_with_key : (e : K) (ks : List K) → InKeyOrder cmp ks → InKeyOrder cmp (with_key cmp e ks)
    in_order_with_key e [] ordered = (tt, tt)
    in_order_with_key e (k ∷ ks) ordered =
        elim (cmp e k) as (λ o. cmp e k ≡ o → InKeyOrder cmp (by_order o (e ∷ k ∷ ks) (k ∷ ks) (k ∷ with_key cmp e ks))) [
          | Less ↦ λ h. ((h, each_weaker (λ x. cmp k x ≡ Less) (λ x. cmp e x ≡ Less) (λ x more. total.trans e k x h more) ks ordered.0), ordered)
          | Equal ↦ λ h. ordered
          | Greater ↦ λ h. (each_with_key (λ x. cmp k x ≡ Less) e ks (total.antisymm k e ∙ ap ordering_reverse h) ordered.0, in_order_with_key e ks ordered.1)
        ] refl

    pub in_key_order_is : (es : List K) → InKeyOrder cmp (in_key_order cmp es)
    in_key_order_is [] = tt
    in_key_order_is (e ∷ es) = in_order_with_key e (in_key_order cmp es) (in_key_order_is es)

    among-with_key : (x e : K) (ks : List K) → is_among cmp x (with_key cmp e ks) ≡ (same cmp x e || is_among cmp x ks)
    among-with_key x e [] = refl
    among-with_key x e (k ∷ ks) =
        elim (cmp e k) as (λ o. cmp e k ≡ o → is_among cmp x (by_order o (e ∷ k ∷ ks) (k ∷ ks) (k ∷ with_key cmp e ks)) ≡ (same cmp x e || is_among cmp x (k ∷ ks))) [
          | Less ↦ λ h. refl
          | Equal ↦ λ h. or_twice (same cmp x k) (is_among cmp x ks) ∙ ap (λ o. is_eq o || is_among cmp x (k ∷ ks)) (sym (alike_right total e k x h))
          | Greater ↦ λ h. ap (λ b. same cmp x k || b) (among-with_key x e ks) ∙ or_swap (same cmp x k) (same cmp x e) (is_among cmp x ks)
        ] refl

    pub among-in_key_order : (x : K) (es : List K) → is_among cmp x (in_key_order cmp es) ≡ is_among cmp x es
    among-in_key_order x [] = refl
    among-in_key_order x (e ∷ es) = among-with_key x e (in_key_order cmp es) ∙ ap (λ b. same cmp x e || b) (among-in_key_order x es)

    module _ (equal_is_same : (a b : K) → cmp a b ≡ Equal → a ≡ b) where
      pub same_is : (a b : K) → same cmp a b ≡ true → a ≡ b
      same_is a b h = equal_is_same a b (is_equal (cmp a b) h)

      -- a filter keeps of a key what it says of it
      pub among-filter : (p : K → Bool) (x : K) (es : List K) → is_among cmp x (filter p es) ≡ (p x && is_among cmp x es)
      among-filter p x es =
          any-filter (same cmp x) p es
          ∙ any_alike (λ k. p k && same cmp x k) (λ k. p x && same cmp x k)
          (λ k. by_test (same cmp x k)
          (λ here. ap (λ j. p j && same cmp x k) (sym (same_is x k here)))
          (λ here. rw here (and_back (p k) false ∙ and_back false (p x))))
          es
          ∙ any_and (p x) (same cmp x) es
