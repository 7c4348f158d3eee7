-- Interests in their order are what they ask for in its order.
use Rattle.std.proofs.Common.{◌≡◌, Bool, List, [], ◌∷◌, Option, Some, None, ap, map, refl, ◌∙◌}
use Rattle.std.specs.FinMap.Entries.{by_order}
use Rattle.std.specs.Option.{option_cmp}
use Rattle.std.specs.Ordering.{nat_cmp, ordering_then}
use Rattle.std.specs.declared.cmp.Ordering.{Ordering}
use Rattle.std.specs.declared.cmp.Ordering.TheVariants.{Less, Equal, Greater}
use Rattle.zt_protocol.specs.declared.interests.InterestOptions.{InterestOptions}
use Rattle.zt_interests.specs.Held.{asking_both}
use Rattle.zt_model.specs.Lists.{with_key}
use Rattle.zt_model.specs.Routing.{expression_order, interest_order}

module _ {A B : Type 0} (f : A → B) (before : A → A → Ordering) (after : B → B → Ordering) (same : (x y : A) → after (f x) (f y) ≡ before x y) where
  -- a key that is put in its place, seen through a map that keeps the order
  pub with_key-map : (e : A) (ks : List A) → map f (with_key before e ks) ≡ with_key after (f e) (map f ks)
  with_key-map e [] = refl
  with_key-map e (k ∷ ks) = let rest = with_key-map e ks in let alike = same e k in rw alike (each rest (before e k))
    where
      each : map f (with_key before e ks) ≡ with_key after (f e) (map f ks) → (o : Ordering)
          → map f (by_order o (e ∷ k ∷ ks) (k ∷ ks) (k ∷ with_key before e ks)) ≡ by_order o (f e ∷ f k ∷ map f ks) (f k ∷ map f ks) (f k ∷ with_key after (f e) (map f ks))
      each rest Less = refl
      each rest Equal = refl
      each rest Greater = ap (λ ys. f k ∷ ys) rest

module _ {K : Type 0} (cmp : K → K → Ordering) (matching : K → K → Bool) where
  abbrev pub asked_cmp : Option K × InterestOptions → Option K × InterestOptions → Ordering
  asked_cmp a b = ordering_then (option_cmp cmp a.0 b.0) (nat_cmp a.1.0 b.1.0)

  expression_alike : (a b : Option K) → expression_order cmp matching a b ≡ option_cmp cmp a b
  expression_alike None None = refl
  expression_alike None (Some b) = refl
  expression_alike (Some a) None = refl
  expression_alike (Some a) (Some b) = refl

  order_alike : (a b : Option K × InterestOptions) → interest_order cmp matching (asking_both a) (asking_both b) ≡ asked_cmp a b
  order_alike a b = ap (λ o. ordering_then o (nat_cmp a.1.0 b.1.0)) (expression_alike a.0 b.0)

  -- an interest that is put in its place
  pub asked-put : (e : Option K × InterestOptions) (ks : List (Option K × InterestOptions)) → map asking_both (with_key asked_cmp e ks) ≡ with_key (interest_order cmp matching) (asking_both e) (map asking_both ks)
  asked-put = with_key-map asking_both asked_cmp (interest_order cmp matching) order_alike
