-- Sets of keys of which one stands apart.
use Rattle.std.proofs.Common.{◌≡◌, Bool, true, false, ◌&&◌, ◌||◌, cond, if◌then◌else◌, List, [], ◌∷◌, ◌++◌, Option, Some, None, refl, sym, ap, ◌∙◌}
use Rattle.std.proofs.lemmas.List.Folds.{list_any-append}
use Rattle.std.specs.BTreeMap.{is_at}
use Rattle.std.specs.Cmp.{IsTotalOrder, eq_by_cmp_equiv}
use Rattle.std.specs.Ordering.{is_eq}
use Rattle.std.specs.declared.cmp.Ordering.{Ordering}
use Rattle.zt_keys.specs.Test.{by_test}
use Rattle.zt_indexes.specs.Grouped.{as_list, equal-from, is_in}

pub or_false : (a : Bool) → (a || false) ≡ a
or_false true = refl
or_false false = refl

pub and_none : (b : Bool) → (b && false) ≡ false
and_none true = refl
and_none false = refl

never : (b : Bool) → false ≡ (if b then false else false)
never true = refl
never false = refl

or-test : (a b i : Bool) → a ≡ b → (a || i) ≡ (if b then true else i)
or-test true true i h = refl
or-test true false i h = cc
or-test false true i h = cc
or-test false false i h = refl

put-late : (one b more : Bool) → (one || (if b then true else more)) ≡ (if b then true else (one || more))
put-late true true more = refl
put-late true false more = refl
put-late false b more = refl

gone-both : (one b more : Bool) → ((if b then false else one) || (if b then false else more)) ≡ (if b then false else (one || more))
gone-both one true more = refl
gone-both one false more = refl

put-last : (was a b : Bool) → a ≡ b → (was || (a || false)) ≡ (if b && true then true else was)
put-last true true true h = refl
put-last true false false h = refl
put-last false true true h = refl
put-last false false false h = refl
put-last was true false h = cc
put-last was false true h = cc

none-put : (b was : Bool) → was ≡ (if b && false then true else was)
none-put true was = refl
none-put false was = refl

pub both-gathered : (found one more sought : Bool) → ((found || (one && sought)) || (more && sought)) ≡ (found || ((one || more) && sought))
both-gathered true one more sought = refl
both-gathered false false more sought = refl
both-gathered false true more true = refl
both-gathered false true more false = and_none more

module _ {K : Type 0} (cmp : K → K → Ordering) (o : IsTotalOrder cmp) where
  turned : (q key : K) → is_at (cmp q) key ≡ is_at (cmp key) q
  turned q key = (eq_by_cmp_equiv o).symm q key

  pub in-both : (q : K) (xs ys : List K) → is_in cmp q (xs ++ ys) ≡ (is_in cmp q xs || is_in cmp q ys)
  in-both q xs ys = list_any-append (is_at (cmp q)) xs ys

  -- a key at the end, or none
  pub in-added : (added : Bool) (q key : K) (keys : List K) → is_in cmp q (if added then keys ++ key ∷ [] else keys) ≡ (if is_at (cmp key) q && added then true else is_in cmp q keys)
  in-added true q key keys = in-both q keys (key ∷ []) ∙ put-last (is_in cmp q keys) (is_at (cmp q) key) (is_at (cmp key) q) (turned q key)
  in-added false q key keys = none-put (is_at (cmp key) q) (is_in cmp q keys)

  -- the first key
  pub put-one : (key : K) (more : List K) (q : K) → is_in cmp q (key ∷ more) ≡ (if is_at (cmp key) q then true else is_in cmp q more)
  put-one key more q = or-test (is_at (cmp q) key) (is_at (cmp key) q) (is_in cmp q more) (turned q key)

  -- one of the others
  pub put-more : (one : Option K) (key : K) (old new : List K) → ((q : K) → is_in cmp q new ≡ cond (is_at (cmp key) q) true (is_in cmp q old))
      → (q : K) → is_in cmp q (as_list one ++ new) ≡ (if is_at (cmp key) q then true else is_in cmp q (as_list one ++ old))
  put-more one key old new puts q =
      in-both q (as_list one) new ∙ ap (λ b. is_in cmp q (as_list one) || b) (puts q)
      ∙ put-late (is_in cmp q (as_list one)) (is_at (cmp key) q) (is_in cmp q old)
      ∙ ap (λ b. if is_at (cmp key) q then true else b) (sym (in-both q (as_list one) old))

  -- a key goes, wherever it stood
  pub drop-both : (one left : Option K) (key : K) (old new : List K)
      → ((q : K) → is_in cmp q (as_list left) ≡ (if is_at (cmp key) q then false else is_in cmp q (as_list one)))
      → ((q : K) → is_in cmp q new ≡ cond (is_at (cmp key) q) false (is_in cmp q old))
      → (q : K) → is_in cmp q (as_list left ++ new) ≡ (if is_at (cmp key) q then false else is_in cmp q (as_list one ++ old))
  drop-both one left key old new first others q =
      in-both q (as_list left) new ∙ (λ i. first q i || others q i)
      ∙ gone-both (is_in cmp q (as_list one)) (is_at (cmp key) q) (is_in cmp q old)
      ∙ ap (λ b. if is_at (cmp key) q then false else b) (sym (in-both q (as_list one) old))

  -- the one is the key, or isn't
  pub one-gone : (one : Option K) (key : K) → is_in cmp key (as_list one) ≡ true → (q : K) → false ≡ (if is_at (cmp key) q then false else is_in cmp q (as_list one))
  one-gone None key is q = cc
  one-gone (Some k) key is q =
      by_test (is_at (cmp key) q)
      (λ t. rw t refl)
      (λ t.
      let tie = equal-from (cmp key k) (sym (or_false (is_at (cmp key) k)) ∙ is) in
      let apart : is_at (cmp q) k ≡ false = turned q k ∙ sym (ap is_eq (o.congr key k q tie)) ∙ t in
      rw (t, apart) refl)

  pub one-kept : (one : Option K) (key : K) → is_in cmp key (as_list one) ≡ false → (q : K) → is_in cmp q (as_list one) ≡ (if is_at (cmp key) q then false else is_in cmp q (as_list one))
  one-kept None key is q = never (is_at (cmp key) q)
  one-kept (Some k) key is q =
      by_test (is_at (cmp key) q)
      (λ t.
      let apart : is_at (cmp q) k ≡ false = sym (ap is_eq (o.congr key q k (equal-from _ t))) ∙ sym (or_false (is_at (cmp key) k)) ∙ is in
      rw (t, apart) refl)
      (λ t. rw t refl)
