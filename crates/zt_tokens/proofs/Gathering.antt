-- Keys put in their places, from behind.
use Rattle.std.proofs.Common.{◌≡◌, List, [], ◌∷◌, ◌++◌, append_assoc, flat_map, map, refl, ap, sym, ◌∙◌}
use Rattle.std.proofs.lemmas.List.{append-nil, map-append}
use Rattle.std.specs.BTreeSet.{insert_key}
use Rattle.std.specs.FinMap.Entries.{by_order}
use Rattle.std.specs.Ordering.{match_ordering}
use Rattle.std.specs.declared.cmp.Ordering.{Ordering}
use Rattle.std.specs.declared.cmp.Ordering.TheVariants.{Less, Equal, Greater}
use Rattle.zt_model.specs.Lists.{in_key_order, with_key}
use Rattle.zt_tokens.specs.Gathered.{with_keys}

-- ---- keys put in their places

pub with_keys-append : {K : Type 0} (cmp : K → K → Ordering) (xs ys keys : List K) → with_keys cmp (xs ++ ys) keys ≡ with_keys cmp xs (with_keys cmp ys keys)
with_keys-append cmp [] ys keys = refl
with_keys-append cmp (x ∷ xs) ys keys = ap (with_key cmp x) (with_keys-append cmp xs ys keys)

pub in_key_order_is : {K : Type 0} (cmp : K → K → Ordering) (xs : List K) → with_keys cmp xs [] ≡ in_key_order cmp xs
in_key_order_is cmp [] = refl
in_key_order_is cmp (x ∷ xs) = ap (with_key cmp x) (in_key_order_is cmp xs)

flat_map-last : {K X : Type 0} (keys_of : X → List K) (xs : List X) (x : X) → flat_map keys_of (xs ++ x ∷ []) ≡ flat_map keys_of xs ++ keys_of x
flat_map-last keys_of [] x = append-nil (keys_of x)
flat_map-last keys_of (y ∷ xs) x = ap (λ ks. keys_of y ++ ks) (flat_map-last keys_of xs x) ∙ sym (append_assoc (keys_of y) (flat_map keys_of xs) (keys_of x))

-- the last one's keys first, then those of the ones before it
pub with_keys-last_of : {K X : Type 0} (cmp : K → K → Ordering) (keys_of : X → List K) (rest left : List X) (x : X) (keys : List K) → rest ≡ left ++ x ∷ []
    → with_keys cmp (flat_map keys_of left) (with_keys cmp (keys_of x) keys) ≡ with_keys cmp (flat_map keys_of rest) keys
with_keys-last_of cmp keys_of rest left x keys last =
    sym (with_keys-append cmp (flat_map keys_of left) (keys_of x) keys)
    ∙ ap (λ ks. with_keys cmp ks keys) (sym (flat_map-last keys_of left x) ∙ ap (flat_map keys_of) (sym last))

pub insert_key_is : {K : Type 0} (cmp : K → K → Ordering) (e : K) (keys : List K) → insert_key cmp keys e ≡ with_key cmp e keys
insert_key_is cmp e [] = refl
insert_key_is cmp e (k ∷ ks) =
    elim (cmp e k) as (λ o. match_ordering o (e ∷ k ∷ ks) (k ∷ ks) (k ∷ insert_key cmp ks e) ≡ by_order o (e ∷ k ∷ ks) (k ∷ ks) (k ∷ with_key cmp e ks)) [
      | Less ↦ refl
      | Equal ↦ refl
      | Greater ↦ ap (λ r. k ∷ r) (insert_key_is cmp e ks)
    ]

-- one row more, from behind
pub with_keys-last : {K X : Type 0} (cmp : K → K → Ordering) (key : X → K) (rest left : List X) (x : X) (keys : List K) → rest ≡ left ++ x ∷ [] → with_keys cmp (map key left) (with_key cmp (key x) keys) ≡ with_keys cmp (map key rest) keys
with_keys-last cmp key rest left x keys last =
    sym (with_keys-append cmp (map key left) (key x ∷ []) keys)
    ∙ ap (λ es. with_keys cmp es keys) (sym (map-append key left (x ∷ [])) ∙ ap (map key) (sym last))
