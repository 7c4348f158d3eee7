-- Entries clash where keys of theirs are among those of entries that count.
use Rattle.std.proofs.Common.{◌≡◌, ◌&&◌, ◌||◌, ◌==◌, ◌++◌, ◌∷◌, ℕ, Bool, true, false, List, [], ap, arith, cond, is_some, refl, sym, ◌∙◌}
use Rattle.std.proofs.lemmas.Bool.Decides.{nat_tests}
use Rattle.std.specs.HashSet.{HashSet, Updates}
use Rattle.std.specs.List.{list_any}
use Rattle.std.specs.Map.{lookup}
use Rattle.std.specs.Ordering.{is_eq, nat_cmp, ordering_then}
use Rattle.std.specs.declared.cmp.Ordering.{Ordering}
use Rattle.std.specs.declared.cmp.Ordering.TheVariants.{Less, Equal, Greater}
use Rattle.zt_region.specs.declared.region.Zid.{Zid}
use Rattle.zt_region.specs.Region.{zid_eq}
use Rattle.zt_model.specs.Trees.{is_same_link, is_same_router}
use Rattle.zt_link_state.specs.KeysOf.{AreKeysOf, node_key_eq, zid_key_eq}
use Rattle.zt_link_state.specs.Lookups.{FindsBehind, FindsNodes}
use Rattle.zt_link_state.proofs.Looked.{is_found, nat-turned, zid-turned}

or_last : (a b : Bool) → cond a true b ≡ (b || (a || false))
or_last true true = refl
or_last true false = refl
or_last false true = refl
or_last false false = refl

or_four : (a b c d : Bool) → ((a || b) || (c || d)) ≡ ((a || c) || (b || d))
or_four true b true d = refl
or_four true b false d = refl
or_four false true true d = refl
or_four false true false d = refl
or_four false false true d = refl
or_four false false false d = refl

and_or : (a b c : Bool) → (a && (b || c)) ≡ ((a && b) || (a && c))
and_or true b c = refl
and_or false b c = refl

or_assoc : (a b c : Bool) → (a || (b || c)) ≡ ((a || b) || c)
or_assoc true b c = refl
or_assoc false b c = refl

pub any_alike : {A : Type 0} (p q : A → Bool) → ((x : A) → p x ≡ q x) → (xs : List A) → list_any p xs ≡ list_any q xs
any_alike p q alike [] = refl
any_alike p q alike (x ∷ xs) = ap (λ b. b || list_any p xs) (alike x) ∙ ap (λ b. q x || b) (any_alike p q alike xs)

any-append : {A : Type 0} (p : A → Bool) (xs ys : List A) → list_any p (xs ++ ys) ≡ (list_any p xs || list_any p ys)
any-append p [] ys = refl
any-append p (x ∷ xs) ys = ap (λ b. p x || b) (any-append p xs ys) ∙ or_assoc (p x) (list_any p xs) (list_any p ys)

any_or : {A : Type 0} (p q : A → Bool) (xs : List A) → list_any (λ x. p x || q x) xs ≡ (list_any p xs || list_any q xs)
any_or p q [] = refl
any_or p q (x ∷ xs) = ap (λ b. (p x || q x) || b) (any_or p q xs) ∙ or_four (p x) (q x) (list_any p xs) (list_any q xs)

-- one member more, and its key
pub one_key_more : {K A S : Type 0} (eq : K → K → Bool) → ((a b : K) → eq a b ≡ eq b a) → (key : A → K) (old new : HashSet K S) (xs : List A) (x : A)
    → AreKeysOf eq key old.keys xs → Updates eq old new (key x) true → AreKeysOf eq key new.keys (xs ++ x ∷ [])
one_key_more {K} {A} {S} eq symm key old new xs x keys put = record {
  finds = λ q.
      let test : A → Bool = λ y. eq q (key y) in
      put.0 q
      ∙ ap (λ b. cond b true (list_any (eq q) old.keys)) (symm (key x) q)
      ∙ ap (λ b. cond (test x) true b) (keys.finds q)
      ∙ or_last (test x) (list_any test xs)
      ∙ sym (any-append test xs (x ∷ []));
}

pub node_key-turned : (a b : ℕ × ℕ) → node_key_eq a b ≡ node_key_eq b a
node_key-turned a b = ap (λ t. t && (a.1 == b.1)) (nat-turned a.0 b.0) ∙ ap (λ t. (b.0 == a.0) && t) (nat-turned a.1 b.1)

pub zid_key-turned : (a b : ℕ × Zid) → zid_key_eq a b ≡ zid_key_eq b a
zid_key-turned a b = ap (λ t. t && zid_eq a.1 b.1) (nat-turned a.0 b.0) ∙ ap (λ t. (b.0 == a.0) && t) (zid-turned a.1 b.1)

pub nat_is : (a b : ℕ) → is_eq (nat_cmp a b) ≡ (a == b)
nat_is a b = grind (arith, nat_tests)

pub both_are : (a b : Ordering) → is_eq (ordering_then a b) ≡ (is_eq a && is_eq b)
both_are Less b = refl
both_are Equal b = refl
both_are Greater b = refl

-- a router is found by its number where it is that of one that counts
pub is_known : (zid : Zid) (nodes : List (Zid × ℕ)) (counted : List (ℕ × Zid)) → FindsNodes nodes counted → is_some (lookup (zid_eq zid) nodes) ≡ list_any (λ (x : ℕ × Zid). zid_eq zid x.1) counted
is_known zid nodes counted finds = ap is_some (finds.at zid) ∙ is_found (λ (x : ℕ × Zid). x.0) _ counted

-- a router clashes where its node id or its number is among those of routers that count
pub router_clashes : (r : ℕ × Zid) (node_ids : List ℕ) (nodes : List (Zid × ℕ)) (counted : List (ℕ × Zid))
    → AreKeysOf (λ a b. a == b) (λ (x : ℕ × Zid). x.0) node_ids counted → FindsNodes nodes counted
    → (list_any (λ k. r.0 == k) node_ids || is_some (lookup (zid_eq r.1) nodes)) ≡ list_any (is_same_router r) counted
router_clashes r node_ids nodes counted by_node by_zid =
    ap (λ b. b || is_some (lookup (zid_eq r.1) nodes)) (by_node.finds r.0)
    ∙ ap (λ b. list_any (λ (x : ℕ × Zid). r.0 == x.0) counted || b) (is_known r.1 nodes counted by_zid)
    ∙ sym (any_or (λ (x : ℕ × Zid). r.0 == x.0) (λ (x : ℕ × Zid). zid_eq r.1 x.1) counted)

-- a link is the first for its face and node id where none of those that count is
pub is_behind : (face node : ℕ) (behind : List ((ℕ × ℕ) × Zid)) (counted : List (ℕ × ℕ × Zid)) → FindsBehind behind counted
    → is_some (lookup (node_key_eq (face, node)) behind) ≡ list_any (λ (x : ℕ × ℕ × Zid). (x.0 == face) && (x.1 == node)) counted
is_behind face node behind counted finds = ap is_some (finds.at face node) ∙ is_found (λ (x : ℕ × ℕ × Zid). x.2) _ counted

-- a link clashes where for its face its node id or its router is among those of links that count
pub link_clashes : (l : ℕ × ℕ × Zid) (behind : List ((ℕ × ℕ) × Zid)) (zids : List (ℕ × Zid)) (counted : List (ℕ × ℕ × Zid))
    → FindsBehind behind counted → AreKeysOf zid_key_eq (λ (x : ℕ × ℕ × Zid). (x.0, x.2)) zids counted
    → (is_some (lookup (node_key_eq (l.0, l.1)) behind) || list_any (zid_key_eq (l.0, l.2)) zids) ≡ list_any (is_same_link l) counted
link_clashes l behind zids counted by_node by_zid =
    ap (λ b. b || list_any (zid_key_eq (l.0, l.2)) zids) (is_behind l.0 l.1 behind counted by_node ∙ any_alike _ same_node (λ x. node_key-turned (x.0, x.1) (l.0, l.1)) counted)
    ∙ ap (λ b. list_any same_node counted || b) (by_zid.finds (l.0, l.2))
    ∙ sym (any_or same_node same_zid counted)
    ∙ any_alike _ (is_same_link l) (λ x. sym (and_or (l.0 == x.0) (l.1 == x.1) (zid_eq l.2 x.2))) counted
  where
    same_node : ℕ × ℕ × Zid → Bool
    same_node x = (l.0 == x.0) && (l.1 == x.1)

    same_zid : ℕ × ℕ × Zid → Bool
    same_zid x = (l.0 == x.0) && zid_eq l.2 x.2
