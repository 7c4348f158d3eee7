-- What is found once there is one entry more behind the others.
use Rattle.std.proofs.Common.{◌≡◌, ◌&&◌, ◌||◌, ◌==◌, ◌∷◌, ◌++◌, ℕ, Bool, true, false, List, [], Some, ap, arith, cond, is_some, option_map, refl, sym, ◌∙◌}
use Rattle.std.proofs.lemmas.Bool.{and_parts, eqb-true, true≢false}
use Rattle.std.proofs.lemmas.Bool.Decides.{nat_tests}
use Rattle.std.specs.HashMap as hashed
use Rattle.std.specs.HashMap.{HashMap}
use Rattle.std.specs.List.{list_any}
use Rattle.std.specs.Map.{lookup}
use Rattle.zt_region.specs.declared.region.Zid.{Zid}
use Rattle.zt_region.specs.Region.{zid_eq, zid_eq-same}
use Rattle.zt_model.specs.Lists.{first_where}
use Rattle.zt_model.specs.Trees.{counted_table}
use Rattle.zt_link_state.specs.KeysOf.{node_key_eq}
use Rattle.zt_link_state.specs.Listed.{AreListed}
use Rattle.zt_link_state.specs.Lookups.{AreLookups, FindsBehind, FindsNodes}
use Rattle.zt_keys.specs.Test.{by_test}

-- a test from the other side
pub nat-turned : (a b : ℕ) → (a == b) ≡ (b == a)
nat-turned a b = grind (arith, nat_tests)

pub zid-turned : (a b : Zid) → zid_eq a b ≡ zid_eq b a
zid-turned a b = nat-turned a.0 b.0

-- one more at the end is found where none before it passes, and else the one before it
first-last : {A : Type 0} (test : A → Bool) (xs : List A) (x : A) → test x ≡ true → list_any test xs ≡ false → first_where test (xs ++ x ∷ []) ≡ Some x
first-last test [] x holds none = rw holds refl
first-last test (y ∷ xs) x holds none =
    by_test (test y)
    (λ t. absurd (true≢false (sym (ap (λ b. b || list_any test xs) t) ∙ none)))
    (λ f. rw f (first-last test xs x holds (sym (ap (λ b. b || list_any test xs) f) ∙ none)))

first-before : {A : Type 0} (test : A → Bool) (xs : List A) (x : A) → test x ≡ false → first_where test (xs ++ x ∷ []) ≡ first_where test xs
first-before test [] x fails = rw fails refl
first-before test (y ∷ xs) x fails = ap (λ rest. cond (test y) (Some y) rest) (first-before test xs x fails)

-- whether a link is for a face and a node id
abbrev pub is_for : ℕ → ℕ → ℕ × ℕ × Zid → Bool
is_for face node l = (l.0 == face) && (l.1 == node)

pub behind_last : {S : Type 0} (m n : HashMap (ℕ × ℕ) Zid S) (ls : List (ℕ × ℕ × Zid)) (l : ℕ × ℕ × Zid) → FindsBehind m.entries ls → list_any (is_for l.0 l.1) ls ≡ false
    → hashed.Updates node_key_eq m n (l.0, l.1) (Some l.2) → FindsBehind n.entries (ls ++ l ∷ [])
behind_last m n ls l finds free put = record {
  at = λ face node.
      let before = lookup (node_key_eq (face, node)) m.entries in
      put.0 (face, node)
      ∙ by_test (is_for face node l)
      (λ holds.
      let same_face : l.0 ≡ face = eqb-true l.0 face (and_parts _ _ holds).0 in
      let same_node : l.1 ≡ node = eqb-true l.1 node (and_parts _ _ holds).1 in
      let none : list_any (is_for face node) ls ≡ false = rw (← same_face, ← same_node) free in
      ap (λ b. cond b (Some l.2) before) holds ∙ sym (ap (option_map (λ x. x.2)) (first-last (is_for face node) ls l holds none)))
      (λ fails. ap (λ b. cond b (Some l.2) before) fails ∙ finds.at face node ∙ sym (ap (option_map (λ x. x.2)) (first-before (is_for face node) ls l fails)));
}

-- whether a router has a number
abbrev pub is_router : Zid → ℕ × Zid → Bool
is_router zid r = zid_eq zid r.1

pub node_last : {S : Type 0} (m n : HashMap Zid ℕ S) (rs : List (ℕ × Zid)) (r : ℕ × Zid) → FindsNodes m.entries rs → list_any (is_router r.1) rs ≡ false
    → hashed.Updates zid_eq m n r.1 (Some r.0) → FindsNodes n.entries (rs ++ r ∷ [])
node_last m n rs r finds free put = record {
  at = λ zid.
      let before = lookup (zid_eq zid) m.entries in
      put.0 zid
      ∙ by_test (zid_eq r.1 zid)
      (λ holds.
      let same : r.1 ≡ zid = zid_eq-same r.1 zid holds in
      let none : list_any (is_router zid) rs ≡ false = rw (← same) free in
      ap (λ b. cond b (Some r.0) before) holds ∙ sym (ap (option_map (λ x. x.0)) (first-last (is_router zid) rs r (zid-turned zid r.1 ∙ holds) none)))
      (λ fails. ap (λ b. cond b (Some r.0) before) fails ∙ finds.at zid ∙ sym (ap (option_map (λ x. x.0)) (first-before (is_router zid) rs r (zid-turned zid r.1 ∙ fails))));
}

-- something is found where an entry passes
pub is_found : {A V : Type 0} (value : A → V) (test : A → Bool) (xs : List A) → is_some (option_map value (first_where test xs)) ≡ list_any test xs
is_found value test [] = refl
is_found value test (x ∷ xs) = found_at (test x) (is_found value test xs)
  where
    found_at : (b : Bool) → is_some (option_map value (first_where test xs)) ≡ list_any test xs → is_some (option_map value (cond b (Some x) (first_where test xs))) ≡ (b || list_any test xs)
    found_at true rest = refl
    found_at false rest = rest

-- where a table lists nothing, nothing is found
pub none_found : AreLookups (record { routers = []; links = []; children = [] }) [] [] [] []
unfolding counted_table
none_found = record {
  ordered = refl;
  finds_nodes = record { at = λ zid. refl };
  finds_behind = record { at = λ face node. refl };
  children_by_source = record { ordered = λ j d z lt. absurd (omega arith); at = λ source router. refl };
}

-- a router is found by its number where a table lists it
pub listed_by : (nodes : List (Zid × ℕ)) (routers : List (ℕ × Zid)) → FindsNodes nodes routers → AreListed nodes routers
listed_by nodes routers finds = record { finds = λ zid. ap is_some (finds.at zid) ∙ is_found (λ r. r.0) _ routers }
