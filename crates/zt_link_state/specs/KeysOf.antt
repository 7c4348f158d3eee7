-- Keys of members, gathered beside them.
use Rattle.std.specs.Prelude.{◌≡◌, ℕ, ◌==◌, Bool, ◌&&◌, List}
use Rattle.std.specs.List.{list_any}
use Rattle.std.specs.Ordering.{ordering_then}
use Rattle.std.specs.declared.cmp.Ordering.{Ordering}
use Rattle.zt_region.specs.declared.region.Zid.{Zid}
use Rattle.zt_region.specs.Region.{zid_cmp, zid_eq}

-- a key is among these where a member has it
pub record AreKeysOf {K A : Type 0} (eq : K → K → Bool) (key : A → K) (keys : List K) (xs : List A) : Type 0 where
  pub finds : (q : K) → list_any (eq q) keys ≡ list_any (λ x. eq q (key x)) xs

-- a face with a node id is known by both, and so a face with a router
abbrev pub node_key_eq : ℕ × ℕ → ℕ × ℕ → Bool
node_key_eq a b = (a.0 == b.0) && (a.1 == b.1)

abbrev pub zid_key_eq : ℕ × Zid → ℕ × Zid → Bool
zid_key_eq a b = (a.0 == b.0) && zid_eq a.1 b.1

-- the order of a source with a child
abbrev pub child_cmp : Zid × Zid → Zid × Zid → Ordering
child_cmp a b = ordering_then (zid_cmp a.0 b.0) (zid_cmp a.1 b.1)
