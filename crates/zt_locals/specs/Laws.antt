-- What holds of every type of resources, and of every type of infos.
use Rattle.std.specs.Prelude.{◌≡◌, ℕ, Bool, true, List, Option, Some, None, Result}
use Rattle.std.specs.declared.cmp.Ordering.{Ordering}
use Rattle.std.specs.declared.cmp.Ordering.TheVariants.{Equal}
use Rattle.zt_keys.specs.Key.{KeyLaws}
use Rattle.zt_keys.specs.declared.anchor.Anchor.{Anchor}
use Rattle.zt_keys.specs.declared.error.KeyError.{KeyError}

-- the laws of resources: `cmp` is the order, and `matching` says whether two of them match
pub record ResourceLaws {R : Type 0} (cmp : R → R → Ordering) (matching : R → R → Bool) : Type 0 where
  -- resources that compare equal are the same value
  pub equal_is_same : (a b : R) → cmp a b ≡ Equal → a ≡ b
  pub matches_itself : (a : R) → matching a a ≡ true
  pub matches_back : (a b : R) → matching a b ≡ matching b a

-- keys are resources
pub resource_laws : {K : Type 0} {cmp : K → K → Ordering} {matching : K → K → Bool} {reading : List ℕ → Result K KeyError} {printed : K → List ℕ} {anchored : Anchor → K → Option ℕ} → KeyLaws cmp matching reading printed anchored → ResourceLaws cmp matching
resource_laws laws = record { equal_is_same = laws.equal_is_same; matches_itself = laws.matches_itself; matches_back = laws.matches_back }

-- the law of infos: what a resource has of several others depends neither on their order nor on their grouping
pub record InfoLaws {R I : Type 0} (aggregate : Option I → R → I → R → I) : Type 0 where
  -- two infos, one after the other, in either order
  pub any_order : (had : Option I) (into : R) (x : I) (of_x : R) (y : I) (of_y : R) → aggregate (Some (aggregate had into x of_x)) into y of_y ≡ aggregate (Some (aggregate had into y of_y)) into x of_x
  -- a group of one counts as the one
  pub group_of_one : (had : Option I) (into : R) (x : I) (of_x : R) → aggregate had into (aggregate None into x of_x) into ≡ aggregate had into x of_x
  -- a group that takes one more counts as the group, and then the one
  pub group_and_one : (had : Option I) (into : R) (group x : I) (of_x : R) → aggregate had into (aggregate (Some group) into x of_x) into ≡ aggregate (Some (aggregate had into group into)) into x of_x
