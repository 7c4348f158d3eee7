-- Infos that are counts and add up, as a worked case of the law: at the greatest count they stay.
use Rattle.std.specs.Prelude.{◌≡◌, ℕ, ◌+◌, ◌-◌, ◌^◌, Option, Some, None, refl}
use Rattle.std.proofs.Common.{min, arith}
use Rattle.zt_locals.specs.Laws.{InfoLaws}

abbrev pub added : {R : Type 0} → Option ℕ → R → ℕ → R → ℕ
added None into x of_x = x
added (Some had) into x of_x = min (had + x) (2 ^ 64 - 1)

turned : (had x y top : ℕ) → min (min (had + x) top + y) top ≡ min (min (had + y) top + x) top
turned had x y top = omega arith

swapped : (x y top : ℕ) → min (x + y) top ≡ min (y + x) top
swapped x y top = omega arith

grouped : (had group x top : ℕ) → min (had + min (group + x) top) top ≡ min (min (had + group) top + x) top
grouped had group x top = omega arith

pub added_laws : {R : Type 0} → InfoLaws (added {R = R})
added_laws = record { any_order = any_order; group_of_one = group_of_one; group_and_one = group_and_one }
  where
    any_order : {R : Type 0} (had : Option ℕ) (into : R) (x : ℕ) (of_x : R) (y : ℕ) (of_y : R) → added (Some (added had into x of_x)) into y of_y ≡ added (Some (added had into y of_y)) into x of_x
    any_order None into x of_x y of_y = swapped x y _
    any_order (Some had) into x of_x y of_y = turned had x y _

    group_of_one : {R : Type 0} (had : Option ℕ) (into : R) (x : ℕ) (of_x : R) → added had into (added None into x of_x) into ≡ added had into x of_x
    group_of_one None into x of_x = refl
    group_of_one (Some had) into x of_x = refl

    group_and_one : {R : Type 0} (had : Option ℕ) (into : R) (group x : ℕ) (of_x : R) → added had into (added (Some group) into x of_x) into ≡ added (Some (added had into group into)) into x of_x
    group_and_one None into group x of_x = refl
    group_and_one (Some had) into group x of_x = grouped had group x _
