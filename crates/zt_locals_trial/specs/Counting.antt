-- Infos that are counts and add up: at the greatest count they stay.
use Rattle.std.specs.Prelude.{◌≡◌, ℕ, Option, Some, None, refl}
use Rattle.std.proofs.Common.{ap}
use Rattle.zt_locals.specs.Counts.{added, added_laws}
use Rattle.zt_locals.specs.Laws.{InfoLaws}
use Rattle.zt_locals_trial.specs.declared.counts.Count.{Count}

abbrev pub counted : {R : Type 0} → Option Count → R → Count → R → Count
counted None into x of_x = x
counted (Some had) into x of_x = record { number = added (Some had.number) into x.number of_x }

abbrev of_number : ℕ → Count
of_number n = record { number = n }

pub counted_laws : {R : Type 0} → InfoLaws (counted {R = R})
counted_laws = record { any_order = any_order; group_of_one = group_of_one; group_and_one = group_and_one }
  where
    any_order : {R : Type 0} (had : Option Count) (into : R) (x : Count) (of_x : R) (y : Count) (of_y : R) → counted (Some (counted had into x of_x)) into y of_y ≡ counted (Some (counted had into y of_y)) into x of_x
    any_order None into x of_x y of_y = ap of_number (added_laws.any_order None into x.number of_x y.number of_y)
    any_order (Some had) into x of_x y of_y = ap of_number (added_laws.any_order (Some had.number) into x.number of_x y.number of_y)

    group_of_one : {R : Type 0} (had : Option Count) (into : R) (x : Count) (of_x : R) → counted had into (counted None into x of_x) into ≡ counted had into x of_x
    group_of_one None into x of_x = refl
    group_of_one (Some had) into x of_x = refl

    group_and_one : {R : Type 0} (had : Option Count) (into : R) (group x : Count) (of_x : R) → counted had into (counted (Some group) into x of_x) into ≡ counted (Some (counted had into group into)) into x of_x
    group_and_one None into group x of_x = refl
    group_and_one (Some had) into group x of_x = ap of_number (added_laws.group_and_one (Some had.number) into group.number x.number of_x)
