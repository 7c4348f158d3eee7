-- Numbers that are given in two steps.
use Rattle.std.proofs.Common.{◌≡◌, List, [], ◌∷◌, ◌++◌, if◌then◌else◌, refl}
use Rattle.std.specs.declared.cmp.Ordering.{Ordering}
use Rattle.zt_model.specs.Entities.{numbered_with}
use Rattle.zt_model.specs.Lists.{is_among}

pub numbered_with_both : {K : Type 0} (cmp : K → K → Ordering) (es more known : List K) → numbered_with cmp (es ++ more) known ≡ numbered_with cmp more (numbered_with cmp es known)
unfolding numbered_with
numbered_with_both cmp [] more known = refl
numbered_with_both cmp (e ∷ es) more known = numbered_with_both cmp es more (if is_among cmp e known then known else known ++ e ∷ [])
