-- That nothing was found is the same of what is lent and of what it is.
use Rattle.std.proofs.Common.{◌≡◌, Bool, true, false, not, Bor, Option, Some, None, is_some, refl, sym}
use Rattle.std.specs.Option.{is_none, option_copied}

pub nothing_found : {A : Type 0} (is_absent : Bool) (found : Option (Bor A)) → not is_absent ≡ is_some found → is_absent ≡ is_none (option_copied found)
nothing_found true None e = refl
nothing_found true (Some x) e = sym e
nothing_found false None e = sym e
nothing_found false (Some x) e = refl
