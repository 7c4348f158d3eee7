-- Changes of one face among others.
use Rattle.std.specs.Prelude.{ℕ, ◌==◌, if◌then◌else◌}
use Rattle.zt_model.specs.Rows.{Face}

-- a change, of the face of a number alone
abbrev pub if_number : {K : Type 0} → ℕ → (Face K → Face K) → Face K → Face K
if_number n change f = if n == f.number then change f else f
