-- What one face contributes to the entities that an interest is about.
use Rattle.std.specs.Prelude.{Bool, ◌==◌, ◌&&◌, not, if◌then◌else◌, List, [], filter}
use Rattle.zt_model.specs.Rows.{Face, Rows}
use Rattle.zt_model.specs.Visible.{shows}

-- a face of the gateway is shown the entities of another
abbrev pub is_shown_of : {K : Type 0} → Rows K → Face K → Face K → Bool
is_shown_of g f other = not (other.number == f.number) && shows g.mode f.region other.region

-- the entities of a face that pass a test, where they are shown
abbrev pub found_at : {K A : Type 0} → Rows K → Face K → (A → Bool) → (Face K → List A) → Face K → List A
found_at g f test entities other = if is_shown_of g f other then filter test (entities other) else []
