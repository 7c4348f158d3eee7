-- The pendings that time ends, by face and id.
use Rattle.std.specs.Prelude.{ℕ, List}
use Rattle.zt_faces.specs.Timed.{expired_among}
use Rattle.zt_model.specs.Parts.{Part}
use Rattle.zt_model.specs.Routing.{ending}
use Rattle.zt_model.specs.Rows.{Rows}

-- those of a gateway
abbrev pub expired_in : {K : Type 0} → ℕ → Rows K → List (ℕ × ℕ)
expired_in now g = expired_among now g.timeout g.faces

-- what the end of one comes to
abbrev pub ending_each : {K : Type 0} → ℕ × ℕ → List (Part K)
ending_each p = ending p.0 p.1
