use Rattle.std.proofs.Common.{◌≡◌, ◌++◌, flat_map}
use Rattle.zt_hats.specs.Rules.{strategy}
use Rattle.zt_gateway.specs.Declarers.{face_rows}
use Rattle.zt_gateway.proofs.listing.rows_of_faces.Given as goal

-- the rows of the faces so far and of those left are all
abbrev pub invariant-loop-f : goal.invariant-loop-f
invariant-loop-f g l =
    l.rows.items ++ flat_map (face_rows (strategy l.hat) l.region) l.f-iterator
    ≡ flat_map (face_rows (strategy l.hat) l.region) l.g.faces
