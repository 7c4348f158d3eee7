use Rattle.std.proofs.Common.{◌≡◌, ◌&&◌, drop}
use Rattle.std.specs.List.{list_any}
use Rattle.zt_check_open_faces.proofs.searching.any_of_face.Given as goal

-- no token so far passes
abbrev pub invariant-loop-row : goal.invariant-loop-row
invariant-loop-row g l =
    list_any (λ row. g.K.Key.matching l.key row.1 && g.T.TokenTest.passes l.test l.source row.1) (drop l.row-index l.live)
    ≡ list_any (λ row. g.K.Key.matching l.key row.1 && g.T.TokenTest.passes l.test l.source row.1) l.live
