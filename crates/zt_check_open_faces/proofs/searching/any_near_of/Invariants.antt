use Rattle.std.proofs.Common.{◌≡◌, ◌&&◌, drop}
use Rattle.std.specs.List.{list_any}
use Rattle.zt_check_open_faces.proofs.searching.any_near_of.Given as goal

-- no token of the faces so far passes
abbrev pub invariant-loop-face : goal.invariant-loop-face
invariant-loop-face g l =
    list_any (λ f. list_any (λ row. g.K.Key.matching l.key row.1 && g.T.TokenTest.passes l.test f row.1) f.live) (drop l.face-index l.faces)
    ≡ list_any (λ f. list_any (λ row. g.K.Key.matching l.key row.1 && g.T.TokenTest.passes l.test f row.1) f.live) l.faces
