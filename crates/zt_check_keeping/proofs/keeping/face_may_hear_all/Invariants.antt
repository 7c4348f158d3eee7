use Rattle.std.proofs.Common.{◌≡◌, ◌==◌, ◌||◌, not, drop}
use Rattle.std.specs.List.{list_all}
use Rattle.zt_model.specs.Parts.{is_routed}
use Rattle.zt_check_keeping.specs.Keeping.{at_face, may_hear_all}
use Rattle.zt_check_keeping.proofs.keeping.face_may_hear_all.Given as goal

-- all so far do
abbrev pub invariant-loop-face : goal.invariant-loop-face
invariant-loop-face g l =
    list_all (λ f. (not (l.number == f.number) || is_routed l.rows f) || may_hear_all g.K.Ord.cmp g.K.Key.matching f) (drop l.face-index l.face-items)
    ≡ at_face l.number (λ h f. may_hear_all g.K.Ord.cmp g.K.Key.matching f) l.rows
