use Rattle.std.proofs.Common.{◌≡◌, ◌==◌, ◌||◌, not, drop}
use Rattle.std.specs.List.{list_all}
use Rattle.zt_model.specs.Parts.{is_routed}
use Rattle.zt_check_keeping.specs.Keeping.{at_face}
use Rattle.zt_check_keeping.specs.Owing.{keeps_all}
use Rattle.zt_check_keeping.proofs.keeping.face_keeps_all.Given as goal

-- all so far do
abbrev pub invariant-loop-face : goal.invariant-loop-face
invariant-loop-face g l =
    list_all (λ f. (not (l.number == f.number) || is_routed l.rows f) || keeps_all g.K.Ord.cmp g.K.Key.matching l.rows f l.id) (drop l.face-index l.face-items)
    ≡ at_face l.number (λ h f. keeps_all g.K.Ord.cmp g.K.Key.matching h f l.id) l.rows
