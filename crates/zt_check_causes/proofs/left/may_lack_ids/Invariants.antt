use Rattle.std.proofs.Common.{◌≡◌, drop, nat_lt}
use Rattle.std.specs.List.{list_any}
use Rattle.zt_model.specs.Refusals.{left_ids}
use Rattle.zt_model.specs.Transcript.{most_ids}
use Rattle.zt_check_causes.proofs.left.may_lack_ids.Given as goal

-- no face so far lacks ids
abbrev pub invariant-loop-face : goal.invariant-loop-face
invariant-loop-face g l =
    list_any (λ f. nat_lt (left_ids f) (most_ids g.K.Ord.cmp g.K.Key.matching l.rows f)) (drop l.face-index l.rows.faces)
    ≡ list_any (λ f. nat_lt (left_ids f) (most_ids g.K.Ord.cmp g.K.Key.matching l.rows f)) l.rows.faces
