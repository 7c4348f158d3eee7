use Rattle.std.proofs.Common.{◌≡◌, drop}
use Rattle.std.specs.List.{list_all}
use Rattle.zt_check_asks.specs.Answering.{are_answered_under}
use Rattle.zt_check_asks.proofs.answers.are_answered_below.Given as goal

-- all so far are
abbrev pub invariant-loop-face : goal.invariant-loop-face
invariant-loop-face g l =
    list_all (are_answered_under g.K.Ord.cmp g.K.Key.matching l.fabric l.told l.pending l.rows) (drop l.face-index l.face-items)
    ≡ list_all (are_answered_under g.K.Ord.cmp g.K.Key.matching l.fabric l.told l.pending l.rows) l.rows.faces
