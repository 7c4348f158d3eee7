use Rattle.std.proofs.Common.{◌≡◌, drop}
use Rattle.zt_check_asks.specs.Answering.{are_of_face}
use Rattle.zt_check_asks.proofs.answers.are_of_face.Given as goal

-- all so far are
abbrev pub invariant-loop-row : goal.invariant-loop-row
invariant-loop-row g l =
    are_of_face g.K.Ord.cmp g.K.Key.matching l.asked l.answers (drop l.row-index l.live)
    ≡ are_of_face g.K.Ord.cmp g.K.Key.matching l.asked l.answers l.live
