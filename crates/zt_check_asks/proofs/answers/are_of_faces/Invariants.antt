use Rattle.std.proofs.Common.{◌≡◌, drop}
use Rattle.zt_check_asks.specs.Answering.{are_of_faces}
use Rattle.zt_check_asks.proofs.answers.are_of_faces.Given as goal

-- all so far are
abbrev pub invariant-loop-source : goal.invariant-loop-source
invariant-loop-source g l =
    are_of_faces g.K.Ord.cmp g.K.Key.matching l.own l.asked l.answers (drop l.source-index l.faces)
    ≡ are_of_faces g.K.Ord.cmp g.K.Key.matching l.own l.asked l.answers l.faces
