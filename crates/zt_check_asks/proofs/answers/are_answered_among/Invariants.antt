use Rattle.std.proofs.Common.{◌≡◌, drop}
use Rattle.std.specs.List.{list_all}
use Rattle.zt_check_asks.specs.Answering.{is_answered_at}
use Rattle.zt_check_asks.proofs.answers.are_answered_among.Given as goal

-- all so far are
abbrev pub invariant-loop-row : goal.invariant-loop-row
invariant-loop-row g l =
    list_all (is_answered_at g.K.Ord.cmp g.K.Key.matching l.fabric l.told l.gateway l.rows l.face l.id) (drop l.row-index l.row-items)
    ≡ list_all (is_answered_at g.K.Ord.cmp g.K.Key.matching l.fabric l.told l.gateway l.rows l.face l.id) l.face.asks
