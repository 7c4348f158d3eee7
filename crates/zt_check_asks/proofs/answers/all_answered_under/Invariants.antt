use Rattle.std.proofs.Common.{◌≡◌, drop}
use Rattle.std.specs.List.{list_all}
use Rattle.zt_check_asks.specs.Answering.{is_answered_under}
use Rattle.zt_check_asks.proofs.answers.all_answered_under.Given as goal

-- all so far are
abbrev pub invariant-loop-row : goal.invariant-loop-row
invariant-loop-row g l =
    list_all (is_answered_under g.K.Ord.cmp g.K.Key.matching l.fabric l.told l.pending l.rows l.face) (drop l.row-index l.asks)
    ≡ list_all (is_answered_under g.K.Ord.cmp g.K.Key.matching l.fabric l.told l.pending l.rows l.face) l.asks
