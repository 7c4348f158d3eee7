use Rattle.std.proofs.Common.{◌≡◌, drop}
use Rattle.std.specs.List.{list_all}
use Rattle.zt_check_asks.specs.Answering.{is_of_router}
use Rattle.zt_check_asks.proofs.answers.are_of_routers.Given as goal

-- all so far are
abbrev pub invariant-loop-row : goal.invariant-loop-row
invariant-loop-row g l =
    list_all (is_of_router g.K.Ord.cmp g.K.Key.matching l.rows l.own l.asked l.answers) (drop l.row-index l.routed)
    ≡ list_all (is_of_router g.K.Ord.cmp g.K.Key.matching l.rows l.own l.asked l.answers) l.routed
