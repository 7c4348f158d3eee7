use Rattle.std.proofs.Common.{◌≡◌, drop}
use Rattle.std.specs.List.{list_all}
use Rattle.zt_check_keeping.specs.Owing.{keeps_routed}
use Rattle.zt_check_keeping.proofs.owing.keeps_of_routers.Given as goal

-- all so far do
abbrev pub invariant-loop-row : goal.invariant-loop-row
invariant-loop-row g l =
    list_all (keeps_routed g.K.Ord.cmp g.K.Key.matching l.rows l.face l.id) (drop l.row-index l.routed)
    ≡ list_all (keeps_routed g.K.Ord.cmp g.K.Key.matching l.rows l.face l.id) l.routed
