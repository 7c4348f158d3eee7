use Rattle.std.proofs.Common.{◌≡◌, drop}
use Rattle.std.specs.List.{list_all}
use Rattle.zt_check_keeping.specs.Owing.{keeps_concerned}
use Rattle.zt_check_keeping.proofs.owing.keeps_declared.Given as goal

-- all so far do
abbrev pub invariant-loop-row : goal.invariant-loop-row
invariant-loop-row g l =
    list_all (λ row. keeps_concerned g.K.Ord.cmp g.K.Key.matching l.face l.id row.1) (drop l.row-index l.live)
    ≡ list_all (λ row. keeps_concerned g.K.Ord.cmp g.K.Key.matching l.face l.id row.1) l.live
