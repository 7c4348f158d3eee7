use Rattle.std.proofs.Common.{◌≡◌, drop}
use Rattle.std.specs.List.{list_all}
use Rattle.zt_model.specs.Seen.{may_hear}
use Rattle.zt_check_keeping.proofs.keeping.may_hear_all.Given as goal

-- all so far do
abbrev pub invariant-loop-row : goal.invariant-loop-row
invariant-loop-row g l =
    list_all (λ row. may_hear g.K.Key.matching l.face row.1) (drop l.row-index l.told)
    ≡ list_all (λ row. may_hear g.K.Key.matching l.face row.1) l.told
