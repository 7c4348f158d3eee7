use Rattle.std.proofs.Common.{◌≡◌, drop}
use Rattle.std.specs.List.{list_any}
use Rattle.zt_model.specs.Seen.{concerns}
use Rattle.zt_check_keeping.proofs.seen.is_interested.Given as goal

-- no interest so far concerns it
abbrev pub invariant-loop-row : goal.invariant-loop-row
invariant-loop-row g l =
    list_any (λ row. concerns g.K.Key.matching row.1 l.expr) (drop l.row-index l.held)
    ≡ list_any (λ row. concerns g.K.Key.matching row.1 l.expr) l.held
