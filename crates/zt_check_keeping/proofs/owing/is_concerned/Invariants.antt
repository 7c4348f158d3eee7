use Rattle.std.proofs.Common.{◌≡◌, ◌==◌, ◌&&◌, drop}
use Rattle.std.specs.List.{list_any}
use Rattle.zt_protocol.specs.Interest.{is_current}
use Rattle.zt_model.specs.Seen.{concerns}
use Rattle.zt_check_keeping.proofs.owing.is_concerned.Given as goal

-- no interest so far concerns it
abbrev pub invariant-loop-row : goal.invariant-loop-row
invariant-loop-row g l =
    list_any (λ row. (row.0 == l.id) && (concerns g.K.Key.matching row.1 l.expr && is_current row.1.mode)) (drop l.row-index l.held)
    ≡ list_any (λ row. (row.0 == l.id) && (concerns g.K.Key.matching row.1 l.expr && is_current row.1.mode)) l.held
