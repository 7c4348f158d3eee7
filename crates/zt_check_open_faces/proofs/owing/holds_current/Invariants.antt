use Rattle.std.proofs.Common.{◌≡◌, drop}
use Rattle.std.specs.List.{list_any}
use Rattle.zt_protocol.specs.Interest.{is_current}
use Rattle.zt_check_open_faces.proofs.owing.holds_current.Given as goal

-- no interest so far asked so
abbrev pub invariant-loop-row : goal.invariant-loop-row
invariant-loop-row g l =
    list_any (λ row. is_current row.1.mode) (drop l.row-index l.held)
    ≡ list_any (λ row. is_current row.1.mode) l.held
