use Rattle.std.proofs.Common.{◌≡◌, drop}
use Rattle.std.specs.List.{list_all}
use Rattle.zt_check_finals.specs.Finishing.{is_finished_at}
use Rattle.zt_check_finals.proofs.finals.are_finished_among.Given as goal

-- all so far do
abbrev pub invariant-loop-row : goal.invariant-loop-row
invariant-loop-row g l =
    list_all (is_finished_at l.fabric l.finalised l.sents l.gateway l.rows l.face l.id) (drop l.row-index l.row-items)
    ≡ list_all (is_finished_at l.fabric l.finalised l.sents l.gateway l.rows l.face l.id) l.face.asks
