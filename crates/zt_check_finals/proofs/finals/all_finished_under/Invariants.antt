use Rattle.std.proofs.Common.{◌≡◌, drop}
use Rattle.std.specs.List.{list_all}
use Rattle.zt_check_finals.specs.Finishing.{is_finished_under}
use Rattle.zt_check_finals.proofs.finals.all_finished_under.Given as goal

-- all so far do
abbrev pub invariant-loop-row : goal.invariant-loop-row
invariant-loop-row g l =
    list_all (is_finished_under l.fabric l.finalised l.sents l.ended l.rows l.face) (drop l.row-index l.asks)
    ≡ list_all (is_finished_under l.fabric l.finalised l.sents l.ended l.rows l.face) l.asks
