use Rattle.std.proofs.Common.{◌≡◌, drop}
use Rattle.std.specs.List.{list_all}
use Rattle.zt_check_finals.specs.Finishing.{are_finished_of}
use Rattle.zt_check_finals.proofs.finals.are_finished_in.Given as goal

-- all so far do
abbrev pub invariant-loop-face : goal.invariant-loop-face
invariant-loop-face g l =
    list_all (are_finished_of l.fabric l.finalised l.sents l.gateway l.rows l.number l.id) (drop l.face-index l.face-items)
    ≡ list_all (are_finished_of l.fabric l.finalised l.sents l.gateway l.rows l.number l.id) l.rows.faces
