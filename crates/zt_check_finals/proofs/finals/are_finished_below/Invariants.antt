use Rattle.std.proofs.Common.{◌≡◌, drop}
use Rattle.std.specs.List.{list_all}
use Rattle.zt_check_finals.specs.Finishing.{are_finished_under}
use Rattle.zt_check_finals.proofs.finals.are_finished_below.Given as goal

-- all so far do
abbrev pub invariant-loop-face : goal.invariant-loop-face
invariant-loop-face g l =
    list_all (are_finished_under l.fabric l.finalised l.sents l.ended l.rows) (drop l.face-index l.faces)
    ≡ list_all (are_finished_under l.fabric l.finalised l.sents l.ended l.rows) l.faces
