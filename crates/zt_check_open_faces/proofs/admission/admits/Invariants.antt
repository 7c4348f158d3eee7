use Rattle.std.proofs.Common.{◌≡◌, drop}
use Rattle.std.specs.List.{list_any}
use Rattle.zt_region.specs.Admission.{is_pair}
use Rattle.zt_check_open_faces.proofs.admission.admits.Given as goal

-- no pair so far is the one
abbrev pub invariant-loop-pair : goal.invariant-loop-pair
invariant-loop-pair l =
    list_any (is_pair l.source l.own) (drop l.pair-index l.refused)
    ≡ list_any (is_pair l.source l.own) l.refused
