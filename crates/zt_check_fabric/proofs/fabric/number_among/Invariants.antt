use Rattle.std.proofs.Common.{◌≡◌, ◌+◌, drop}
use Rattle.zt_model.specs.Places.{number_from}
use Rattle.zt_check_fabric.proofs.fabric.number_among.Given as goal

-- no place so far is the face's
abbrev pub invariant-loop-index : goal.invariant-loop-index
invariant-loop-index l = number_from (l.index + 1) l.gateway l.face (drop l.index l.places) ≡ number_from 1 l.gateway l.face l.places
