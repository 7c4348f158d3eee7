use Rattle.std.proofs.Common.{◌≡◌, drop}
use Rattle.zt_region.specs.Region.{is_north}
use Rattle.zt_model.specs.Lists.{first_where}
use Rattle.zt_check_lines.proofs.loops.first_north.Given as goal

-- no face so far is to the north
abbrev pub invariant-loop-face : goal.invariant-loop-face
invariant-loop-face g l =
    first_where (λ f. is_north f.region) (drop l.face-index l.faces) ≡ first_where (λ f. is_north f.region) l.faces
