use Rattle.zt_check_faces.specs.Placed.{IsBehind}
use Rattle.zt_check_faces.proofs.by_id.place_in.Given as goal

-- what is sought is behind those so far
abbrev pub invariant-loop-place : goal.invariant-loop-place
invariant-loop-place g l = IsBehind (g.X.Ranked.ranked l.sought) l.rows l.place
