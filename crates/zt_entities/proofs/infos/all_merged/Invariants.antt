use Rattle.std.proofs.Common.{◌≡◌, drop, map}
use Rattle.zt_model.specs.Entities.{all_merged}
use Rattle.zt_entities.proofs.infos.all_merged.Given as goal

-- what is known of those from the place on
abbrev pub invariant-loop-place : goal.invariant-loop-place
invariant-loop-place g l = l.known ≡ all_merged (map (λ q. q.1) (drop l.place l.found))
