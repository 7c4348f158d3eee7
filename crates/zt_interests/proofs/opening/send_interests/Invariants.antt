use Rattle.std.proofs.Common.{◌≡◌, ◌++◌, drop, map}
use Rattle.zt_model.specs.Routing.{interests_from}
use Rattle.zt_interests.proofs.opening.send_interests.Given as goal

-- what is sent so far, and what the interests left give from the next id on, is all
abbrev pub invariant-loop-interest : goal.invariant-loop-interest
invariant-loop-interest g l =
    l.sends.items ++ map (λ m. (l.face, m)) (interests_from l.next (drop l.interest-index l.interests)) ≡ map (λ m. (l.face, m)) (interests_from l.first l.interests)
