use Rattle.std.proofs.Common.{◌≡◌, ◌++◌}
use Rattle.std.specs.List.{flat_map}
use Rattle.zt_model.specs.Wants.{is_about}
use Rattle.zt_entities.specs.Found.{found_at}
use Rattle.zt_entities.proofs.found.matching_queryables.Given as goal

-- what is found so far, and at the faces left, is all
abbrev pub invariant-loop-other : goal.invariant-loop-other
invariant-loop-other g l =
    l.found.items ++ flat_map (found_at l.g l.f (λ q. is_about g.K.Key.matching l.interest.expr q.0) (λ x. x.queryables)) l.other-iterator
    ≡ flat_map (found_at l.g l.f (λ q. is_about g.K.Key.matching l.interest.expr q.0) (λ x. x.queryables)) l.g.faces
