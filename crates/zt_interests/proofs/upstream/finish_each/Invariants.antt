use Rattle.std.proofs.Common.{◌≡◌, ◌++◌}
use Rattle.zt_model.specs.Parts.{to_each}
use Rattle.zt_model.specs.Routing.{finish_to}
use Rattle.zt_interests.proofs.upstream.finish_each.Given as goal

-- what is sent so far, and to the faces left, is all
abbrev pub invariant-loop-f : goal.invariant-loop-f
invariant-loop-f g l =
    let rule = finish_to l.g l.face l.id in
    l.sends.items ++ to_each rule l.f-iterator ≡ to_each rule l.g.faces
