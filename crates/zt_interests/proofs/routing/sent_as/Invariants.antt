use Rattle.std.proofs.Common.{◌≡◌, ◌++◌, drop, flat_map}
use Rattle.zt_model.specs.Routing.{is_target}
use Rattle.zt_interests.specs.Chosen.{chosen}
use Rattle.zt_tokens.specs.Walks.{given_at}
use Rattle.zt_interests.proofs.routing.sent_as.Given as goal

-- the targets so far, and those among the numbers left, are all
abbrev pub invariant-loop-number : goal.invariant-loop-number
invariant-loop-number g l =
    let given = given_at (chosen (is_target l.g l.asker l.mode) (λ f. (f.number, f.next))) l.g.faces in
    l.targets.items ++ flat_map given (drop l.number-index l.number-items) ≡ flat_map given l.number-items
