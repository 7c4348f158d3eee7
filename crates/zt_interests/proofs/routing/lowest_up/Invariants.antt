use Rattle.std.proofs.Common.{◌≡◌, ℕ, drop}
use Rattle.zt_model.specs.Lists.{first_where, is_some_and}
use Rattle.zt_model.specs.Parts.{find_face}
use Rattle.zt_model.specs.Routing.{leads_up}
use Rattle.zt_interests.proofs.routing.lowest_up.Given as goal

-- the first that leads up stands among the numbers left
abbrev pub invariant-loop-number : goal.invariant-loop-number
invariant-loop-number g l =
    let leads = λ (n : ℕ). is_some_and (find_face n l.g) (leads_up l.g.mode) in
    first_where leads (drop l.number-index l.number-items) ≡ first_where leads l.number-items
