use Rattle.std.proofs.Common.{◌≡◌, ◌+◌, Some, subst}
use Rattle.zt_fabric_state.specs.Changes.{IsAfter}
use Rattle.zt_fabric_state.proofs.turning.settle.Goals as goal

pub settle_at-requires-clause-after : goal.settle_at-requires-clause-after
settle_at-requires-clause-after g c =
    let at = rw c.in-Some-member_place.ensures.counted at c.requires in
    let is : c.args.former ≡ Some c.in-Some.former = search in
    subst (λ former. IsAfter g.K.Ord.cmp g.K.Key.matching former (c.in-Some-member_place.at + 1) c.args.s.now) is at
