use Rattle.std.proofs.Common.{◌≡◌, None, drop}
use Rattle.zt_locals.specs.Folding.{folded}
use Rattle.zt_locals.proofs.traits.LocalResourceInfoTrait.aggregate_many.Given as goal

-- the info so far, with those left, is the whole fold
abbrev pub invariant-loop-other_res : goal.invariant-loop-other_res
invariant-loop-other_res g l = folded g.Self.LocalResourceInfoTrait.aggregating l.self_res l.info (drop l.other_res-index l.others) ≡ folded g.Self.LocalResourceInfoTrait.aggregating l.self_res None l.others
