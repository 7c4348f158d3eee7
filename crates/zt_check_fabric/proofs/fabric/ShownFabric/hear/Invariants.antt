use Rattle.std.proofs.Common.{◌≡◌, drop}
use Rattle.zt_model.specs.Fabric.{after_hearing}
use Rattle.zt_check_fabric.specs.Placed.{IsPlaced}
use Rattle.zt_check_fabric.proofs.fabric.ShownFabric.hear.Given as goal

-- what is left to be heard makes all
abbrev pub invariant-loop-sent : goal.invariant-loop-sent
invariant-loop-sent g l = record {
  placed : IsPlaced l.fn.self → IsPlaced l.self;
  rest : IsPlaced l.fn.self → after_hearing g.K.Ord.cmp (drop l.sent-index l.sents) l.self ≡ after_hearing g.K.Ord.cmp l.sents l.fn.self;
}
