use Rattle.std.proofs.Common.{◌≡◌, ◌++◌, ◌∷◌, drop}
use Rattle.zt_region.specs.declared.region.Region.TheVariants.{North}
use Rattle.zt_model.specs.Trees.{is_newly_shown}
use Rattle.zt_routers.proofs.Loops.{kept_regions}
use Rattle.zt_routers.proofs.own.newly_shown.Given as goal

-- what is kept so far, and of the regions left, is all
abbrev pub invariant-loop-region : goal.invariant-loop-region
invariant-loop-region g l =
    l.regions.items ++ kept_regions l.g (is_newly_shown g.K.Ord.cmp l.g l.source l.expr) (drop l.region-index l.region-items)
    ≡ kept_regions l.g (is_newly_shown g.K.Ord.cmp l.g l.source l.expr) (North ∷ l.region-items)
