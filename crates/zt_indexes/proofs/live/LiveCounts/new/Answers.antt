use Rattle.zt_indexes.proofs.Ordered.{ordered-none}
use Rattle.zt_indexes.specs.Wild.{wild-none}
use Rattle.zt_keys.specs.declared.anchor.Anchor.TheVariants.{Whole}
use Rattle.zt_indexes.proofs.live.LiveCounts.new.Goals as goal

pub invariant_of-result : goal.invariant_of-result
invariant_of-result g c =
    rw (c.new.ensures.empty, c.new-2.ensures)
    (record { grouped = tt; wild = wild-none g.K.Ord.cmp (g.K.Key.anchored Whole) })

pub returns : goal.returns
returns g c = rw c.new.ensures.empty (ordered-none g.K.Ord.cmp)
