use Rattle.std.proofs.Common.{subst, sym}
use Rattle.std.proofs.lemmas.List.Filters.{dedup_is}
use Rattle.zt_faces.specs.Timed.{IsEachOnce}
use Rattle.zt_faces.proofs.Expiring.{once}
use Rattle.zt_faces.proofs.by_time.put_in_order.Goals as goal

pub returns : goal.returns
returns c =
    subst (IsEachOnce c.args.pairs.now.items) (sym (dedup_is _ _ _ c.dedup.ensures.filtered))
    (once c.args.pairs.now.items c.sort_unstable.new.self.items c.sort_unstable.ensures.permutation c.sort_unstable.ensures.sorted)
