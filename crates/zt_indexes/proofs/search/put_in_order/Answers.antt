use Rattle.std.proofs.lemmas.List.Filters.{dedup_is}
use Rattle.std.proofs.lemmas.List.Kept.{IsStrictlySortedBy-dedup}
use Rattle.zt_indexes.proofs.InOrder.{in-order}
use Rattle.zt_indexes.proofs.search.put_in_order.Goals as goal

pub returns : goal.returns
returns g c =
    let kept = dedup_is _ _ _ c.dedup.ensures.filtered in
    record {
      in_order = rw kept (IsStrictlySortedBy-dedup g.met.K.Ord.total g.met.K.Ord.matches_eq _ c.sort_unstable.ensures.sorted);
      same = λ q. rw kept (in-order g.K.Ord.cmp g.met.K.Key.laws.equal_is_same _ g.met.K.Ord.matches_eq q _ _ c.sort_unstable.ensures.permutation);
    }
