use Rattle.std.proofs.Common.{◌==◌, ◌∙◌, sym}
use Rattle.std.proofs.lemmas.List.Filters.{dedup_is}
use Rattle.std.proofs.lemmas.List.Kept.{IsStrictlySortedBy-dedup}
use Rattle.std.proofs.lemmas.List.Sorted.{list_any-IsPermutation}
use Rattle.std.specs.Cmp.{nat_cmp_total, unsigned_ties}
use Rattle.zt_routers.proofs.InOrder.{has-dedup}
use Rattle.zt_routers.proofs.reaching.put_in_order.Goals as goal

pub returns : goal.returns
returns c =
    let kept = dedup_is _ _ _ c.dedup.ensures.filtered in
    record {
      in_order = rw kept (IsStrictlySortedBy-dedup nat_cmp_total unsigned_ties _ c.sort_unstable.ensures.sorted);
      kept = λ n h. rw kept (has-dedup n _ ∙ sym (list_any-IsPermutation (λ m. n == m) _ _ c.sort_unstable.ensures.permutation) ∙ h);
    }
