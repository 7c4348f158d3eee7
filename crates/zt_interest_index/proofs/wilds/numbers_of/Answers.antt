use Rattle.std.proofs.Common.{◌∙◌, ap, sym}
use Rattle.std.proofs.lemmas.List.Filters.{dedup_is}
use Rattle.std.proofs.lemmas.List.Sorted.{list_any-IsPermutation}
use Rattle.std.specs.List.{list_any}
use Rattle.zt_interest_index.proofs.InOrder.{tests-dedup}
use Rattle.zt_interest_index.proofs.wilds.numbers_of.Goals as goal

pub returns : goal.returns
returns g c test =
    let kept = dedup_is _ _ _ c.dedup.ensures.filtered in
    rw kept (tests-dedup test _ ∙ sym (list_any-IsPermutation test _ _ c.sort_unstable.ensures.permutation) ∙ ap (list_any test) c.in_ok-numbers.ensures)
