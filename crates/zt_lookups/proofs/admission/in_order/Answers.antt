use Rattle.std.proofs.Common.{ap₂, subst, sym}
use Rattle.std.proofs.lemmas.List.Filters.{dedup_is}
use Rattle.std.specs.List.Sorted.{IsPermutation}
use Rattle.zt_lookups.specs.Refused.{ArePairsOf}
use Rattle.zt_lookups.proofs.Pairs.{pairs_once}
use Rattle.zt_lookups.proofs.admission.in_order.Goals as goal

pub returns : goal.returns
returns c =
    let listed = c.args.listed.now in
    let copied = c.in_ok-pairs.ensures.items_if_clones_equal (λ x y same. ap₂ (λ a b. (a, b)) same.0 same.1) in
    let sorted = c.sort_unstable.new.self.items in
    let permuted = subst (λ pairs. IsPermutation pairs sorted) copied c.sort_unstable.ensures.permutation in
    let once = dedup_is _ _ _ c.dedup.ensures.filtered in
    subst (λ pairs. ArePairsOf listed pairs) (sym once) (pairs_once listed sorted permuted c.sort_unstable.ensures.sorted)
