use Rattle.std.proofs.Common.{subst}
use Rattle.std.specs.List.Sorted.{IsPermutation}
use Rattle.zt_lookups.proofs.Listed.{regions_in_order}
use Rattle.zt_lookups.proofs.regions.in_order.Goals as goal

pub returns : goal.returns
returns c =
    let listed = c.args.listed.now in
    let copied = c.in_ok-regions.ensures.items_if_clones_equal (λ x y same. same) in
    let sorted = c.sort_unstable.new.self.items in
    let permuted = subst (λ regions. IsPermutation regions sorted) copied c.sort_unstable.ensures.permutation in
    regions_in_order listed sorted permuted c.sort_unstable.ensures.sorted
