use Rattle.std.proofs.Common.{◌≡◌, ◌≤◌, List, false, length, nat_le, subst, true}
use Rattle.std.proofs.lemmas.List.Sorted.{IsNonDecreasingBy-drop}
use Rattle.std.specs.List.Sorted.{IsPartitionPoint}
use Rattle.zt_region.specs.declared.region.Zid.{Zid}
use Rattle.zt_link_state.specs.Lookups.{number_of_source}
use Rattle.zt_link_state.proofs.Children.{rest_is, side_by_side, sources_rise}
use Rattle.zt_link_state.proofs.lookups.entries_of.Goals as goal

pub count_below-first-requires : goal.count_below-first-requires
count_below-first-requires c = sources_rise c.args.pairs.now c.requires

pub count_up_to-count-requires : goal.count_up_to-count-requires
count_up_to-count-requires c =
    let pairs = c.args.pairs.now in
    let first = c.count_below-first.result in
    rw (rest_is first pairs) (IsNonDecreasingBy-drop number_of_source first pairs (sources_rise pairs c.requires))

pub returns : goal.returns
returns c =
    let pairs = c.args.pairs.now in
    let first = c.count_below-first.result in
    let count = c.count_up_to-count.result in
    let is = rest_is first pairs in
    rw is
    (side_by_side c.args.source pairs first count c.count_below-first.ensures.parted c.count_below-first.ensures.within
    (subst (λ xs. IsPartitionPoint (λ e. nat_le (number_of_source e) c.args.source.0 ≡ true) (λ e. nat_le (number_of_source e) c.args.source.0 ≡ false) xs count) is
    c.count_up_to-count.ensures.parted)
    (subst (λ (xs : List (Zid × Zid)). count ≤ length xs) is c.count_up_to-count.ensures.within))
