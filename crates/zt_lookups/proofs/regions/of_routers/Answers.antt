use Rattle.std.proofs.Common.{ap, filter, ◌∙◌}
use Rattle.zt_lookups.specs.Listed.{may_go_by_trees}
use Rattle.zt_lookups.proofs.regions.of_routers.Goals as goal

pub returns : goal.returns
returns c =
    let copied = c.in_ok-regions.ensures.items_if_clones_equal (λ x y same. same) in
    c.drop_others.ensures ∙ ap (filter may_go_by_trees) copied
