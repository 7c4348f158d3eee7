use Rattle.std.proofs.Common.{◌≡◌, ap, filter, subst, ◌∙◌}
use Rattle.std.proofs.Common.{IfSome}
use Rattle.zt_lookups.specs.Listed.{may_go_by_trees}
use Rattle.zt_lookups.proofs.Listed.{filter_twice}
use Rattle.zt_lookups.proofs.regions.ListedRegions.of_routers.Goals as goal

pub returns-in-Some : goal.returns-in-Some
returns-in-Some c =
    let listed = c.self.inside.listed.items in
    let routed = subst (λ o. IfSome o (λ regions. regions.items ≡ filter may_go_by_trees listed)) c.in-Some.is c.self.invariant.routed in
    ap (filter may_go_by_trees) (c.deref.ensures.value ∙ routed) ∙ filter_twice may_go_by_trees listed ∙ ap (filter may_go_by_trees) c.self.view_is
