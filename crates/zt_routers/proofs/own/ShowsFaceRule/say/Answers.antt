use Rattle.std.proofs.Common.{◌≡◌, ◌++◌, ap, map, subst, sym, ◌∙◌}
use Rattle.std.proofs.lemmas.Result.{on_ok_weaker}
use Rattle.zt_model.specs.Trees.{is_newly_shown}
use Rattle.zt_routers.specs.Branches.{IsOwnBranch}
use Rattle.zt_routers.proofs.Branches.{shown_to}
use Rattle.zt_routers.proofs.own.ShowsFaceRule.say.Goals as goal

pub returns : goal.returns
returns g c =
    let rows = c.args.g.now in
    let f = c.args.f.now in
    let source = c.args.self.now.source in
    let e = c.args.self.now.expr.now in
    let branch = c.own_branch-branch.result in
    let here : f.region ≡ branch.region = sym (c.own_branch-branch.ensures.region ∙ c.region-2.ensures) in
    let is : c.is_newly_shown-goes_on.result ≡ is_newly_shown g.K.Ord.cmp rows source e branch.region = c.is_newly_shown-goes_on.ensures ∙ ap (is_newly_shown g.K.Ord.cmp rows source e) (c.region.ensures ∙ here) in
    let own = subst (λ goes_on. IsOwnBranch rows branch.region goes_on branch.children.now branch.node_id) is c.own_branch-branch.ensures.branch in
    on_ok_weaker c.pass_to.result
    (λ more. more ∙ ap (λ ms. c.args.sends.now.items ++ map (λ m. (f.number, m)) ms) (shown_to g.K.Ord.cmp rows source e branch.region branch.children.now branch.node_id own f here))
    c.pass_to.ensures
