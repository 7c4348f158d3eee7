use Rattle.std.proofs.Common.{ap, subst, ◌∙◌}
use Rattle.zt_protocol.specs.Plain.{Trees}
use Rattle.zt_model.specs.Trees.{node_of}
use Rattle.zt_link_state.specs.Lookups.{HaveChildrenOf}
use Rattle.zt_routers.proofs.Branches.{branch_to_nobody}
use Rattle.zt_routers.proofs.passing.branch_of.Goals as goal

pub returns-in-None-clause-branch : goal.returns-in-None-clause-branch
returns-in-None-clause-branch g c =
    rw (c.bare_branch.ensures.region, c.bare_branch.ensures.bare, c.bare_branch.ensures.number)
    (branch_to_nobody c.args.g.now c.args.region c.args.source c.in-None.ensures.none)

pub returns-in-Some-clause-branch : goal.returns-in-Some-clause-branch
returns-in-Some-clause-branch g c = record {
  entries = subst (λ (t : Trees). HaveChildrenOf c.args.source c.children_of.result.now t.children) c.in-Some.ensures.some c.children_of.ensures;
  number = c.node_of.ensures ∙ ap (node_of c.args.source) c.in-Some.ensures.some;
}
