use Rattle.std.proofs.Common.{◌∙◌}
use Rattle.std.proofs.lemmas.Result.{IfOk-weaker}
use Rattle.zt_routers.proofs.Branches.{unpasses_all}
use Rattle.zt_routers.proofs.Noted.{unpasses_none}
use Rattle.zt_routers.proofs.passing.unpass.Goals as goal

pub say_to_children-requires : goal.say_to_children-requires
say_to_children-requires g c =
    let branch = c.branch_of-branch.result in
    rw (← c.branch_of-branch.ensures.region) (unpasses_none c.args.g.now branch.region branch.children.now branch.node_id c.args.expr.now)

pub returns : goal.returns
returns g c =
    let branch = c.branch_of-branch.result in
    IfOk-weaker c.say_to_children.result _ _
    (λ sends given.
    given
    ∙ unpasses_all c.args.g.now branch.region branch.children.now branch.node_id g.K.Ord.cmp c.args.region c.args.source c.branch_of-branch.ensures.region c.branch_of-branch.ensures.branch c.args.expr.now c.args.g.now.faces)
    c.say_to_children.ensures
