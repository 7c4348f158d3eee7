use Rattle.std.proofs.Common.{◌≡◌, false, subst, true}
use Rattle.zt_routers.specs.Branches.{IsBranchOf}
use Rattle.zt_routers.proofs.passing.own_branch.Goals as goal

pub returns-then-goes_on-clause-branch : goal.returns-then-goes_on-clause-branch
returns-then-goes_on-clause-branch g c =
    let branch = c.branch_of.result in
    let goes_on : c.args.goes_on ≡ true = c.if-goes_on.true in
    record {
      own = λ _. subst (λ z. IsBranchOf c.args.g.now branch.region z branch.children.now branch.node_id) c.zid.ensures c.branch_of.ensures.branch;
      bare = λ no. let never : c.args.goes_on ≡ false = no in cc;
    }

pub returns-else-goes_on-clause-branch : goal.returns-else-goes_on-clause-branch
returns-else-goes_on-clause-branch g c =
    let no : c.args.goes_on ≡ false = c.if-goes_on.false in
    record {
      own = λ goes_on. let never : c.args.goes_on ≡ true = goes_on in cc;
      bare = λ _. c.bare_branch.ensures.bare;
    }
