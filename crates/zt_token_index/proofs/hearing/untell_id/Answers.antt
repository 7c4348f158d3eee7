use Rattle.std.proofs.Common.{ap, sym, ◌∙◌}
use Rattle.zt_model.specs.Lists.{at_id}
use Rattle.zt_token_index.proofs.Retold.{retold-found, retold-unfound}
use Rattle.zt_token_index.proofs.hearing.untell_id.Goals as goal

pub returns-in-Some-clause-retold : goal.returns-in-Some-clause-retold
returns-in-Some-clause-retold g c =
    let f = c.args.f.now in
    let found = sym (c.in-Some.ensures.row ∙ ap (at_id c.args.id) c.told.ensures) in
    retold-found g.K.Ord.cmp f.number g.met.K.Ord.total g.met.K.Key.laws.equal_is_same c.args.id c.in-Some.expr.now f.told _ _ found (rw c.told.ensures at c.in-Some.ensures.ordered) (rw c.number.ensures at c.untell.ensures.less)

pub returns-in_default-clause-retold : goal.returns-in_default-clause-retold
returns-in_default-clause-retold g c =
    retold-unfound g.K.Ord.cmp c.args.f.now.number g.met.K.Ord.total g.met.K.Key.laws.equal_is_same c.args.id c.args.f.now.told _ (sym (c.in_default.ensures.row ∙ ap (at_id c.args.id) c.told.ensures))
