use Rattle.zt_token_index.proofs.Retold.{retold-by-id, retold-unless}
use Rattle.zt_token_index.proofs.hearing.untell_expression.Goals as goal

pub returns-in_err-known-clause-retold : goal.returns-in_err-known-clause-retold
returns-in_err-known-clause-retold g c id =
    let f = c.args.f.now in
    let none = rw c.number.ensures at c.in_err-known.ensures in
    retold-unless g.K.Ord.cmp f.number g.met.K.Ord.total g.met.K.Key.laws.equal_is_same c.args.expr.now f.told c.args.told.now none

pub returns-clause-retold : goal.returns-clause-retold
returns-clause-retold g c id =
    let f = c.args.f.now in
    let found = rw c.number.ensures at c.in_ok-known.ensures in
    retold-by-id g.K.Ord.cmp f.number g.met.K.Ord.total g.met.K.Key.laws.equal_is_same c.in_ok-known.known c.args.expr.now f.told _ _ found c.untell_id.ensures.ordered c.untell_id.ensures.retold
