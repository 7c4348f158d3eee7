use Rattle.std.proofs.Common.{ne_eqb, arith}
use Rattle.zt_keys.proofs.Ends.{walked-end}
use Rattle.zt_keys.proofs.walk.split_last.Goals as goal

pub returns-clause-last : goal.returns-clause-last
returns-clause-last c =
    let found = c.last_start-start.ensures in
    walked-end c.args.text.now c.last_start-start.result (omega arith) (omega (arith, found.within)) (ne_eqb _ _ c.if-text-start-eq47.false) (found.slash (omega arith)) found.slashless
