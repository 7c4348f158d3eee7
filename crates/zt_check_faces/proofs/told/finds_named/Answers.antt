use Rattle.std.proofs.Common.{sym}
use Rattle.zt_check_faces.proofs.Hinting.{named-by_pair}
use Rattle.zt_check_faces.proofs.told.finds_named.Goals as goal

pub returns-then-is_found : goal.returns-then-is_found
returns-then-is_found g c = sym (named-by_pair g.K.Ord.cmp c.args.id c.args.rows.now c.args.expr.now (c.is_found.ensures c.if-is_found.true))
