use Rattle.std.proofs.Common.{arith}
use Rattle.zt_text.proofs.heads.put_fields.Goals as goal

pub returns-in-DeclareQueryable-clause-fit : goal.returns-in-DeclareQueryable-clause-fit
returns-in-DeclareQueryable-clause-fit g c =
    rw c.in-DeclareQueryable.is (omega arith, omega arith, c.put_queryable.ensures.distance)
