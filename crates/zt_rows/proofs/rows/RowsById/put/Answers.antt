use Rattle.std.proofs.Common.{refl}
use Rattle.zt_rows.proofs.Mapped.{alone-ordered}
use Rattle.zt_rows.proofs.rows.RowsById.put.Goals as goal

pub invariant_of-self-in-None : goal.invariant_of-self-in-None
invariant_of-self-in-None g c =
    let rising = c.in_ok-put_in.ensures.rising in
    (rising, alone-ordered c.put_in.new.places.items c.self.inside.mapped.entries rising (c.if-not-is_empty.ensures.0 refl))

pub returns-in-None-clause-ordered : goal.returns-in-None-clause-ordered
returns-in-None-clause-ordered g c = (invariant_of-self-in-None g c).1
