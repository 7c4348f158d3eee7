use Rattle.std.proofs.Common.{◌-◌, nat_le, not, subst, sym}
use Rattle.zt_check_faces.specs.Rising.{Rise}
use Rattle.zt_check_faces.proofs.Risen.{rise_filter}
use Rattle.zt_check_faces.proofs.face.RowsById+ShownPending.expire.Goals as goal

pub invariant_of-self : goal.invariant_of-self
invariant_of-self c =
    subst Rise (sym c.drop_expired.ensures)
    (rise_filter (λ row. not (nat_le c.args.timeout (c.args.now - row.1.since))) c.self.inside.rows.items c.self.invariant)
