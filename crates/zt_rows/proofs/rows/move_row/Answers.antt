use Rattle.std.proofs.Common.{sym, ◌∙◌}
use Rattle.zt_rows.proofs.Mapped.{moved-one}
use Rattle.zt_rows.proofs.rows.move_row.Goals as goal

pub returns-clause-moved : goal.returns-clause-moved
returns-clause-moved g c =
    moved-one c.args.place.now c.in-Some.row c.args.mapped.now.entries c.insert.new.self.entries (sym c.take.ensures.row ∙ c.in-Some.is) c.requires (rw (c.id.ensures, c.take.ensures.emptied) at c.in_default-insert.ensures.entries)
