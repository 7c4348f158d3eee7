use Rattle.std.proofs.Common.{sym, ◌∙◌}
use Rattle.zt_rows.proofs.ById.{at_is}
use Rattle.zt_rows.proofs.Mapped.{at-behind, at-front}
use Rattle.zt_rows.specs.Places.{rows_in}
use Rattle.zt_rows.proofs.rows.RowsById.at.Goals as goal

pub returns-in-Some-clause-row : goal.returns-in-Some-clause-row
returns-in-Some-clause-row g c =
    let rows = rows_in c.self.inside.places.items in
    rw (← c.self.view_is) (sym (at-front c.args.id c.in-Some.row.now rows c.self.inside.mapped.entries (rw (← c.deref.ensures.value) (sym c.in-Some.ensures))))

pub returns-in-None-clause-row : goal.returns-in-None-clause-row
returns-in-None-clause-row g c =
    let rows = rows_in c.self.inside.places.items in
    rw (← c.self.view_is) (c.get.ensures.value ∙ at_is c.args.id c.self.inside.mapped.entries ∙ sym (at-behind c.args.id rows c.self.inside.mapped.entries (rw (← c.deref.ensures.value) (sym c.in-None.ensures))))
