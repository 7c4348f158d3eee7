use Rattle.std.proofs.Common.{◌++◌, ap, subst, sym, ◌∙◌}
use Rattle.std.specs.FinMap.Entries.{put}
use Rattle.std.specs.Ordering.{nat_cmp}
use Rattle.zt_rows.specs.ById.{IsInOrder}
use Rattle.zt_rows.specs.Places.{rows_in}
use Rattle.zt_rows.proofs.ById.{put_is}
use Rattle.zt_rows.proofs.rows.put_mapped.Goals as goal

pub returns-clause-ok : goal.returns-clause-ok
returns-clause-ok g c =
    let moved = c.in_ok-move_all.ensures in
    let rows = c.move_all.new.mapped.entries in
    ap (λ places. rows_in places ++ c.insert.new.self.entries) moved.ok
    ∙ c.in_ok-insert.ensures.entries ∙ put_is c.args.id c.args.row rows
    ∙ ap (put nat_cmp c.args.id c.args.row) (ap (λ places. rows_in places ++ rows) (sym moved.ok) ∙ moved.rows)

pub returns-clause-ordered : goal.returns-clause-ordered
returns-clause-ordered g c =
    subst (λ places. IsInOrder (rows_in places ++ c.insert.new.self.entries)) (sym c.in_ok-move_all.ensures.ok) c.in_ok-insert.ensures.ordered
