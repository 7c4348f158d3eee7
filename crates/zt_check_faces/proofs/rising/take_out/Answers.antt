use Rattle.std.proofs.Common.{◌==◌, ◌∙◌, drop, not, subst, sym}
use Rattle.std.specs.Ordering.{nat_cmp}
use Rattle.zt_check_faces.specs.Placed.{BeginsEqual, BeginsLess, IsBehind}
use Rattle.zt_check_faces.specs.Rising.{Rise}
use Rattle.zt_check_faces.proofs.Risen.{out_found, out_none, rise_filter}
use Rattle.zt_check_faces.proofs.rising.take_out.Goals as goal

pub returns-in-Ok-clause-gone : goal.returns-in-Ok-clause-gone
returns-in-Ok-clause-gone g c =
    let rows = c.args.rows.now.items in
    let found : IsBehind (λ row. nat_cmp c.args.id row.0) rows c.in-Ok.place × BeginsEqual (λ row. nat_cmp c.args.id row.0) (drop c.in-Ok.place rows) = rw c.as_slice.ensures.value at c.in-Ok.ensures.place in
    c.remove.ensures.items ∙ out_found c.args.id rows c.in-Ok.place c.requires found

pub returns-in-Ok-clause-rise : goal.returns-in-Ok-clause-rise
returns-in-Ok-clause-rise g c =
    subst Rise (sym (returns-in-Ok-clause-gone g c)) (rise_filter (λ row. not (c.args.id == row.0)) c.args.rows.now.items c.requires)

pub returns-in_default-clause-gone : goal.returns-in_default-clause-gone
returns-in_default-clause-gone g c =
    let rows = c.args.rows.now.items in
    let found : IsBehind (λ row. nat_cmp c.args.id row.0) rows c.in_default.field-0 × BeginsLess (λ row. nat_cmp c.args.id row.0) (drop c.in_default.field-0 rows) = rw c.as_slice.ensures.value at c.in_default.ensures.place in
    out_none c.args.id rows c.in_default.field-0 c.requires found
