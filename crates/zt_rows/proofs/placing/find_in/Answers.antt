use Rattle.std.proofs.Common.{ℕ, Option, ap, sym, ◌∙◌}
use Rattle.std.specs.Cmp.{nat_cmp_total}
use Rattle.std.specs.Ordering.{nat_cmp}
use Rattle.zt_rows.proofs.Places.{found-in, found_row}
use Rattle.zt_rows.proofs.placing.find_in.Goals as goal
use Rattle.zt_ordered.specs.Placing.{find-gap, find-place}

pub returns-in-Ok : goal.returns-in-Ok
returns-in-Ok g c =
    let places = c.args.places.now in
    let read = c.index-places-place.result in
    c.row.ensures
    ∙ ap (λ (place : ℕ × Option g.row.X.Denot). place.1) c.index-places-place.is
    ∙ sym (ap found_row (find-place nat_cmp nat_cmp_total c.args.id places c.in-Ok.place read (sym c.in-Ok.ensures.place)))
    ∙ found-in c.args.id places c.requires

pub returns-in-Err : goal.returns-in-Err
returns-in-Err g c =
    let places = c.args.places.now in
    sym (ap found_row (find-gap nat_cmp nat_cmp_total c.args.id places c.in-Err.field-0 c.requires (sym c.in-Err.ensures.place)))
    ∙ found-in c.args.id places c.requires
