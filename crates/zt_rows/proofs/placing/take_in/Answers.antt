use Rattle.std.proofs.Common.{ℕ, Option, None, ap, subst, sym, ◌∙◌}
use Rattle.std.specs.Cmp.{nat_cmp_total}
use Rattle.std.specs.FinMap.Entries.{is_sorted-put}
use Rattle.std.specs.Ordering.{nat_cmp}
use Rattle.zt_rows.specs.Places.{AreRising, rows_in}
use Rattle.zt_rows.proofs.Found.{absent_kept}
use Rattle.zt_rows.proofs.Places.{emptied-in, found-in, found_row}
use Rattle.zt_rows.proofs.placing.take_in.Goals as goal
use Rattle.zt_ordered.specs.Placing.{find-gap, find-place, set-place}
use Rattle.zt_ordered.specs.Test.{T-from, T-to}

pub returns-in-Ok-clause-row : goal.returns-in-Ok-clause-row
returns-in-Ok-clause-row g c =
    let places = c.args.places.now.items in
    let at = sym (rw c.as_slice.ensures.value at c.in-Ok.ensures.place) in
    let read = c.index_mut.result.now in
    c.take.ensures.row
    ∙ ap (λ (place : ℕ × Option g.row.X.Denot). place.1) c.index_mut.ensures.value
    ∙ sym (ap found_row (find-place nat_cmp nat_cmp_total c.args.id places c.in-Ok.place read at))
    ∙ found-in c.args.id places c.requires

pub returns-in-Ok-clause-rest : goal.returns-in-Ok-clause-rest
returns-in-Ok-clause-rest g c =
    let places = c.args.places.now.items in
    let at = sym (rw c.as_slice.ensures.value at c.in-Ok.ensures.place) in
    rw c.take.ensures.emptied (ap rows_in (set-place nat_cmp nat_cmp_total c.args.id None places c.in-Ok.place c.index_mut.result.now at c.index_mut.ensures.value) ∙ emptied-in c.args.id places c.requires)

pub returns-in-Ok-clause-rising : goal.returns-in-Ok-clause-rising
returns-in-Ok-clause-rising g c =
    let places = c.args.places.now.items in
    let at = sym (rw c.as_slice.ensures.value at c.in-Ok.ensures.place) in
    rw c.take.ensures.emptied (subst AreRising (sym (set-place nat_cmp nat_cmp_total c.args.id None places c.in-Ok.place c.index_mut.result.now at c.index_mut.ensures.value))
    (T-to _ (is_sorted-put nat_cmp nat_cmp_total c.args.id None places (T-from _ c.requires))))

pub returns-in-Err-clause-row : goal.returns-in-Err-clause-row
returns-in-Err-clause-row g c =
    let places = c.args.places.now.items in
    let at = sym (rw c.as_slice.ensures.value at c.in-Err.ensures.place) in
    sym (ap found_row (find-gap nat_cmp nat_cmp_total c.args.id places c.in-Err.field-0 c.requires at)) ∙ found-in c.args.id places c.requires

pub returns-in-Err-clause-rest : goal.returns-in-Err-clause-rest
returns-in-Err-clause-rest g c =
    let places = c.args.places.now.items in
    let at = sym (rw c.as_slice.ensures.value at c.in-Err.ensures.place) in
    sym (absent_kept c.args.id (rows_in places) (sym (found-in c.args.id places c.requires) ∙ ap found_row (find-gap nat_cmp nat_cmp_total c.args.id places c.in-Err.field-0 c.requires at)))
