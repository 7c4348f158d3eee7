use Rattle.std.proofs.Common.{Some, ap, subst, sym, ◌∙◌}
use Rattle.std.specs.Cmp.{nat_cmp_total}
use Rattle.std.specs.FinMap.Entries.{is_sorted-put}
use Rattle.std.specs.Ordering.{nat_cmp}
use Rattle.zt_ordered.specs.Placing.{put-gap, set-place}
use Rattle.zt_ordered.specs.Test.{T-from, T-to}
use Rattle.zt_rows.specs.Places.{AreRising, rows_in}
use Rattle.zt_rows.proofs.Mapped.{put-in}
use Rattle.zt_rows.proofs.placing.put_in.Goals as goal

pub returns-in-Ok-clause-put : goal.returns-in-Ok-clause-put
returns-in-Ok-clause-put g c =
    let places = c.args.places.now.items in
    let at = sym (rw c.as_slice.ensures.value at c.in-Ok.ensures.place) in
    rw c.put.ensures
    (ap rows_in (set-place nat_cmp nat_cmp_total c.args.id (Some c.args.row) places c.in-Ok.place c.index_mut.result.now at c.index_mut.ensures.value) ∙ put-in c.args.id c.args.row places c.requires)

pub returns-in-Ok-clause-rising : goal.returns-in-Ok-clause-rising
returns-in-Ok-clause-rising g c =
    let places = c.args.places.now.items in
    let at = sym (rw c.as_slice.ensures.value at c.in-Ok.ensures.place) in
    rw c.put.ensures
    (subst AreRising (sym (set-place nat_cmp nat_cmp_total c.args.id (Some c.args.row) places c.in-Ok.place c.index_mut.result.now at c.index_mut.ensures.value))
    (T-to _ (is_sorted-put nat_cmp nat_cmp_total c.args.id (Some c.args.row) places (T-from _ c.requires))))

pub returns-in_ok-insert-in-Err-clause-put : goal.returns-in_ok-insert-in-Err-clause-put
returns-in_ok-insert-in-Err-clause-put g c =
    let places = c.args.places.now.items in
    let at = sym (rw c.as_slice.ensures.value at c.in-Err.ensures.place) in
    let items = rw c.taken.ensures at c.in_ok-insert-in-Err.ensures.items in
    ap rows_in (items ∙ sym (put-gap nat_cmp nat_cmp_total c.args.id (Some c.args.row) places c.in-Err.place at)) ∙ put-in c.args.id c.args.row places c.requires

pub returns-in_ok-insert-in-Err-clause-rising : goal.returns-in_ok-insert-in-Err-clause-rising
returns-in_ok-insert-in-Err-clause-rising g c =
    let places = c.args.places.now.items in
    let at = sym (rw c.as_slice.ensures.value at c.in-Err.ensures.place) in
    let items = rw c.taken.ensures at c.in_ok-insert-in-Err.ensures.items in
    subst AreRising (sym (items ∙ sym (put-gap nat_cmp nat_cmp_total c.args.id (Some c.args.row) places c.in-Err.place at)))
    (T-to _ (is_sorted-put nat_cmp nat_cmp_total c.args.id (Some c.args.row) places (T-from _ c.requires)))
