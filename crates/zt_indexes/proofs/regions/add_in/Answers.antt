use Rattle.std.proofs.Common.{ap, refl, sym, ◌∙◌}
use Rattle.zt_indexes.proofs.Counting.{one-more-at}
use Rattle.zt_indexes.proofs.OneEach.{each-found, each-pushed, none-own}
use Rattle.zt_indexes.proofs.regions.add_in.Goals as goal

pub returns-in_ok-rows-in-Some-clause-ok : goal.returns-in_ok-rows-in-Some-clause-ok
returns-in_ok-rows-in-Some-clause-ok c =
    one-more-at c.args.region c.args.rows.now.items c.in-Some.place c.index.result.now c.in_ok-rows-in-Some.field-0
    (rw c.as_slice.ensures.value at (sym c.place_for.ensures ∙ c.in-Some.is))
    c.index.ensures c.in_ok-rows-in-Some.ensures

pub returns-in_ok-rows-in-Some-clause-each : goal.returns-in_ok-rows-in-Some-clause-each
returns-in_ok-rows-in-Some-clause-each c =
    each-found c.args.region c.args.rows.now.items c.in-Some.place c.index.result.now c.in_ok-rows-in-Some.field-0
    (rw c.as_slice.ensures.value at (sym c.place_for.ensures ∙ c.in-Some.is))
    c.index.ensures (ap (λ row. row.0) c.in_ok-rows-in-Some.ensures)

pub returns-in_ok-push-in-None-clause-each : goal.returns-in_ok-push-in-None-clause-each
returns-in_ok-push-in-None-clause-each c each =
    let none = none-own c.args.region c.args.rows.now.items (rw c.as_slice.ensures.value at (sym c.place_for.ensures ∙ c.in-None.is)) in
    rw c.in_ok-push-in-None.ensures.items (each-pushed c.args.region c.args.rows.now.items (c.args.region, 1) none refl each)
