use Rattle.std.proofs.Common.{◌-◌, refl}
use Rattle.zt_indexes.proofs.OneEach.{each-kept}
use Rattle.zt_indexes.proofs.regions.remove_in.Goals as goal

pub returns-in-Some-clause-each : goal.returns-in-Some-clause-each
returns-in-Some-clause-each c =
    let row = c.index_mut.result.now in
    each-kept c.args.rows.now.items c.in-Some.place row (row.0, row.1 - 1)
    (rw c.as_slice.ensures.value at c.in-Some.ensures.within) c.index_mut.ensures.value refl
