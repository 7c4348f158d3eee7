use Rattle.std.proofs.Common.{◌++◌, arith, refl}
use Rattle.zt_model.specs.Trees.{counted_table}
use Rattle.zt_check_keeping.specs.Changed.{unlisted}
use Rattle.zt_check_fabric.proofs.Gathered.{gather_all, gather_more}
use Rattle.zt_check_keeping.proofs.Gathering.{unlisted_first}
use Rattle.zt_check_keeping.proofs.tokens.add_unlisted.Goals as goal

pub loop-row-preserved : goal.loop-row-preserved
loop-row-preserved g c =
    let x = c.args in
    gather_more (unlisted x.gateway x.region (counted_table x.table.now)) (unlisted_first x.gateway x.region (counted_table x.table.now)) x.rows.now c.loop-row.row-index c.row-item.result c.loop-row.tokens.items c.add_unlisted_row.new.tokens.items
    (x.tokens.now.items ++ unlisted x.gateway x.region (counted_table x.table.now) x.rows.now) (omega arith) c.row-item.is c.loop-row.invariant
    (c.in_ok-add_unlisted_row.ensures)

pub returns : goal.returns
returns g c =
    let x = c.args in
    gather_all (unlisted x.gateway x.region (counted_table x.table.now)) refl x.rows.now c.loop-row.row-index c.loop-row.tokens.items (x.tokens.now.items ++ unlisted x.gateway x.region (counted_table x.table.now) x.rows.now) (omega arith) c.loop-row.invariant
