use Rattle.std.proofs.Common.{drop, ◌∙◌}
use Rattle.zt_region.specs.declared.region.Region.{Region}
use Rattle.zt_protocol.specs.Plain.{Trees}
use Rattle.zt_model.specs.Trees.{region_order}
use Rattle.zt_check_faces.specs.Placed.{BeginsEqual, BeginsLess, IsBehind}
use Rattle.zt_check_faces.proofs.Placed.{placed_new, placed_put, placed_same}
use Rattle.zt_check_rows.proofs.tables.put_table.Goals as goal

pub returns-in-Ok : goal.returns-in-Ok
returns-in-Ok c =
    let order = λ (row : Region × Trees). region_order c.args.region row.0 in
    let rows = c.args.trees.now.items in
    let found : IsBehind order rows c.in-Ok.place × BeginsEqual order (drop c.in-Ok.place rows) = rw c.as_slice.ensures.value at c.in-Ok.ensures in
    placed_same order (c.args.region, c.args.table) (λ row. (row.0, c.args.table)) c.in-Ok.place rows c.index_mut-found.result.now found.0.within found.0.behind found.1 c.index_mut-found.ensures.value
    ∙ placed_put region_order c.args.region c.args.table rows

pub returns-in_ok-insert-in-Err : goal.returns-in_ok-insert-in-Err
returns-in_ok-insert-in-Err c =
    let order = λ (row : Region × Trees). region_order c.args.region row.0 in
    let rows = c.args.trees.now.items in
    let found : IsBehind order rows c.in-Err.place × BeginsLess order (drop c.in-Err.place rows) = rw c.as_slice.ensures.value at c.in-Err.ensures in
    c.in_ok-insert-in-Err.ensures.items
    ∙ (placed_new order (c.args.region, c.args.table) (λ row. (row.0, c.args.table)) c.in-Err.place rows found.0.within found.0.behind found.1
    ∙ placed_put region_order c.args.region c.args.table rows)
