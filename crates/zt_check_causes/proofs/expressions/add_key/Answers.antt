use Rattle.std.proofs.Common.{ap, drop, insert, ◌∙◌}
use Rattle.zt_check_faces.specs.Placed.{BeginsEqual, BeginsLess, IsBehind}
use Rattle.zt_check_faces.proofs.Placed.{placed_kept, placed_key, placed_new}
use Rattle.zt_check_causes.proofs.expressions.add_key.Goals as goal

pub returns-in-Ok : goal.returns-in-Ok
returns-in-Ok g c =
    let e = c.args.expr.now in
    let order = g.K.Ord.cmp e in
    let exprs = c.args.exprs.now.items in
    let found : IsBehind order exprs c.in-Ok._place × BeginsEqual order (drop c.in-Ok._place exprs) = rw c.as_slice.ensures.value at c.in-Ok.ensures in
    placed_kept order e c.in-Ok._place exprs found.0.within found.0.behind found.1 ∙ placed_key g.K.Ord.cmp e exprs

pub returns-in_ok-insert-in-Err : goal.returns-in_ok-insert-in-Err
returns-in_ok-insert-in-Err g c =
    let e = c.args.expr.now in
    let order = g.K.Ord.cmp e in
    let exprs = c.args.exprs.now.items in
    let found : IsBehind order exprs c.in-Err.place × BeginsLess order (drop c.in-Err.place exprs) = rw c.as_slice.ensures.value at c.in-Err.ensures in
    c.in_ok-insert-in-Err.ensures.items
    ∙ ap (λ (x : g.row.K.Denot). insert exprs c.in-Err.place x) c.in_ok-copy.ensures
    ∙ placed_new order e (λ x. x) c.in-Err.place exprs found.0.within found.0.behind found.1
    ∙ placed_key g.K.Ord.cmp e exprs
