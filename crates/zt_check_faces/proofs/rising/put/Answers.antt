use Rattle.std.proofs.Common.{ℕ, drop, subst, sym, ◌∙◌}
use Rattle.std.specs.Ordering.{nat_cmp}
use Rattle.zt_check_faces.specs.Placed.{BeginsEqual, BeginsLess, IsBehind}
use Rattle.zt_check_faces.specs.Rising.{Rise}
use Rattle.zt_check_faces.proofs.Placed.{placed_new, placed_put, placed_same}
use Rattle.zt_check_faces.proofs.Risen.{rise_put}
use Rattle.zt_check_faces.proofs.rising.put.Goals as goal

pub returns-in-Ok-clause-put : goal.returns-in-Ok-clause-put
returns-in-Ok-clause-put g c =
    let order = λ (row : ℕ × g.row.T.Denot). nat_cmp c.args.id row.0 in
    let rows = c.args.rows.now.items in
    let found : IsBehind order rows c.in-Ok.place × BeginsEqual order (drop c.in-Ok.place rows) = rw c.as_slice.ensures.value at c.in-Ok.ensures.place in
    placed_same order (c.args.id, c.args.row) (λ row. (row.0, c.args.row)) c.in-Ok.place rows c.index_mut-found.result.now found.0.within found.0.behind found.1 c.index_mut-found.ensures.value
    ∙ placed_put nat_cmp c.args.id c.args.row rows

pub returns-in-Ok-clause-rise : goal.returns-in-Ok-clause-rise
returns-in-Ok-clause-rise g c =
    subst Rise (sym (returns-in-Ok-clause-put g c)) (rise_put c.args.id c.args.row c.args.rows.now.items c.requires)

pub returns-in_ok-insert-in-Err-clause-put : goal.returns-in_ok-insert-in-Err-clause-put
returns-in_ok-insert-in-Err-clause-put g c =
    let order = λ (row : ℕ × g.row.T.Denot). nat_cmp c.args.id row.0 in
    let rows = c.args.rows.now.items in
    let found : IsBehind order rows c.in-Err.place × BeginsLess order (drop c.in-Err.place rows) = rw c.as_slice.ensures.value at c.in-Err.ensures.place in
    c.in_ok-insert-in-Err.ensures.items
    ∙ (placed_new order (c.args.id, c.args.row) (λ row. (row.0, c.args.row)) c.in-Err.place rows found.0.within found.0.behind found.1
    ∙ placed_put nat_cmp c.args.id c.args.row rows)

pub returns-in_ok-insert-in-Err-clause-rise : goal.returns-in_ok-insert-in-Err-clause-rise
returns-in_ok-insert-in-Err-clause-rise g c =
    subst Rise (sym (returns-in_ok-insert-in-Err-clause-put g c)) (rise_put c.args.id c.args.row c.args.rows.now.items c.requires)
