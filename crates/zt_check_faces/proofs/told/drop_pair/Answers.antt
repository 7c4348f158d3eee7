use Rattle.std.proofs.Common.{◌≡◌, true, false, ◌==◌, ◌&&◌, drop, not, rules, tests, subst, sym, ◌∙◌}
use Rattle.std.specs.Ordering.{nat_cmp}
use Rattle.zt_model.specs.Lists.{same}
use Rattle.zt_check_faces.specs.Placed.{BeginsEqual, BeginsLess, IsBehind}
use Rattle.zt_check_faces.specs.Rising.{Rise}
use Rattle.zt_check_faces.proofs.Risen.{rise_filter}
use Rattle.zt_check_faces.proofs.Untold.{pair_gone, pair_none, pair_stays}
use Rattle.zt_check_faces.proofs.told.drop_pair.Goals as goal

pub returns-then-eq-clause-gone : goal.returns-then-eq-clause-gone
returns-then-eq-clause-gone g c =
    let rows = c.args.rows.now.items in
    let found : IsBehind (λ row. nat_cmp c.args.id row.0) rows c.in-Ok.place × BeginsEqual (λ row. nat_cmp c.args.id row.0) (drop c.in-Ok.place rows) = rw c.as_slice.ensures.value at c.in-Ok.ensures.place in
    let named : same g.K.Ord.cmp c.args.expr.now c.index.result.now.1 ≡ true = search (rules, tests) in
    c.remove.ensures.items ∙ pair_gone g.K.Ord.cmp c.args.id c.args.expr.now rows c.in-Ok.place c.index.result.now c.requires found c.index.ensures named

pub returns-then-eq-clause-rise : goal.returns-then-eq-clause-rise
returns-then-eq-clause-rise g c =
    subst Rise (sym (returns-then-eq-clause-gone g c)) (rise_filter (λ row. not (c.args.id == row.0 && same g.K.Ord.cmp c.args.expr.now row.1)) c.args.rows.now.items c.requires)

pub returns-else-eq-clause-gone : goal.returns-else-eq-clause-gone
returns-else-eq-clause-gone g c =
    let rows = c.args.rows.now.items in
    let found : IsBehind (λ row. nat_cmp c.args.id row.0) rows c.in-Ok.place × BeginsEqual (λ row. nat_cmp c.args.id row.0) (drop c.in-Ok.place rows) = rw c.as_slice.ensures.value at c.in-Ok.ensures.place in
    let unnamed : same g.K.Ord.cmp c.args.expr.now c.index.result.now.1 ≡ false = search (rules, tests) in
    pair_stays g.K.Ord.cmp c.args.id c.args.expr.now rows c.in-Ok.place c.index.result.now c.requires found c.index.ensures unnamed

pub returns-in_default-clause-gone : goal.returns-in_default-clause-gone
returns-in_default-clause-gone g c =
    let rows = c.args.rows.now.items in
    let found : IsBehind (λ row. nat_cmp c.args.id row.0) rows c.in_default.field-0 × BeginsLess (λ row. nat_cmp c.args.id row.0) (drop c.in_default.field-0 rows) = rw c.as_slice.ensures.value at c.in_default.ensures.place in
    pair_none g.K.Ord.cmp c.args.id c.args.expr.now rows c.in_default.field-0 c.requires found
