use Rattle.std.proofs.Common.{◌≡◌, ◌||◌, ◌&&◌}
use Rattle.zt_indexes.specs.Grouped.{is_in}
use Rattle.zt_indexes.specs.Sought.{is_sought}
use Rattle.zt_indexes.proofs.search.gather_each.Given as goal

-- those found and those left that are sought are those found before and all that are sought
abbrev pub invariant-loop-expr : goal.invariant-loop-expr
invariant-loop-expr g l =
    let cmp = g.K.Ord.cmp in
    let sought = is_sought cmp (g.K.Key.matching l.key) (g.T.RegionTest.passes l.test) l.keys.entries in
    (q : g.row.K.Denot) → (is_in cmp q l.found.items || (is_in cmp q l.expr-iterator && sought q)) ≡ (is_in cmp q l.fn.found.items || (is_in cmp q l.more.keys && sought q))
