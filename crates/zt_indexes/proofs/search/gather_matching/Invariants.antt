use Rattle.std.proofs.Common.{◌≡◌, ◌++◌, filter}
use Rattle.zt_indexes.specs.Live.{shown_keys}
use Rattle.zt_indexes.proofs.search.gather_matching.Given as goal

-- those found and those left that are sought are all that are sought
abbrev pub invariant-loop-expr : goal.invariant-loop-expr
invariant-loop-expr g l =
    let shown = g.T.RegionTest.passes l.test in
    let matches = g.K.Key.matching l.key in
    l.found.items ++ filter matches (shown_keys shown l.expr-iterator) ≡ filter matches (shown_keys shown l.keys.entries)
