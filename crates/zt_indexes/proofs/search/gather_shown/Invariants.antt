use Rattle.std.proofs.Common.{◌≡◌, ◌++◌}
use Rattle.zt_indexes.specs.Live.{shown_keys}
use Rattle.zt_indexes.proofs.search.gather_shown.Given as goal

-- those found and those left that are shown are all that are shown
abbrev pub invariant-loop-expr : goal.invariant-loop-expr
invariant-loop-expr g l =
    let shown = g.T.RegionTest.passes l.test in
    l.found.items ++ shown_keys shown l.expr-iterator ≡ shown_keys shown l.keys.entries
