use Rattle.std.proofs.Common.{◌≡◌, ◌++◌, map}
use Rattle.zt_gateway.proofs.listing.add_live.Given as goal

-- those so far and those left are all
abbrev pub invariant-loop-expr : goal.invariant-loop-expr
invariant-loop-expr g l =
    l.rows.items ++ map (λ row. record { kind = l.kind; zid = l.zid; expr = row.1 }) l.expr-iterator
    ≡ l.fn.rows.items ++ map (λ row. record { kind = l.kind; zid = l.zid; expr = row.1 }) l.live
