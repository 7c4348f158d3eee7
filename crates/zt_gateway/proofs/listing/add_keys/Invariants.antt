use Rattle.std.proofs.Common.{◌≡◌, ◌++◌, map}
use Rattle.zt_gateway.specs.Declarers.{router_row}
use Rattle.zt_gateway.proofs.listing.add_keys.Given as goal

-- the rows so far and those of the keys left are all
abbrev pub invariant-loop-expr : goal.invariant-loop-expr
invariant-loop-expr g l = l.rows.items ++ map (router_row l.source) l.expr-iterator ≡ l.fn.rows.items ++ map (router_row l.source) l.keys.keys
