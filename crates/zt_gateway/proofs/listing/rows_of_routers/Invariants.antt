use Rattle.std.proofs.Common.{◌≡◌, ◌++◌, flat_map}
use Rattle.zt_link_state.specs.Routed.{rows_in}
use Rattle.zt_gateway.specs.Declarers.{router_rows}
use Rattle.zt_gateway.proofs.listing.rows_of_routers.Given as goal

-- the rows so far and those of the origins left are all
abbrev pub invariant-loop-origin : goal.invariant-loop-origin
invariant-loop-origin g l = l.rows.items ++ flat_map (router_rows l.own l.region) (rows_in l.origin-iterator) ≡ flat_map (router_rows l.own l.region) l.g.routed
