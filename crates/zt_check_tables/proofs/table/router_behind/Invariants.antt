use Rattle.std.proofs.Common.{◌≡◌, ◌==◌, ◌&&◌, drop}
use Rattle.zt_model.specs.Lists.{first_where}
use Rattle.zt_check_tables.proofs.table.router_behind.Given as goal

-- no link so far is sought
abbrev pub invariant-loop-link : goal.invariant-loop-link
invariant-loop-link l =
    first_where (λ x. (x.0 == l.face) && (x.1 == l.node_id)) (drop l.link-index l.links)
    ≡ first_where (λ x. (x.0 == l.face) && (x.1 == l.node_id)) l.links
