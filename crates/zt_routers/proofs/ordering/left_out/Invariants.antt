use Rattle.std.proofs.Common.{◌≡◌, []}
use Rattle.zt_model.specs.Trees.{counted_table}
use Rattle.zt_link_state.specs.Routed.{rows_in}
use Rattle.zt_routers.specs.LeftOut.{exprs_left_out}
use Rattle.zt_tokens.specs.Gathered.{with_keys}
use Rattle.zt_routers.proofs.ordering.left_out.Given as goal

-- with the keys of those left, from the last on, all are in their places
abbrev pub invariant-loop-origin : goal.invariant-loop-origin
invariant-loop-origin g l =
    let cmp = g.K.Ord.cmp in
    let t = counted_table l.table in
    with_keys cmp (exprs_left_out cmp l.region t (rows_in l.origin-iterator.iter)) l.exprs ≡ with_keys cmp (exprs_left_out cmp l.region t l.g.routed) []
