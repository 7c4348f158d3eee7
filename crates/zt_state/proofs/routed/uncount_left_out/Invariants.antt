use Rattle.zt_model.specs.Trees.{counted_table}
use Rattle.zt_link_state.specs.Routed.{rows_in}
use Rattle.zt_state.specs.Indexed.{routed_live}
use Rattle.zt_state.specs.OwnRows.{listed_rows}
use Rattle.zt_state.proofs.Unrouted.{Leads}
use Rattle.zt_state.proofs.routed.uncount_left_out.Given as goal

-- whoever uncounts those left that the table doesn't list uncounts all of these
abbrev pub invariant-loop-origin : goal.invariant-loop-origin
invariant-loop-origin g l =
    let cmp = g.K.Ord.cmp in
    let t = counted_table l.table in
    Leads cmp (routed_live l.zid l.routed) (routed_live l.zid (listed_rows cmp l.region t l.routed))
    (routed_live l.zid (rows_in l.origin-iterator)) (routed_live l.zid (listed_rows cmp l.region t (rows_in l.origin-iterator))) l.fn.live l.live
