use Rattle.std.proofs.Common.{List, ap, ◌∙◌}
use Rattle.std.specs.BTreeSet.{BTreeSet}
use Rattle.zt_model.specs.Trees.{counted_table}
use Rattle.zt_link_state.specs.Routed.{rows_in, rows_of}
use Rattle.zt_link_state.specs.declared.origin.Origin.{Origin}
use Rattle.zt_state.specs.Indexed.{routed_live}
use Rattle.zt_state.specs.OwnRows.{listed_rows}
use Rattle.zt_state.proofs.Unrouted.{leads-on, listed-split, origin-split}
use Rattle.zt_state.proofs.routed.uncount_left_out.Goals as goal

pub loop-origin-preserved : goal.loop-origin-preserved
loop-origin-preserved g c =
    let cmp = g.K.Ord.cmp in
    let zid = c.args.zid in
    let region = c.args.region in
    let t = counted_table c.args.table.now in
    let x : Origin × BTreeSet g.row.K.Denot = (c.in-Some.origin.now, c.in-Some.keys.now) in
    let next = c.next.new.self in
    leads-on cmp _ _ _ _ (routed_live zid (rows_of x)) (routed_live zid (listed_rows cmp region t (rows_of x))) _ _ _ _ _
    (ap (λ (es : List (Origin × BTreeSet g.row.K.Denot)). routed_live zid (rows_in es)) c.in-Some.ensures.steps ∙ origin-split cmp zid x next)
    (ap (λ (es : List (Origin × BTreeSet g.row.K.Denot)). routed_live zid (listed_rows cmp region t (rows_in es))) c.in-Some.ensures.steps ∙ listed-split cmp zid region t x next)
    c.loop-origin.invariant c.uncount_if_left_out.ensures
