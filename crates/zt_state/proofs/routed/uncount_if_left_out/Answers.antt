use Rattle.std.proofs.Common.{map, subst, sym, ◌∙◌}
use Rattle.zt_model.specs.Trees.{counted_table}
use Rattle.zt_indexes.specs.Recounts.{Recounts, recounts-none}
use Rattle.zt_link_state.specs.Routed.{row_of}
use Rattle.zt_state.specs.Indexed.{routed_live}
use Rattle.zt_state.proofs.Unrouted.{all-listed, none-listed}
use Rattle.zt_state.proofs.routed.uncount_if_left_out.Goals as goal

pub returns-then-is_left_out : goal.returns-then-is_left_out
returns-then-is_left_out g c =
    let cmp = g.K.Ord.cmp in
    let ks = c.args.keys.now.keys in
    let rows = map (row_of c.args.origin) ks in
    subst (λ listed. Recounts cmp (routed_live c.args.zid rows) (routed_live c.args.zid listed) c.args.live.now c.uncount_origin.new.live)
    (sym (none-listed cmp c.args.region (counted_table c.args.table.now) c.args.origin (sym c.is_left_out.ensures ∙ c.if-is_left_out.true) ks)) c.uncount_origin.ensures

pub returns-else-is_left_out : goal.returns-else-is_left_out
returns-else-is_left_out g c =
    let cmp = g.K.Ord.cmp in
    let ks = c.args.keys.now.keys in
    let rows = map (row_of c.args.origin) ks in
    subst (λ listed. Recounts cmp (routed_live c.args.zid rows) (routed_live c.args.zid listed) c.args.live.now c.args.live.now)
    (sym (all-listed cmp c.args.region (counted_table c.args.table.now) c.args.origin (sym c.is_left_out.ensures ∙ c.if-is_left_out.false) ks)) (recounts-none cmp (routed_live c.args.zid rows) c.args.live.now)
