use Rattle.std.proofs.Common.{◌<◌, ◌&&◌, if◌then◌else◌, ap₂, arith, length, not, ◌∙◌}
use Rattle.zt_region.specs.Region.{zid_eq}
use Rattle.zt_model.specs.Lists.{with_key}
use Rattle.zt_model.specs.Visible.{shows}
use Rattle.zt_check_causes.proofs.Seen.{routed_more}
use Rattle.zt_check_causes.proofs.expressions.add_all_routed.Goals as goal

pub loop-done-preserved : goal.loop-done-preserved
loop-done-preserved g c =
    let x = c.args in
    let routed = c.routed-routed.result.now in
    let row = c.index-routed-routed.result in
    let before = c.loop-done.exprs.items in
    let within : c.loop-done.done < length routed = omega arith in
    routed_more g.K.Ord.cmp x.rows.now.mode x.own x.rows.now.zid routed c.loop-done.done row x.exprs.now.items before c.add_routed.new.exprs.items within c.index-routed-routed.is c.loop-done.invariant
    (c.in_ok-add_routed.ensures ∙ ap₂ (λ m z. if not (zid_eq row.source z) && shows m x.own row.region then with_key g.K.Ord.cmp row.expr before else before) c.mode.ensures c.zid.ensures)
