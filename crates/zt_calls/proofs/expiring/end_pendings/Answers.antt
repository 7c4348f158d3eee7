use Rattle.std.proofs.Common.{◌≤◌, ◌<◌, get_or, length, arith}
use Rattle.std.proofs.lemmas.List.{get_or_default}
use Rattle.zt_calls.specs.Expired.{ending_each}
use Rattle.zt_calls.proofs.Doing.{leads-all, leads-done, leads-more}
use Rattle.zt_calls.proofs.expiring.end_pendings.Goals as goal

pub loop-row-init : goal.loop-row-init
loop-row-init g c = leads-all g.K.Ord.cmp g.K.Key.matching ending_each c.args.ended.now c.args.g.now c.args.speech.now

pub loop-row-preserved : goal.loop-row-preserved
loop-row-preserved g c =
    let rows = c.args.ended.now in
    let within : c.loop-row.row-index < length rows = omega arith in
    leads-more g.K.Ord.cmp g.K.Key.matching ending_each rows c.loop-row.row-index (get_or rows c.loop-row.row-index (0, 0)) c.args.g.now c.loop-row.g c.end_each.new.g c.args.speech.now c.loop-row.speech c.end_each.new.speech within (get_or_default rows c.loop-row.row-index (0, 0) (get_or rows c.loop-row.row-index (0, 0)) within) c.loop-row.invariant c.in_ok-end_each.ensures

pub returns : goal.returns
returns g c =
    let rows = c.args.ended.now in
    let past : length rows ≤ c.loop-row.row-index = omega arith in
    leads-done g.K.Ord.cmp g.K.Key.matching ending_each rows c.loop-row.row-index c.args.g.now c.loop-row.g c.args.speech.now c.loop-row.speech past c.loop-row.invariant
