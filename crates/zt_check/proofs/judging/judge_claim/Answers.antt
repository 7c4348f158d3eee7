use Rattle.std.proofs.Common.{◌+◌, ◌<◌, length, map, refl, arith}
use Rattle.std.proofs.lemmas.List.{length-map}
use Rattle.zt_protocol.specs.Plain.{plain_entry, plain_line}
use Rattle.zt_check_trace.specs.Entries.{BeginsWithEntry}
use Rattle.zt_check.proofs.JudgingLemmas.{totals_result, underway_breaks, underway_first, underway_next, underway_stops}
use Rattle.zt_check.proofs.TurnLemmas.{member_mapped}
use Rattle.zt_check.proofs.judging.judge_claim.Goals as goal

pub loop-line-init : goal.loop-line-init
loop-line-init g c =
    underway_first g.K.Ord.cmp g.K.Key.matching g.K.Key.printed (map plain_line c.args.lines.now) c.args.claimed.now c.new-fabric.result c.new-fabric.ensures

pub returns-in_default : goal.returns-in_default
returns-in_default g c =
    underway_breaks g.K.Ord.cmp g.K.Key.matching g.K.Key.printed (map plain_line c.args.lines.now) c.args.claimed.now c.loop-line.rest.now c.loop-line.report c.loop-line.line-index (c.loop-line.report.lines + 1) c.loop-line.fabric
    c.loop-line.invariant (omega (arith, c.loop-line-test.true, length-map c.args.lines.now plain_line)) refl (rw c.in_default.is at c.in_ok-entry.ensures)

pub loop-line-preserved : goal.loop-line-preserved
loop-line-preserved g c =
    let lines = c.args.lines.now in
    let i = c.loop-line.line-index in
    let inside : i < length lines = omega arith in
    let within : i < length (map plain_line lines) = omega (arith, length-map lines plain_line) in
    let at = member_mapped plain_line lines i c.line-item.result inside c.line-item.is in
    let next : BeginsWithEntry g.K.Key.printed (c.loop-line.report.lines + 1) c.loop-line.rest.now (plain_entry c.in-Some.entry) c.in-Some.behind.now = rw c.in-Some.is at c.in_ok-entry.ensures in
    underway_next g.K.Ord.cmp g.K.Key.matching g.K.Key.printed (map plain_line lines) c.args.claimed.now c.loop-line.rest.now c.loop-line.report c.count.new.report i (c.loop-line.report.lines + 1)
    c.loop-line.fabric c.judge_turn.new.fabric (plain_line c.line-item.result) (plain_entry c.in-Some.entry) c.in-Some.behind.now c.loop-line.invariant within at refl next c.count.ensures.counted c.count.ensures.range
    ((rw c.in_default-failed.is at c.in_ok-failed.ensures.tells) next.is_entry c.loop-line.invariant.kept) (c.in_ok-failed.ensures.shown c.in_default-failed.is c.loop-line.invariant.kept.placed)

pub returns : goal.returns
returns g c =
    totals_result g.K.Ord.cmp g.K.Key.matching g.K.Key.printed (map plain_line c.args.lines.now) c.args.claimed.now c.loop-line.rest.now c.loop-line.report c.loop-line.line-index c.loop-line.fabric c.judge_totals.result
    c.loop-line.invariant (omega (arith, c.loop-line-test.false, c.loop-line.auto.line-index-end, length-map c.args.lines.now plain_line)) c.judge_totals.ensures

pub judge_totals-requires : goal.judge_totals-requires
judge_totals-requires g c = record { room = omega (arith, c.loop-line.invariant.lines, c.loop-line.auto.line-index-end, c.requires.room) }

pub returns-in-Some-failed : goal.returns-in-Some-failed
returns-in-Some-failed g c =
    let lines = c.args.lines.now in
    let i = c.loop-line.line-index in
    let inside : i < length lines = omega arith in
    let within : i < length (map plain_line lines) = omega (arith, length-map lines plain_line) in
    let at = member_mapped plain_line lines i c.line-item.result inside c.line-item.is in
    let next : BeginsWithEntry g.K.Key.printed (c.loop-line.report.lines + 1) c.loop-line.rest.now (plain_entry c.in-Some.entry) c.in-Some.behind.now = rw c.in-Some.is at c.in_ok-entry.ensures in
    underway_stops g.K.Ord.cmp g.K.Key.matching g.K.Key.printed (map plain_line lines) c.args.claimed.now c.loop-line.rest.now c.loop-line.report i (c.loop-line.report.lines + 1)
    c.loop-line.fabric (plain_line c.line-item.result) (plain_entry c.in-Some.entry) c.in-Some.behind.now c.in-Some-failed.clause c.loop-line.invariant within at refl next
    ((rw c.in-Some-failed.is at c.in_ok-failed.ensures.tells) next.is_entry c.loop-line.invariant.kept)
