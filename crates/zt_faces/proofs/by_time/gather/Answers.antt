use Rattle.std.proofs.Common.{◌≡◌, false, rules, true}
use Rattle.zt_faces.specs.Slots.{faces_in}
use Rattle.zt_faces.specs.Timed.{has_waited}
use Rattle.zt_faces.proofs.Times.{gathering-end, gathering-none, gathering-step, gathering-stop}
use Rattle.zt_faces.proofs.by_time.gather.Goals as goal

pub loop-timed-init : goal.loop-timed-init
loop-timed-init g c =
    let gives = c.into_iter-timed-iterator.ensures.into_iter_gives in
    rw c.new-found.ensures.items
    (gathering-none c.args.now c.args.timeout (faces_in c.args.slots.now) c.args.rows.now.keys _ gives.0 gives.4 c.requires.timed)

pub loop-timed-preserved : goal.loop-timed-preserved
loop-timed-preserved g c =
    let made = c.in_ok-gather_one.ensures in
    let waited : has_waited c.args.now c.args.timeout c.in-Some.timed.now.since ≡ true = search rules in
    rw made.found
    (gathering-step c.args.now c.args.timeout (faces_in c.args.slots.now) c.in-Some.timed.now _ _ _ c.in-Some.ensures.steps c.loop-timed.invariant waited made.ordered)

pub returns-then-not-has_waited : goal.returns-then-not-has_waited
returns-then-not-has_waited g c =
    let late : has_waited c.args.now c.args.timeout c.in-Some.timed.now.since ≡ false = search rules in
    gathering-stop c.args.now c.args.timeout (faces_in c.args.slots.now) c.in-Some.timed.now _ _ _ c.in-Some.ensures.steps c.loop-timed.invariant late

pub returns : goal.returns
returns g c = gathering-end c.args.now c.args.timeout (faces_in c.args.slots.now) _ _ c.in-None.ensures.steps.0 c.loop-timed.invariant
