use Rattle.std.proofs.Common.{rules, map-id}
use Rattle.std.proofs.lemmas.Iterator.Consumers.{YieldsList-end, YieldsList-turn}
use Rattle.std.proofs.lemmas.Iterator.Adapters.{YieldsList-from_vec}
use Rattle.zt_laws.specs.Sound.{CallHasFirstIds}
use Rattle.zt_plans.specs.Plans.{numbered}
use Rattle.zt_dealing.proofs.WorkLemmas.{HasWorked, each_at, worked_next, worked_none}
use Rattle.zt_dealing.proofs.working.work.Goals as goal

pub loop-one-init : goal.loop-one-init
loop-one-init g c = worked_none c.args.job.pass c.new-lines.result.items c.requires.new (search rules)

pub call-requires-clause-first : goal.call-requires-clause-first
call-requires-clause-first g c =
    let turn = YieldsList-turn (YieldsList-from_vec {s = c.into_iter-one-iterator.result} c.args.job.calls.items (search rules) (search rules))
    c.loop-one.yielded c.loop-one.one-iterator c.loop-one.yielded_by c.next.result c.next.new.self c.in-Some.one c.in-Some.is c.next.ensures.steps in
    each_at (λ x. CallHasFirstIds x.1) numbered c.args.job.calls.items _ c.in-Some.one c.requires.first_ids turn.0 turn.1

pub loop-one-preserved : goal.loop-one-preserved
loop-one-preserved g c =
    worked_next g.K.Ord.cmp g.K.Key.matching _ c.args.job.pass c.loop-one.pass c.call.new.pass c.loop-one.yielded c.in-Some.one c.loop-one.lines.items _
    c.loop-one.invariant c.in_ok-call.ensures.ok c.in_ok-push.ensures.items

pub returns : goal.returns
returns g c =
    let end = YieldsList-end (YieldsList-from_vec {s = c.into_iter-one-iterator.result} c.args.job.calls.items (search rules) (search rules))
    c.loop-one.yielded c.loop-one.one-iterator c.loop-one.yielded_by c.next.result c.next.new.self c.in-None.is c.next.ensures.steps in
    let has : HasWorked c.args.job.pass c.loop-one.pass c.args.job.calls.items c.loop-one.lines.items = rw (← end.0, map-id) c.loop-one.invariant in
    record { table = has.table; opening = has.opening; number = has.number; known = has.known; made = has.made; lines = has.lines_are }
