use Rattle.std.proofs.Common.{rules, map-id, sym, ap, ◌∙◌}
use Rattle.std.proofs.lemmas.Iterator.Consumers.{YieldsList-end}
use Rattle.std.proofs.lemmas.Iterator.Adapters.{YieldsList-from_vec}
use Rattle.zt_dealing.specs.Dealing.{apart, part}
use Rattle.zt_plans.specs.Plans.{numbered}
use Rattle.zt_dealing.proofs.DealLemmas.{apart_more, part_more}
use Rattle.zt_dealing.proofs.dealing.part_of.Goals as goal

pub loop-one-preserved : goal.loop-one-preserved
loop-one-preserved g c = record {
  own = part_more c.args.workers c.args.worker c.loop-one.own.items c.put.new.own.items c.loop-one.yielded c.in-Some.one c.loop-one.invariant.own c.in_ok-put.ensures.own;
  others = apart_more c.args.workers c.args.worker c.loop-one.others.items c.put.new.others.items c.loop-one.yielded c.in-Some.one c.loop-one.invariant.others c.in_ok-put.ensures.others;
}

pub returns-clause-own : goal.returns-clause-own
returns-clause-own g c =
    let end = YieldsList-end (YieldsList-from_vec {s = c.into_iter-one-iterator.result} c.args.calls.items (search rules) (search rules))
    c.loop-one.yielded c.loop-one.one-iterator c.loop-one.yielded_by c.next.result c.next.new.self c.in-None.is c.next.ensures.steps in
    rw (← end.0, map-id) c.loop-one.invariant.own

pub returns-clause-others : goal.returns-clause-others
returns-clause-others g c =
    let end = YieldsList-end (YieldsList-from_vec {s = c.into_iter-one-iterator.result} c.args.calls.items (search rules) (search rules))
    c.loop-one.yielded c.loop-one.one-iterator c.loop-one.yielded_by c.next.result c.next.new.self c.in-None.is c.next.ensures.steps in
    rw (← end.0, map-id) c.loop-one.invariant.others
