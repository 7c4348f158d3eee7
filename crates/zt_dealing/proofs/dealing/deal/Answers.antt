use Rattle.std.proofs.Common.{[], rules, map, sym, ap, ◌∙◌, refl, arith}
use Rattle.zt_dealing.specs.Dealing.{apart, part}
use Rattle.zt_plans.specs.Plans.{numbered}
use Rattle.zt_dealing.proofs.DealLemmas.{job_more, jobs_none, left_first, left_here, left_last, left_later, pass_follows, pass_stays}
use Rattle.zt_dealing.proofs.dealing.deal.Goals as goal

pub loop-worker-init : goal.loop-worker-init
loop-worker-init g c = record {
  jobs = jobs_none c.args.shared.now c.args.first.opening c.args.workers (map numbered c.args.calls.items) c.new-jobs.result.items (search rules);
  long = search rules;
  pass = c.requires.fresh;
  rest = sym (left_first c.args.workers (map numbered c.args.calls.items));
}

pub loop-worker-preserved : goal.loop-worker-preserved
loop-worker-preserved g c =
    let inv = c.loop-worker.invariant in
    let all = map numbered c.args.calls.items in
    let worker = c.loop-worker.worker in
    let stays = pass_stays c.args.shared.now c.args.first.opening worker c.in-Ok.next.number [] c.loop-worker.pass c.pass.new.pass inv.pass c.in-Ok.ensures.drawn c.in-Ok.ensures.fresh.0 in
    record {
      jobs = job_more c.args.shared.now c.args.first.opening c.args.workers worker all (map numbered c.loop-worker.rest.items) c.loop-worker.jobs.items c.push.new.self.items _
          inv.jobs (omega (arith, inv.long, c.loop-worker.jobs.ok.0)) stays c.in_ok-own.ensures.own (ap (part c.args.workers worker) inv.rest ∙ left_here c.args.workers worker all) c.requires.first_ids c.in_ok-push.ensures.items;
      long = omega (arith, inv.long, c.in_ok-push.ensures.len);
      pass = pass_follows c.args.shared.now c.args.first.opening worker c.in-Ok.next.number [] c.loop-worker.pass c.in-Ok.next inv.pass c.in-Ok.ensures.made c.in-Ok.ensures.fresh.0 c.requires.begins;
      rest = c.in_ok-own.ensures.others ∙ ap (apart c.args.workers worker) inv.rest ∙ left_later c.args.workers worker all;
    }

pub returns-clause-jobs : goal.returns-clause-jobs
returns-clause-jobs g c =
    let inv = c.loop-worker.invariant in
    let all = map numbered c.args.calls.items in
    let worker = c.loop-worker.worker in
    let rest = inv.rest ∙ left_last c.args.workers c.requires.some worker all (omega arith) in
    job_more c.args.shared.now c.args.first.opening c.args.workers worker all all c.loop-worker.jobs.items c.push-2.new.self.items _
    inv.jobs (omega (arith, inv.long, c.loop-worker.jobs.ok.0)) inv.pass rest refl c.requires.first_ids c.in_ok-push-2.ensures.items
