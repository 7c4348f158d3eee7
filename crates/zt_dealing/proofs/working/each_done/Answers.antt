use Rattle.std.proofs.Common.{◌≡◌, IfOk, length, get_or, subst, sym, arith}
use Rattle.zt_dealing.proofs.WorkLemmas.{zip_collected}
use Rattle.zt_dealing.proofs.working.each_done.Goals as goal

pub returns : goal.returns
returns g c =
    let results = c.in_ok-results.results.items in
    let long : length results ≡ length c.args.jobs.items = omega (arith, c.in_ok-results.ensures.len, c.in_ok-results.results.ok.0, c.args.jobs.ok.0) in
    zip_collected g.W.Worker.makes c.args.jobs.items results c.collected.result c.collected.ensures long
    (λ i d r less. let one = (c.in_ok-results.ensures.each i r less).1 in subst (λ job. IfOk (get_or results i r) (g.W.Worker.makes job)) (sym (one.job_is d)) one.call.met)
