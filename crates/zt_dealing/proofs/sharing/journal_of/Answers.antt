use Rattle.std.proofs.Common.{◌≡◌, length, map, subst, ap, arith}
use Rattle.std.proofs.lemmas.Result.{IfOk-weaker}
use Rattle.zt_shared_value.specs.Passes.{Standing}
use Rattle.zt_shared.specs.Recorded.{Recorded, journalled}
use Rattle.zt_dealing.specs.Dealing.{IsMadeByPasses, IsMadeByWorkers, MayWork, part}
use Rattle.zt_plans.specs.Plans.{numbered}
use Rattle.zt_dealing.proofs.DealLemmas.{all_done, at_place, done_long, each_may, own_passes, speak_first}
use Rattle.zt_dealing.proofs.sharing.journal_of.Goals as goal

pub deal-requires-clause-first_ids : goal.deal-requires-clause-first_ids
deal-requires-clause-first_ids g c = speak_first c.args.calls.items c.requires.speak

pub work_all-requires-after_bounds : goal.work_all-requires-after_bounds
work_all-requires-after_bounds g c = λ lifetimes bounds k d less.
    let calls = map numbered c.args.calls.items in
    at_place (MayWork c.in_ok-shared.shared) c.in_ok-jobs.jobs.items k d (each_may c.in_ok-shared.shared c.in_ok-shared.first.opening c.args.workers calls 0 c.in_ok-jobs.jobs.items c.in_ok-jobs.ensures.jobs) less

pub journal_with_lines-requires-clause-some : goal.journal_with_lines-requires-clause-some
journal_with_lines-requires-clause-some g c =
    let calls = map numbered c.args.calls.items in
    let long : length c.in_ok-all.all.items ≡ length c.in_ok-jobs.jobs.items = done_long c.in_ok-shared.shared c.in_ok-shared.first.opening c.args.workers calls c.in_ok-jobs.jobs.items c.in_ok-all.all.items c.in_ok-all.ensures in
    omega (arith, c.in_ok-jobs.ensures.len, c.in_ok-jobs.jobs.ok.0, c.requires.some)

pub journal_with_lines-requires-clause-own : goal.journal_with_lines-requires-clause-own
journal_with_lines-requires-clause-own g c =
    let calls = map numbered c.args.calls.items in
    let table = c.in_ok-shared.shared in
    let opening = c.in_ok-shared.first.opening in
    own_passes table opening c.args.workers calls 0 c.in_ok-all.all.items (all_done table opening c.args.workers calls 0 c.in_ok-jobs.jobs.items c.in_ok-all.all.items c.in_ok-jobs.ensures.jobs c.in_ok-all.ensures)

pub returns : goal.returns
returns g c =
    let calls = map numbered c.args.calls.items in
    let table = c.in_ok-shared.shared in
    let opening = c.in_ok-shared.first.opening in
    let all = c.in_ok-all.all.items in
    let done = all_done table opening c.args.workers calls 0 c.in_ok-jobs.jobs.items all c.in_ok-jobs.ensures.jobs c.in_ok-all.ensures in
    let long : length all ≡ length c.in_ok-jobs.jobs.items = done_long table opening c.args.workers calls c.in_ok-jobs.jobs.items all c.in_ok-all.ensures in
    let many : length all ≡ c.args.workers = omega (arith, c.in_ok-jobs.ensures.len, c.in_ok-jobs.jobs.ok.0) in
    IfOk-weaker c.journal_with_lines.result _ _
    (λ made is.
    let journal = map journalled made.0.entries.items in
    subst (λ rows. IsMadeByWorkers g.K.Ord.cmp g.K.Key.matching c.args.workers calls rows journal made.1.items) (ap (λ (pass : Standing (Recorded g.row.K.Denot)). pass.opening.opening.rows) c.in_ok-shared.ensures)
    (subst (λ n. IsMadeByPasses g.K.Ord.cmp g.K.Key.matching n (λ p. part c.args.workers p calls) opening.opening.rows journal made.1.items) many (is opening (λ p. part c.args.workers p calls) done)))
    c.journal_with_lines.ensures.made
