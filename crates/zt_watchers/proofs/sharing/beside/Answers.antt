use Rattle.std.proofs.Common.{◌≡◌, ◌+◌, map, length, subst, ◌∙◌, arith}
use Rattle.std.proofs.lemmas.Result.{IfOk-weaker}
use Rattle.zt_shared.specs.Recorded.{journalled}
use Rattle.zt_watchers.specs.Text.{plain_poll}
use Rattle.zt_plans.specs.Plans.{numbered}
use Rattle.zt_dealing.proofs.DealLemmas.{each_may, speak_first}
use Rattle.zt_watchers.specs.Watching.{OpensWatch, RefusesWatch, StartsWatch}
use Rattle.zt_watchers.specs.Beside.{AreDealt, IsMadeBeside}
use Rattle.zt_watchers.proofs.BesideLemmas.{job_tables}
use Rattle.zt_watchers.proofs.sharing.beside.Goals as goal

pub deal-requires-clause-first_ids : goal.deal-requires-clause-first_ids
deal-requires-clause-first_ids g c = speak_first c.args.calls.items c.requires.speak

pub pass_behind-requires : goal.pass_behind-requires
pass_behind-requires g c = job_tables c.args.shared c.args.first.opening c.args.workers (map numbered c.args.calls.items) 0 c.in_ok-jobs.jobs.items c.in_ok-jobs.ensures.jobs

pub end_watched-requires-clause-jobs : goal.end_watched-requires-clause-jobs
end_watched-requires-clause-jobs g c κs within =
    let calls = map numbered c.args.calls.items in
    let dealt : AreDealt c.args.shared c.args.first.opening c.args.workers calls c.in_ok-jobs.jobs.items = record { some = c.requires.some; many = omega (arith, c.in_ok-jobs.ensures.len, c.in_ok-jobs.jobs.ok.0); each = c.in_ok-jobs.ensures.jobs } in
    let drawn = c.in_ok-jobs-2.ensures.dealt c.args.first.opening c.args.workers calls c.requires.begins dealt in
    each_may c.args.shared c.args.first.opening c.args.workers calls 0 c.in_ok-jobs-2.jobs.items drawn.0.each

pub end_unwatched-requires-clause-jobs : goal.end_unwatched-requires-clause-jobs
end_unwatched-requires-clause-jobs g c κs within =
    let calls = map numbered c.args.calls.items in
    let dealt : AreDealt c.args.shared c.args.first.opening c.args.workers calls c.in_ok-jobs.jobs.items = record { some = c.requires.some; many = omega (arith, c.in_ok-jobs.ensures.len, c.in_ok-jobs.jobs.ok.0); each = c.in_ok-jobs.ensures.jobs } in
    let drawn = c.in_ok-jobs-2.ensures.dealt c.args.first.opening c.args.workers calls c.requires.begins dealt in
    each_may c.args.shared c.args.first.opening c.args.workers calls 0 c.in_ok-jobs-2.jobs.items drawn.0.each

pub returns-in-Watching : goal.returns-in-Watching
returns-in-Watching g c =
    let calls = map numbered c.args.calls.items in
    let opening = c.args.first.opening in
    let dealt : AreDealt c.args.shared opening c.args.workers calls c.in_ok-jobs.jobs.items = record { some = c.requires.some; many = omega (arith, c.in_ok-jobs.ensures.len, c.in_ok-jobs.jobs.ok.0); each = c.in_ok-jobs.ensures.jobs } in
    let drawn = c.in_ok-jobs-2.ensures.dealt opening c.args.workers calls c.requires.begins dealt in
    let starts : StartsWatch g.K.Ord.cmp g.K.Key.matching c.args.wanted c.args.expr c.in_ok-jobs-2.own c.in-Watching.watching = subst (λ o. OpensWatch g.K.Ord.cmp g.K.Key.matching c.args.wanted c.args.expr c.in_ok-jobs-2.own o) c.in-Watching.is c.in_ok-watching.ensures in
    IfOk-weaker c.end_watched.result _ _
    (λ watched is.
    subst (λ n. IsMadeBeside g.K.Ord.cmp g.K.Key.matching c.args.workers calls (n + 1) c.args.expr opening.opening.rows (map journalled watched.journal.entries.items) watched.lines.items (map plain_poll watched.polls.items)) starts.as_often
    (is opening c.args.workers calls c.args.expr drawn.0 (starts.starts c.args.workers drawn.1.least drawn.1.counted drawn.1.made) (starts.later.opening ∙ drawn.1.opening_is)))
    c.end_watched.ensures

pub returns-in-Refused : goal.returns-in-Refused
returns-in-Refused g c =
    let calls = map numbered c.args.calls.items in
    let opening = c.args.first.opening in
    let dealt : AreDealt c.args.shared opening c.args.workers calls c.in_ok-jobs.jobs.items = record { some = c.requires.some; many = omega (arith, c.in_ok-jobs.ensures.len, c.in_ok-jobs.jobs.ok.0); each = c.in_ok-jobs.ensures.jobs } in
    let drawn = c.in_ok-jobs-2.ensures.dealt opening c.args.workers calls c.requires.begins dealt in
    let refuses : RefusesWatch c.in_ok-jobs-2.own c.in-Refused.pass = subst (λ o. OpensWatch g.K.Ord.cmp g.K.Key.matching c.args.wanted c.args.expr c.in_ok-jobs-2.own o) c.in-Refused.is c.in_ok-watching.ensures in
    IfOk-weaker c.end_unwatched.result _ _ (λ watched is. is opening c.args.workers calls (c.args.wanted + 1) c.args.expr c.in_ok-jobs-2.own drawn.0 drawn.1 refuses) c.end_unwatched.ensures

pub open_monitor-requires : goal.open_monitor-requires
open_monitor-requires g c =
    let calls = map numbered c.args.calls.items in
    let opening = c.args.first.opening in
    let dealt : AreDealt c.args.shared opening c.args.workers calls c.in_ok-jobs.jobs.items = record { some = c.requires.some; many = omega (arith, c.in_ok-jobs.ensures.len, c.in_ok-jobs.jobs.ok.0); each = c.in_ok-jobs.ensures.jobs } in
    let drawn = c.in_ok-jobs-2.ensures.dealt opening c.args.workers calls c.requires.begins dealt in
    drawn.1.table_is

pub end_watched-requires-clause-monitor : goal.end_watched-requires-clause-monitor
end_watched-requires-clause-monitor g c κs within =
    let calls = map numbered c.args.calls.items in
    let opening = c.args.first.opening in
    let dealt : AreDealt c.args.shared opening c.args.workers calls c.in_ok-jobs.jobs.items = record { some = c.requires.some; many = omega (arith, c.in_ok-jobs.ensures.len, c.in_ok-jobs.jobs.ok.0); each = c.in_ok-jobs.ensures.jobs } in
    let drawn = c.in_ok-jobs-2.ensures.dealt opening c.args.workers calls c.requires.begins dealt in
    let starts : StartsWatch g.K.Ord.cmp g.K.Key.matching c.args.wanted c.args.expr c.in_ok-jobs-2.own c.in-Watching.watching = subst (λ o. OpensWatch g.K.Ord.cmp g.K.Key.matching c.args.wanted c.args.expr c.in_ok-jobs-2.own o) c.in-Watching.is c.in_ok-watching.ensures in
    record { own = starts.later.table ∙ drawn.1.table_is; seen = starts.seen }

pub end_unwatched-requires-clause-own : goal.end_unwatched-requires-clause-own
end_unwatched-requires-clause-own g c κs within =
    let calls = map numbered c.args.calls.items in
    let opening = c.args.first.opening in
    let dealt : AreDealt c.args.shared opening c.args.workers calls c.in_ok-jobs.jobs.items = record { some = c.requires.some; many = omega (arith, c.in_ok-jobs.ensures.len, c.in_ok-jobs.jobs.ok.0); each = c.in_ok-jobs.ensures.jobs } in
    let drawn = c.in_ok-jobs-2.ensures.dealt opening c.args.workers calls c.requires.begins dealt in
    let refuses : RefusesWatch c.in_ok-jobs-2.own c.in-Refused.pass = subst (λ o. OpensWatch g.K.Ord.cmp g.K.Key.matching c.args.wanted c.args.expr c.in_ok-jobs-2.own o) c.in-Refused.is c.in_ok-watching.ensures in
    refuses.later.table ∙ drawn.1.table_is
