use Rattle.std.proofs.Common.{◌≡◌, ◌+◌, ◌∷◌, [], refl, ap, ◌∙◌, length, length-append, arith}
use Rattle.zt_dealing.specs.Dealing.{MayWork}
use Rattle.zt_dealing.specs.declared.working.Done.{Done}
use Rattle.zt_dealing.proofs.DealLemmas.{at_place}
use Rattle.zt_shared_value.specs.Passes.{Standing}
use Rattle.zt_shared.specs.Recorded.{Recorded}
use Rattle.zt_watchers.proofs.WatchLemmas.{may_go_on, some_more}
use Rattle.zt_watchers.proofs.BesideLemmas.{all_more, made_watched, tables_done}
use Rattle.zt_watchers.proofs.watching.end_watched.Goals as goal

pub work_beside-requires-clause-jobs : goal.work_beside-requires-clause-jobs
work_beside-requires-clause-jobs g c κs within = λ k d less. at_place (MayWork c.args.shared) c.args.jobs.items k d c.requires.jobs less

pub poll_once-requires : goal.poll_once-requires
poll_once-requires g c = may_go_on g.K.Ord.cmp g.K.Key.matching c.args.shared c.args.watching.wanted c.args.watching c.in_ok-all.watching c.requires.monitor c.in_ok-all.ensures.watched

pub journal_with_lines-requires-clause-some : goal.journal_with_lines-requires-clause-some
journal_with_lines-requires-clause-some g c = omega (arith, ap length c.in_ok-push.ensures.items, length-append c.in_ok-all.all.items (c.in_ok-own.own ∷ []))

pub journal_with_lines-requires-clause-own : goal.journal_with_lines-requires-clause-own
journal_with_lines-requires-clause-own g c =
    all_more (λ (done : Done g.row.K.Denot). done.pass.table ≡ c.args.shared) c.in_ok-all.all.items c.push.new.self.items c.in_ok-own.own
    (tables_done c.args.shared c.args.jobs.items c.in_ok-all.all.items c.requires.jobs c.in_ok-all.ensures.done)
    (ap (λ (pass : Standing (Recorded g.row.K.Denot)). pass.table) c.in_ok-own.ensures.pass ∙ c.in_ok-poll_once.ensures.later.table ∙ c.in_ok-all.ensures.watched.later.table ∙ c.requires.monitor.own)
    c.in_ok-push.ensures.items

pub returns : goal.returns
returns g c = λ opening workers calls expr dealt is opened.
    made_watched g.K.Ord.cmp g.K.Key.matching c.args.shared opening workers calls c.args.jobs.items c.in_ok-all.all.items c.push.new.self.items c.in_ok-own.own _ _
    dealt c.in_ok-all.ensures.done c.in_ok-push.ensures.items c.in_ok-journal.ensures.whole c.in_ok-journal.ensures.made
    (c.args.watching.wanted + 1) expr c.args.watching c.poll_once.new.watching c.in_ok-own.polls.items c.requires.monitor.own opened is c.requires.fresh
    (some_more g.K.Ord.cmp g.K.Key.matching c.args.watching.wanted 1 c.args.watching c.in_ok-all.watching c.poll_once.new.watching c.in_ok-all.ensures.watched c.in_ok-poll_once.ensures)
    c.in_ok-own.ensures.pass c.in_ok-own.ensures.lines c.in_ok-own.ensures.polls
