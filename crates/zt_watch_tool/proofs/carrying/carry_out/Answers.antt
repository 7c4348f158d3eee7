use Rattle.std.proofs.Common.{◌+◌, ◌∙◌, length, map, ap}
use Rattle.std.proofs.lemmas.List.{length-map}
use Rattle.zt_shared.specs.Recorded.{journalled}
use Rattle.zt_watchers.specs.Text.{plain_poll}
use Rattle.zt_workers.proofs.CarryLemmas.{few_makings, plan_first}
use Rattle.zt_watch_tool.proofs.CarryLemmas.{plan_unwatched, plan_watched}
use Rattle.zt_watch_tool.proofs.carrying.carry_out.Goals as goal

pub returns-in-Err-Refused : goal.returns-in-Err-Refused
returns-in-Err-Refused g c =
    plan_unwatched g.K.Ord.cmp g.K.Key.matching (g.met.K.Ord g.world.𝓛 g.world.𝓜 g.world.𝓡 ((λ s x. x), (λ x. x), (λ x. x), λ x. x)).total c.args.plan c.requires.form c.requires.first c.requires.named c.requires.speak
    c.args.workers (c.args.wanted + 1) c.args.expr c.in_ok-answers-in-Err-Refused.answers.items (map plain_poll c.new.result.items) c.in-Err-Refused.refusal c.in-Err-Refused.field-0 c.as_slice.result.now c.as_slice-in-Err-Refused.result.now
    c.in-Err-Refused.ensures.refused c.in-Err-Refused.field-0-is c.as_slice.ensures.value c.as_slice-in-Err-Refused.ensures.value c.in_ok-answers-in-Err-Refused.ensures (ap (map plain_poll) c.new.ensures.items)

pub make_faces-requires-clause-first : goal.make_faces-requires-clause-first
make_faces-requires-clause-first g c = plan_first c.args.plan c.as_slice-2.result.now c.as_slice-2.ensures.value c.requires.first

pub answer_makings-requires : goal.answer_makings-requires
answer_makings-requires g c =
    few_makings c.args.plan g.K.Ord.cmp g.K.Key.matching c.in_ok-entries.entries.items c.as_slice-2.result.now c.in-Ok.gateway.rows 2147483648
    c.as_slice-2.ensures.value c.in_ok-entries.ensures.entries c.requires.small

pub returns : goal.returns
returns g c =
    plan_watched g.K.Ord.cmp g.K.Key.matching (g.met.K.Ord g.world.𝓛 g.world.𝓜 g.world.𝓡 ((λ s x. x), (λ x. x), (λ x. x), λ x. x)).total c.args.plan c.requires.form c.requires.first c.requires.named c.requires.speak
    c.args.workers c.requires.some (c.args.wanted + 1) c.args.expr c.as_slice-2.result.now c.in-Ok.gateway c.make_faces.new.gateway c.in_ok-entries.entries.items
    c.in_ok-watched.watched.journal.entries.items c.in_ok-watched.watched.lines.items c.as_slice-3.result.now c.in_ok-answers.answers.items c.answer_journal.new.answers.items (map plain_poll c.in_ok-watched.watched.polls.items)
    c.in-Ok.ensures.accepted c.as_slice-2.ensures.value c.in-Ok.ensures.made c.in_ok-entries.ensures.entries c.in_ok-entries.ensures.done
    c.in_ok-watched.ensures c.in_ok-answers.ensures c.as_slice-3.ensures.value c.in_ok-answer_journal.ensures

pub answer_journal-requires : goal.answer_journal-requires
answer_journal-requires g c = ap length c.as_slice-3.ensures.value ∙ c.in_ok-watched.ensures.made.long ∙ length-map c.in_ok-watched.watched.journal.entries.items journalled
