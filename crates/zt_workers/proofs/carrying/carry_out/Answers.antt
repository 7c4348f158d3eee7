use Rattle.zt_workers.proofs.CarryLemmas.{few_makings, plan_done, plan_first, plan_stopped}
use Rattle.zt_workers.proofs.carrying.carry_out.Goals as goal

pub returns-in-Err-Refused : goal.returns-in-Err-Refused
returns-in-Err-Refused g c =
    plan_stopped g.K.Ord.cmp g.K.Key.matching (g.met.K.Ord g.world.𝓛 g.world.𝓜 g.world.𝓡 ((λ s x. x), (λ x. x), (λ x. x), λ x. x)).total c.args.plan c.requires.form c.requires.first c.requires.named c.requires.speak
    c.args.workers c.all_refused.result (λ v. v.items) c.in-Err-Refused.refusal c.in-Err-Refused.field-0 c.as_slice.result.now c.as_slice-in-Err-Refused.result.now
    c.in-Err-Refused.ensures.refused c.in-Err-Refused.field-0-is c.as_slice.ensures.value c.as_slice-in-Err-Refused.ensures.value c.all_refused.ensures

pub make_faces-requires-clause-first : goal.make_faces-requires-clause-first
make_faces-requires-clause-first g c = plan_first c.args.plan c.as_slice-2.result.now c.as_slice-2.ensures.value c.requires.first

pub answer_makings-requires : goal.answer_makings-requires
answer_makings-requires g c =
    few_makings c.args.plan g.K.Ord.cmp g.K.Key.matching c.in_ok-entries.entries.items c.as_slice-2.result.now c.in-Ok.gateway.rows 2147483648
    c.as_slice-2.ensures.value c.in_ok-entries.ensures.entries c.requires.small

pub returns : goal.returns
returns g c =
    plan_done g.K.Ord.cmp g.K.Key.matching (g.met.K.Ord g.world.𝓛 g.world.𝓜 g.world.𝓡 ((λ s x. x), (λ x. x), (λ x. x), λ x. x)).total c.args.plan c.requires.form c.requires.first c.requires.named c.requires.speak
    c.args.workers c.requires.some c.as_slice-2.result.now c.in-Ok.gateway c.make_faces.new.gateway c.in_ok-entries.entries.items
    c.in_ok-journal.journal.entries.items c.in_ok-journal.lines.items c.as_slice-3.result.now c.in_ok-answers.answers.items c.answer_journal.new.answers.items
    c.in-Ok.ensures.accepted c.as_slice-2.ensures.value c.in-Ok.ensures.made c.in_ok-entries.ensures.entries c.in_ok-entries.ensures.done
    c.in_ok-journal.ensures c.in_ok-answers.ensures c.as_slice-3.ensures.value c.in_ok-answer_journal.ensures
