use Rattle.std.proofs.Common.{Option, Some, None, List, ◌∙◌, map, string_bytes, subst, sym, arith}
use Rattle.zt_streams.specs.Lines.{lines_of}
use Rattle.zt_fabric.proofs.ReadLines.{first_ids_of, named_options_of}
use Rattle.zt_fabric.proofs.Right.{right_of_lines}
use Rattle.zt_workers.specs.Answers.{CarriesOut, answered}
use Rattle.zt_plans.specs.Plans.{plan_lines}
use Rattle.zt_plans.specs.Reading.{ReadsScript}
use Rattle.zt_workers.specs.declared.answering.Answer.{Answer}
use Rattle.zt_plans.specs.declared.plan.Plan.{Plan}
use Rattle.zt_workers.proofs.DriveLemmas.{lines_read, none_answered, plan_small, plan_speaks, printed_transcript}
use Rattle.zt_workers.proofs.driving.transcript.Goals as goal

pub returns-in_default-clause-ok : goal.returns-in_default-clause-ok
returns-in_default-clause-ok g c =
    let bytes = c.args.script.now.bytes.items in
    let longer = c.args.script.now.longer in
    printed_transcript g.K.Key.reading g.K.Ord.cmp g.K.Key.matching g.K.Key.printed c.args.workers
    (right_of_lines g.K.Ord.cmp g.K.Key.matching (g.met.K.Ord g.world.𝓛 g.world.𝓜 g.world.𝓡 ((λ s x. x), (λ x. x), (λ x. x), λ x. x)).total
    (g.met.K.Key g.world.𝓛 g.world.𝓜 g.world.𝓡 ((λ s x. x), (λ x. x), (λ x. x), λ x. x)).laws.equal_is_same)
    c.printed.result (λ v. string_bytes v.0) (λ v. v.1) bytes longer None (map answered c.as_slice.result.now)
    (subst (λ (p : Option (Plan g.row.K.Denot)). ReadsScript g.K.Key.reading bytes longer p) c.in_default.is c.in-Ok.ensures.ok)
    (none_answered g.K.Key.reading g.K.Ord.cmp g.K.Key.matching g.K.Key.printed c.args.workers c.as_slice.result.now (c.as_slice.ensures.value ∙ c.new-none.ensures.items))
    c.printed.ensures.fit c.printed.ensures.text c.printed.ensures.totals

pub carry_out-requires-clause-small : goal.carry_out-requires-clause-small
carry_out-requires-clause-small g c κs within =
    let bytes = c.args.script.now.bytes in
    plan_small g.K.Key.reading bytes.items c.in-Some.plan (lines_read g.K.Key.reading bytes.items c.args.script.now.longer c.in-Ok.plan c.in-Some.plan c.in-Ok.ensures.ok c.in-Some.is)
    (omega (arith, c.requires.bound, bytes.ok.0))

pub carry_out-requires-clause-first : goal.carry_out-requires-clause-first
carry_out-requires-clause-first g c κs within =
    let bytes = c.args.script.now.bytes in
    first_ids_of g.K.Key.reading (lines_of bytes.items) (plan_lines c.in-Some.plan)
    (lines_read g.K.Key.reading bytes.items c.args.script.now.longer c.in-Ok.plan c.in-Some.plan c.in-Ok.ensures.ok c.in-Some.is)

pub carry_out-requires-clause-named : goal.carry_out-requires-clause-named
carry_out-requires-clause-named g c κs within =
    let bytes = c.args.script.now.bytes in
    named_options_of g.K.Key.reading (lines_of bytes.items) (plan_lines c.in-Some.plan)
    (lines_read g.K.Key.reading bytes.items c.args.script.now.longer c.in-Ok.plan c.in-Some.plan c.in-Ok.ensures.ok c.in-Some.is)

pub carry_out-requires-clause-speak : goal.carry_out-requires-clause-speak
carry_out-requires-clause-speak g c κs within =
    let bytes = c.args.script.now.bytes in
    plan_speaks g.K.Key.reading (lines_of bytes.items) c.in-Some.plan
    (lines_read g.K.Key.reading bytes.items c.args.script.now.longer c.in-Ok.plan c.in-Some.plan c.in-Ok.ensures.ok c.in-Some.is)

pub returns-in-Ok-carry_out-clause-ok : goal.returns-in-Ok-carry_out-clause-ok
returns-in-Ok-carry_out-clause-ok g c =
    let bytes = c.args.script.now.bytes.items in
    let longer = c.args.script.now.longer in
    printed_transcript g.K.Key.reading g.K.Ord.cmp g.K.Key.matching g.K.Key.printed c.args.workers
    (right_of_lines g.K.Ord.cmp g.K.Key.matching (g.met.K.Ord g.world.𝓛 g.world.𝓜 g.world.𝓡 ((λ s x. x), (λ x. x), (λ x. x), λ x. x)).total
    (g.met.K.Key g.world.𝓛 g.world.𝓜 g.world.𝓡 ((λ s x. x), (λ x. x), (λ x. x), λ x. x)).laws.equal_is_same)
    c.printed-in-Ok-carry_out.result (λ v. string_bytes v.0) (λ v. v.1) bytes longer (Some c.in-Some.plan) (map answered c.as_slice-in-Ok-carry_out.result.now)
    (subst (λ (p : Option (Plan g.row.K.Denot)). ReadsScript g.K.Key.reading bytes longer p) c.in-Some.is c.in-Ok.ensures.ok)
    (subst (λ (xs : List (Answer g.row.K.Denot)). CarriesOut g.K.Ord.cmp g.K.Key.matching c.args.workers (plan_lines c.in-Some.plan) (map answered xs)) (sym c.as_slice-in-Ok-carry_out.ensures.value) c.in-Ok-carry_out.ensures)
    c.printed-in-Ok-carry_out.ensures.fit c.printed-in-Ok-carry_out.ensures.text c.printed-in-Ok-carry_out.ensures.totals
