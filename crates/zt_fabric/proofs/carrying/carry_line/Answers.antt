use Rattle.zt_protocol.specs.Plain.{plain_line, plain_entry}
use Rattle.std.proofs.Common.{string_bytes, arith, sym, ◌∙◌}
use Rattle.std.proofs.lemmas.Grind.{common_steps}
use Rattle.zt_fabric.proofs.ReadLines.{first_ids_read}
use Rattle.zt_text.specs.Sent.{EntryFits}
use Rattle.zt_fabric.proofs.CarryLemmas.{carries-one, on_ok}
use Rattle.zt_fabric.proofs.carrying.carry_line.Goals as goal

pub step_line-requires : goal.step_line-requires
step_line-requires g c = first_ids_read g.K.Key.reading c.args.line.now (plain_line c.in-Ok.line) c.in-Ok.ensures.ok

pub returns-clause-ok : goal.returns-clause-ok
returns-clause-ok g c =
    carries-one g.K.Ord.cmp g.K.Key.matching g.K.Key.reading g.K.Key.printed c.args.line.now (plain_line c.in-Ok.line) (plain_entry c.in-Ok-step_line.entry)
    c.args.run.now.fabric _ c.args.run.now.report _ (string_bytes c.args.run.now.text) _
    c.in-Ok.ensures.ok c.in-Ok-step_line.ensures.entry c.in-Ok-step_line.ensures.ok c.count.ensures.counted
    (grind (arith, common_steps))
    (on_ok _ (EntryFits (plain_entry c.in-Ok-step_line.entry)) (sym c.if-is_err.false ∙ c.is_err.ensures.value) c.write_entry.ensures.fit)
