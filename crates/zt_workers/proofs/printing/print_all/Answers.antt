use Rattle.std.proofs.Common.{◌≡◌, ◌+◌, ◌++◌, string_bytes, rules, map, take, ap, subst, sym, ◌∙◌, refl, arith}
use Rattle.std.proofs.lemmas.Grind.{common_steps}
use Rattle.zt_protocol.specs.Plain.{plain_entry}
use Rattle.zt_fabric.specs.Carrying.{with_entry}
use Rattle.zt_workers.specs.Answers.{AnswersFit, answered, answers_text, totals_of}
use Rattle.zt_protocol.specs.declared.entries.Report.{Report}
use Rattle.zt_text.specs.Text.{entry_text}
use Rattle.zt_dealing.proofs.LineLemmas.{front_more}
use Rattle.zt_workers.proofs.PrintLemmas.{fit_more, in_range_none, text_more, totals_more, totals_none}
use Rattle.zt_workers.proofs.printing.print_all.Goals as goal

pub loop-answer-init : goal.loop-answer-init
loop-answer-init g c = record { text = search rules; totals = totals_none _ refl; fit = record { entries = tt; numbers = tt }; lines = refl; range = in_range_none }

pub loop-answer-preserved : goal.loop-answer-preserved
loop-answer-preserved g c =
    let inv = c.loop-answer.invariant in
    let x = answered c.answer-item.result in
    let xs = map answered (take c.loop-answer.answer-index c.args.answers.now) in
    let front = front_more answered c.args.answers.now c.loop-answer.answer-index c.answer-item.result c.loop-answer-test.true c.answer-item.is in
    let written : string_bytes c.write_entry.new.out ≡ string_bytes c.loop-answer.text ++ entry_text g.K.Key.printed x.0 x.1 = grind (arith, common_steps) in
    record {
      text = written ∙ ap (λ t. t ++ entry_text g.K.Key.printed x.0 x.1) inv.text ∙ sym (ap (answers_text g.K.Key.printed) front ∙ text_more g.K.Key.printed xs x);
      totals = c.count.ensures.counted ∙ ap (with_entry x.1) inv.totals ∙ sym (ap totals_of front ∙ totals_more xs x);
      fit = subst AnswersFit (sym front) (fit_more xs x inv.fit c.in_ok-write_entry.ensures.fit c.in_ok-write_entry.ensures.number);
      lines = ap (λ (r : Report). r.lines) c.count.ensures.counted ∙ ap (λ n. n + 1) inv.lines;
      range = c.count.ensures.range;
    }
