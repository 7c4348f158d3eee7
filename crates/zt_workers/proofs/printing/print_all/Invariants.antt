use Rattle.std.proofs.Common.{◌≡◌, map, take, string_bytes}
use Rattle.zt_fabric.specs.Carrying.{IsInRange}
use Rattle.zt_workers.specs.Answers.{AnswersFit, answered, answers_text, totals_of}
use Rattle.zt_workers.proofs.printing.print_all.Given as goal

-- the answers so far were printed and counted
abbrev pub invariant-loop-answer : goal.invariant-loop-answer
invariant-loop-answer g l = record {
  text : string_bytes l.text ≡ answers_text g.K.Key.printed (map answered (take l.answer-index l.answers));
  totals : l.report ≡ totals_of (map answered (take l.answer-index l.answers));
  fit : AnswersFit (map answered (take l.answer-index l.answers));
  lines : l.report.lines ≡ l.answer-index;
  range : IsInRange l.report;
}
