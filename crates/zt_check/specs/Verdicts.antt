-- The line that says a verdict.
use Rattle.std.specs.Prelude.{ℕ, List, [], ◌∷◌, codes, decimal}
use Rattle.zt_text.specs.Text.{line_of}
use Rattle.zt_check.specs.declared.verdict.Clause.{Clause}
use Rattle.zt_check.specs.declared.verdict.Clause.TheVariants.{Text, Cause, Upper, Lower, Answers, Finals}
use Rattle.zt_check.specs.declared.verdict.Verdict.{Verdict}
use Rattle.zt_check.specs.declared.verdict.Verdict.TheVariants.{Holds, Breaks}

abbrev pub clause_name : Clause → List ℕ
clause_name Text = codes "text"
clause_name Cause = codes "cause"
clause_name Upper = codes "upper"
clause_name Lower = codes "lower"
clause_name Answers = codes "answers"
clause_name Finals = codes "finals"

abbrev pub verdict_text : Verdict → List ℕ
verdict_text (Holds report) = line_of (codes "holds") (decimal report.lines ∷ decimal report.messages ∷ decimal report.refusals ∷ [])
verdict_text (Breaks line failed) = line_of (codes "breaks") (decimal line ∷ clause_name failed ∷ [])
