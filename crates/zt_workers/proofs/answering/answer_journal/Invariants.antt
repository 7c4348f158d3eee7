use Rattle.std.proofs.Common.{◌≡◌, ◌++◌, map, length, take}
use Rattle.zt_shared.specs.Recorded.{plain_outcome}
use Rattle.zt_workers.specs.Answers.{answered}
use Rattle.zt_dealing.specs.Dealing.{with_lines}
use Rattle.zt_workers.proofs.answering.answer_journal.Given as goal

-- the entries so far have their lines
abbrev pub invariant-loop-entry : goal.invariant-loop-entry
invariant-loop-entry g l = record {
  answers : map answered l.answers.items ≡ map answered l.fn.answers.items ++ with_lines (take l.place l.lines) (map (λ entry. plain_outcome entry.outcome) l.yielded);
  next : l.place ≡ length l.yielded;
}
