use Rattle.std.proofs.Common.{◌≡◌, ◌+◌, ◌++◌, Err, length, map, take}
use Rattle.zt_theorem_journal.specs.Dealt.{numbered_from}
use Rattle.zt_workers.specs.Answers.{answered}
use Rattle.zt_workers.proofs.answering.refuse.Given as goal

-- the lines so far are refused
abbrev pub invariant-loop : goal.invariant-loop
invariant-loop g l = record {
  answers : map answered l.answers.items ≡ map answered l.fn.answers.items ++ numbered_from (length l.fn.answers.items + 1) (take l.index (map (λ _. Err l.refusal) l.lines));
  many : length l.answers.items ≡ length l.fn.answers.items + l.index;
}
