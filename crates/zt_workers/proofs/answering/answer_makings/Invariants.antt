use Rattle.std.proofs.Common.{◌≡◌, ◌+◌, [], ◌∷◌, map, length, Ok}
use Rattle.zt_protocol.specs.Plain.{plain_entry}
use Rattle.zt_theorem_journal.specs.Dealt.{numbered_from}
use Rattle.zt_workers.specs.Answers.{answered}
use Rattle.zt_workers.proofs.answering.answer_makings.Given as goal

-- the entries so far have their numbers
abbrev pub invariant-loop-entry : goal.invariant-loop-entry
invariant-loop-entry g l = record {
  answers : map answered l.answers.items ≡ numbered_from 1 (Ok [] ∷ map plain_entry l.yielded);
  next : l.line ≡ length l.yielded + 2;
}
