use Rattle.std.proofs.Common.{◌≡◌}
use Rattle.zt_theorem_journal.specs.Asked.{answers_to}
use Rattle.zt_presence.proofs.tables.answers.Given as goal

-- those so far are found
abbrev pub invariant-loop-one : goal.invariant-loop-one
invariant-loop-one g l = l.keys.items ≡ answers_to l.face l.id l.yielded
