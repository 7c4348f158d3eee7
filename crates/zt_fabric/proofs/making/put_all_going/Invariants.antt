use Rattle.std.proofs.Common.{◌≡◌, ◌++◌, string_bytes}
use Rattle.zt_fabric.specs.Making.{going_lines, lines_up_to, text_of}
use Rattle.zt_fabric.proofs.making.put_all_going.Given as goal

abbrev pub invariant-loop-before : goal.invariant-loop-before
invariant-loop-before l = string_bytes l.out ≡ string_bytes l.fn.out ++ text_of (lines_up_to going_lines l.before)
