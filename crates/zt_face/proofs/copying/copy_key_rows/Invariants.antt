use Rattle.std.proofs.Common.{◌≡◌, ◌++◌}
use Rattle.zt_face.proofs.copying.copy_key_rows.Given as goal

-- those so far and those left are all
abbrev pub invariant-loop-id : goal.invariant-loop-id
invariant-loop-id g l = l.copies ++ l.id-iterator ≡ l.rows
