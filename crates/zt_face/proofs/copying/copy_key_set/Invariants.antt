use Rattle.std.proofs.Common.{◌≡◌, ◌++◌}
use Rattle.zt_face.proofs.copying.copy_key_set.Given as goal

-- those copied are followed by those left
abbrev pub invariant-loop-key : goal.invariant-loop-key
invariant-loop-key g l = l.copies.keys ++ l.key-iterator ≡ l.keys.keys
