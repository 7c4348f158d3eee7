use Rattle.std.proofs.Common.{◌≡◌, ◌++◌}
use Rattle.zt_tokens.proofs.ordering.KeysInOrder.into_vec.Given as goal

-- those so far and those left are all
abbrev pub invariant-loop-key : goal.invariant-loop-key
invariant-loop-key g l = l.keys.items ++ l.key-iterator ≡ l.fn.self
