use Rattle.std.proofs.Common.{◌≡◌, ◌++◌, drop, map}
use Rattle.zt_rollback.specs.Kept.{kept_call}
use Rattle.zt_rollback.proofs.restorable.copy_calls.Given as goal

-- what is copied so far, and what is left, is all
abbrev pub invariant-loop-kept : goal.invariant-loop-kept
invariant-loop-kept g l = map kept_call l.copies.items ++ map kept_call (drop l.kept-index l.calls) ≡ map kept_call l.calls
