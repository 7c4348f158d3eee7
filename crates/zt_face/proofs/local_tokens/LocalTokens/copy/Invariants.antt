use Rattle.std.proofs.Common.{◌≡◌, ◌++◌, drop}
use Rattle.zt_rows.specs.Places.{rows_in}
use Rattle.zt_face.proofs.local_tokens.LocalTokens.copy.Given as goal

-- those so far and those left are all
abbrev pub invariant-loop-place : goal.invariant-loop-place
invariant-loop-place g l = l.rows ++ rows_in (drop l.place-index l.place-items) ≡ l.self
