use Rattle.std.proofs.Common.{drop}
use Rattle.zt_rows.specs.Places.{rows_in}
use Rattle.zt_token_index.proofs.Retold.{LeavesFound}
use Rattle.zt_token_index.proofs.hearing.untell_all.Given as goal

-- the rows that are left are found still
abbrev pub invariant-loop-place : goal.invariant-loop-place
invariant-loop-place g l = LeavesFound g.K.Ord.cmp l.f.number l.f.told (rows_in (drop l.place-index l.place-items)) l.fn.told l.told
