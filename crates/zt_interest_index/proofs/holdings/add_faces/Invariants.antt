use Rattle.std.proofs.Common.{◌≡◌, ℕ, ◌||◌, take}
use Rattle.std.specs.List.{list_any}
use Rattle.zt_interest_index.specs.Holdings.{is_among, is_by}
use Rattle.zt_interest_index.proofs.holdings.add_faces.Given as goal

-- the faces so far are found
abbrev pub invariant-loop-row : goal.invariant-loop-row
invariant-loop-row g l = (n : ℕ) → is_among n l.found.items ≡ (is_among n l.fn.found.items || list_any (is_by n) (take l.row-index l.rows))
