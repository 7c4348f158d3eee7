use Rattle.std.proofs.Common.{◌≡◌, [], ◌++◌, map, length}
use Rattle.std.specs.List.{AllByRecursion}
use Rattle.zt_shared_value.specs.Passes.{part_of}
use Rattle.zt_shared_value.proofs.closing.joined.Given as goal

abbrev pub invariant-loop-pass : goal.invariant-loop-pass
invariant-loop-pass g l = (map part_of l.fn.passes.items ≡ map part_of l.rest.items ++ l.seat.me.0)
    × (l.seat.me.1 ≡ [])
    × (l.seat.table_id ≡ l.top.table_id)
    × AllByRecursion (λ pass. pass.table ≡ l.top.table_id) l.rest.items

abbrev pub decreases-loop-pass : goal.decreases-loop-pass
decreases-loop-pass g l = length l.rest.items
