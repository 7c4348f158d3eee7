use Rattle.std.proofs.Common.{◌≡◌, ◌≤◌, drop, length, take}
use Rattle.std.specs.List.{AllByRecursion, AllZip}
use Rattle.zt_shared_value.specs.Account.{IsCounted}
use Rattle.zt_shared_value.proofs.closing.missing.Given as goal

abbrev pub invariant-loop-i : goal.invariant-loop-i
invariant-loop-i g l = AllZip IsCounted l.fn.passes.items l.passes.items
    × AllByRecursion (λ pass. pass.known ≤ l.handed) (take l.i l.passes.items)
    × (l.handed ≡ length l.passes.items)
    × (drop l.i l.passes.items ≡ drop l.i l.fn.passes.items)
