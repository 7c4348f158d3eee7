use Rattle.std.proofs.Common.{◌≡◌, ◌-◌, drop, length, map}
use Rattle.zt_check_causes.specs.Keys.{with_keys}
use Rattle.zt_check_causes.proofs.expressions.add_live.Given as goal

-- the last ones are added
abbrev pub invariant-loop-done : goal.invariant-loop-done
invariant-loop-done g l =
    l.exprs.items ≡ with_keys g.K.Ord.cmp (map (λ row. row.1) (drop (length l.live - l.done) l.live)) l.fn.exprs.items
