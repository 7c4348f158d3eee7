use Rattle.std.proofs.Common.{◌≡◌, ◌-◌, drop, length}
use Rattle.zt_check_causes.specs.Keys.{with_keys}
use Rattle.zt_check_causes.proofs.Seen.{routed_seen}
use Rattle.zt_check_causes.proofs.expressions.add_all_routed.Given as goal

-- those of the last rows are added
abbrev pub invariant-loop-done : goal.invariant-loop-done
invariant-loop-done g l =
    l.exprs.items ≡ with_keys g.K.Ord.cmp (routed_seen l.rows.mode l.own l.rows.zid (drop (length l.routed - l.done) l.routed)) l.fn.exprs.items
