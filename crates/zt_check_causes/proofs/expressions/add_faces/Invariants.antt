use Rattle.std.proofs.Common.{◌≡◌, ◌-◌, drop, length}
use Rattle.zt_check_causes.specs.Keys.{with_keys}
use Rattle.zt_check_causes.proofs.Seen.{seen_of}
use Rattle.zt_check_causes.proofs.expressions.add_faces.Given as goal

-- those of the last faces are added
abbrev pub invariant-loop-done : goal.invariant-loop-done
invariant-loop-done g l =
    l.exprs.items ≡ with_keys g.K.Ord.cmp (seen_of l.mode l.own (drop (length l.faces - l.done) l.faces)) l.fn.exprs.items
