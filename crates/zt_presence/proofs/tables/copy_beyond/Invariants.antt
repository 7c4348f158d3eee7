use Rattle.std.proofs.Common.{◌≡◌, take}
use Rattle.zt_presence.specs.Presence.{beyond}
use Rattle.zt_presence.proofs.tables.copy_beyond.Given as goal

-- those so far are copied
abbrev pub invariant-loop-key : goal.invariant-loop-key
invariant-loop-key g l = l.found.items ≡ beyond g.K.Ord.cmp l.table (take l.key-index l.keys)
