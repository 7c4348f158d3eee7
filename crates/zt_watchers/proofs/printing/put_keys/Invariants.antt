use Rattle.std.proofs.Common.{◌≡◌, ◌++◌, take, string_bytes}
use Rattle.std.specs.List.{flat_map}
use Rattle.zt_watchers.specs.Text.{key_line}
use Rattle.zt_watchers.proofs.printing.put_keys.Given as goal

-- the lines of the keys so far were added
abbrev pub invariant-loop-key : goal.invariant-loop-key
invariant-loop-key g l = string_bytes l.text ≡ string_bytes l.fn.text ++ flat_map (key_line g.K.Key.printed l.mark) (take l.key-index l.keys)
