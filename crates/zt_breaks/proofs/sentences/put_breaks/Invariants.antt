use Rattle.std.proofs.Common.{◌≡◌, ◌++◌, take, string_bytes}
use Rattle.std.specs.List.{flat_map}
use Rattle.zt_breaks.specs.Sentences.{break_text}
use Rattle.zt_breaks.proofs.sentences.put_breaks.Given as goal

-- the lines of the breaks so far were added
abbrev pub invariant-loop-told : goal.invariant-loop-told
invariant-loop-told g l = string_bytes l.out ≡ string_bytes l.fn.out ++ flat_map (break_text g.K.Key.printed) (take l.told-index l.breaks)
