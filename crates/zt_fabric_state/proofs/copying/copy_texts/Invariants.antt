use Rattle.std.proofs.Common.{◌≡◌, ◌++◌, drop, map, string_bytes}
use Rattle.zt_fabric_state.proofs.copying.copy_texts.Given as goal

-- what is copied so far, and what is left, is all
abbrev pub invariant-loop-text : goal.invariant-loop-text
invariant-loop-text l = map string_bytes l.copies.items ++ map string_bytes (drop l.text-index l.texts) ≡ map string_bytes l.texts
