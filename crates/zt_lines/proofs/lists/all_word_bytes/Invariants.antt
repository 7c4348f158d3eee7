use Rattle.std.proofs.Common.{◌≡◌, drop}
use Rattle.std.specs.List.{list_all}
use Rattle.zt_lines.proofs.lists.all_word_bytes.Given as goal
use Rattle.zt_lines.specs.Lists.{is_word_byte}

-- bytes of words so far
abbrev pub invariant-loop-byte : goal.invariant-loop-byte
invariant-loop-byte l = list_all is_word_byte l.text ≡ list_all is_word_byte (drop l.byte-index l.text)
