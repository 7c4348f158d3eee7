use Rattle.std.proofs.Common.{◌≡◌, drop}
use Rattle.std.specs.List.{list_any}
use Rattle.zt_keys.specs.Key.{is_blank}
use Rattle.zt_fields.proofs.values.has_blank.Given as goal

-- no blank so far
abbrev pub invariant-loop-byte : goal.invariant-loop-byte
invariant-loop-byte l = list_any is_blank l.text ≡ list_any is_blank (drop l.byte-index l.text)
