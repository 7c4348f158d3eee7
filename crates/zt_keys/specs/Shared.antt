-- The text that the copies of a key expression share.
use Rattle.std.specs.Prelude.{ℕ, List, string_bytes}
use Rattle.zt_keys.specs.declared.shared.Text.{Text}
use Rattle.zt_keys.specs.declared.shared.Text.TheVariants.{Short, Long}

-- the bytes of a text, wherever they lie
abbrev pub text_bytes : Text → List ℕ
text_bytes (Short text) = text.bytes
text_bytes (Long text) = string_bytes text
