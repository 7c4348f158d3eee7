use Rattle.std.specs.Prelude.{string_bytes}
use Rattle.std.proofs.Common.{arith}
use Rattle.std.proofs.lemmas.Str.{IsUtf8-string_bytes, IsCharBoundary-from_take}
use Rattle.zt_text.proofs.printing.undo.Goals as goal

pub truncate-requires : goal.truncate-requires
truncate-requires c = λ le.
    let b = IsCharBoundary-from_take (string_bytes c.args.out.now) c.args.before (IsUtf8-string_bytes c.args.out.now) (omega (arith, le)) c.requires in
    (b.0, λ some. b.1)
