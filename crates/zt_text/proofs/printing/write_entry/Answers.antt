use Rattle.std.proofs.Common.{arith, sym, ◌∙◌}
use Rattle.std.specs.Prelude.{string_bytes}
use Rattle.std.proofs.lemmas.Str.{IsUtf8-string_bytes}
use Rattle.zt_text.proofs.printing.write_entry.Goals as goal
use Rattle.zt_text.proofs.TextLemmas.{undo_ready}

pub undo-requires : goal.undo-requires
undo-requires g c =
    undo_ready c.put_entry-result.result (string_bytes c.args.out.now) (string_bytes c.put_entry-result.new.out) c.len-before.result (sym c.is_err.ensures.value ∙ c.if-is_err.true) c.put_entry-result.ensures.err (omega (arith, c.len-before.ensures)) (IsUtf8-string_bytes c.args.out.now)
