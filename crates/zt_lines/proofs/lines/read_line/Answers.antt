use Rattle.std.proofs.lemmas.Str.{is_utf8-from_IsUtf8, IsUtf8-from_is_utf8}
use Rattle.std.proofs.lemmas.Bool.{cond-false}
use Rattle.std.specs.Str.{is_utf8}
use Rattle.zt_protocol.specs.Plain.{plain_line}
use Rattle.zt_lines.proofs.lines.read_line.Goals as goal
use Rattle.zt_lines.specs.Reading.{line_read}
use Rattle.zt_fields.proofs.SettledLemmas.{settle, not_utf8}

pub returns-in-Ok : goal.returns-in-Ok
unfolding line_read
returns-in-Ok g c =
    let cases = c.in-Ok.ensures.cases in
    rw (is_utf8-from_IsUtf8 c.args.bytes.now cases.1, ← cases.0) (settle plain_line c.line.result _ c.line.ensures)

pub returns-in-Err : goal.returns-in-Err
unfolding line_read
returns-in-Err g c =
    let bytes = c.args.bytes.now in
    cond-false _ _ _ (not_utf8 (is_utf8 bytes) (λ h. c.in-Err.ensures.cases.0 (IsUtf8-from_is_utf8 bytes h)))
