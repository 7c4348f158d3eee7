use Rattle.std.proofs.lemmas.Str.{is_utf8-from_IsUtf8, IsUtf8-from_is_utf8}
use Rattle.std.proofs.lemmas.Bool.{cond-false}
use Rattle.std.specs.Str.{is_utf8}
use Rattle.zt_text.proofs.sent.read_sent.Goals as goal
use Rattle.zt_text.specs.Sent.{sent_read}
use Rattle.zt_fields.proofs.SettledLemmas.{settle, not_utf8}

pub returns-in-Ok : goal.returns-in-Ok
unfolding sent_read
returns-in-Ok g c =
    let cases = c.in-Ok.ensures.cases in
    rw (is_utf8-from_IsUtf8 c.args.bytes.now cases.1, ← cases.0) (settle (λ s. s) c.sent.result _ c.sent.ensures)

pub returns-in-Err : goal.returns-in-Err
unfolding sent_read
returns-in-Err g c =
    let bytes = c.args.bytes.now in
    cond-false _ _ _ (not_utf8 (is_utf8 bytes) (λ h. c.in-Err.ensures.cases.0 (IsUtf8-from_is_utf8 bytes h)))
