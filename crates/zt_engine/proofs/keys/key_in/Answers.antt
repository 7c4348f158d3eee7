use Rattle.std.proofs.Common.{◌≡◌, ℕ, List, Some, None, Result, Ok, refl, inl, sym, ap, ◌∙◌}
use Rattle.std.specs.Str.{IsUtf8, is_utf8}
use Rattle.std.proofs.lemmas.Str.{IsUtf8-from_is_utf8, is_utf8-from_IsUtf8}
use Rattle.zt_keys.specs.Test.{by_test}
use Rattle.zt_keys.specs.declared.error.KeyError.{KeyError}
use Rattle.zt_engine.specs.Keys.{key_in, read_key}
use Rattle.zt_engine.proofs.keys.key_in.Goals as goal

not_text : {K : Type 0} (reading : List ℕ → Result K KeyError) (bytes : List ℕ) → ¬ IsUtf8 bytes → key_in reading bytes ≡ None
not_text reading bytes other = by_test (is_utf8 bytes) (λ e. absurd (other (IsUtf8-from_is_utf8 bytes e))) (λ e. rw e refl)

of_text : {K : Type 0} (reading : List ℕ → Result K KeyError) (bytes text : List ℕ) (key : K) → text ≡ bytes → IsUtf8 bytes → reading text ≡ Ok key → key_in reading bytes ≡ Some key
of_text reading bytes text key same is read = rw (is_utf8-from_IsUtf8 bytes is) (ap (λ (t : List ℕ). read_key (reading t)) (sym same) ∙ ap read_key read)

pub returns-in_default-clause-unread : goal.returns-in_default-clause-unread
returns-in_default-clause-unread g c = inl (refl, not_text g.K.Key.reading c.args.bytes.now c.in_default.ensures.cases.0)

pub returns-in-Ok-read-clause-read : goal.returns-in-Ok-read-clause-read
returns-in-Ok-read-clause-read g c =
    of_text g.K.Key.reading c.args.bytes.now c.in-Ok.text.now c.in-Ok-read.key c.in-Ok.ensures.cases.0 c.in-Ok.ensures.cases.1 c.in-Ok-read.ensures
