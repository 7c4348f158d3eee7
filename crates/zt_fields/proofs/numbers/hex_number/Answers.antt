use Rattle.std.proofs.Common.{sym, ap, ◌∙◌, arith}
use Rattle.std.proofs.lemmas.Bool.{cond-false}
use Rattle.zt_fields.proofs.numbers.hex_number.Goals as goal
use Rattle.zt_fields.specs.Numbers.{is_hex_digit, hex_value, up_to, hex_number, u128_max}
use Rattle.zt_fields.proofs.NumberLemmas.{too_large, whole, some_up_to}

pub returns-in_err-checked_mul : goal.returns-in_err-checked_mul
unfolding hex_number
returns-in_err-checked_mul c =
    c.from_residual.ensures ∙ sym (cond-false _ _ _ (sym c.if-begins_with_zero.ensures)
    ∙ too_large is_hex_digit hex_value 16 u128_max (λ n. omega arith) c.loop-byte.number c.loop-byte.byte-index c.args.text.now c.loop-byte-test.true c.if-not-is_hex_digit.ensures c.loop-byte.invariant.0 (omega (arith, c.in_err-checked_mul.ensures)))

pub returns : goal.returns
unfolding hex_number
returns c =
    sym (cond-false _ _ _ (sym c.if-begins_with_zero.ensures) ∙ ap (up_to u128_max) (whole is_hex_digit hex_value 16 c.loop-byte.number c.loop-byte.byte-index c.args.text.now c.loop-byte-test.false c.loop-byte.invariant.0) ∙ some_up_to u128_max c.loop-byte.number c.loop-byte.invariant.1)
