use Rattle.std.proofs.Common.{ℕ, ◌+◌, drop, refl, sym, ap, ◌∙◌, arith}
use Rattle.std.proofs.lemmas.Bool.{cond-false}
use Rattle.std.specs.Char.{is_ascii_digit}
use Rattle.zt_fields.proofs.numbers.number_up_to.Goals as goal
use Rattle.zt_fields.specs.Numbers.{digits_after, decimal_value, up_to, number_up_to}
use Rattle.zt_fields.proofs.NumberLemmas.{no_digit, one_more, too_large}

pub loop-byte-init : goal.loop-byte-init
loop-byte-init c = refl

pub returns-then-not-is_ascii_digit-clause-value : goal.returns-then-not-is_ascii_digit-clause-value
unfolding number_up_to
returns-then-not-is_ascii_digit-clause-value c =
    sym (cond-false _ _ _ (sym c.if-is_unwritten.ensures)
    ∙ ap (up_to c.args.most) (no_digit is_ascii_digit decimal_value 10 c.loop-byte.number c.loop-byte.byte-index c.args.text.now c.loop-byte-test.true c.if-not-is_ascii_digit.ensures.value c.loop-byte.invariant))

pub returns-in_err-checked_mul-clause-value : goal.returns-in_err-checked_mul-clause-value
unfolding number_up_to
returns-in_err-checked_mul-clause-value c =
    c.from_residual.ensures ∙ sym (cond-false _ _ _ (sym c.if-is_unwritten.ensures)
    ∙ too_large is_ascii_digit decimal_value 10 c.args.most (λ n. omega arith) c.loop-byte.number c.loop-byte.byte-index c.args.text.now c.loop-byte-test.true c.if-not-is_ascii_digit.ensures.value c.loop-byte.invariant (omega (arith, c.in_err-checked_mul.ensures, c.ranges.most.fits)))

pub returns-in_err-number-clause-value : goal.returns-in_err-number-clause-value
unfolding number_up_to
returns-in_err-number-clause-value c =
    c.from_residual-in_err-number.ensures ∙ sym (cond-false _ _ _ (sym c.if-is_unwritten.ensures)
    ∙ too_large is_ascii_digit decimal_value 10 c.args.most (λ n. omega arith) c.loop-byte.number c.loop-byte.byte-index c.args.text.now c.loop-byte-test.true c.if-not-is_ascii_digit.ensures.value c.loop-byte.invariant (omega (arith, c.in_err-number.ensures, c.in_ok-checked_mul.ensures, c.from.ensures, c.ranges.most.fits)))

pub loop-byte-preserved : goal.loop-byte-preserved
loop-byte-preserved c =
    one_more is_ascii_digit decimal_value 10 c.loop-byte.number c.loop-byte.byte-index c.args.text.now c.loop-byte-test.true c.if-not-is_ascii_digit.ensures.value c.loop-byte.invariant
    ∙ ap (λ (n : ℕ). digits_after is_ascii_digit decimal_value 10 n (drop (c.loop-byte.byte-index + 1) c.args.text.now)) (omega (arith, c.in_ok-number.ensures, c.in_ok-checked_mul.ensures, c.from.ensures))
