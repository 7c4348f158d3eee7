use Rattle.std.proofs.Common.{sym, ap, ◌∙◌}
use Rattle.std.specs.Option.{option_map}
use Rattle.std.proofs.lemmas.Bool.{eqb-true}
use Rattle.std.proofs.lemmas.Result.{err_from_is_err_and}
use Rattle.zt_keys.specs.declared.error.KeyError.TheVariants.{NotCanonical}
use Rattle.zt_keys.proofs.Scan.{refusal-nothing, refusal-inside, refusal-at_end, nonempty_from_test}
use Rattle.zt_keys.proofs.check.check.Goals as goal

pub returns-then-is_empty : goal.returns-then-is_empty
returns-then-is_empty c = refusal-nothing c.args.text.now (eqb-true _ _ (sym c.is_empty.ensures ∙ c.if-is_empty.true))

pub returns-in-Err : goal.returns-in-Err
returns-in-Err c =
    refusal-inside c.args.text.now _ _ _ _ c.as_bytes-bytes.ensures.value (nonempty_from_test _ _ c.is_empty.ensures c.if-is_empty.false) c.loop-place.invariant c.loop-place-test.true (sym c.in-Err.ensures)

pub returns-in_err-scan : goal.returns-in_err-scan
returns-in_err-scan c =
    let p = err_from_is_err_and c.from_residual.result c.from_residual.ensures.1 in
    rw (p.1, p.2)
    (refusal-at_end c.args.text.now _ _ _ _ c.as_bytes-bytes.ensures.value (nonempty_from_test _ _ c.is_empty.ensures c.if-is_empty.false) c.loop-place.invariant c.loop-place-test.false c.loop-place.auto.place-end c.in_err-scan.ensures)

pub returns-in-Some : goal.returns-in-Some
returns-in-Some c =
    refusal-at_end c.args.text.now _ _ _ _ c.as_bytes-bytes.ensures.value (nonempty_from_test _ _ c.is_empty.ensures c.if-is_empty.false) c.loop-place.invariant c.loop-place-test.false c.loop-place.auto.place-end c.in_ok-scan.ensures
    ∙ ap (option_map NotCanonical) c.in-Some.is

pub returns-in-None : goal.returns-in-None
returns-in-None c =
    refusal-at_end c.args.text.now _ _ _ _ c.as_bytes-bytes.ensures.value (nonempty_from_test _ _ c.is_empty.ensures c.if-is_empty.false) c.loop-place.invariant c.loop-place-test.false c.loop-place.auto.place-end c.in_ok-scan.ensures
    ∙ ap (option_map NotCanonical) c.in-None.is
