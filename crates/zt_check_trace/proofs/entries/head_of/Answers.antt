use Rattle.std.proofs.Common.{None, Some, sym, ◌∙◌, arith}
use Rattle.std.proofs.lemmas.Bool.{false≢true}
use Rattle.std.proofs.lemmas.Slice.Eq.{bytes_eq-Decides}
use Rattle.zt_check_trace.proofs.EntryLemmas.{behind_shown, head_accepted, head_refused, no_name, no_number, no_outcome, not_text}
use Rattle.zt_check_trace.proofs.entries.head_of.Goals as goal

pub returns-in_default : goal.returns-in_default
returns-in_default c = not_text c.args.number (omega (arith, c.ranges.number.fits)) c.args.line.now c.in_default.ensures.cases.0

pub returns-in_err-outcome : goal.returns-in_err-outcome
returns-in_err-outcome c =
    rw c.from_residual.ensures
    (no_number c.args.number c.args.line.now (behind_shown _ _ _ _ None c.in_err-outcome.ensures c.format.ensures.text c.in-Ok.ensures.cases.0))

pub returns-then-eq : goal.returns-then-eq
returns-then-eq c =
    let outcome = c.in_ok-outcome.outcome.now in
    head_accepted c.args.number c.args.line.now outcome tt (behind_shown _ _ _ _ (Some outcome) c.in_ok-outcome.ensures c.format.ensures.text c.in-Ok.ensures.cases.0)
    ((bytes_eq-Decides outcome _).0 (sym c.eq.ensures ∙ c.if-eq.true))

pub returns-in_err-name : goal.returns-in_err-name
returns-in_err-name c =
    let outcome = c.in_ok-outcome.outcome.now in
    rw c.from_residual-in_err-name.ensures
    (no_outcome c.args.number c.args.line.now outcome (behind_shown _ _ _ _ (Some outcome) c.in_ok-outcome.ensures c.format.ensures.text c.in-Ok.ensures.cases.0)
    (λ same. false≢true (sym c.if-eq.false ∙ (c.eq.ensures ∙ (bytes_eq-Decides outcome _).1 same))) (sym c.in_err-name.ensures))

pub returns-in_err-refusal : goal.returns-in_err-refusal
returns-in_err-refusal c =
    let outcome = c.in_ok-outcome.outcome.now in
    rw c.from_residual-in_err-refusal.ensures
    (no_name c.args.number c.args.line.now outcome c.in_ok-name.name.now (behind_shown _ _ _ _ (Some outcome) c.in_ok-outcome.ensures c.format.ensures.text c.in-Ok.ensures.cases.0)
    (λ same. false≢true (sym c.if-eq.false ∙ (c.eq.ensures ∙ (bytes_eq-Decides outcome _).1 same))) (sym c.in_ok-name.ensures) c.in_err-refusal.ensures)

pub returns : goal.returns
returns c =
    let outcome = c.in_ok-outcome.outcome.now in
    head_refused c.args.number c.args.line.now outcome c.in_ok-name.name.now c.in_ok-refusal.refusal
    (behind_shown _ _ _ _ (Some outcome) c.in_ok-outcome.ensures c.format.ensures.text c.in-Ok.ensures.cases.0) (sym c.in_ok-name.ensures) c.in_ok-refusal.ensures
