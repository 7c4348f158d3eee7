use Rattle.std.proofs.Common.{◌≡◌, Ok, Err, None, rules, refl, ap, subst, sym, ◌∙◌}
use Rattle.std.proofs.lemmas.Result.{IfOk-weaker}
use Rattle.zt_protocol.specs.Plain.{plain_entry, plain_line}
use Rattle.zt_model.specs.Transcript.{IsRefusedByCause, fabric_shown}
use Rattle.zt_check.specs.Turns.{TellsOf, later, turn_of}
use Rattle.zt_check.proofs.TurnLemmas.{refused_bounds, refused_shown, tells_later}
use Rattle.zt_check.proofs.turns.judge_turn.Goals as goal

pub returns-in-Ok-clause-tells : goal.returns-in-Ok-clause-tells
returns-in-Ok-clause-tells g c =
    let cmp = g.K.Ord.cmp in
    let matching = g.K.Key.matching in
    let line = plain_line c.args.line.now in
    let s = c.args.fabric.now in
    let entry_is : plain_entry c.args.entry.now ≡ Ok c.deref.result.now = rw c.in-Ok.is (ap (λ ms. Ok ms) (sym c.deref.ensures.value)) in
    let cause : IsRefusedByCause cmp matching line (plain_entry c.args.entry.now) s = c.in_ok-is_refused_by_cause.ensures.0 (search (rules, c.if-not-branch.false)) in
    IfOk-weaker c.judge_accepted.result _ _
    (λ failed told text kept.
    tells_later cmp matching (turn_of cmp matching line (plain_entry c.args.entry.now) s) failed cause text (subst (λ e. TellsOf cmp matching later (turn_of cmp matching line e s) failed) (sym entry_is) (told kept)))
    c.judge_accepted.ensures.tells

pub returns-in-Ok-clause-shown : goal.returns-in-Ok-clause-shown
returns-in-Ok-clause-shown g c =
    let cmp = g.K.Ord.cmp in
    let matching = g.K.Key.matching in
    let line = plain_line c.args.line.now in
    let s = c.args.fabric.now in
    let entry_is : plain_entry c.args.entry.now ≡ Ok c.deref.result.now = rw c.in-Ok.is (ap (λ ms. Ok ms) (sym c.deref.ensures.value)) in
    IfOk-weaker c.judge_accepted.result _ _ (λ failed shown none placed. shown placed ∙ ap (λ e. fabric_shown cmp matching line e s) (sym entry_is)) c.judge_accepted.ensures.shown

pub returns-in-Err-clause-tells : goal.returns-in-Err-clause-tells
returns-in-Err-clause-tells g c text kept =
    let cmp = g.K.Ord.cmp in
    let matching = g.K.Key.matching in
    let line = plain_line c.args.line.now in
    let s = c.args.fabric.now in
    let entry_is : plain_entry c.args.entry.now ≡ Err c.in-Err.refusal = rw c.in-Err.is refl in
    let cause : IsRefusedByCause cmp matching line (plain_entry c.args.entry.now) s = c.in_ok-is_refused_by_cause.ensures.0 (search (rules, c.if-not-branch.false)) in
    tells_later cmp matching (turn_of cmp matching line (plain_entry c.args.entry.now) s) None cause text
    (subst (λ e. TellsOf cmp matching later (turn_of cmp matching line e s) None) (sym entry_is) (refused_bounds cmp matching line c.in-Err.refusal s kept))

pub returns-in-Err-clause-shown : goal.returns-in-Err-clause-shown
returns-in-Err-clause-shown g c none placed =
    rw c.in-Err.is (c.refuse.ensures ∙ refused_shown g.K.Ord.cmp g.K.Key.matching (plain_line c.args.line.now) c.in-Err.refusal c.args.fabric.now)
