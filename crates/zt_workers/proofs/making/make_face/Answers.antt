use Rattle.std.proofs.Common.{◌≡◌, ap, eq-eqb, map, IfOk, Ok, subst, sym, ◌∙◌}
use Rattle.zt_protocol.specs.Plain.{plain_entry, plain_line}
use Rattle.zt_gateway.specs.Running.{IsRefusedBy, by_face, sent_alone}
use Rattle.zt_model.specs.Journal.{outcome_of}
use Rattle.zt_workers.proofs.MadeLemmas.{accepted_line, refused_came, refused_stays}
use Rattle.zt_workers.proofs.making.make_face.Goals as goal

pub returns-in-Ok-clause-entry : goal.returns-in-Ok-clause-entry
returns-in-Ok-clause-entry g c =
    let rows = c.args.gateway.now.rows in
    let said_is = ap (λ prepared. prepared.said) c.in-Ok.ensures.planned in
    let came = c.in-Ok.ensures.outcome ∙ sym (ap (λ sends. Ok (map sent_alone (by_face sends))) said_is) in
    let outcome = subst (λ call. outcome_of g.K.Ord.cmp g.K.Key.matching call rows ≡ Ok (map sent_alone (by_face c.in-Ok.prepared.said))) c.opening_call-call.ensures came in
    subst (λ entry_is. IfOk c.carry_out.result (λ entry. plain_entry entry ≡ entry_is))
    (accepted_line g.K.Ord.cmp g.K.Key.matching (plain_line c.args.line.now) rows _ (eq-eqb _ 1 (sym c.gateway_named.ensures ∙ c.if-gateway_named-ne1.false)) outcome) c.carry_out.ensures.entry

pub returns-clause-entry : goal.returns-clause-entry
returns-clause-entry g c =
    refused_came g.K.Ord.cmp g.K.Key.matching (plain_line c.args.line.now) c.args.gateway.now.rows c.in-Err.error c.refused.result
    (eq-eqb _ 1 (sym c.gateway_named.ensures ∙ c.if-gateway_named-ne1.false)) (subst (λ call. IsRefusedBy g.K.Ord.cmp g.K.Key.matching call c.args.gateway.now.rows c.in-Err.error) c.opening_call-call.ensures c.in-Err.ensures.refused) c.refused.ensures

pub returns-clause-done : goal.returns-clause-done
returns-clause-done g c =
    refused_stays g.K.Ord.cmp g.K.Key.matching (plain_line c.args.line.now) c.args.gateway.now c.prepare.new.self c.in-Err.error c.refused.result
    (eq-eqb _ 1 (sym c.gateway_named.ensures ∙ c.if-gateway_named-ne1.false)) (subst (λ call. IsRefusedBy g.K.Ord.cmp g.K.Key.matching call c.args.gateway.now.rows c.in-Err.error) c.opening_call-call.ensures c.in-Err.ensures.refused) c.refused.ensures c.in-Err.ensures.same c.requires.quiet
