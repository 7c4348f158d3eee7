use Rattle.std.proofs.Common.{◌≡◌, ℕ, List, [], ◌∷◌, ◌++◌, Option, Ok, ap, arith, map, subst, sym, ◌∙◌}
use Rattle.std.proofs.lemmas.List.{length-map, map-append}
use Rattle.std.proofs.lemmas.Result.{err_from_is_err_and}
use Rattle.zt_gateway.specs.Running.{Running, by_face, planned, sent_alone}
use Rattle.zt_model.specs.Journal.{Journalled, outcome_of}
use Rattle.zt_model.specs.Says.{said}
use Rattle.zt_protocol.specs.Plain.{PlainEntry, plain_call}
use Rattle.zt_protocol.specs.declared.entries.Sent.{Sent}
use Rattle.zt_shared.proofs.Entering.{entered_prepared, on_err, record_more}
use Rattle.zt_shared.specs.Recorded.{IsRecord, Recorded, entered, journalled}
use Rattle.zt_shared.specs.declared.entries.JournalEntry.{JournalEntry}
use Rattle.zt_shared.proofs.journaled.Journaled.enter_prepared.Goals as goal

pub returns-in_err-reserve-clause-err : goal.returns-in_err-reserve-clause-err
returns-in_err-reserve-clause-err g c =
    let K = g.row.K.Denot in
    let behind : List (JournalEntry K) → Recorded K = λ es. record { opening = c.self.inside.opening; gateway = c.self.inside.gateway; entries = map journalled es } in
    on_err c.from_residual-in_err-reserve.result (ap behind c.in_err-reserve.ensures.items ∙ c.self.view_is)

pub returns-in_err-reserve-clause-done : goal.returns-in_err-reserve-clause-done
returns-in_err-reserve-clause-done g c =
    let failed = err_from_is_err_and c.from_residual-in_err-reserve.result c.from_residual-in_err-reserve.ensures.1 in
    rw failed.1 tt

-- what the gateway and its journal are then
after : goal.returns-clause-done
after g c =
    let K = g.row.K.Denot in
    let call = plain_call c.args.call in
    let cmp = g.K.Ord.cmp in
    let matching = g.K.Key.matching in
    let inside : Recorded K = record { opening = c.self.inside.opening; gateway = c.self.inside.gateway; entries = map journalled c.self.inside.entries.items } in
    let begun : List (JournalEntry K) → Recorded K = λ es. record { opening = inside.opening; gateway = c.clear_outbox.new.self; entries = map journalled es } in
    let behind : List (Journalled K) → Recorded K = λ es. record { opening = inside.opening; gateway = c.clear_outbox.new.self; entries = es } in
    let ended : Running K → PlainEntry K → Option ℕ → Recorded K = λ gateway outcome made. record {
      opening = inside.opening;
      gateway = gateway;
      entries = inside.entries ++ record { pass = c.args.pass; call = call; made = made; outcome = outcome } ∷ [];
    } in
    let entry : JournalEntry K = record { pass = c.args.pass; call = c.args.call; made = c.commit_call-made.result; outcome = Ok c.in_ok-sent.sent } in
    let left : Running K = record { rows = c.args.prepared.after.rows; waiting = [] } in
    ap begun (c.push_within.ensures ∙ ap (λ (es : List (JournalEntry K)). es ++ entry ∷ []) c.reserve.ensures.items)
    ∙ ap behind (map-append journalled c.self.inside.entries.items (entry ∷ []))
    ∙ ap (λ (gateway : Running K). ended gateway (Ok c.in_ok-sent.sent.items) c.commit_call-made.result) (c.clear_outbox.ensures ∙ ap (λ (running : Running K). record running { waiting = [] }) c.commit_call-made.ensures.done)
    ∙ ap (λ (sent : List (Sent K)). ended left (Ok sent) c.commit_call-made.result) c.in_ok-sent.ensures
    ∙ ap (λ (made : Option ℕ). ended left (Ok (map sent_alone (by_face c.args.prepared.said))) made) c.commit_call-made.ensures.made
    ∙ subst
    (λ (j : Recorded K). record { opening = inside.opening; gateway = record { rows = c.args.prepared.after.rows; waiting = [] }; entries = inside.entries ++ record { pass = c.args.pass; call = call; made = c.args.prepared.made; outcome = Ok (map sent_alone (by_face c.args.prepared.said)) } ∷ [] } ≡ entered cmp matching c.args.pass call j)
    c.self.view_is
    (entered_prepared cmp matching c.args.pass call inside c.args.prepared
    (subst (λ (j : Recorded K). c.args.prepared ≡ planned cmp matching call j.gateway) (sym c.self.view_is) c.requires.planned)
    (subst (λ (j : Recorded K). outcome_of cmp matching call j.gateway.rows ≡ Ok (map sent_alone (by_face (said cmp matching call j.gateway.rows)))) (sym c.self.view_is) c.requires.outcome))

pub returns-clause-done : goal.returns-clause-done
returns-clause-done = after

pub invariant_of-self-2 : goal.invariant_of-self-2
invariant_of-self-2 g c =
    subst (IsRecord g.K.Ord.cmp g.K.Key.matching) (sym (after g c))
    (record_more g.K.Ord.cmp g.K.Key.matching c.args.pass (plain_call c.args.call) c.args.self.now
    (subst (IsRecord g.K.Ord.cmp g.K.Key.matching) c.self.view_is c.self.invariant))

pub returns-clause-kept : goal.returns-clause-kept
returns-clause-kept g c = invariant_of-self-2 g c

pub returns-in_err-reserve-clause-room : goal.returns-in_err-reserve-clause-room
returns-in_err-reserve-clause-room g c =
    let entries = c.reserve.new.self in
    let same = length-map entries.items (journalled {K = g.row.K.Denot}) in
    let long = entries.ok.0 in
    let fits = entries.ok.1 in
    let small = entries.small in
    omega (arith, same, long, fits, small)

pub returns-clause-room : goal.returns-clause-room
returns-clause-room g c =
    let entries = c.push_within.new.entries in
    let same = length-map entries.items (journalled {K = g.row.K.Denot}) in
    let long = entries.ok.0 in
    let fits = entries.ok.1 in
    let small = entries.small in
    omega (arith, same, long, fits, small)
