use Rattle.std.proofs.Common.{ℕ, List, Bor, arith}
use Rattle.std.specs.Option.{option_map}
use Rattle.zt_protocol.specs.Plain.{plain_entry}
use Rattle.zt_protocol.specs.declared.entries.Entry.{Entry}
use Rattle.zt_check_trace.proofs.EntryLemmas.{accepted_result, no_head, refused_entry}
use Rattle.zt_check_trace.proofs.entries.next_entry.Goals as goal

pub returns-in-Some-Ok : goal.returns-in-Some-Ok
returns-in-Some-Ok g c =
    accepted_result g.K.Key.printed c.args.number (omega (arith, c.ranges.number.fits)) c.args.text.now c.in-Some.line.now c.in-Some.behind.now tt c.in-Some.ensures
    (rw c.in-Some-Ok.field-0-is at c.in-Some-Ok.ensures) (λ (x : Entry g.row.K.Denot × Bor (List ℕ)). (plain_entry x.0, x.1.now)) c.accepted.result c.accepted.ensures

pub returns-in-Some-Err : goal.returns-in-Some-Err
returns-in-Some-Err g c =
    refused_entry g.K.Key.printed c.args.number (omega (arith, c.ranges.number.fits)) c.args.text.now c.in-Some.line.now c.in-Some.behind.now c.in-Some-Err.refusal c.in-Some.ensures
    (rw c.in-Some-Err.field-0-is at c.in-Some-Err.ensures) (option_map (λ (x : Entry g.row.K.Denot × Bor (List ℕ)). (plain_entry x.0, x.1.now)) c.refused.result) c.refused.ensures

pub returns-in-None : goal.returns-in-None
returns-in-None g c =
    no_head g.K.Key.printed c.args.number (omega (arith, c.ranges.number.fits)) c.args.text.now c.in-Some.line.now c.in-Some.behind.now c.in-Some.ensures c.in-None.ensures
