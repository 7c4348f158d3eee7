use Rattle.std.proofs.Common.{◌≡◌, List, Some, ap, map, subst, sym, ◌∙◌}
use Rattle.std.proofs.lemmas.List.{map-append}
use Rattle.zt_model.specs.Journal.{Journalled, cause_of}
use Rattle.zt_protocol.specs.Plain.{plain_call}
use Rattle.zt_shared.proofs.Entering.{entered_refused, record_more}
use Rattle.zt_shared.specs.Recorded.{IsRecord, Recorded, entered, journalled}
use Rattle.zt_shared.specs.declared.entries.JournalEntry.{JournalEntry}
use Rattle.zt_shared.proofs.journaled.Journaled.enter_refused.Goals as goal

pub returns-clause-done : goal.returns-clause-done
returns-clause-done g c =
    let K = g.row.K.Denot in
    let inside : Recorded K = record { opening = c.self.inside.opening; gateway = c.self.inside.gateway; entries = map journalled c.self.inside.entries.items } in
    let behind : List (JournalEntry K) → Recorded K = λ es. record { opening = inside.opening; gateway = inside.gateway; entries = map journalled es } in
    let within : List (Journalled K) → Recorded K = λ es. record { opening = inside.opening; gateway = inside.gateway; entries = es } in
    let refused : cause_of g.K.Ord.cmp g.K.Key.matching (plain_call c.args.call) inside.gateway.rows ≡ Some c.args.refusal =
    subst (λ (j : Recorded K). cause_of g.K.Ord.cmp g.K.Key.matching (plain_call c.args.call) j.gateway.rows ≡ Some c.args.refusal) (sym c.self.view_is) c.requires
    in
    ap behind c.in_ok-push.ensures.items
    ∙ ap within (map-append journalled _ _)
    ∙ entered_refused g.K.Ord.cmp g.K.Key.matching c.args.pass (plain_call c.args.call) c.args.refusal inside c.self.invariant.quiet refused
    ∙ ap (entered g.K.Ord.cmp g.K.Key.matching c.args.pass (plain_call c.args.call)) c.self.view_is

pub invariant_of-self-2 : goal.invariant_of-self-2
invariant_of-self-2 g c =
    let K = g.row.K.Denot in
    let inside : Recorded K = record { opening = c.self.inside.opening; gateway = c.self.inside.gateway; entries = map journalled c.self.inside.entries.items } in
    let behind : List (JournalEntry K) → Recorded K = λ es. record { opening = inside.opening; gateway = inside.gateway; entries = map journalled es } in
    let within : List (Journalled K) → Recorded K = λ es. record { opening = inside.opening; gateway = inside.gateway; entries = es } in
    let refused : cause_of g.K.Ord.cmp g.K.Key.matching (plain_call c.args.call) inside.gateway.rows ≡ Some c.args.refusal =
    subst (λ (j : Recorded K). cause_of g.K.Ord.cmp g.K.Key.matching (plain_call c.args.call) j.gateway.rows ≡ Some c.args.refusal) (sym c.self.view_is) c.requires
    in
    let same = ap behind c.in_ok-push.ensures.items
    ∙ ap within (map-append journalled _ _)
    ∙ entered_refused g.K.Ord.cmp g.K.Key.matching c.args.pass (plain_call c.args.call) c.args.refusal inside c.self.invariant.quiet refused
    in
    subst (IsRecord g.K.Ord.cmp g.K.Key.matching) (sym same) (record_more g.K.Ord.cmp g.K.Key.matching c.args.pass (plain_call c.args.call) inside c.self.invariant)

pub returns-clause-kept : goal.returns-clause-kept
returns-clause-kept g c = invariant_of-self-2 g c
