use Rattle.std.proofs.Common.{map, sym, ap, ◌∙◌, List}
use Rattle.zt_laws.specs.Sound.{rows_after_call}
use Rattle.zt_protocol.specs.Plain.{PlainCall, plain_call}
use Rattle.zt_rollback.specs.After.{rows_after_calls}
use Rattle.zt_rollback.specs.Kept.{kept_call}
use Rattle.zt_rollback.proofs.Calls.{one-more}
use Rattle.zt_rollback.proofs.restorable.RestorableState.commit.Goals as goal
use Rattle.zt_rollback.proofs.restorable.RestorableState.commit.Goals.{in-Some-1, in-None-1}

pub invariant_of-self : goal.invariant_of-self
invariant_of-self g c =
    let cmp = g.K.Ord.cmp in
    let matching = g.K.Key.matching in
    let call = plain_call c.args.call.now in
    c.requires
    ∙ ap (rows_after_call cmp matching call) (sym c.self.view_is)
    ∙ sym (one-more cmp matching (map kept_call c.self.inside.calls.items) call c.self.inside.earlier)
    ∙ ap (λ (cs : List (PlainCall g.row.K.Denot)). rows_after_calls cmp matching cs c.self.inside.earlier) (sym c.in-Ok.ensures.ok)

pub invariant_of-self-in-Ok-2 : goal.invariant_of-self-in-Ok-2
invariant_of-self-in-Ok-2 g c =
    let cmp = g.K.Ord.cmp in
    let matching = g.K.Key.matching in
    let call = plain_call c.args.call.now in
    c.requires
    ∙ ap (rows_after_call cmp matching call) (sym c.self.view_is)
    ∙ sym (one-more cmp matching (map kept_call c.self.inside.calls.items) call c.self.inside.earlier)
    ∙ ap (λ (cs : List (PlainCall g.row.K.Denot)). rows_after_calls cmp matching cs c.self.inside.earlier) (sym c.in-Ok.ensures.ok)

pub returns-in-Ok : goal.returns-in-Ok
returns-in-Ok g c =
    let cmp = g.K.Ord.cmp in
    let matching = g.K.Key.matching in
    let call = plain_call c.args.call.now in
    let left =
    c.requires
    ∙ ap (rows_after_call cmp matching call) (sym c.self.view_is)
    ∙ sym (one-more cmp matching (map kept_call c.self.inside.calls.items) call c.self.inside.earlier)
    ∙ ap (λ (cs : List (PlainCall g.row.K.Denot)). rows_after_calls cmp matching cs c.self.inside.earlier) (sym c.in-Ok.ensures.ok) in
    elim c.match-self.branch [ in-Some-1 w ↦ w.self-is ∙ sym left | in-None-1 w ↦ w.self-is ∙ sym left ]
