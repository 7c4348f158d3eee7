use Rattle.std.proofs.Common.{map, sym, ◌∙◌}
use Rattle.zt_rollback.specs.Kept.{kept_call}
use Rattle.zt_rollback.proofs.Calls.{joins, no-calls}
use Rattle.zt_rollback.proofs.restorable.RestorableState.settle.Goals as goal
use Rattle.zt_rollback.proofs.restorable.RestorableState.settle.Goals.{in-Some-1, in-None-1}

pub invariant_of-self : goal.invariant_of-self
invariant_of-self g c =
    let cmp = g.K.Ord.cmp in
    let matching = g.K.Key.matching in
    let own = c.self.inside in
    let former = c.former.inside in
    c.exchange.ensures.boxed
    ∙ sym (no-calls cmp matching own.calls.items own.earlier own.calls.len (sym c.is_empty.ensures ∙ c.if-not-is_empty.false) own.calls.ok.0)
    ∙ c.self.view_is
    ∙ joins cmp matching (map kept_call former.calls.items) (map kept_call c.push_kept.new.calls.items) (kept_call former.call) former.earlier c.exchange.new.state c.args.self.now c.args.former
    c.requires c.former.view_is c.in-Ok.ensures.ok c.exchange.ensures.state

pub invariant_of-self-in-Ok-2 : goal.invariant_of-self-in-Ok-2
invariant_of-self-in-Ok-2 g c =
    let cmp = g.K.Ord.cmp in
    let matching = g.K.Key.matching in
    let own = c.self.inside in
    let former = c.former.inside in
    c.exchange.ensures.boxed
    ∙ sym (no-calls cmp matching own.calls.items own.earlier own.calls.len (sym c.is_empty.ensures ∙ c.if-not-is_empty.false) own.calls.ok.0)
    ∙ c.self.view_is
    ∙ joins cmp matching (map kept_call former.calls.items) (map kept_call c.push_kept.new.calls.items) (kept_call former.call) former.earlier c.exchange.new.state c.args.self.now c.args.former
    c.requires c.former.view_is c.in-Ok.ensures.ok c.exchange.ensures.state

pub returns-in-Ok : goal.returns-in-Ok
returns-in-Ok g c =
    let former = c.former.inside in
    let stays =
    joins g.K.Ord.cmp g.K.Key.matching (map kept_call former.calls.items) (map kept_call c.push_kept.new.calls.items) (kept_call former.call) former.earlier c.exchange.new.state c.args.self.now c.args.former
    c.requires c.former.view_is c.in-Ok.ensures.ok c.exchange.ensures.state in
    elim c.match-self.branch [ in-Some-1 w ↦ w.self-is ∙ sym stays | in-None-1 w ↦ w.self-is ∙ sym stays ]
