use Rattle.std.proofs.Common.{[], ◌∷◌, sym, ◌∙◌}
use Rattle.zt_check_fabric.proofs.Gathered.{append_none, pending_other, pending_own}
use Rattle.zt_check_fabric.proofs.pending.add_pending.Goals as goal

pub returns-then-number-from : goal.returns-then-number-from
returns-then-number-from g c =
    pending_other c.args.face c.args.number c.args.sent.now c.args.pendings.now.items (λ e. c.if-number-from.true (e ∙ sym c.from.ensures))

pub returns-in_default : goal.returns-in_default
returns-in_default g c =
    sym (append_none c.args.pendings.now.items)
    ∙ pending_own c.args.face c.args.number c.args.sent.now c.args.pendings.now.items [] (c.if-number-from.false ∙ c.from.ensures) (rw c.in_default.is at c.current_id.ensures)

pub returns : goal.returns
returns g c =
    c.in_ok-push.ensures.items
    ∙ pending_own c.args.face c.args.number c.args.sent.now c.args.pendings.now.items (c.in-Some.id ∷ []) (c.if-number-from.false ∙ c.from.ensures) (rw c.in-Some.is at c.current_id.ensures)
