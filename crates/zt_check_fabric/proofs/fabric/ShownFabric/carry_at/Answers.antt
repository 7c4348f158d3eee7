use Rattle.std.proofs.Common.{sym, ◌∙◌}
use Rattle.std.proofs.lemmas.Result.{on_ok_weaker}
use Rattle.zt_protocol.specs.Plain.{plain_call}
use Rattle.zt_check_fabric.proofs.Carried.{carried, not_carried}
use Rattle.zt_check_fabric.proofs.fabric.ShownFabric.carry_at.Goals as goal

pub returns-in_default : goal.returns-in_default
returns-in_default g c =
    not_carried g.K.Ord.cmp g.K.Key.matching c.args.self.now c.args.sents.now c.args.gateway (plain_call c.args.call.now) (sym (rw c.in_default.is at c.node.ensures))

pub returns : goal.returns
returns g c =
    let x = c.args in
    on_ok_weaker c.apply.result
    (λ done.
    carried g.K.Ord.cmp g.K.Key.matching x.self.now x.sents.now x.gateway (plain_call x.call.now) c.in-Some.node.now c.as_slice.result.now c.apply.new.self (sym (rw c.in-Some.is at c.node.ensures))
    (c.as_slice.ensures.value ∙ rw c.rows.ensures at c.in_ok-pendings.ensures) done)
    c.apply.ensures
