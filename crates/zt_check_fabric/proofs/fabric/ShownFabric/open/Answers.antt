use Rattle.std.proofs.Common.{sym, ◌∙◌}
use Rattle.std.proofs.lemmas.Result.{on_ok_weaker}
use Rattle.zt_protocol.specs.Plain.{plain_call}
use Rattle.zt_check_fabric.proofs.Carried.{opened_nowhere, opened_there}
use Rattle.zt_check_fabric.proofs.fabric.ShownFabric.open.Goals as goal

pub returns-then-has_node : goal.returns-then-has_node
returns-then-has_node g c =
    on_ok_weaker c.open_at.result
    (λ done. opened_there g.K.Ord.cmp g.K.Key.matching c.args.self.now c.args.gateway (plain_call c.args.call.now) c.open_at.new.self (sym c.has_node.ensures ∙ c.if-has_node.true) done)
    c.open_at.ensures

pub returns : goal.returns
returns g c =
    opened_nowhere g.K.Ord.cmp g.K.Key.matching c.args.self.now c.args.gateway (plain_call c.args.call.now) (sym c.has_node.ensures ∙ c.if-has_node.false)
