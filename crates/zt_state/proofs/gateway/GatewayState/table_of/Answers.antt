use Rattle.zt_state.proofs.Tabled.{table-none, table-some}
use Rattle.zt_state.proofs.gateway.GatewayState.table_of.Goals as goal

pub returns-clause-some : goal.returns-clause-some
returns-clause-some g c = rw (← c.self.view_is) (table-some (λ t. t.now) _ c.args.region c.get.result c.get.ensures.value)

pub returns-clause-none : goal.returns-clause-none
returns-clause-none g c = rw (← c.self.view_is) (table-none (λ t. t.now) _ c.args.region c.get.result c.get.ensures.value)
