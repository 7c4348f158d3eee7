use Rattle.std.proofs.Common.{◌∙◌}
use Rattle.zt_link_state.proofs.kept.KeptTable.router_behind.Goals as goal

pub returns : goal.returns
returns c = rw (← c.self.view_is) (c.copied.ensures ∙ c.get.ensures.value ∙ c.self.invariant.finds_behind.at c.args.face c.args.node_id)
