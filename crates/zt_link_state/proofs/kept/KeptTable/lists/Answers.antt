use Rattle.std.proofs.Common.{ap, is_some, ◌∙◌}
use Rattle.zt_model.specs.Trees.{counted_table}
use Rattle.zt_protocol.specs.Plain.{trees_of}
use Rattle.zt_link_state.proofs.Looked.{is_found}
use Rattle.zt_link_state.proofs.kept.KeptTable.lists.Goals as goal

pub returns : goal.returns
returns c =
    let counted = counted_table (trees_of c.self.inside.table) in
    rw (← c.self.view_is) (c.contains_key.ensures ∙ ap is_some (c.self.invariant.finds_nodes.at c.args.zid) ∙ is_found (λ r. r.0) _ counted.routers)
