use Rattle.std.proofs.Common.{[], ap, ◌∙◌}
use Rattle.zt_model.specs.Trees.{counted_beside, counted_table, is_same_link, is_same_router}
use Rattle.zt_check_tables.proofs.table.ShownTable.new.Goals as goal

pub invariant_of-result : goal.invariant_of-result
unfolding counted_table
invariant_of-result c = rw c.in_ok-copy.ensures (record {
  are_routers = c.in_ok-routers.ensures ∙ ap (counted_beside is_same_router []) c.deref.ensures.value;
  are_links = c.in_ok-links.ensures ∙ ap (counted_beside is_same_link []) c.deref-2.ensures.value;
})
