use Rattle.zt_link_state.proofs.Looked.{none_found}
use Rattle.zt_link_state.proofs.kept.KeptTable.empty.Goals as goal

pub invariant_of-result : goal.invariant_of-result
invariant_of-result c =
    rw (c.new.ensures.items, c.new-2.ensures.items, c.new-3.ensures.items, c.new-4.ensures.items, c.new-5.ensures.empty, c.new-6.ensures.empty, c.new-7.ensures.items) none_found
