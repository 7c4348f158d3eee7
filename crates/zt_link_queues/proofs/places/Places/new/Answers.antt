use Rattle.zt_link_queues.proofs.Numbers.{numbers_none}
use Rattle.zt_link_queues.proofs.places.Places.new.Goals as goal

pub invariant_of-result : goal.invariant_of-result
invariant_of-result c = rw (c.new-2.ensures.items, c.new.ensures.items) numbers_none
