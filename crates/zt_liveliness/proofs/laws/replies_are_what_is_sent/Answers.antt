use Rattle.zt_liveliness.proofs.Given.{replies_at_the_end, replies_so_far}
use Rattle.zt_liveliness.proofs.laws.replies_are_what_is_sent.Goals as goal

pub returns-clause-so_far : goal.returns-clause-so_far
returns-clause-so_far g c = replies_so_far g.K.Ord.cmp g.K.Key.matching

pub returns-clause-at_the_end : goal.returns-clause-at_the_end
returns-clause-at_the_end g c = replies_at_the_end g.K.Ord.cmp g.K.Key.matching
