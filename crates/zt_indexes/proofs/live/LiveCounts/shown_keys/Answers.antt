use Rattle.zt_indexes.proofs.Ordered.{ordered-sorted}
use Rattle.zt_indexes.proofs.live.LiveCounts.shown_keys.Goals as goal

pub returns-clause-in_order : goal.returns-clause-in_order
returns-clause-in_order g c = rw (← c.self.view_is) (ordered-sorted g.K.Ord.cmp g.met.K.Ord.total c.self.inside.keys.entries)
